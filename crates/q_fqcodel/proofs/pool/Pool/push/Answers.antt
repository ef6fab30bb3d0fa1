use Rattle.std.proofs.Common.{◌≡◌, ℕ, ◌+◌, ◌%◌, get_or, refl, ◌<◌, List, [], ◌∷◌, ◌++◌, length, set, sym, ap, ap₂, ◌∙◌, arith, subst}
use Rattle.std.proofs.lemmas.List.{get_or-set_same}
use Rattle.q_fqcodel.specs.Nodes.{used}
use Rattle.q_packet.specs.Totals.{size}
use Rattle.q_packet.specs.Descriptor.{Descriptor}
use Rattle.q_packet.specs.declared.stamped.Stamped.{Stamped}
use Rattle.q_fqcodel.specs.Chain.{IsList, KeepsOthers}
use Rattle.q_fqcodel.specs.Pool.{PoolState, stamp, no_list, queues_in, IsPool}
use Rattle.q_fqcodel.specs.declared.flow_list.FlowList.{FlowList}
use Rattle.q_fqcodel.proofs.PoolLemmas.{length-queues_in, list_read, few_read, packets_read, within_read, queue_read, written, pool_after, all_bytes_few, bytes_read, bytes_below}
use Rattle.q_fqcodel.proofs.pool.Pool.push.Goals as goal
use Rattle.q_fqcodel.proofs.pool.Pool.push.Goals.{After-list_at-list, After-append-longer}

same : (c : After-list_at-list) → queues_in (used c.self.inside.nodes) c.self.inside.lists.items ≡ c.args.self.now.queues
same c = ap (λ (s : PoolState). s.queues) c.self.view_is

pub append-longer-requires-clause-room : goal.append-longer-requires-clause-room
append-longer-requires-clause-room c =
    let p = c.self.inside in
    let d = (goal.at.append-longer-requires-clause-room c).After-list_at-list in
    omega (
      arith,
      c.requires.place,
      ap (λ (s : PoolState). s.places) c.self.view_is,
      c.self.invariant.1,
      packets_read (used p.nodes) p.nodes.count
          p.lists.items p.bytes c.self.invariant.0 c.args.self.now.queues (same d) c.args.flow c.list_at-list.result c.list_at-list.ensures,
    )

-- the flow that the packet's hash tells, of as many as there are lists
flow_is : (c : After-list_at-list) → c.args.packet.now.hash % length c.self.inside.lists.items ≡ c.args.flow
flow_is c =
    let count : length c.self.inside.lists.items ≡ length c.args.self.now.queues = sym (length-queues_in (used c.self.inside.nodes) c.self.inside.lists.items) ∙ ap length (same c) in
    ap (λ (n : ℕ). c.args.packet.now.hash % n) count ∙ c.requires.own

list_there : (c : After-list_at-list) → IsList (used c.self.inside.nodes) (length c.self.inside.lists.items) (c.args.packet.now.hash % length c.self.inside.lists.items) c.list_at-list.result
list_there c =
    let p = c.self.inside in
    subst (λ (n : ℕ). IsList (used p.nodes) (length p.lists.items) n c.list_at-list.result) (sym (flow_is c))
    (list_read (used p.nodes) p.nodes.count p.lists.items p.bytes c.self.invariant.0 c.args.self.now.queues (same c) c.args.flow c.list_at-list.result c.list_at-list.ensures)

pub list_at-list-requires : goal.list_at-list-requires
list_at-list-requires c =
    omega (arith, c.requires.in_range, ap (λ (s : PoolState). length s.queues) c.self.view_is, length-queues_in (used c.self.inside.nodes) c.self.inside.lists.items)

pub append-longer-requires-clause-linked : goal.append-longer-requires-clause-linked
append-longer-requires-clause-linked c =
    let p = c.self.inside in
    let d = (goal.at.append-longer-requires-clause-linked c).After-list_at-list in
    (length p.lists.items, list_there d)

pub append-longer-requires-clause-few : goal.append-longer-requires-clause-few
append-longer-requires-clause-few c =
    let p = c.self.inside in
    let d = (goal.at.append-longer-requires-clause-few c).After-list_at-list in
    omega (
      arith,
      c.requires.few,
      packets_read (used p.nodes) p.nodes.count p.lists.items p.bytes c.self.invariant.0 c.args.self.now.queues (same d) c.args.flow c.list_at-list.result c.list_at-list.ensures,
      few_read (used p.nodes) p.nodes.count p.lists.items p.bytes c.self.invariant.0 c.args.self.now.queues (same d) c.args.flow c.list_at-list.result c.list_at-list.ensures,
    )

within : (c : After-list_at-list) → c.args.flow < length c.self.inside.lists.items
within c =
    let p = c.self.inside in
    within_read (used p.nodes) p.nodes.count p.lists.items p.bytes c.self.invariant.0 c.args.self.now.queues (same c) c.args.flow c.list_at-list.result c.list_at-list.ensures c.requires.in_range

pub write_longer-requires-clause-within : goal.write_longer-requires-clause-within
write_longer-requires-clause-within c = within (goal.at.write_longer-requires-clause-within c).After-list_at-list

pub write_longer-requires-clause-head : goal.write_longer-requires-clause-head
write_longer-requires-clause-head c more =
    c.append-longer.ensures.head (λ none. more (omega (arith, c.append-longer.ensures.count, none))) ∙ ap (λ (l : FlowList). l.head) c.list_at-list.ensures

pub overflow_add-self : goal.overflow_add-self
overflow_add-self c =
    let p = c.self.inside in
    omega (arith, all_bytes_few (used p.nodes) p.nodes.count p.lists.items p.bytes c.self.invariant.0, c.self.invariant.0.few)

same2 : (c : After-append-longer) → queues_in (used c.self.inside.nodes) c.self.inside.lists.items ≡ c.args.self.now.queues
same2 c = ap (λ (s : PoolState). s.queues) c.self.view_is

flow_is2 : (c : After-append-longer) → c.args.packet.now.hash % length c.self.inside.lists.items ≡ c.args.flow
flow_is2 c =
    let count : length c.self.inside.lists.items ≡ length c.args.self.now.queues = sym (length-queues_in (used c.self.inside.nodes) c.self.inside.lists.items) ∙ ap length (same2 c) in
    ap (λ (n : ℕ). c.args.packet.now.hash % n) count ∙ c.requires.own

there2 : (c : After-append-longer) → IsList (used c.self.inside.nodes) (length c.self.inside.lists.items) (c.args.packet.now.hash % length c.self.inside.lists.items) c.list_at-list.result
there2 c =
    let p = c.self.inside in
    subst (λ (n : ℕ). IsList (used p.nodes) (length p.lists.items) n c.list_at-list.result) (sym (flow_is2 c))
    (list_read (used p.nodes) p.nodes.count p.lists.items p.bytes c.self.invariant.0 c.args.self.now.queues (same2 c) c.args.flow c.list_at-list.result c.list_at-list.ensures)

linked : (c : After-append-longer) → IsList (used c.append-longer.new.nodes) (length c.self.inside.lists.items) c.args.flow c.append-longer.result
linked c = subst (λ (n : ℕ). IsList (used c.append-longer.new.nodes) (length c.self.inside.lists.items) n c.append-longer.result) (flow_is2 c) (c.append-longer.ensures.linked _ (there2 c))

others : (c : After-append-longer) → KeepsOthers (length c.self.inside.lists.items) c.args.flow (used c.self.inside.nodes) (used c.append-longer.new.nodes)
others c = subst (λ (n : ℕ). KeepsOthers (length c.self.inside.lists.items) n (used c.self.inside.nodes) (used c.append-longer.new.nodes)) (flow_is2 c) (c.append-longer.ensures.others _ (there2 c))

within2 : (c : After-append-longer) → c.args.flow < length c.self.inside.lists.items
within2 c =
    let p = c.self.inside in
    within_read (used p.nodes) p.nodes.count p.lists.items p.bytes c.self.invariant.0 c.args.self.now.queues (same2 c) c.args.flow c.list_at-list.result c.list_at-list.ensures c.requires.in_range

-- the pool with one packet more, of so many bytes
pool2 : (c : After-append-longer) (len : ℕ) → len ≡ c.args.packet.now.len
    → IsPool (used c.append-longer.new.nodes) c.append-longer.new.nodes.count (set c.self.inside.lists.items c.args.flow c.append-longer.result)
    (c.self.inside.bytes + len)
pool2 c len is =
    let p = c.self.inside in
    let count = ap (λ (l : FlowList). l.count) c.list_at-list.ensures in
    let bytes = ap (λ (l : FlowList). l.bytes) c.list_at-list.ensures in
    let packets = packets_read (used p.nodes) p.nodes.count p.lists.items p.bytes c.self.invariant.0 c.args.self.now.queues (same2 c) c.args.flow c.list_at-list.result c.list_at-list.ensures in
    pool_after (used p.nodes) (used c.append-longer.new.nodes) p.nodes.count p.lists.items p.bytes c.self.invariant.0 c.args.flow c.append-longer.result (within2 c) (others c) (linked c)
    _ _
    (omega (arith, count, c.append-longer.ensures.len, c.append-longer.ensures.count))
    (omega (arith, bytes, c.append-longer.ensures.bytes, is))
    (omega (arith, packets, c.append-longer.ensures.len, c.requires.few))

pub invariant_of-self : goal.invariant_of-self
invariant_of-self c = (
  rw c.write_longer.ensures (pool2 (goal.at.invariant_of-self c).After-append-longer _ (ap (λ (x : Descriptor). x.len) c.packet.view_is)),
  omega (arith, c.self.invariant.1, c.append-longer.ensures.capacity),
)

own_list : (c : After-append-longer) → c.append-longer.result ≡ get_or (set c.self.inside.lists.items c.args.flow c.append-longer.result) c.args.flow no_list
own_list c = sym (get_or-set_same c.self.inside.lists.items c.args.flow c.append-longer.result no_list (within2 c))

pub returns-clause-bytes : goal.returns-clause-bytes
returns-clause-bytes c =
    let d = (goal.at.returns-clause-bytes c).After-append-longer in
    bytes_read (used c.append-longer.new.nodes) c.append-longer.new.nodes.count _ _ (pool2 d c.args.packet.now.len refl) _ refl c.args.flow c.append-longer.result (own_list d)
    ∙ ap (λ (l : List FlowList). size (get_or (queues_in (used c.append-longer.new.nodes) l) c.args.flow [])) (sym c.write_longer.ensures)

pub returns-clause-bytes_few : goal.returns-clause-bytes_few
returns-clause-bytes_few c =
    let d = (goal.at.returns-clause-bytes_few c).After-append-longer in
    bytes_below (used c.append-longer.new.nodes) c.append-longer.new.nodes.count _ _ (pool2 d c.args.packet.now.len refl) _ refl c.args.flow c.append-longer.result (own_list d)

pub returns-clause-queues : goal.returns-clause-queues
returns-clause-queues c =
    let p = c.self.inside in
    let d = (goal.at.returns-clause-queues c).After-append-longer in
    let n = c.args.flow in
    let qs : List (List Stamped) = c.args.self.now.queues in
    let more : List Stamped = stamp c.args.packet.now c.args.now ∷ [] in
    ap (queues_in (used c.append-longer.new.nodes)) c.write_longer.ensures
    ∙ written (used p.nodes) (used c.append-longer.new.nodes) p.nodes.count p.lists.items p.bytes c.self.invariant.0 n c.append-longer.result (within2 d) (others d) (linked d)
    ∙ ap₂ (λ (l : List (List Stamped)) (q : List Stamped). set l n q) (same2 d)
    (c.append-longer.ensures.queue ∙ ap (λ (q : List Stamped). q ++ more)
    (queue_read (used p.nodes) p.nodes.count p.lists.items p.bytes c.self.invariant.0 qs (same2 d) n c.list_at-list.result
    c.list_at-list.ensures))
