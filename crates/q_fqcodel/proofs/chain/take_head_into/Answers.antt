use Rattle.std.proofs.Common.{◌≡◌, ℕ, Some, ◌∙◌, ◌-◌, List, Option, IsSome, drop, refl, sym, ap, arith, subst}
use Rattle.std.specs.Prelude.{option_map, slice_get}
use Rattle.q_packet.specs.Descriptor.{Descriptor}
use Rattle.q_packet.specs.declared.stamped.Stamped.{Stamped}
use Rattle.q_fqcodel.specs.Chain.{queue_in, IsList}
use Rattle.q_fqcodel.specs.Nodes.{used}
use Rattle.q_fqcodel.specs.declared.node.Node.{Node}
use Rattle.q_fqcodel.proofs.ChainLemmas.{head_there, rest_queue, rest_bytes, rest_list, rest_keeps}
use Rattle.q_fqcodel.proofs.chain.take_head_into.Goals as goal
use Rattle.q_fqcodel.proofs.chain.take_head_into.Goals.{After-release_into-next}

pub release_into-next-requires-clause-there : goal.release_into-next-requires-clause-there
release_into-next-requires-clause-there c =
    let x = head_there (used c.args.nodes.now) c.requires.linked.0 c.requires.linked.1 c.args.list c.requires.linked.2 c.requires.some in
    subst (λ (o : Option Node). IsSome o) (sym x.1) refl

-- the node at the head
abbrev head : After-release_into-next → Node
head c = (head_there (used c.args.nodes.now) c.requires.linked.0 c.requires.linked.1 c.args.list c.requires.linked.2 c.requires.some).0

read : (c : After-release_into-next) → used c.args.nodes.now c.args.list.head ≡ Some (head c)
read c = (head_there (used c.args.nodes.now) c.requires.linked.0 c.requires.linked.1 c.args.list c.requires.linked.2 c.requires.some).1

next : (c : After-release_into-next) → c.release_into-next.result.0 ≡ (head c).next
next c = c.release_into-next.ensures.next (head c) (read c)

given : (c : After-release_into-next) → c.release_into-next.new.out ≡ (head c).packet
given c = c.release_into-next.ensures.given (head c) (read c)

len : (c : After-release_into-next) → c.release_into-next.result.1 ≡ (head c).packet.len
len c = c.release_into-next.ensures.len ∙ ap (λ (p : Descriptor). p.len) (given c)

pub overflow_sub-result-2 : goal.overflow_sub-result-2
overflow_sub-result-2 c =
    let d = (goal.at.overflow_sub-result-2 c).After-release_into-next in
    omega (
      arith,
      len d,
      rest_bytes (used c.args.nodes.now) (used c.release_into-next.new.self) c.requires.linked.0 c.requires.linked.1 c.args.list (head d)
          c.requires.linked.2 c.requires.some (read d) c.release_into-next.ensures.same,
    )

pub returns-clause-given : goal.returns-clause-given
returns-clause-given c =
    let d = (goal.at.returns-clause-given c).After-release_into-next in
    ap (λ (p : Descriptor). Some p) (given d)
    ∙ ap (λ (q : List Stamped). option_map (λ s. s.packet) (slice_get q 0))
    (sym (rest_queue (used c.args.nodes.now) (used c.release_into-next.new.self) c.requires.linked.0 c.requires.linked.1 c.args.list (head d)
    c.requires.linked.2 c.requires.some (read d) c.release_into-next.ensures.same))

pub returns-clause-bytes : goal.returns-clause-bytes
returns-clause-bytes c =
    let d = (goal.at.returns-clause-bytes c).After-release_into-next in
    omega (
      arith,
      c.release_into-next.ensures.len,
      len d,
      rest_bytes (used c.args.nodes.now) (used c.release_into-next.new.self) c.requires.linked.0 c.requires.linked.1 c.args.list (head d)
          c.requires.linked.2 c.requires.some (read d) c.release_into-next.ensures.same,
    )

pub returns-clause-queue : goal.returns-clause-queue
returns-clause-queue c =
    let d = (goal.at.returns-clause-queue c).After-release_into-next in
    ap (λ (n : ℕ). queue_in (used c.release_into-next.new.self)
    (record { head = n; tail = c.args.list.tail; count = c.args.list.count - 1; bytes = c.args.list.bytes - c.release_into-next.result.1 }))
    (next d)
    ∙ ap (drop 1)
    (sym (rest_queue (used c.args.nodes.now) (used c.release_into-next.new.self) c.requires.linked.0 c.requires.linked.1 c.args.list (head d)
    c.requires.linked.2 c.requires.some (read d) c.release_into-next.ensures.same))

pub returns-clause-linked : goal.returns-clause-linked
returns-clause-linked c w f linked =
    let d = (goal.at.returns-clause-linked c).After-release_into-next in
    subst (λ (n : ℕ). IsList (used c.release_into-next.new.self) w f
    (record { head = n; tail = c.args.list.tail; count = c.args.list.count - 1; bytes = c.args.list.bytes - c.release_into-next.result.1 }))
    (sym (next d))
    (rest_list (used c.args.nodes.now) (used c.release_into-next.new.self) w f c.args.list (head d) linked c.requires.some (read d) c.release_into-next.ensures.same _
    (ap (λ (n : ℕ). c.args.list.bytes - n) (len d)))

pub returns-clause-others : goal.returns-clause-others
returns-clause-others c w f linked =
    let d = (goal.at.returns-clause-others c).After-release_into-next in
    rest_keeps (used c.args.nodes.now) (used c.release_into-next.new.self) w f c.args.list (head d) linked c.requires.some (read d) c.release_into-next.ensures.same
