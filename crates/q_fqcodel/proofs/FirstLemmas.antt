-- The first packet of a flow is read, or leaves the pool: what the list of that flow tells, as it was read and as it is written.
use Rattle.std.proofs.Common.{◌≡◌, ℕ, ◌+◌, ◌-◌, ◌<◌, ◌≤◌, List, [], length, get_or, set, drop, Option, Some, IsSome, refl, sym, ap, ap₂, ◌∙◌, arith, subst}
use Rattle.std.specs.Prelude.{slice_get}
use Rattle.q_packet.specs.Totals.{count}
use Rattle.q_packet.specs.declared.stamped.Stamped.{Stamped}
use Rattle.q_fqcodel.specs.Chain.{stamped_of, queue_in, IsList, KeepsOthers}
use Rattle.q_fqcodel.specs.Pool.{no_list, queues_in, packets_in, IsPool}
use Rattle.q_fqcodel.specs.declared.node.Node.{Node}
use Rattle.q_fqcodel.specs.declared.flow_list.FlowList.{FlowList}
use Rattle.q_fqcodel.proofs.ChainLemmas.{head_there, first_packet}
use Rattle.q_fqcodel.proofs.PoolLemmas.{length-queues_in, list_read, queue_read, written, pool_after, bytes_le, packets_pooled}
use Rattle.q_fqcodel.proofs.PooledLemmas.{flow_with}

module _ (at : ℕ → Option Node) (nodes : ℕ) (lists : List FlowList) (bytes : ℕ) (pool : IsPool at nodes lists bytes) (qs : List (List Stamped)) (same : queues_in at lists ≡ qs) (n : ℕ) where
  -- a flow with a packet has a list
  pub list_within : 0 < count (get_or qs n []) → n < length lists
  list_within some = omega (arith, flow_with qs n some, ap length same, length-queues_in at lists)

  module _ (l : FlowList) (read : l ≡ get_or lists n no_list) where
    -- a node is in front of a list that is not empty
    pub node_there : 0 < l.count → IsSome (at l.head)
    node_there some =
        let x = head_there at (length lists) n l (list_read at nodes lists bytes pool qs same n l read) some in
        subst (λ (o : Option Node). IsSome o) (sym x.1) refl

    -- and has the first packet
    pub front_there : (x : Node) → 0 < l.count → at l.head ≡ Some x → Some (stamped_of x) ≡ slice_get (get_or qs n []) 0
    front_there x some there =
        ap (λ (q : List Stamped). slice_get q 0) (sym (first_packet at l x some there) ∙ queue_read at nodes lists bytes pool qs same n l read)

    -- a list with one packet fewer is written in place of that one
    module _ (at2 : ℕ → Option Node) (nodes2 : ℕ) (l2 : FlowList) (lists2 : List FlowList) (is : lists2 ≡ set lists n l2) (some : 0 < count (get_or qs n []))
        (linked : (flows flow : ℕ) → IsList at flows flow l → IsList at2 flows flow l2) (others : (flows flow : ℕ) → IsList at flows flow l → KeepsOthers flows flow at at2)
        (queue : queue_in at2 l2 ≡ drop 1 (queue_in at l)) (fewer : l2.count + 1 ≡ l.count) (lighter : l2.bytes ≤ l.bytes) (gone : nodes2 + 1 ≡ nodes) where
      there : IsList at (length lists) n l
      there = list_read at nodes lists bytes pool qs same n l read

      pub pool_gone : IsPool at2 nodes2 lists2 (bytes - (l.bytes - l2.bytes))
      pool_gone =
          rw is (pool_after at at2 nodes lists bytes pool n l2 (list_within some) (others (length lists) n there) (linked (length lists) n there)
          _ _
          (omega (arith, ap (λ (k : FlowList). k.count) read, gone, fewer))
          (omega (arith, ap (λ (k : FlowList). k.bytes) read, lighter, bytes_le at nodes lists bytes pool n))
          (omega (arith, gone, pool.few)))

      pub queues_gone : queues_in at2 lists2 ≡ set qs n (drop 1 (get_or qs n []))
      queues_gone =
          ap (queues_in at2) is
          ∙ written at at2 nodes lists bytes pool n l2 (list_within some) (others (length lists) n there) (linked (length lists) n there)
          ∙ ap₂ (λ (k : List (List Stamped)) (q : List Stamped). set k n q) same (queue ∙ ap (drop 1) (queue_read at nodes lists bytes pool qs same n l read))

      pub packets_gone : packets_in (queues_in at2 lists2) + 1 ≡ packets_in qs
      packets_gone =
          omega (arith, packets_pooled at2 nodes2 lists2 _ pool_gone, ap packets_in same, packets_pooled at nodes lists bytes pool, gone)
