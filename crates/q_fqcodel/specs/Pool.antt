-- The packets of all flows in one slab of nodes, and the queue of each flow as a list that is linked through it.
-- This is how the crate keeps them; nothing public names it.
use Rattle.std.specs.Prelude.{◌≡◌, ℕ, ◌≤◌, ◌^◌, List, [], ◌∷◌, ◌++◌, length, map, set, drop, get_or, sum_by, Option}
use Rattle.q_packet.specs.Totals.{count, size}
use Rattle.q_packet.specs.Descriptor.{Descriptor}
use Rattle.q_packet.specs.declared.stamped.Stamped.{Stamped}
use Rattle.q_codel.specs.Codel.{CodelState, CodelParams, CodelVars, joined, at_first}
use Rattle.q_fqcodel.specs.Chain.{queue_in, IsList}
use Rattle.q_fqcodel.specs.FqState.{Flow}
use Rattle.q_fqcodel.specs.declared.node.Node.{Node}
use Rattle.q_fqcodel.specs.declared.flow_list.FlowList.{FlowList}

-- `places` is the number of packets that there is memory for
pub record PoolState : Type 0 where
  pub queues : List (List Stamped)
  pub places : ℕ

-- a packet that is queued at a time
abbrev pub stamp : Descriptor → ℕ → Stamped
stamp packet now = record { packet = packet; at = now }

-- the packets in all queues, and their bytes
unfoldable pub packets_in : List (List Stamped) → ℕ
packets_in queues = sum_by (λ (q : List Stamped). count q) queues

unfoldable pub bytes_in : List (List Stamped) → ℕ
bytes_in queues = sum_by (λ (q : List Stamped). size q) queues

-- the bytes of each queue
unfoldable pub sizes : List (List Stamped) → List ℕ
sizes queues = map (λ (q : List Stamped). size q) queues

-- the list of a flow without packets
abbrev pub no_list : FlowList
no_list = record { head = 0; tail = 0; count = 0; bytes = 0 }

-- the queues of flows with these lists
unfoldable pub queues_in : (ℕ → Option Node) → List FlowList → List (List Stamped)
queues_in at lists = map (queue_in at) lists

-- each flow has its list, every node is in one of them, and there are so many bytes
pub record IsPool (at : ℕ → Option Node) (nodes : ℕ) (lists : List FlowList) (bytes : ℕ) : Type 0 where
  pub each : (n : ℕ) → IsList at (length lists) n (get_or lists n no_list)
  pub counted : nodes ≡ sum_by (λ (l : FlowList). l.count) lists
  pub summed : bytes ≡ sum_by (λ (l : FlowList). l.bytes) lists
  pub few : nodes ≤ 2 ^ 32

-- the queues once the first packet of one has left, and another has come to a second, or to the same
abbrev pub moved : ℕ → ℕ → Stamped → List (List Stamped) → List (List Stamped)
moved from flow stamped qs =
    let rest = set qs from (drop 1 (get_or qs from [])) in
    set rest flow (get_or rest flow [] ++ stamped ∷ [])

-- the same queues of every flow but this one
abbrev pub SameBeside : ℕ → List (List Stamped) → List (List Stamped) → Type 0
SameBeside n old new = new ≡ set old n (get_or new n [])

-- the flows with these queues, given what CoDel knows of each
unfoldable pub flows_from : List (List Stamped) → List CodelState → List Flow
flows_from [] cs = []
flows_from (q ∷ qs) [] = []
flows_from (q ∷ qs) (c ∷ cs) = record { queue = q; codel = c } ∷ flows_from qs cs

-- what CoDel knows of each flow: the state of each, with the settings that all have
unfoldable pub codels_in : CodelParams → List CodelVars → List CodelState
codels_in p vs = map (joined p) vs

-- a flow without packets, with the state of CoDel at first
unfoldable pub cleared : Flow → Flow
cleared f = record { queue = []; codel = at_first f.codel.target f.codel.interval f.codel.mtu f.codel.ecn }
