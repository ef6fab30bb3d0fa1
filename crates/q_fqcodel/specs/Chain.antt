-- The packets of one flow as nodes that are linked by keys: `at` says what is at a key.
-- This is how the crate keeps them; nothing public names it.
use Rattle.std.specs.Prelude.{◌≡◌, ◌≢◌, ℕ, ◌<◌, ◌≤◌, ◌%◌, ◌^◌, List, Option}
use Rattle.q_packet.specs.Totals.{size}
use Rattle.q_packet.specs.declared.stamped.Stamped.{Stamped}
use Rattle.q_fqcodel.specs.Linked.{Form, chain, IsChain}
use Rattle.q_fqcodel.specs.declared.node.Node.{Node}
use Rattle.q_fqcodel.specs.declared.flow_list.FlowList.{FlowList}

-- the packet of a node, as it was queued
abbrev pub stamped_of : Node → Stamped
stamped_of x = record { packet = x.packet; at = x.at }

abbrev pub packets : Form Node Stamped
packets = record { next = λ x. x.next; item = λ _ x. stamped_of x }

-- the node with another one behind it
abbrev pub led_to : ℕ → Node → Node
led_to key x = record x { next = key }

-- the packets of a flow
abbrev pub queue_in : (ℕ → Option Node) → FlowList → List Stamped
queue_in at l = chain packets at l.count l.head

-- a node of this flow of so many, with a packet that has its length in range: its hash chooses the flow
pub record IsNode (flows flow : ℕ) (x : Node) : Type 0 where
  pub own : x.packet.hash % flows ≡ flow
  pub low : 1 ≤ x.packet.len
  pub high : x.packet.len < 2 ^ 16

-- the list of a flow of so many, with its bytes
pub record IsList (at : ℕ → Option Node) (flows flow : ℕ) (l : FlowList) : Type 0 where
  pub linked : IsChain packets (IsNode flows flow) at l.tail l.count l.head
  pub bytes : l.bytes ≡ size (queue_in at l)

-- every other flow keeps its packets, under their keys
pub record KeepsOthers (flows flow : ℕ) (at at2 : ℕ → Option Node) : Type 0 where
  pub linked : (other : ℕ) (l : FlowList) → other ≢ flow → IsList at flows other l → IsList at2 flows other l
  pub same : (other : ℕ) (l : FlowList) → other ≢ flow → IsList at flows other l → queue_in at2 l ≡ queue_in at l
