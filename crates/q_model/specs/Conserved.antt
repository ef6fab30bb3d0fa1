-- Nothing is lost or made at a node: what arrived was sent, was lost, or waits.
-- Packets are compared without their ECN codepoint, since a mark changes it (RFC 3168, section 5).
use Rattle.std.specs.Prelude.{◌≡◌, ◌≤◌, ◌+◌, List, [], ◌∷◌, ◌++◌, map, Option, Some, None}
use Rattle.std.specs.List.{filter_map, flat_map}
use Rattle.std.specs.Option.{option_to_list}
use Rattle.std.specs.List.Sorted.{IsPermutation}
use Rattle.q_packet.specs.Descriptor.{Descriptor}
use Rattle.q_packet.specs.declared.ecn.Ecn.TheVariants.{NotEct}
use Rattle.q_model.specs.declared.row.Row.{Row}
use Rattle.q_model.specs.Tally.{Counts, Note, Arrived, Sent, Lost, Marked, Granted, Spent, FlowGranted, FlowGave}
use Rattle.q_model.specs.Node.{Own, Forest, none, more, Node, from_below}
use Rattle.q_model.specs.Beneath.{totals_in}

-- a node and all nodes below it, each before its children
abbrev pub nodes_of : {M : Type 0} → Forest M → List (Node M)
nodes_of none = []
nodes_of (more own m below others) = record { own = own; memory = m; below = below } ∷ nodes_of below ++ nodes_of others

abbrev pub every_node : {M : Type 0} → Node M → List (Node M)
every_node n = n ∷ nodes_of n.below

-- the packets among notes that arrived, that were sent, and that were lost
abbrev pub arrival_in : Note → Option Descriptor
arrival_in (Arrived p) = Some p
arrival_in (Sent p) = None
arrival_in (Lost p cause) = None
arrival_in (Marked p) = None
arrival_in (Granted class times) = None
arrival_in (Spent bytes) = None
arrival_in (FlowGranted flow times) = None
arrival_in (FlowGave flow bytes) = None

abbrev pub sent_in : Note → Option Descriptor
sent_in (Arrived p) = None
sent_in (Sent p) = Some p
sent_in (Lost p cause) = None
sent_in (Marked p) = None
sent_in (Granted class times) = None
sent_in (Spent bytes) = None
sent_in (FlowGranted flow times) = None
sent_in (FlowGave flow bytes) = None

abbrev pub lost_in : Note → Option Descriptor
lost_in (Arrived p) = None
lost_in (Sent p) = None
lost_in (Lost p cause) = Some p
lost_in (Marked p) = None
lost_in (Granted class times) = None
lost_in (Spent bytes) = None
lost_in (FlowGranted flow times) = None
lost_in (FlowGave flow bytes) = None

-- the packets as they are but for the codepoint
abbrev pub unmarked : List Descriptor → List Descriptor
unmarked packets = map (λ (p : Descriptor). record p { ecn = NotEct }) packets

-- a node that has noted this, and with this waiting
abbrev pub IsConserved : List Note → List Descriptor → Type 0
IsConserved notes waiting =
    IsPermutation (unmarked (filter_map arrival_in notes)) (unmarked (filter_map sent_in notes ++ filter_map lost_in notes ++ waiting))

-- the same in numbers
pub record IsBalanced (r : Row) : Type 0 where
  pub packets : r.arrived.packets ≡ r.sent.packets + r.refused.packets + r.dropped.packets + r.queued.packets
  pub bytes : r.arrived.bytes ≡ r.sent.bytes + r.refused.bytes + r.dropped.bytes + r.queued.bytes

-- the packets that are held at a node and below it
abbrev pub held_own : Own → List (List Descriptor) → List Descriptor
held_own own below = option_to_list own.held ++ flat_map (λ packets. packets) below

abbrev pub held_beneath : {M : Type 0} → Node M → List Descriptor
held_beneath n = from_below held_own n

-- a packet that was marked has been sent or dropped since, or is held
pub record AreMarksBounded (c : Counts) (held : List Descriptor) : Type 0 where
  pub packets : c.marked.packets ≤ c.sent.packets + c.dropped.packets + (totals_in held).packets
  pub bytes : c.marked.bytes ≤ c.sent.bytes + c.dropped.bytes + (totals_in held).bytes
