-- What an fq_codel sends next, what CoDel drops before it, and the state after.
-- RFC 8290, section 4.2, with CoDel as RFC 8289, section 5, has it.
use Rattle.std.specs.Prelude.{ℕ, Bool, pos, ◌-ℤ◌, List, [], ◌∷◌, ◌++◌, take, Option, Some, None, option_map, option_and_then, slice_get, unwrap_or, IsSomeAnd, ◌≡◌, true}
use Rattle.q_packet.specs.Descriptor.{Descriptor}
use Rattle.q_packet.specs.declared.stamped.Stamped.{Stamped}
use Rattle.q_codel.specs.Codel.{drops, sent, taken, left, after, is_late}
use Rattle.q_codel.specs.declared.codel.Taken.{Taken}
use Rattle.q_fqcodel.specs.Cleared.{adjust, clear}
use Rattle.q_fqcodel.specs.Selection.{arranged}
use Rattle.q_fqcodel.specs.FqState.{Flow, FqState, is_idle, rested_flow}
use Rattle.q_fqcodel.specs.Entry.{Entry}

-- this packet, marked or not
abbrev pub taken_as : Descriptor → Bool → Option Taken
taken_as packet marked = Some (record { packet = packet; marked = marked })

-- the state once the flow that sends is in front, and before it sends
unfoldable pub selected : FqState → FqState
selected s =
    let lists = arranged s.settings.quantum (is_idle s.flows) s.new_flows s.old_flows in
    record s { flows = clear rested_flow lists.gone s.flows; new_flows = lists.new_flows; old_flows = lists.old_flows }

-- what CoDel makes of a flow that sends: the packet, those dropped before it, and the flow after
unfoldable pub packet_sent : ℕ → Flow → Option Taken
packet_sent now f = taken f.codel now f.queue

unfoldable pub packets_dropped : ℕ → Flow → List Stamped
packets_dropped now f = take (drops f.codel now f.queue) f.queue

unfoldable pub flow_after : ℕ → Flow → Flow
flow_after now f = record { queue = left f.codel now f.queue; codel = after f.codel now f.queue }

-- the entry in front: of the new list, or of the old one where the new one is empty
unfoldable pub front : FqState → Option Entry
front s = slice_get (s.new_flows ++ s.old_flows) 0

-- the flow of that entry
unfoldable pub sender : FqState → Option Flow
sender s = option_and_then (λ (e : Entry). slice_get s.flows e.flow) (front s)

-- CoDel finds the head of the flow in front late: it has to drop or mark
abbrev pub IsFrontLate : ℕ → FqState → Type 0
IsFrontLate now s = IsSomeAnd (sender s) (λ (f : Flow). is_late f.codel now f.queue ≡ true)

-- the packet that the flow in front sends, as it was queued
unfoldable pub head_sent : ℕ → FqState → Option Stamped
head_sent now s = option_and_then (λ (f : Flow). sent f.codel now f.queue) (sender s)

-- the packet that the flow in front sends, and those that CoDel drops before it
unfoldable pub sent_from : ℕ → FqState → Option Taken
sent_from now s = option_and_then (packet_sent now) (sender s)

unfoldable pub dropped_from : ℕ → FqState → List Stamped
dropped_from now s = unwrap_or (option_map (packets_dropped now) (sender s)) []

-- a flow that has sent pays the length of the packet
unfoldable pub paid : Option Taken → Entry → Entry
paid None e = e
paid (Some t) e = record e { credits = e.credits -ℤ pos t.packet.len }

-- the state where these are the lists, and the flow in front has sent and paid
unfoldable pub with_sent : ℕ → FqState → List Entry → List Entry → FqState
with_sent now s [] [] = record s { new_flows = []; old_flows = [] }
with_sent now s [] (e ∷ es) = record s { flows = adjust (flow_after now) e.flow s.flows; new_flows = []; old_flows = paid (sent_from now s) e ∷ es }
with_sent now s (e ∷ es) old_flows = record s { flows = adjust (flow_after now) e.flow s.flows; new_flows = paid (sent_from now s) e ∷ es; old_flows = old_flows }

unfoldable pub after_sending : ℕ → FqState → FqState
after_sending now s = with_sent now s s.new_flows s.old_flows
