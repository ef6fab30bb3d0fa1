-- The packets that wait at a node and below it, in the order in which they are lost where the node is removed.
-- What is queued is found so; it is stored nowhere (the backlog of `tc -s qdisc show`, tc(8)).
use Rattle.std.specs.Prelude.{Bool, ◌==◌, List, [], ◌++◌, length, map, sum_by}
use Rattle.std.specs.List.{flat_map}
use Rattle.std.specs.Option.{option_to_list}
use Rattle.q_packet.specs.Descriptor.{Descriptor}
use Rattle.q_packet.specs.declared.stamped.Stamped.{Stamped}
use Rattle.q_fqcodel.specs.FqState.{all_packets}
use Rattle.q_model.specs.declared.totals.Totals.{Totals}
use Rattle.q_model.specs.declared.row.Row.{Row}
use Rattle.q_model.specs.Tally.{Tally, Counts}
use Rattle.q_model.specs.Node.{Discipline, Fifo, Prio, Tbf, Drr, FqCodel, Own, Node, from_below}

abbrev pub packets_of : List Stamped → List Descriptor
packets_of queue = map (λ (s : Stamped). s.packet) queue

-- the packets in a discipline's own lists: a fifo's from its front, an fq_codel's by rising flow, each from its front
abbrev pub packets_in : Discipline → List Descriptor
packets_in (Fifo limit queue) = packets_of queue
packets_in (FqCodel s) = packets_of (all_packets s.flows)
packets_in (Prio priomap) = []
packets_in (Tbf bucket limit) = []
packets_in (Drr s) = []

-- the held packet, the own lists, and then what is below the children, in class order
abbrev pub beneath_own : Own → List (List Descriptor) → List Descriptor
beneath_own own below = option_to_list own.held ++ packets_in own.discipline ++ flat_map (λ packets. packets) below

abbrev pub beneath : {M : Type 0} → Node M → List Descriptor
beneath n = from_below beneath_own n

abbrev pub is_empty : {M : Type 0} → Node M → Bool
is_empty n = length (beneath n) == 0

abbrev pub totals_in : List Descriptor → Totals
totals_in packets = record { packets = length packets; bytes = sum_by (λ (p : Descriptor). p.len) packets }

-- what is counted, and what is queued
abbrev pub row_of : Counts → List Descriptor → Row
row_of c queued = record {
  arrived = c.arrived;
  sent = c.sent;
  refused = c.refused;
  dropped = c.dropped;
  queued = totals_in queued;
  marked = c.marked;
}

abbrev pub row : {M : Type 0} → Tally M → Node M → Row
row t n = row_of (t.counts_of n.memory) (beneath n)
