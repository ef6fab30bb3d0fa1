use Rattle.std.proofs.Common.{◌≡◌, ◌≤◌}
use Rattle.q_packet.specs.Totals.{count}
use Rattle.q_packet.specs.declared.cause.Cause.TheVariants.{Purged}
use Rattle.q_codel.specs.Losses.{AreLost, SinkState}
use Rattle.q_codel.proofs.fifo.Fifo.purge.Given as goal

abbrev pub invariant-loop-stamped : goal.invariant-loop-stamped
invariant-loop-stamped g l = record {
  same : l.self ≡ record l.initial.self { packets = l.self.packets };
  lost : (s : SinkState) → AreLost Purged l.self.packets (g.S.Sink.state l.sink) s → AreLost Purged l.initial.self.packets (g.S.Sink.state l.initial.sink) s;
  enough : count l.self.packets ≤ (g.S.Sink.state l.sink).room;
  kept : g.S.Sink.keeps l.initial.sink l.sink;
}

abbrev pub decreases-loop-stamped : goal.decreases-loop-stamped
decreases-loop-stamped g l = count l.self.packets
