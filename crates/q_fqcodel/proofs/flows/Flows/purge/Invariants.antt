use Rattle.std.proofs.Common.{◌≡◌, ◌++◌, map, take, drop}
use Rattle.q_packet.specs.declared.cause.Cause.TheVariants.{Purged}
use Rattle.q_codel.specs.Losses.{AreLost}
use Rattle.q_fqcodel.specs.FqState.{all_packets}
use Rattle.q_fqcodel.specs.Pool.{cleared}
use Rattle.q_fqcodel.proofs.flows.Flows.purge.Given as goal

abbrev pub invariant-loop-flow : goal.invariant-loop-flow
invariant-loop-flow g l = record {
  flows : l.self.flows ≡ map cleared (take l.flow l.fn.self.flows) ++ drop l.flow l.fn.self.flows;
  places : l.self.places ≡ l.fn.self.places;
  lost : AreLost Purged (all_packets (take l.flow l.fn.self.flows)) (g.S.Sink.state l.fn.sink) (g.S.Sink.state l.sink);
  kept : g.S.Sink.keeps l.fn.sink l.sink;
}
