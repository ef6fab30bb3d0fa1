use Rattle.std.proofs.Common.{◌≡◌, []}
use Rattle.q_fqcodel.specs.FqState.{packets_of}
use Rattle.q_fqcodel.specs.Take.{selected}
use Rattle.q_fqcodel.specs.Turns.{turns}
use Rattle.q_fqcodel.proofs.fq_codel.FqCodel.select.Given as goal

abbrev pub invariant-loop-self : goal.invariant-loop-self
invariant-loop-self l = record {
  same : selected l.self.state ≡ selected l.fn.self.state;
  packets : packets_of l.self.state.flows ≡ packets_of l.fn.self.state.flows;
  places : l.self.places ≡ l.fn.self.places;
}

abbrev pub decreases-loop-self : goal.decreases-loop-self
decreases-loop-self l = turns l.self.state

abbrev pub invariant-loop-self-2 : goal.invariant-loop-self-2
invariant-loop-self-2 l = record {
  same : selected l.self.state ≡ selected l.fn.self.state;
  no_new : l.self.state.new_flows ≡ [];
  packets : packets_of l.self.state.flows ≡ packets_of l.fn.self.state.flows;
  places : l.self.places ≡ l.fn.self.places;
}

abbrev pub decreases-loop-self-2 : goal.decreases-loop-self-2
decreases-loop-self-2 l = turns l.self.state
