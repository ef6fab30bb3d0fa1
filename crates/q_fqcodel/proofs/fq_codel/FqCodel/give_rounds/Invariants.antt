use Rattle.std.proofs.Common.{◌≡◌, length}
use Rattle.q_fqcodel.specs.Rounds.{visited}
use Rattle.q_fqcodel.proofs.fq_codel.FqCodel.give_rounds.Given as goal

abbrev pub invariant-loop-given : goal.invariant-loop-given
invariant-loop-given l = record {
  part : l.self.state ≡ visited l.rounds l._given l.fn.self.state;
  end : l._given-end ≡ length l.fn.self.state.old_flows;
  places : l.self.places ≡ l.fn.self.places;
}
