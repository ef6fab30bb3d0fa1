use Rattle.std.proofs.Common.{◌≡◌, length}
use Rattle.q_drr.proofs.RoundLemmas.{rounds_part}
use Rattle.q_drr.proofs.active.Active.grant_rounds.Given as goal

abbrev pub invariant-loop-passed : goal.invariant-loop-passed
invariant-loop-passed l = record {
  part : l.self ≡ rounds_part l.rounds l._passed l.fn.self;
  end : l._passed-end ≡ length l.fn.self.active;
}
