use Rattle.std.proofs.Common.{◌≡◌, ℕ, ◌<◌, All, length, sum_by}
use Rattle.q_drr.specs.Schedule.{quantum_of}
use Rattle.q_drr.specs.Rounds.{IsRound}
use Rattle.q_drr.specs.Take.{need, prepared, head_at}
use Rattle.q_drr.proofs.take.take_by_turns.Given as goal

abbrev pub invariant-loop-class : goal.invariant-loop-class
invariant-loop-class l = record {
  same : prepared (head_at l.heads) l.active ≡ prepared (head_at l.heads) l.initial.active;
  named : All (λ e. e.class < length l.heads) l.active.active;
  max_len : l.active.max_len ≡ l.initial.active.max_len;
  round : IsRound (head_at l.heads) l.round l.active;
}

abbrev pub decreases-loop-class : goal.decreases-loop-class
decreases-loop-class l = sum_by (need (λ (n : ℕ). quantum_of n l.active.classes) (head_at l.heads)) l.active.active
