-- The least number below a bound at which a test holds, and the bound where it holds at none.
-- CoDel's drops, FQ-CoDel's quanta, drr's grants and the gap of the control law are all said by it.
use Rattle.std.specs.Prelude.{ℕ, Bool, zero, suc, if◌then◌else◌}

abbrev pub least : (ℕ → Bool) → ℕ → ℕ
least p zero = zero
least p (suc n) = if p zero then zero else suc (least (λ i. p (suc i)) n)
