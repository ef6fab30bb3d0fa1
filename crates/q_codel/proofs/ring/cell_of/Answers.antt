use Rattle.std.proofs.Common.{◌≡◌, ℕ, ◌-◌, ◌%◌, sym, subst, bit_and}
use Rattle.std.proofs.lemmas.Nat.{and_mask}
use Rattle.q_codel.proofs.ring.cell_of.Goals as goal

pub returns-clause-value : goal.returns-clause-value
returns-clause-value c = subst (λ (n : ℕ). bit_and c.args.number (n - 1) ≡ c.args.number % n) (sym c.requires.is) (and_mask c.args.number c.requires.exponent)
