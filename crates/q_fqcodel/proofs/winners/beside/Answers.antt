use Rattle.std.proofs.Common.{◌≡◌, ◌≢◌, ℕ, ◌+◌, ◌*◌, ◌/◌, ap, arith, ⊎_elim}
use Rattle.std.proofs.lemmas.Bool.{cases_eq}
use Rattle.std.proofs.lemmas.Nat.{xor_block}
use Rattle.std.specs.Int.Bits.{bit_xor, xor_zero_r}
use Rattle.q_fqcodel.proofs.winners.beside.Goals as goal

pub returns : goal.returns
returns c =
    let n : ℕ = c.args.node in
    let high : bit_xor (n / 2) 0 ≡ n / 2 = xor_zero_r (n / 2) in
    ⊎_elim
    (λ (even : n ≡ n / 2 * 2 + 0).
    omega (arith, ap (λ (m : ℕ). bit_xor m 1) even, xor_block 1 (n / 2) 0 0 1 (omega arith) (omega arith), high, even))
    (λ (odd : n ≢ n / 2 * 2 + 0).
    let is : n ≡ n / 2 * 2 + 1 = omega (arith, odd) in
    omega (arith, ap (λ (m : ℕ). bit_xor m 1) is, xor_block 1 (n / 2) 0 1 1 (omega arith) (omega arith), high, is))
    (cases_eq n (n / 2 * 2 + 0))
