use Rattle.std.proofs.Common.{ℕ, zero, suc, ◌≡◌, ◌≢◌, ◌-◌, ◌/◌, ◌^◌, ◌%◌, ◌≤◌, ◌∙◌, ap, sym, bit_and, arith, ⊎_elim}
use Rattle.std.proofs.lemmas.Bool.{cases_eq}
use Rattle.std.proofs.lemmas.Nat.{and_mask}
use lib.Bits.{and_step, and_self}
use Rattle.q_fqcodel.proofs.fq_codel.flow_by_hash.Goals as goal

-- a number that has no bit in common with the one before it is a power of two
power : (d n : ℕ) → n ≤ d → 1 ≤ n → bit_and n (n - 1) ≡ 0 → (k : ℕ) × (n ≡ 2 ^ k)
power zero n h some e = absurd (omega (arith, h, some))
power (suc d) n h some e =
    let rest : bit_and (n / 2) ((n - 1) / 2) ≡ 0 = omega (arith, and_step n (n - 1), e) in
    ⊎_elim
    (λ (odd : n % 2 ≡ 1).
    let same : n / 2 ≡ (n - 1) / 2 = omega (arith, odd) in
    let half : n / 2 ≡ 0 = sym (and_self (n / 2)) ∙ ap (bit_and (n / 2)) same ∙ rest in
    (0, omega (arith, odd, half)))
    (λ (even : n % 2 ≢ 1).
    let before : n / 2 - 1 ≡ (n - 1) / 2 = omega (arith, even, some) in
    let p = power d (n / 2) (omega (arith, h)) (omega (arith, even, some)) (ap (bit_and (n / 2)) before ∙ rest) in
    (suc p.0, omega (arith, even, p.1)))
    (cases_eq (n % 2) 1)

pub returns-then-is_power : goal.returns-then-is_power
returns-then-is_power c =
    let p = power c.args.flows c.args.flows (omega arith) c.requires c.if-is_power.true in
    ap (λ (n : ℕ). bit_and c.args.hash (n - 1)) p.1 ∙ and_mask c.args.hash p.0 ∙ ap (λ (n : ℕ). c.args.hash % n) (sym p.1)
