-- What a class may lack is bounded, so that it fits into 64 bits.
use Rattle.std.proofs.Common.{ℕ, ◌+◌, ◌-◌, ◌*◌, ◌^◌, ◌<◌, ◌≤◌, ◌≡◌, inl, inr, arith}
use Rattle.std.proofs.Math.Nat.{add-mul, mul-le-mul, mul-le-mul_left, mul-le-mul_right}
use Rattle.std.proofs.lemmas.Bool.{cases_lt}

-- a factor on both sides
pub cancel-lt : (a b k : ℕ) → a * k < b * k → a < b
cancel-lt a b k h = elim (cases_lt a b) [
  | inl less ↦ less
  | inr more ↦ let turned : b * k ≤ a * k = mul-le-mul_right k more in absurd (omega (arith, h, turned))
]

-- What may lack grows by at most so much at a drr. y is the whole, q of Q the quantum, n the classes and m the mtu.
pub lack-bound : (x q Q m n y : ℕ) → q ≤ Q → q ≤ 2 ^ 32 → n ≤ 2 ^ 16 → m ≤ 2 ^ 16 → 1 ≤ Q → y * Q < x * q + (2 * (q * (Q - q)) + (m - 1) * ((n - 1) * q + (Q - q))) + Q → y ≤ x + 2 ^ 35
lack-bound x q Q m n y part small few short some most =
    let a : x * q ≤ x * Q = mul-le-mul_left x part in
    let b : q * (Q - q) ≤ 2 ^ 32 * Q = mul-le-mul small (omega arith) in
    let c : (n - 1) * q ≤ 2 ^ 16 * Q = mul-le-mul (omega (arith, few)) part in
    let inner : (n - 1) * q + (Q - q) ≤ 2 ^ 16 * Q + Q = omega (arith, c) in
    let d : (m - 1) * ((n - 1) * q + (Q - q)) ≤ 2 ^ 16 * (2 ^ 16 * Q + Q) = mul-le-mul (omega (arith, short)) inner in
    let split : (x + 2 ^ 35) * Q ≡ x * Q + 2 ^ 35 * Q = add-mul x (2 ^ 35) Q in
    let less : y * Q < (x + 2 ^ 35) * Q = omega (arith, most, a, b, d, split, some) in
    let under : y < x + 2 ^ 35 = cancel-lt y (x + 2 ^ 35) Q less in
    omega (arith, under)
