use Rattle.std.proofs.Common.{rules, ◌≡◌, ◌+◌, ◌-◌, ◌*◌, ◌/◌, ◌%◌, ◌^◌, ◌<◌, ap, ap₂, arith, ℕ}
use Rattle.std.proofs.lemmas.Nat.{one_shl}
use Rattle.q_tree.proofs.filters.FieldValueLemmas.{last_fits, shifted_back}
use Rattle.q_tree.proofs.filters.field_values.of_prefix.Goals as goal

pub overflow_add-result : goal.overflow_add-result
overflow_add-result c =
    let a : ℕ = c.prefix.inside.address in
    let r : ℕ = c.bits_of.result - c.from.result in
    let small : a < 2 ^ 128 = search rules in
    let first : a / 2 ^ r * 2 ^ r % 2 ^ 128 ≡ a / 2 ^ r * 2 ^ r = shifted_back a r small in
    let size : 1 * 2 ^ r % 2 ^ 128 - 1 ≡ 2 ^ r - 1 = ap (λ n. n - 1) (one_shl r 128 c.if-rest-ge128.false) in
    let same : a / 2 ^ r * 2 ^ r % 2 ^ 128 + (1 * 2 ^ r % 2 ^ 128 - 1) ≡ a / 2 ^ r * 2 ^ r + (2 ^ r - 1) = ap₂ (λ m n. m + n) first size in
    omega (arith, same, last_fits a r small c.if-rest-ge128.false)
