-- A running number that stops growing at a greatest value.
use Rattle.std.proofs.Common.{◌≡◌, ℕ, ◌+◌, ◌*◌, ◌<◌, ◌≤◌, min, inl, inr, arith}
use Rattle.std.proofs.lemmas.Bool.{cases_lt}
use Rattle.std.proofs.Math.Nat.{mul-le-mul}

capped_add : (m x d : ℕ) → min (min x m + d) m ≡ min (x + d) m
capped_add m x d = omega arith

times_one_le : (m v base : ℕ) → m ≤ v → 1 ≤ base → m ≤ v * base
times_one_le m v base le one = let h : m * 1 ≤ v * base = mul-le-mul le one in omega arith

-- one digit more: the greatest value stays where it was passed
pub capped_step : (m v base d : ℕ) → 1 ≤ base → min (min (min v m * base) m + d) m ≡ min (v * base + d) m
capped_step m v base d one = elim (cases_lt m v) [ inl past ↦ passed past | inr within ↦ kept within ]
  where
    passed : m < v → min (min (min v m * base) m + d) m ≡ min (v * base + d) m
    passed past =
        let e : min v m ≡ m = omega arith in
        let a : m ≤ m * base = times_one_le m m base (omega arith) one in
        let b : m ≤ v * base = times_one_le m v base (omega arith) one in
        rw e (omega arith)

    kept : v ≤ m → min (min (min v m * base) m + d) m ≡ min (v * base + d) m
    kept within = let e : min v m ≡ v = omega arith in rw e (capped_add m (v * base) d)
