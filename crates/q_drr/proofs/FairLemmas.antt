-- The bytes of two classes over any list of turns, by their grants and the bounds on their deficits.
use Rattle.std.proofs.Common.{◌≡◌, ℕ, ◌+◌, ◌*◌, ◌<◌, ◌≤◌, true, eqb, ◌||◌, List, [], ◌∷◌, refl, sym, ap, ◌∙◌, subst, inl, inr, arith}
use Rattle.std.specs.List.{All}
use Rattle.std.proofs.Math.Nat.{add-mul, mul-add, mul_comm, mul_assoc, mul-le-mul_left, mul-lt-mul_of_pos_left}
use Rattle.std.proofs.lemmas.Bool.{cases_Bool, eqb-true, false≢true}
use Rattle.std.proofs.lemmas.List.Elements.{All-head, All-tail}
use Rattle.q_drr.specs.Schedule.{Class, Entry, Schedule, has_class, quantum_of, deficit_of, is_active, turned, IsEntry, IsLawful}
use Rattle.q_drr.specs.Stretch.{after_turns, grants, sent, SharesAreFair}
use Rattle.q_drr.proofs.ChangeLemmas.{turned_lawful}
use Rattle.q_drr.proofs.LookupLemmas.{deficit_here, deficit_behind}
use Rattle.q_drr.proofs.StretchLemmas.{each_sends_its_share, grants_are_even, list_active}
use Rattle.q_drr.proofs.TakeLemmas.{has_quantum}

-- si and sj are sent for gi and gj grants of a and b, from deficits di and dj to ei and ej
pub fair_numbers : (si sj gi gj a b di dj ei ej m : ℕ) → si + ei ≡ gi * a + di → sj + ej ≡ gj * b + dj → gi ≤ gj + 1 → di < a + m → ej < b + m → 1 ≤ b
    → si * b < sj * a + 3 * (a * b) + m * (a + b)
fair_numbers si sj gi gj a b di dj ei ej m share_i share_j even first last positive =
    let i : si * b + ei * b ≡ gi * a * b + di * b = sym (add-mul si ei b) ∙ ap (λ x. x * b) share_i ∙ add-mul (gi * a) di b in
    let j : sj * a + ej * a ≡ gj * b * a + dj * a = sym (add-mul sj ej a) ∙ ap (λ x. x * a) share_j ∙ add-mul (gj * b) dj a in
    let gi_is : gi * a * b ≡ (a * b) * gi = mul_assoc gi a b ∙ mul_comm gi (a * b) in
    let gj_is : gj * b * a ≡ (a * b) * gj = mul_assoc gj b a ∙ ap (λ x. gj * x) (mul_comm b a) ∙ mul_comm gj (a * b) in
    let once_more : (a * b) * gi ≤ (a * b) * (gj + 1) = mul-le-mul_left (a * b) even in
    let spread : (a * b) * (gj + 1) ≡ (a * b) * gj + (a * b) * 1 = mul-add (a * b) gj 1 in
    let low : b * di < b * (a + m) = mul-lt-mul_of_pos_left first positive in
    let low_is : b * (a + m) ≡ b * a + b * m = mul-add b a m in
    let high : a * ej ≤ a * (b + m) = mul-le-mul_left a (omega arith) in
    let high_is : a * (b + m) ≡ a * b + a * m = mul-add a b m in
    let longest : m * (a + b) ≡ m * a + m * b = mul-add m a b in
    omega (arith, mul_comm b di, mul_comm b a, mul_comm b m, mul_comm a m, mul_comm a ej)

-- a class that is active has a deficit below the bound
deficit_bounded : (max_len : ℕ) (classes : List Class) (n : ℕ) (es : List Entry) → All (IsEntry max_len classes) es → is_active n es ≡ true → deficit_of n es < quantum_of n classes + max_len
deficit_bounded max_len classes n [] h there = absurd (false≢true there)
deficit_bounded max_len classes n (e ∷ es) h there = elim (cases_Bool (eqb n e.class)) [
  | inl same ↦
      let i : IsEntry max_len classes e = All-head (IsEntry max_len classes) e es h in
      omega (arith, i.bounded, deficit_here n e es same, ap (λ m. quantum_of m classes) (eqb-true n e.class same))
  | inr other ↦ subst (λ d. d < quantum_of n classes + max_len) (sym (deficit_behind n e es other))
      (deficit_bounded max_len classes n es (All-tail (IsEntry max_len classes) e es h) (sym (ap (λ t. t || is_active n es) other) ∙ there))
]

active_quantum : (max_len : ℕ) (classes : List Class) (n : ℕ) (es : List Entry) → All (λ (c : Class). 1 ≤ c.quantum) classes
    → All (IsEntry max_len classes) es → is_active n es ≡ true → 1 ≤ quantum_of n classes
active_quantum max_len classes n [] quanta h there = absurd (false≢true there)
active_quantum max_len classes n (e ∷ es) quanta h there = elim (cases_Bool (eqb n e.class)) [
  | inl same ↦
      let i : IsEntry max_len classes e = All-head (IsEntry max_len classes) e es h in
      has_quantum n classes quanta (ap (λ m. has_class m classes) (eqb-true n e.class same) ∙ i.there)
  | inr other ↦ active_quantum max_len classes n es quanta (All-tail (IsEntry max_len classes) e es h) (sym (ap (λ t. t || is_active n es) other) ∙ there)
]

-- what stays over a stretch
record IsKeptOver (n : ℕ) (lens : List ℕ) (s : Schedule) : Type 0 where
  lawful : IsLawful (after_turns lens s)
  active : is_active n (after_turns lens s).active ≡ is_active n s.active
  classes : (after_turns lens s).classes ≡ s.classes
  max_len : (after_turns lens s).max_len ≡ s.max_len

kept_over : (n : ℕ) (lens : List ℕ) (s : Schedule) → IsLawful s → All (λ len. len ≤ s.max_len) lens → IsKeptOver n lens s
kept_over n [] s law fit = record { lawful = law; active = refl; classes = refl; max_len = refl }
kept_over n (len ∷ lens) s law fit =
    let rest = kept_over n lens (turned len s) (turned_lawful s len law (All-head (λ len. len ≤ s.max_len) len lens fit)) (All-tail (λ len. len ≤ s.max_len) len lens fit) in
    record { lawful = rest.lawful; active = rest.active ∙ list_active len s.classes s.active n; classes = rest.classes; max_len = rest.max_len }

pub shares_are_fair : SharesAreFair
shares_are_fair s lens i j law fit there_i there_j apart =
    let later = kept_over j lens s law fit in
    let last : deficit_of j (after_turns lens s).active < quantum_of j (after_turns lens s).classes + (after_turns lens s).max_len =
    deficit_bounded (after_turns lens s).max_len (after_turns lens s).classes j (after_turns lens s).active later.lawful.entries (later.active ∙ there_j) in
    fair_numbers (sent i lens s) (sent j lens s) (grants i lens s) (grants j lens s) (quantum_of i s.classes) (quantum_of j s.classes)
    (deficit_of i s.active) (deficit_of j s.active) (deficit_of i (after_turns lens s).active) (deficit_of j (after_turns lens s).active) s.max_len
    (each_sends_its_share s lens i law there_i) (each_sends_its_share s lens j law there_j) (grants_are_even s lens i j law there_i there_j apart).within_one
    (deficit_bounded s.max_len s.classes i s.active law.entries there_i)
    (omega (arith, last, ap (λ cs. quantum_of j cs) later.classes, later.max_len))
    (active_quantum s.max_len s.classes j s.active law.quanta law.entries there_j)
