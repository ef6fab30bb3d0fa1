-- One step of a walk along the active list, for what the other classes may send of their deficits before a packet of one of them.
use Rattle.std.proofs.Common.{◌≡◌, ◌≢◌, ℕ, zero, suc, ◌+◌, ◌-◌, ◌<◌, Bool, true, false, eqb, List, [], ◌∷◌, map, drop, length, Some, None, refl, sym, ap, ◌∙◌, subst, arith, eq-eqb}
use Rattle.std.specs.Prelude.{All, ◌==◌, slice_get}
use Rattle.std.proofs.lemmas.Bool.{cond-false, cond-true, ne_eqb, or_left, or_right}
use Rattle.std.proofs.lemmas.List.Elements.{All-head, All-tail, All-weaker}
use Rattle.std.proofs.lemmas.List.Sums.{sum_by-cons}
use Rattle.std.proofs.lemmas.Option.{none-some, same_Some}
use Rattle.q_drr.specs.Links.{Circle, is_among}
use Rattle.q_drr.specs.Schedule.{Class, Entry, IsEntry, IsLawful, Schedule, has_class, quantum_of, woken}
use Rattle.q_drr.specs.States.{NamedState, class_in, entry_in, name_in, names_in, place_of_state, state_of}
use Rattle.q_drr.specs.Kept.{IsSound, shown}
use Rattle.q_drr.specs.Waiting.{deficits_ahead, left_along, left_behind}
use Rattle.q_drr.proofs.AheadLemmas.{ahead-is-along}
use Rattle.q_drr.proofs.DifferLemmas.{differ_from_pairs, entries_apart}
use Rattle.q_drr.proofs.ScheduleLemmas.{quantum_in}
use Rattle.q_drr.proofs.SoundLemmas.{lawful, stands_found}

-- what is left to count: behind the class, or still before it
abbrev pub left_of : Bool → ℕ → List Class → List Entry → ℕ
left_of true i classes active = left_behind classes active
left_of false i classes active = left_along i classes active

pub nothing-left : (t : Bool) (i : ℕ) (classes : List Class) → left_of t i classes [] ≡ 0
nothing-left true i classes = refl
nothing-left false i classes = refl

drop-at : (states : List NamedState) (order : List ℕ) (k place : ℕ) → slice_get order k ≡ Some place
    → drop k (map (entry_in states) (names_in states order)) ≡ entry_in states (name_in states place) ∷ drop (suc k) (map (entry_in states) (names_in states order))
drop-at states [] k place e = absurd (none-some place e)
drop-at states (p ∷ order) zero place e =
    ap (λ n. entry_in states (name_in states n) ∷ map (entry_in states) (names_in states order)) (same_Some p place e)
drop-at states (p ∷ order) (suc k) place e = drop-at states order k place e

pub placed-at : (order : List ℕ) (bound k place : ℕ) → All (λ p. p < bound) order → slice_get order k ≡ Some place → place < bound
placed-at [] bound k place all e = absurd (none-some place e)
placed-at (p ∷ order) bound zero place all e = subst (λ n. n < bound) (same_Some p place e) (All-head (λ n. n < bound) p order all)
placed-at (p ∷ order) bound (suc k) place all e = placed-at order bound k place (All-tail (λ n. n < bound) p order all) e

pub there-at : (order : List ℕ) (k : ℕ) → k < length order → (p : ℕ) × (slice_get order k ≡ Some p)
there-at [] k less = absurd (omega (arith, less))
there-at (p ∷ order) zero less = (p, refl)
there-at (p ∷ order) (suc k) less = there-at order k (omega (arith, less))

pub drop-whole : (es : List Entry) (n : ℕ) → n ≡ length es → drop n es ≡ []
drop-whole [] zero e = refl
drop-whole [] (suc n) e = refl
drop-whole (x ∷ es) zero e = absurd (omega (arith, e))
drop-whole (x ∷ es) (suc n) e = drop-whole es n (omega (arith, e))

module _ (max_len turns : ℕ) (states : List NamedState) (circle : Circle) (h : IsSound max_len turns states circle) (class own : ℕ)
    (found : place_of_state class states ≡ Some own) (k place : ℕ) (at : slice_get circle.order k ≡ Some place) where
  abbrev classes : List Class
  classes = map class_in states

  abbrev active : List Entry
  active = map (entry_in states) (names_in states circle.order)

  abbrev name : ℕ
  name = name_in states place

  pub step-behind : left_of true class (map class_in states) (drop k (map (entry_in states) (names_in states circle.order)))
      ≡ ((state_of (name_in states place) states).deficit - (state_of (name_in states place) states).quantum)
      + left_of true class (map class_in states) (drop (suc k) (map (entry_in states) (names_in states circle.order)))
  step-behind =
      ap (left_behind classes) (drop-at states circle.order k place at)
      ∙ sum_by-cons (λ (e : Entry). e.deficit - quantum_of e.class classes) (entry_in states name) (drop (suc k) active)
      ∙ ap (λ q. ((state_of name states).deficit - q) + left_behind classes (drop (suc k) active)) (quantum_in name states)

  pub step-own : place ≡ own → left_of false class (map class_in states) (drop k (map (entry_in states) (names_in states circle.order)))
      ≡ left_of true class (map class_in states) (drop (suc k) (map (entry_in states) (names_in states circle.order)))
  step-own same =
      let is : class ≡ name = sym (stands_found max_len turns states circle h class own found).name ∙ ap (name_in states) (sym same) in
      ap (left_along class classes) (drop-at states circle.order k place at)
      ∙ cond-true (class == name) (left_behind classes (drop (suc k) active)) ((state_of name states).deficit + left_along class classes (drop (suc k) active))
      (eq-eqb class name is)

  pub step-before : place ≢ own → place < length states → left_of false class (map class_in states) (drop k (map (entry_in states) (names_in states circle.order)))
      ≡ (state_of (name_in states place) states).deficit
      + left_of false class (map class_in states) (drop (suc k) (map (entry_in states) (names_in states circle.order)))
  step-before other within =
      let apart : class ≢ name = λ is. other ((stands_found max_len turns states circle h class own found).only place within (sym is)) in
      ap (left_along class classes) (drop-at states circle.order k place at)
      ∙ cond-false (class == name) (left_behind classes (drop (suc k) active)) ((state_of name states).deficit + left_along class classes (drop (suc k) active))
      (ne_eqb class name apart)

-- ---- a whole walk

pub among-at : (order : List ℕ) (k place : ℕ) → slice_get order k ≡ Some place → is_among place order ≡ true
among-at [] k place e = absurd (none-some place e)
among-at (p ∷ order) zero place e = or_left (eqb place p) (is_among place order) (eq-eqb place p (sym (same_Some p place e)))
among-at (p ∷ order) (suc k) place e = or_right (eqb place p) (is_among place order) (among-at order k place e)

pub no-first : (order : List ℕ) → slice_get order 0 ≡ None → order ≡ []
no-first [] e = refl
no-first (p ∷ order) e = absurd (none-some p (sym e))

pub shown-ahead : (max_len turns : ℕ) (states : List NamedState) (circle : Circle) → IsSound max_len turns states circle → (i : ℕ) (now : Schedule)
    → shown max_len turns states (names_in states circle.order) ≡ now
    → left_along i (map class_in states) (map (entry_in states) (names_in states circle.order)) ≡ deficits_ahead i (woken i now).active now.classes
shown-ahead max_len turns states circle h i now view =
    let s : Schedule = shown max_len turns states (names_in states circle.order) in
    let law : IsLawful s = lawful max_len turns states circle h s refl in
    sym (ahead-is-along i s (differ_from_pairs (λ (c : Class). c.name) s.classes law.classes_differ) (entries_apart s.active law.entries_differ)
    (All-weaker (IsEntry s.max_len s.classes) (λ (e : Entry). has_class e.class s.classes ≡ true) (λ e entry. entry.there) s.active law.entries))
    ∙ ap (λ (v : Schedule). deficits_ahead i (woken i v).active v.classes) view
