-- A take of a drr: what each class is granted and sends, and how the order of two classes goes with their grants.
use Rattle.std.proofs.Common.{◌≡◌, ◌≢◌, ℕ, zero, suc, ◌+◌, ◌*◌, Bool, true, false, eqb, ◌||◌, not, List, [], ◌∷◌, map, take, drop, refl, sym, ap, ◌∙◌, inl, inr, Option, Some, None, eq-eqb, arith}
use Rattle.std.specs.Prelude.{◌==◌, nat_lt, slice_get, sum_by, if◌then◌else◌}
use Rattle.std.proofs.lemmas.Bool.{cases_Bool, cases_lt, eqb-true, ne_eqb, false≢true, or_parts, lt-ltb, le-ltb}
use Rattle.std.proofs.Math.Nat.{mul-add}
use Rattle.std.proofs.lemmas.List.{take-append-drop}
use Rattle.std.proofs.lemmas.Option.{none-some, same_Some}
use Rattle.std.proofs.lemmas.List.Sums.{sum_by-cons, sum_by-append}
use Rattle.q_packet.specs.Choice.{Choice}
use Rattle.q_drr.specs.Schedule.{Entry, Schedule, is_active, quantum_of, deficit_of, IsLawful}
use Rattle.q_drr.specs.Changes.{HeadsFit}
use Rattle.q_drr.specs.Stretch.{after_turns, grants, sent, stands_first}
use Rattle.q_drr.specs.Take.{choice_of, served}
use Rattle.q_drr.specs.Turns.{grants_at, bytes_at}
use Rattle.q_drr.proofs.ServedLemmas.{takes_are_turns}
use Rattle.q_drr.proofs.StretchLemmas.{each_sends_its_share, grants_are_even}
use Rattle.q_drr.proofs.DifferLemmas.{EntriesDiffer}
use Rattle.q_drr.proofs.LookupLemmas.{deficit_here, deficit_behind}
use Rattle.q_model.specs.Tally.{Granted}
use Rattle.q_model.specs.Grants.{grant_notes, granted_notes}
use Rattle.q_model.specs.Stretches.{granted_by, grants_to}
use Rattle.q_invariants.proofs.tree.Members.{passes-at}

-- 1 where it is so
abbrev pub one_if : Bool → ℕ
one_if true = 1
one_if false = 0

-- an active class stands at a place
pub record Stands (c : ℕ) (es : List Entry) : Type 0 where
  pub place : ℕ
  pub entry : Entry
  pub there : slice_get es place ≡ Some entry
  pub name : entry.class ≡ c

pub stands : (c : ℕ) (es : List Entry) → is_active c es ≡ true → Stands c es
stands c [] h = absurd (false≢true h)
stands c (e ∷ es) h = elim (cases_Bool (eqb c e.class)) [
  | inl here ↦ record { place = 0; entry = e; there = refl; name = sym (eqb-true c e.class here) }
  | inr there ↦
      let rest = stands c es (sym (ap (λ t. t || is_active c es) there) ∙ h) in
      record { place = suc rest.place; entry = rest.entry; there = rest.there; name = rest.name }
]

-- of two active classes one stands first
first-other : (i j : ℕ) (es : List Entry) → i ≢ j → is_active i es ≡ true → is_active j es ≡ true → stands_first j i es ≡ not (stands_first i j es)
first-other i j [] apart a b = absurd (false≢true a)
first-other i j (e ∷ es) apart a b = elim (cases_Bool (eqb i e.class)) [
  | inl here ↦
      let far : eqb j e.class ≡ false = ne_eqb j e.class (λ w. apart (eqb-true i e.class here ∙ sym w)) in
      ap (λ (t : Bool). if t then true else (if eqb i e.class then false else stands_first j i es)) far ∙ ap (λ (t : Bool). if t then false else stands_first j i es) here
      ∙ sym (ap (λ (t : Bool). not (if t then true else (if eqb j e.class then false else stands_first i j es))) here)
  | inr there ↦ elim (cases_Bool (eqb j e.class)) [
    | inl here ↦ ap (λ (t : Bool). if t then true else (if eqb i e.class then false else stands_first j i es)) here
        ∙ sym (ap (λ (t : Bool). not (if t then true else (if eqb j e.class then false else stands_first i j es))) there ∙ ap (λ (t : Bool). not (if t then false else stands_first i j es)) here)
    | inr far ↦ ap (λ (t : Bool). if t then true else (if eqb i e.class then false else stands_first j i es)) far ∙ ap (λ (t : Bool). if t then false else stands_first j i es) there
        ∙ first-other i j es apart (sym (ap (λ t. t || is_active i es) there) ∙ a) (sym (ap (λ t. t || is_active j es) far) ∙ b)
        ∙ sym (ap (λ (t : Bool). not (if t then true else (if eqb j e.class then false else stands_first i j es))) there ∙ ap (λ (t : Bool). not (if t then false else stands_first i j es)) far)
  ]
]

-- ---- a whole take

module _ (s : Schedule) (heads : ℕ → Option ℕ) (law : IsLawful s) (fits : HeadsFit heads s.max_len) where
  pub take-books : (c : ℕ) (at : Stands c s.active) → is_active c s.active ≡ true
      → bytes_at (choice_of heads s) at.place (heads c) + deficit_of c (served heads s).active ≡ grants_at (choice_of heads s) at.place * quantum_of c s.classes + deficit_of c s.active
  take-books c at there =
      let t = takes_are_turns s heads law fits in
      let lens : List ℕ = t.0 in
      let g : grants c lens s ≡ grants_at (choice_of heads s) at.place = ap (λ k. grants k lens s) (sym at.name) ∙ t.1.granted at.place at.entry at.there in
      let b : sent c lens s ≡ bytes_at (choice_of heads s) at.place (heads c) =
      ap (λ k. sent k lens s) (sym at.name) ∙ t.1.bytes at.place at.entry at.there ∙ ap (λ k. bytes_at (choice_of heads s) at.place (heads k)) at.name in
      let books = each_sends_its_share s lens c law there in
      let after : deficit_of c (after_turns lens s).active ≡ deficit_of c (served heads s).active = ap (λ (x : Schedule). deficit_of c x.active) t.1.after in
      let product : grants c lens s * quantum_of c s.classes ≡ grants_at (choice_of heads s) at.place * quantum_of c s.classes = ap (λ k. k * quantum_of c s.classes) g in
      omega (arith, b, books, after, product)

  pub take-even : (i j : ℕ) (p : Stands i s.active) (q : Stands j s.active) → i ≢ j → is_active i s.active ≡ true → is_active j s.active ≡ true
      → is_active i (served heads s).active ≡ true → is_active j (served heads s).active ≡ true
      → grants_at (choice_of heads s) p.place + one_if (stands_first i j (served heads s).active) ≡ grants_at (choice_of heads s) q.place + one_if (stands_first i j s.active)
  take-even i j p q apart there_i there_j then_i then_j =
      let t = takes_are_turns s heads law fits in
      let lens : List ℕ = t.0 in
      let gi : grants i lens s ≡ grants_at (choice_of heads s) p.place = ap (λ k. grants k lens s) (sym p.name) ∙ t.1.granted p.place p.entry p.there in
      let gj : grants j lens s ≡ grants_at (choice_of heads s) q.place = ap (λ k. grants k lens s) (sym q.name) ∙ t.1.granted q.place q.entry q.there in
      let on : (a b : ℕ) → stands_first a b (after_turns lens s).active ≡ stands_first a b (served heads s).active = λ a b. ap (λ (x : Schedule). stands_first a b x.active) t.1.after in
      let one = grants_are_even s lens i j law there_i there_j apart in
      let other = grants_are_even s lens j i law there_j there_i (λ e. apart (sym e)) in
      by gi gj (stands_first i j s.active) (stands_first i j (served heads s).active) refl refl
      (λ e. one.same_order (on i j ∙ e))
      (λ e f. one.changed_order e (on i j ∙ f))
      (λ e f. other.changed_order (first-other i j s.active apart there_i there_j ∙ ap not e) (on j i ∙ first-other i j (served heads s).active apart then_i then_j ∙ ap not f))
    where
      by : {a b x y : ℕ} → a ≡ x → b ≡ y → (first last : Bool) → stands_first i j s.active ≡ first → stands_first i j (served heads s).active ≡ last
          → (stands_first i j (served heads s).active ≡ stands_first i j s.active → a ≡ b)
          → (stands_first i j s.active ≡ true → stands_first i j (served heads s).active ≡ false → a ≡ b + 1)
          → (stands_first i j s.active ≡ false → stands_first i j (served heads s).active ≡ true → b ≡ a + 1)
          → x + one_if (stands_first i j (served heads s).active) ≡ y + one_if (stands_first i j s.active)
      by ga gb true true e f same down up = omega (arith, ga, gb, same (f ∙ sym e), ap one_if e, ap one_if f)
      by ga gb false false e f same down up = omega (arith, ga, gb, same (f ∙ sym e), ap one_if e, ap one_if f)
      by ga gb true false e f same down up = omega (arith, ga, gb, down e f, ap one_if e, ap one_if f)
      by ga gb false true e f same down up = omega (arith, ga, gb, up e f, ap one_if e, ap one_if f)

-- ---- what it notes

-- how often a class stands among these
abbrev stands_in : ℕ → List Entry → ℕ
stands_in c es = sum_by (λ (e : Entry). if c == e.class then 1 else 0) es

noted-some : (c k : ℕ) (es : List Entry) → grants_to c (map (λ (e : Entry). Granted e.class k) es) ≡ k * stands_in c es
noted-some c k [] = omega arith
noted-some c k (e ∷ es) = elim (cases_Bool (eqb c e.class)) [
  | inl here ↦
      let one : (if c == e.class then k else 0) ≡ k = ap (λ (t : Bool). if t then k else 0) here in
      let count : stands_in c (e ∷ es) ≡ 1 + stands_in c es = sum_by-cons (λ (e : Entry). if c == e.class then 1 else 0) e es ∙ ap (λ (t : Bool). (if t then 1 else 0) + stands_in c es) here in
      let more : k * stands_in c (e ∷ es) ≡ k + k * stands_in c es = ap (λ m. k * m) count ∙ mul-add k 1 (stands_in c es) ∙ omega arith in
      omega (arith, one, more, sum_by-cons (granted_by c) (Granted e.class k) (map (λ (e : Entry). Granted e.class k) es), noted-some c k es)
  | inr there ↦
      let none : (if c == e.class then k else 0) ≡ 0 = ap (λ (t : Bool). if t then k else 0) there in
      let count : stands_in c (e ∷ es) ≡ stands_in c es =
      sum_by-cons (λ (e : Entry). if c == e.class then 1 else 0) e es ∙ ap (λ (t : Bool). (if t then 1 else 0) + stands_in c es) there
      ∙ omega arith in
      let same : k * stands_in c (e ∷ es) ≡ k * stands_in c es = ap (λ m. k * m) count in
      omega (arith, none, same, sum_by-cons (granted_by c) (Granted e.class k) (map (λ (e : Entry). Granted e.class k) es), noted-some c k es)
]

noted-each : (c k : ℕ) (es : List Entry) → grants_to c (grant_notes k es) ≡ k * stands_in c es
noted-each c k es = by (k == 0) refl
  where
    by : (t : Bool) → (k == 0) ≡ t → grants_to c (if t then [] else map (λ (e : Entry). Granted e.class k) es) ≡ k * stands_in c es
    by true e = sym (ap (λ m. m * stands_in c es) (eqb-true k 0 e) ∙ omega arith)
    by false e = noted-some c k es

absent-none : (c : ℕ) (es : List Entry) → is_active c es ≡ false → stands_in c es ≡ 0
absent-none c [] h = refl
absent-none c (e ∷ es) h =
    let parts = or_parts (eqb c e.class) (is_active c es) h in
    sum_by-cons (λ (e : Entry). if c == e.class then 1 else 0) e es ∙ ap (λ (t : Bool). (if t then 1 else 0) + stands_in c es) parts.0 ∙ omega (arith, absent-none c es parts.1)

-- a class that stands once is before or behind another place
once-before : (c : ℕ) (es : List Entry) (i k : ℕ) (e : Entry) → EntriesDiffer es → slice_get es i ≡ Some e → e.class ≡ c
    → (stands_in c (take k es) ≡ one_if (nat_lt i k)) × (stands_in c (drop k es) + one_if (nat_lt i k) ≡ 1)
once-before c [] i k e d at name = absurd (none-some e at)
once-before c (x ∷ es) zero zero e d at name =
    let here : eqb c x.class ≡ true = eq-eqb c x.class (sym (ap (λ (y : Entry). y.class) (same_Some x e at) ∙ name)) in
    let none : stands_in c es ≡ 0 = absent-none c es (ap (λ m. is_active m es) (eqb-true c x.class here) ∙ d.0) in
    let count : stands_in c (x ∷ es) ≡ 1 + stands_in c es = sum_by-cons (λ (e : Entry). if c == e.class then 1 else 0) x es ∙ ap (λ (t : Bool). (if t then 1 else 0) + stands_in c es) here in
    (sym (ap one_if (le-ltb 0 0 (omega arith))), omega (arith, count, none, ap one_if (le-ltb 0 0 (omega arith))))
once-before c (x ∷ es) zero (suc k) e d at name =
    let here : eqb c x.class ≡ true = eq-eqb c x.class (sym (ap (λ (y : Entry). y.class) (same_Some x e at) ∙ name)) in
    let absent : is_active c es ≡ false = ap (λ m. is_active m es) (eqb-true c x.class here) ∙ d.0 in
    let none : stands_in c es ≡ 0 = absent-none c es absent in
    let split : stands_in c es ≡ stands_in c (take k es) + stands_in c (drop k es) =
    ap (stands_in c) (sym (take-append-drop k es)) ∙ sum_by-append (λ (e : Entry). if c == e.class then 1 else 0) (take k es) (drop k es) in
    let count : stands_in c (x ∷ take k es) ≡ 1 + stands_in c (take k es) =
    sum_by-cons (λ (e : Entry). if c == e.class then 1 else 0) x (take k es) ∙ ap (λ (t : Bool). (if t then 1 else 0) + stands_in c (take k es))
    here in
    let before : one_if (nat_lt 0 (suc k)) ≡ 1 = ap one_if (lt-ltb 0 (suc k) (omega arith)) in
    (omega (arith, count, none, split, before), omega (arith, none, split, before))
once-before c (x ∷ es) (suc i) zero e d at name =
    let rest = once-before c es i 0 e d.1 at name in
    let far : eqb c x.class ≡ false = not-here es i d.0 at in
    let behind : one_if (nat_lt (suc i) 0) ≡ 0 = ap one_if (le-ltb (suc i) 0 (omega arith)) in
    let behind_too : one_if (nat_lt i 0) ≡ 0 = ap one_if (le-ltb i 0 (omega arith)) in
    let count : stands_in c (x ∷ es) ≡ stands_in c es = sum_by-cons (λ (e : Entry). if c == e.class then 1 else 0) x es ∙ ap (λ (t : Bool). (if t then 1 else 0) + stands_in c es) far ∙ omega arith in
    (sym behind, let r = rest.1 in omega (arith, count, r, behind, behind_too))
  where
    not-here : (es : List Entry) (i : ℕ) → is_active x.class es ≡ false → slice_get es i ≡ Some e → eqb c x.class ≡ false
    not-here es i none there = elim (cases_Bool (eqb c x.class)) [
      | inr apart ↦ apart
      | inl same ↦ absurd (false≢true (sym none ∙ passes-at (λ (y : Entry). x.class == y.class) es i e there (eq-eqb x.class e.class (sym (eqb-true c x.class same) ∙ sym name))))
    ]
once-before c (x ∷ es) (suc i) (suc k) e d at name =
    let rest = once-before c es i k e d.1 at name in
    let far : eqb c x.class ≡ false = not-here es i d.0 at in
    let count : stands_in c (x ∷ take k es) ≡ stands_in c (take k es) =
    sum_by-cons (λ (e : Entry). if c == e.class then 1 else 0) x (take k es) ∙ ap (λ (t : Bool). (if t then 1 else 0) + stands_in c (take k es))
    far ∙ omega arith in
    let same : nat_lt (suc i) (suc k) ≡ nat_lt i k = same-test i k in
    (omega (arith, count, rest.0, ap one_if same), let r = rest.1 in omega (arith, r, ap one_if same))
  where
    not-here : (es : List Entry) (i : ℕ) → is_active x.class es ≡ false → slice_get es i ≡ Some e → eqb c x.class ≡ false
    not-here es i none there = elim (cases_Bool (eqb c x.class)) [
      | inr apart ↦ apart
      | inl same ↦ absurd (false≢true (sym none ∙ passes-at (λ (y : Entry). x.class == y.class) es i e there (eq-eqb x.class e.class (sym (eqb-true c x.class same) ∙ sym name))))
    ]

    same-test : (i k : ℕ) → nat_lt (suc i) (suc k) ≡ nat_lt i k
    same-test i k = elim (cases_lt i k) [
      | inl lt ↦ lt-ltb (suc i) (suc k) (omega (arith, lt)) ∙ sym (lt-ltb i k lt)
      | inr ge ↦ le-ltb (suc i) (suc k) (omega (arith, ge)) ∙ sym (le-ltb i k ge)
    ]

pub grants-noted : (c : ℕ) (es : List Entry) (o : Option Choice) (at : Stands c es) → EntriesDiffer es → grants_to c (granted_notes o es) ≡ grants_at o at.place
grants-noted c es None at d = refl
grants-noted c es (Some ch) at d =
    let sides = once-before c es at.place ch.place at.entry d at.there at.name in
    let split = sum_by-append (granted_by c) (grant_notes (suc ch.rounds) (take ch.place es)) (grant_notes ch.rounds (drop ch.place es)) in
    by (nat_lt at.place ch.place) refl sides split
  where
    by : (t : Bool) → nat_lt at.place ch.place ≡ t
        → (stands_in c (take ch.place es) ≡ one_if (nat_lt at.place ch.place)) × (stands_in c (drop ch.place es) + one_if (nat_lt at.place ch.place) ≡ 1)
        → grants_to c (granted_notes (Some ch) es) ≡ grants_to c (grant_notes (suc ch.rounds) (take ch.place es)) + grants_to c (grant_notes ch.rounds (drop ch.place es))
        → grants_to c (granted_notes (Some ch) es) ≡ (if nat_lt at.place ch.place then suc ch.rounds else ch.rounds)
    by true e sides split =
        let yes : stands_in c (take ch.place es) ≡ 1 = sides.0 ∙ ap one_if e in
        let no_more : stands_in c (drop ch.place es) ≡ 0 = let s = sides.1 in omega (arith, s, ap one_if e) in
        let a : suc ch.rounds * stands_in c (take ch.place es) ≡ suc ch.rounds = ap (λ m. suc ch.rounds * m) yes ∙ omega arith in
        let b : ch.rounds * stands_in c (drop ch.place es) ≡ 0 = ap (λ m. ch.rounds * m) no_more ∙ omega arith in
        omega (arith, split, noted-each c (suc ch.rounds) (take ch.place es), noted-each c ch.rounds (drop ch.place es), a, b) ∙ sym (ap (λ (t : Bool). if t then suc ch.rounds else ch.rounds) e)
    by false e sides split =
        let not_yet : stands_in c (take ch.place es) ≡ 0 = sides.0 ∙ ap one_if e in
        let yes : stands_in c (drop ch.place es) ≡ 1 = let s = sides.1 in omega (arith, s, ap one_if e) in
        let a : suc ch.rounds * stands_in c (take ch.place es) ≡ 0 = ap (λ m. suc ch.rounds * m) not_yet ∙ omega arith in
        let b : ch.rounds * stands_in c (drop ch.place es) ≡ ch.rounds = ap (λ m. ch.rounds * m) yes ∙ omega arith in
        omega (arith, split, noted-each c (suc ch.rounds) (take ch.place es), noted-each c ch.rounds (drop ch.place es), a, b) ∙ sym (ap (λ (t : Bool). if t then suc ch.rounds else ch.rounds) e)

-- a class that is asleep gets none
pub absent-noted : (c : ℕ) (es : List Entry) (o : Option Choice) → is_active c es ≡ false → grants_to c (granted_notes o es) ≡ 0
absent-noted c es None none_there = refl
absent-noted c es (Some ch) none_there =
    let whole : stands_in c es ≡ stands_in c (take ch.place es) + stands_in c (drop ch.place es) =
    ap (stands_in c) (sym (take-append-drop ch.place es)) ∙ sum_by-append (λ (e : Entry). if c == e.class then 1 else 0) (take ch.place es) (drop ch.place es) in
    let zero_in = absent-none c es none_there in
    let first : suc ch.rounds * stands_in c (take ch.place es) ≡ 0 = ap (λ m. suc ch.rounds * m) (let z : stands_in c (take ch.place es) ≡ 0 = omega (arith, whole, zero_in) in z) ∙ omega arith in
    let second : ch.rounds * stands_in c (drop ch.place es) ≡ 0 = ap (λ m. ch.rounds * m) (let z : stands_in c (drop ch.place es) ≡ 0 = omega (arith, whole, zero_in) in z) ∙ omega arith in
    omega (
      arith,
      sum_by-append (granted_by c) (grant_notes (suc ch.rounds) (take ch.place es)) (grant_notes ch.rounds (drop ch.place es)),
      noted-each c (suc ch.rounds) (take ch.place es),
      noted-each c ch.rounds (drop ch.place es),
      first,
      second,
    )

-- the deficit of the class that stands at a place
pub deficit-at : (es : List Entry) (i : ℕ) (e : Entry) → EntriesDiffer es → slice_get es i ≡ Some e → deficit_of e.class es ≡ e.deficit
deficit-at [] i e d at = absurd (none-some e at)
deficit-at (x ∷ es) zero e d at =
    let same : x ≡ e = same_Some x e at in
    deficit_here e.class x es (eq-eqb e.class x.class (sym (ap (λ (y : Entry). y.class) same))) ∙ ap (λ (y : Entry). y.deficit) same
deficit-at (x ∷ es) (suc i) e d at =
    let far : eqb e.class x.class ≡ false = ne_eqb e.class x.class (λ same. false≢true (sym d.0 ∙ passes-at (λ (y : Entry). x.class == y.class) es i e at (eq-eqb x.class e.class (sym same)))) in
    deficit_behind e.class x es far ∙ deficit-at es i e d.1 at
