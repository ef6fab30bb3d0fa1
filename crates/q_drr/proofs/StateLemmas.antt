-- States found by name and by place.
use Rattle.std.proofs.Common.{◌≡◌, ◌≢◌, ℕ, zero, suc, ◌<◌, ◌≤◌, Some, None, Bool, true, false, eqb, ◌||◌, not, cond, List, [], ◌∷◌, map, length, set, refl, sym, ap, ◌∙◌, subst, inl, inr, arith, eq-eqb}
use Rattle.std.specs.Prelude.{if◌then◌else◌, ◌==◌, nat_lt, is_some, slice_index_or}
use Rattle.std.specs.List.{All, position_or_len, remove}
use Rattle.std.proofs.lemmas.List.Elements.{All-cons, All-map}
use Rattle.std.proofs.lemmas.List.Sums.{position_or_len_is, fails_before_first, passes_at_first}
use Rattle.std.proofs.lemmas.Bool.{eqb-true, ne_eqb, false≢true, or_parts, cases_Bool, cases_lt, false_from_ne_true, cond-true, cond-false, lt-ltb, le-ltb}
use Rattle.q_drr.specs.Links.{is_among}
use Rattle.q_drr.specs.States.{NamedState, no_state, name_in, has_state, place_of_state, state_of, with_state, without_state}
use Rattle.q_drr.proofs.DifferLemmas.{AllDiffer, StatesDiffer}
use Rattle.q_drr.proofs.LookupLemmas.{state_here, state_behind}
use Rattle.q_drr.proofs.NameLemmas.{length_le_from_differ, or_right}

pub names : List NamedState → List ℕ
names states = map (λ c. c.name) states

-- where a class stands that is there
pub record Found (n : ℕ) (states : List NamedState) : Type 0 where
  pub place : ℕ
  pub within : place < length states
  pub name : name_in states place ≡ n
  pub is : state_of n states ≡ slice_index_or states place no_state

pub found_of : (n : ℕ) (states : List NamedState) → has_state n states ≡ true → Found n states
found_of n [] there = absurd (false≢true there)
found_of n (c ∷ states) there = elim (cases_Bool (eqb n c.name)) [
  | inl e ↦ record { place = 0; within = omega arith; name = sym (eqb-true n c.name e); is = state_here n c states e }
  | inr e ↦ let f = found_of n states (sym (ap (λ t. t || has_state n states) e) ∙ there) in
      record { place = suc f.place; within = omega (arith, f.within); name = f.name; is = state_behind n c states e ∙ f.is }
]

-- a class that is not there stands at no place
pub absent_at : (n : ℕ) (states : List NamedState) → has_state n states ≡ false → (k : ℕ) → k < length states → name_in states k ≢ n
absent_at n [] absent k lt e = absurd (omega arith)
absent_at n (c ∷ states) absent zero lt e = false≢true (sym (or_parts (eqb n c.name) (has_state n states) absent).0 ∙ eq-eqb n c.name (sym e))
absent_at n (c ∷ states) absent (suc k) lt e = absent_at n states (or_parts (eqb n c.name) (has_state n states) absent).1 k (omega arith) e

-- and one that stands at no place is not there
pub absent_from : (n : ℕ) (states : List NamedState) → ((k : ℕ) → k < length states → name_in states k ≢ n) → has_state n states ≡ false
absent_from n states nowhere = false_from_ne_true (has_state n states) (λ there. let f = found_of n states there in nowhere f.place f.within f.name)

-- the one class of this name stands at this place
pub record Stands (place n : ℕ) (states : List NamedState) : Type 0 where
  pub within : place < length states
  pub name : name_in states place ≡ n
  pub there : has_state n states ≡ true
  pub is : state_of n states ≡ slice_index_or states place no_state
  pub only : (k : ℕ) → k < length states → name_in states k ≡ n → k ≡ place

pub stands_in : (states : List NamedState) (place : ℕ) → StatesDiffer states → place < length states → Stands place (name_in states place) states
stands_in [] place d lt = absurd (omega arith)
stands_in (c ∷ states) zero d lt = record {
  within = lt;
  name = refl;
  there = ap (λ t. t || has_state c.name states) (eq-eqb c.name c.name refl);
  is = state_here c.name c states (eq-eqb c.name c.name refl);
  only = first c states d.0;
}
  where
    first : (c : NamedState) (states : List NamedState) → has_state c.name states ≡ false → (k : ℕ) → k < length (c ∷ states) → name_in (c ∷ states) k ≡ c.name → k ≡ zero
    first c states absent zero lt e = refl
    first c states absent (suc k) lt e = absurd (absent_at c.name states absent k (omega arith) e)
stands_in (c ∷ states) (suc place) d lt =
    let s = stands_in states place d.1 (omega arith) in
    let n : ℕ = name_in states place in
    let apart : eqb n c.name ≡ false = ne_eqb n c.name (absent_at c.name states d.0 place s.within) in
    record {
      within = lt;
      name = refl;
      there = or_right (eqb n c.name) (has_state n states) s.there;
      is = state_behind n c states apart ∙ s.is;
      only = behind c states place d.0 s.within s.only;
    }
  where
    behind : (c : NamedState) (states : List NamedState) (place : ℕ) → has_state c.name states ≡ false → place < length states
        → ((k : ℕ) → k < length states → name_in states k ≡ name_in states place → k ≡ place)
        → (k : ℕ) → k < length (c ∷ states) → name_in (c ∷ states) k ≡ name_in states place → k ≡ suc place
    behind c states place absent within only zero lt e = absurd (absent_at c.name states absent place within (sym e))
    behind c states place absent within only (suc k) lt e = ap suc (only k (omega arith) e)

-- a write of one state, and a state taken away
pub with_absent : (new : NamedState) (states : List NamedState) → has_state new.name states ≡ false → with_state new states ≡ states
with_absent new [] absent = refl
with_absent new (c ∷ states) absent =
    let parts = or_parts (eqb new.name c.name) (has_state new.name states) absent in
    ap (λ (t : Bool). (if t then new else c) ∷ with_state new states) parts.0 ∙ ap (λ cs. c ∷ cs) (with_absent new states parts.1)

without_absent_state : (n : ℕ) (states : List NamedState) → has_state n states ≡ false → without_state n states ≡ states
without_absent_state n [] absent = refl
without_absent_state n (c ∷ states) absent =
    let parts = or_parts (eqb n c.name) (has_state n states) absent in
    ap (λ t. cond (not t) (c ∷ without_state n states) (without_state n states)) parts.0 ∙ ap (λ cs. c ∷ cs) (without_absent_state n states parts.1)

pub set_replaces : (states : List NamedState) (place : ℕ) (new : NamedState) → place < length states → name_in states place ≡ new.name
    → ((k : ℕ) → k < length states → name_in states k ≡ new.name → k ≡ place) → set states place new ≡ with_state new states
set_replaces [] place new lt name only = absurd (omega arith)
set_replaces (c ∷ states) zero new lt name only =
    sym (ap (λ (t : Bool). (if t then new else c) ∷ with_state new states) (eq-eqb new.name c.name (sym name))
    ∙ ap (λ cs. new ∷ cs) (with_absent new states (absent_from new.name states (λ k below e. absurd (omega (arith, only (suc k) (omega arith) e))))))
set_replaces (c ∷ states) (suc place) new lt name only =
    ap (λ cs. c ∷ cs) (set_replaces states place new (omega arith) name (λ k below e. let q : suc k ≡ suc place = only (suc k) (omega arith) e in omega arith))
    ∙ sym (ap (λ (t : Bool). (if t then new else c) ∷ with_state new states) (ne_eqb new.name c.name (λ e. absurd (omega (arith, only zero (omega arith) (sym e))))))

pub remove_drops : (states : List NamedState) (place n : ℕ) → place < length states → name_in states place ≡ n
    → ((k : ℕ) → k < length states → name_in states k ≡ n → k ≡ place) → remove states place ≡ without_state n states
remove_drops [] place n lt name only = absurd (omega arith)
remove_drops (c ∷ states) zero n lt name only =
    sym (ap (λ t. cond (not t) (c ∷ without_state n states) (without_state n states)) (eq-eqb n c.name (sym name))
    ∙ without_absent_state n states (absent_from n states (λ k below e. absurd (omega (arith, only (suc k) (omega arith) e)))))
remove_drops (c ∷ states) (suc place) n lt name only =
    ap (λ cs. c ∷ cs) (remove_drops states place n (omega arith) name (λ k below e. let q : suc k ≡ suc place = only (suc k) (omega arith) e in omega arith))
    ∙ sym (ap (λ t. cond (not t) (c ∷ without_state n states) (without_state n states)) (ne_eqb n c.name (λ e. absurd (omega (arith, only zero (omega arith) (sym e))))))

-- the names of a table differ, so that there are at most as many states as names
at_names : (n : ℕ) (states : List NamedState) → is_among n (names states) ≡ has_state n states
unfolding names
at_names n [] = refl
at_names n (c ∷ states) = ap (λ t. eqb n c.name || t) (at_names n states)

names_differ : (states : List NamedState) → StatesDiffer states → AllDiffer (names states)
unfolding names
names_differ [] d = tt
names_differ (c ∷ states) d = (at_names c.name states ∙ d.0, names_differ states d.1)

names_below : (bound : ℕ) (states : List NamedState) → All (λ c. c.name < bound) states → All (λ n. n < bound) (names states)
unfolding names
names_below bound states below = All-map (λ n. n < bound) (λ (c : NamedState). c.name) states below

length-names : (states : List NamedState) → length (names states) ≡ length states
unfolding names
length-names [] = refl
length-names (c ∷ states) = ap suc (length-names states)

-- with a class that is not there yet, the table still has a place to spare
pub place_to_spare : (states : List NamedState) (n bound : ℕ) → StatesDiffer states → All (λ c. c.name < bound) states → has_state n states ≡ false → n < bound → length states < bound
place_to_spare states n bound d below absent small =
    let differ : AllDiffer (n ∷ names states) = (at_names n states ∙ absent, names_differ states d) in
    let all : All (λ m. m < bound) (n ∷ names states) = All-cons (λ m. m < bound) n (names states) small (names_below bound states below) in
    omega (arith, length_le_from_differ (n ∷ names states) bound differ all, length-names states)

pub few_states : (states : List NamedState) (bound : ℕ) → StatesDiffer states → All (λ c. c.name < bound) states → length states ≤ bound
few_states states bound d below =
    omega (arith, length_le_from_differ (names states) bound (names_differ states d) (names_below bound states below), length-names states)

-- the place of a class by its name
pub place_found : (states : List NamedState) (n place : ℕ) → Stands place n states → place_of_state n states ≡ Some place
place_found states n place s =
    let within = s.within in
    let first : position_or_len (λ (c : NamedState). n == c.name) states ≡ place =
    position_or_len_is (λ (c : NamedState). n == c.name) states place no_state (omega arith)
    (λ k lt. ne_eqb n (name_in states k) (λ e. absurd (omega (arith, s.only k (omega arith) (sym e)))))
    (λ lt. eq-eqb n (name_in states place) (sym s.name)) in
    ap (λ i. cond (nat_lt i (length states)) (Some i) None) first ∙ cond-true (nat_lt place (length states)) (Some place) None (lt-ltb place (length states) within)

pub no_place : (n : ℕ) (states : List NamedState) → has_state n states ≡ false → place_of_state n states ≡ None
no_place n states absent =
    let first : position_or_len (λ (c : NamedState). n == c.name) states ≡ length states =
    position_or_len_is (λ (c : NamedState). n == c.name) states (length states) no_state (omega arith)
    (λ k lt. ne_eqb n (name_in states k) (λ e. absent_at n states absent k lt (sym e)))
    (λ lt. absurd (omega arith)) in
    ap (λ i. cond (nat_lt i (length states)) (Some i) None) first ∙ cond-false (nat_lt (length states) (length states)) (Some (length states)) None
    (le-ltb (length states) (length states) (omega arith))

pub has_place : (n : ℕ) (states : List NamedState) → is_some (place_of_state n states) ≡ has_state n states
has_place n states = elim (cases_Bool (has_state n states)) [
  | inr absent ↦ ap is_some (no_place n states absent) ∙ sym absent
  | inl there ↦
      let f = found_of n states there in
      let p : NamedState → Bool = λ c. n == c.name in
      elim (cases_lt (position_or_len p states) (length states)) [
        | inl within ↦ ap (λ (t : Bool). is_some (cond t (Some (position_or_len p states)) None)) (lt-ltb (position_or_len p states) (length states) within) ∙ sym there
        | inr beyond ↦ absurd (false≢true (sym (fails_before_first p states f.place no_state (omega (arith, f.within))) ∙ eq-eqb n (name_in states f.place) (sym f.name)))
      ]
]

-- and the class of a place that was found by its name
pub stands_by : (states : List NamedState) (n place : ℕ) → StatesDiffer states → place_of_state n states ≡ Some place → Stands place n states
stands_by states n place d found =
    let p : NamedState → Bool = λ c. n == c.name in
    let first : ℕ = position_or_len p states in
    elim (cases_lt first (length states)) [
      | inl within ↦
          let some : place_of_state n states ≡ Some first = cond-true (nat_lt first (length states)) (Some first) None (lt-ltb first (length states) within) in
          let at : first ≡ place = cc in
          let name : name_in states first ≡ n = sym (eqb-true n (name_in states first) (passes_at_first p states no_state within)) in
          subst (λ k. Stands k n states) at (subst (λ m. Stands first m states) name (stands_in states first d within))
      | inr beyond ↦
          let none : place_of_state n states ≡ None = cond-false (nat_lt first (length states)) (Some first) None (le-ltb first (length states) beyond) in
          cc
    ]
