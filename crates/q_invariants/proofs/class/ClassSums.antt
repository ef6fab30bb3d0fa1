-- Sums over the children of a drr whose classes are asked: once over the entries that are asked, and once over the classes.
use Rattle.std.proofs.Common.{◌≡◌, ℕ, suc, ◌+◌, ◌<◌, List, [], ◌∷◌, length, refl, sym, ap, subst, Option, Some, None, option_map, option_and_then, arith, ◌∙◌, ⊎_elim}
use Rattle.std.specs.Prelude.{Bool, true, false, not, cond, ◌||◌, ◌==◌, nat_lt, slice_get, if◌then◌else◌}
use Rattle.std.specs.List.{list_any, position, prefix_len}
use Rattle.std.specs.Option.{option_map_or}
use Rattle.std.proofs.lemmas.Bool.{cases_lt, cases_Bool, lt-ltb, le-ltb, eqb-true, eqb-false, ne_eqb, or_parts, or_from, false≢true}
use Rattle.q_drr.specs.Schedule.{Class, Entry}
use Rattle.q_drr.proofs.DifferLemmas.{ClassesDiffer, EntriesDiffer}
use Rattle.q_model.specs.Ask.{Asked, is_among}
use Rattle.q_invariants.proofs.sums.Sums.{total}

-- the first place that passes, at the head of a list or behind it

pub position-here : {X : Type 0} (p : X → Bool) (x : X) (xs : List X) → p x ≡ true → position p (x ∷ xs) ≡ Some 0
position-here p x xs e =
    ap (λ b. cond (nat_lt (cond (not b) (1 + prefix_len (λ y. not (p y)) xs) 0) (suc (length xs))) (Some (cond (not b) (1 + prefix_len (λ y. not (p y)) xs) 0)) None) e
    ∙ ap (λ b. cond b (Some 0) None) (lt-ltb 0 (suc (length xs)) (omega arith))

pub position-there : {X : Type 0} (p : X → Bool) (x : X) (xs : List X) → p x ≡ false → position p (x ∷ xs) ≡ option_map suc (position p xs)
position-there p x xs e =
    let m : ℕ = prefix_len (λ y. not (p y)) xs in
    ap (λ b. cond (nat_lt (cond (not b) (1 + m) 0) (suc (length xs))) (Some (cond (not b) (1 + m) 0)) None) e
    ∙ ⊎_elim (λ (lt : m < length xs).
    ap (λ b. cond b (Some (1 + m)) None) (lt-ltb (1 + m) (suc (length xs)) (omega (arith, lt)))
    ∙ ap Some (omega arith)
    ∙ sym (ap (λ b. option_map suc (cond b (Some m) None)) (lt-ltb m (length xs) lt)))
    (λ ge.
    ap (λ b. cond b (Some (1 + m)) None) (le-ltb (1 + m) (suc (length xs)) (omega (arith, ge)))
    ∙ sym (ap (λ b. option_map suc (cond b (Some m) None)) (le-ltb m (length xs) ge)))
    (cases_lt m (length xs))

-- the answer of the class with this number
abbrev pub answer_in : List Class → List Asked → ℕ → Option Asked
answer_in classes below n = option_and_then (slice_get below) (position (λ (c : Class). n == c.name) classes)

answer-here : (n : ℕ) (c : Class) (classes : List Class) (a : Asked) (below : List Asked) → (n == c.name) ≡ true → answer_in (c ∷ classes) (a ∷ below) n ≡ Some a
answer-here n c classes a below e = ap (option_and_then (slice_get (a ∷ below))) (position-here (λ (c : Class). n == c.name) c classes e)

answer-there : (n : ℕ) (c : Class) (classes : List Class) (a : Asked) (below : List Asked) → (n == c.name) ≡ false → answer_in (c ∷ classes) (a ∷ below) n ≡ answer_in classes below n
answer-there n c classes a below e = ap (option_and_then (slice_get (a ∷ below))) (position-there (λ (c : Class). n == c.name) c classes e) ∙ behind (position (λ (c : Class). n == c.name) classes)
  where
    behind : (o : Option ℕ) → option_and_then (slice_get (a ∷ below)) (option_map suc o) ≡ option_and_then (slice_get below) o
    behind None = refl
    behind (Some i) = refl

-- a sum over the children whose classes pass
abbrev pub picked : (Asked → ℕ) → (Class → Bool) → List Class → List Asked → ℕ
picked g test [] below = 0
picked g test (c ∷ classes) [] = 0
picked g test (c ∷ classes) (a ∷ below) = (if test c then g a else 0) + picked g test classes below

module _ (g : Asked → ℕ) where
  picked-none : (n : ℕ) (classes : List Class) (below : List Asked) → list_any (λ (c : Class). n == c.name) classes ≡ false → picked g (λ c. n == c.name) classes below ≡ 0
  picked-none n [] below e = refl
  picked-none n (c ∷ classes) [] e = refl
  picked-none n (c ∷ classes) (a ∷ below) e =
      let parts = or_parts (n == c.name) (list_any (λ (c : Class). n == c.name) classes) e in
      let here : (if n == c.name then g a else 0) ≡ 0 = ap (λ b. if b then g a else 0) parts.0 in
      omega (arith, here, picked-none n classes below parts.1)

  picked-one : (n : ℕ) (classes : List Class) (below : List Asked) → ClassesDiffer classes → length classes ≡ length below
      → picked g (λ c. n == c.name) classes below ≡ option_map_or g (answer_in classes below n) 0
  picked-one n [] below differ same = refl
  picked-one n (c ∷ classes) [] differ same = absurd (omega (arith, same))
  picked-one n (c ∷ classes) (a ∷ below) differ same = ⊎_elim
      (λ (here : (n == c.name) ≡ true).
      let first : (if n == c.name then g a else 0) ≡ g a = ap (λ b. if b then g a else 0) here in
      let rest : picked g (λ c. n == c.name) classes below ≡ 0 =
      picked-none n classes below (subst (λ m. list_any (λ (d : Class). m == d.name) classes ≡ false) (sym (eqb-true n c.name here)) differ.0) in
      let is : option_map_or g (answer_in (c ∷ classes) (a ∷ below) n) 0 ≡ g a = ap (λ o. option_map_or g o 0) (answer-here n c classes a below here) in
      omega (arith, first, rest, is))
      (λ (there : (n == c.name) ≡ false).
      let first : (if n == c.name then g a else 0) ≡ 0 = ap (λ b. if b then g a else 0) there in
      let is : option_map_or g (answer_in (c ∷ classes) (a ∷ below) n) 0 ≡ option_map_or g (answer_in classes below n) 0 = ap (λ o. option_map_or g o 0) (answer-there n c classes a below there) in
      omega (arith, first, picked-one n classes below differ.1 (omega (arith, same)), is))
      (cases_Bool (n == c.name))

  -- one more class that passes
  picked-more : (n : ℕ) (test : Class → Bool) (classes : List Class) (below : List Asked) → ((c : Class) → (n == c.name) ≡ true → test c ≡ false)
      → picked g (λ c. n == c.name || test c) classes below ≡ picked g (λ c. n == c.name) classes below + picked g test classes below
  picked-more n test [] below apart = refl
  picked-more n test (c ∷ classes) [] apart = refl
  picked-more n test (c ∷ classes) (a ∷ below) apart =
      let one : (if n == c.name || test c then g a else 0) ≡ (if n == c.name then g a else 0) + (if test c then g a else 0) = split (n == c.name) (test c) (apart c) in
      omega (arith, one, picked-more n test classes below apart)
    where
      split : (b t : Bool) → (b ≡ true → t ≡ false) → (if b || t then g a else 0) ≡ (if b then g a else 0) + (if t then g a else 0)
      split true true h = absurd (false≢true (sym (h refl)))
      split true false h = omega arith
      split false true h = omega arith
      split false false h = omega arith

  picked-nothing : (classes : List Class) (below : List Asked) → picked g (λ c. false) classes below ≡ 0
  picked-nothing [] below = refl
  picked-nothing (c ∷ classes) [] = refl
  picked-nothing (c ∷ classes) (a ∷ below) = omega (arith, picked-nothing classes below)

  not_among : (n : ℕ) (entries : List Entry) (c : Class) → list_any (λ (e : Entry). n == e.class) entries ≡ false → (n == c.name) ≡ true → is_among entries c ≡ false
  not_among n [] c none same = refl
  not_among n (e ∷ entries) c none same =
      let parts = or_parts (n == e.class) (list_any (λ (e : Entry). n == e.class) entries) none in
      or_from (e.class == c.name) (is_among entries c)
      (ne_eqb e.class c.name (λ eq. eqb-false n e.class parts.0 (eqb-true n c.name same ∙ sym eq)))
      (not_among n entries c parts.1 same)

  -- the sum over the entries is that over the classes among them
  pub picked-entries : (entries : List Entry) (classes : List Class) (below : List Asked) → EntriesDiffer entries → ClassesDiffer classes → length classes ≡ length below
      → picked g (is_among entries) classes below ≡ total (λ (e : Entry). option_map_or g (answer_in classes below e.class) 0) entries
  picked-entries [] classes below differ apart same = picked-nothing classes below
  picked-entries (e ∷ entries) classes below differ apart same =
      omega (
        arith,
        picked-more e.class (is_among entries) classes below (λ c h. not_among e.class entries c differ.0 h),
        picked-one e.class classes
            below apart same,
        picked-entries entries classes below differ.1 apart same,
      )
