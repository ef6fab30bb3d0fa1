-- Lists in which no two have one name, by recursion: what the proofs by induction take in the place of `AllPairs`.
use Rattle.std.proofs.Common.{◌≡◌, ◌≢◌, ℕ, zero, suc, ◌<◌, false, eqb, List, [], ◌∷◌, length, refl, ◌∙◌, sym, arith, eq-eqb}
use Rattle.std.specs.Prelude.{◌==◌, slice_index_or}
use Rattle.std.specs.List.{AllPairs, list_any}
use Rattle.std.proofs.lemmas.Bool.{ne_eqb, false≢true, or_parts, or_from}
use Rattle.q_drr.specs.States.{NamedState}
use Rattle.q_drr.specs.Schedule.{Class, Entry}

abbrev pub Differ : {X : Type 0} → (X → ℕ) → List X → Type 0
Differ key [] = Unit {0}
Differ key (x ∷ xs) = (list_any (λ y. key x == key y) xs ≡ false) × Differ key xs

module _ {X : Type 0} (key : X → ℕ) where
  absent : (n : ℕ) (xs : List X) → ((k : ℕ) (d : X) → k < length xs → n ≢ key (slice_index_or xs k d)) → list_any (λ y. n == key y) xs ≡ false
  absent n [] apart = refl
  absent n (x ∷ xs) apart =
      or_from (eqb n (key x)) (list_any (λ y. n == key y) xs) (ne_eqb n (key x) (apart zero x (omega arith))) (absent n xs (λ k d lt. apart (suc k) d (omega arith)))

  pub nowhere : (n : ℕ) (xs : List X) → list_any (λ y. n == key y) xs ≡ false → (k : ℕ) (d : X) → k < length xs → n ≢ key (slice_index_or xs k d)
  nowhere n [] none k d lt e = absurd (omega arith)
  nowhere n (x ∷ xs) none zero d lt e = false≢true (sym (or_parts (eqb n (key x)) (list_any (λ y. n == key y) xs) none).0 ∙ eq-eqb n (key x) e)
  nowhere n (x ∷ xs) none (suc k) d lt e = nowhere n xs (or_parts (eqb n (key x)) (list_any (λ y. n == key y) xs) none).1 k d (omega arith) e

  pub differ_from_pairs : (xs : List X) → AllPairs (λ x y. key x ≢ key y) xs → Differ key xs
  differ_from_pairs [] h = tt
  differ_from_pairs (x ∷ xs) h = (
    absent (key x) xs (λ k d lt. h zero (suc k) d (omega arith) (omega arith)),
    differ_from_pairs xs (λ i j d lt within. h (suc i) (suc j) d (omega arith) (omega arith)),
  )

  pub pairs_from_differ : (xs : List X) → Differ key xs → AllPairs (λ x y. key x ≢ key y) xs
  pairs_from_differ [] h i j d lt within = absurd (omega arith)
  pairs_from_differ (x ∷ xs) h i zero d lt within = absurd (omega arith)
  pairs_from_differ (x ∷ xs) h zero (suc j) d lt within = nowhere (key x) xs h.0 j d (omega arith)
  pairs_from_differ (x ∷ xs) h (suc i) (suc j) d lt within = pairs_from_differ xs h.1 i j d (omega arith) (omega arith)

-- numbers, states, classes and active entries
abbrev pub AllDiffer : List ℕ → Type 0
AllDiffer ns = Differ (λ n. n) ns

abbrev pub StatesDiffer : List NamedState → Type 0
StatesDiffer states = Differ (λ c. c.name) states

abbrev pub ClassesDiffer : List Class → Type 0
ClassesDiffer classes = Differ (λ c. c.name) classes

abbrev pub EntriesDiffer : List Entry → Type 0
EntriesDiffer active = Differ (λ e. e.class) active

pub numbers_apart : (ns : List ℕ) → AllPairs (λ m n. m ≢ n) ns → AllDiffer ns
numbers_apart ns h = differ_from_pairs (λ n. n) ns h

pub states_apart : (states : List NamedState) → AllPairs (λ a b. a.name ≢ b.name) states → StatesDiffer states
states_apart states h = differ_from_pairs (λ c. c.name) states h

pub entries_apart : (active : List Entry) → AllPairs (λ a b. a.class ≢ b.class) active → EntriesDiffer active
entries_apart active h = differ_from_pairs (λ e. e.class) active h

pub numbers_differ_from : (ns : List ℕ) → AllDiffer ns → AllPairs (λ m n. m ≢ n) ns
numbers_differ_from ns h = pairs_from_differ (λ n. n) ns h

pub states_differ_from : (states : List NamedState) → StatesDiffer states → AllPairs (λ a b. a.name ≢ b.name) states
states_differ_from states h = pairs_from_differ (λ c. c.name) states h
