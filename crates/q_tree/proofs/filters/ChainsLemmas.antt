-- What one more place adds to the places that are linked by their homes.
use Rattle.std.proofs.Common.{◌≡◌, ◌∙◌, ℕ, zero, suc, ◌<◌, ◌≤◌, List, [], ◌∷◌, length, refl, sym, ap, subst, Some, arith}
use Rattle.std.proofs.lemmas.Bool.{cases_eq}
use Rattle.std.proofs.lemmas.Option.{none-some, same_Some, slice_get_past, slice_get_within}
use mathlib.Core.Logic.{◌⊎◌, inl, inr}
use Rattle.std.specs.Prelude.{replicate, set, slice_get}
use Rattle.q_tree.specs.filters.Chains.{IsNext}
use Rattle.q_tree.specs.filters.ChainsSeen.{AreFirsts, AreNexts}

-- an element of a list in which one was set is that one, or it was there
set-cases : (xs : List ℕ) (i y j x : ℕ) → slice_get (set xs i y) j ≡ Some x → ((j ≡ i) × (y ≡ x)) ⊎ ((j ≡ i → ⊥) × (slice_get xs j ≡ Some x))
set-cases [] i y j x h = absurd (none-some x h)
set-cases (z ∷ zs) zero y zero x h = inl (refl, same_Some y x h)
set-cases (z ∷ zs) zero y (suc j) x h = inr ((λ e. omega (arith, e)), h)
set-cases (z ∷ zs) (suc i) y zero x h = inr ((λ e. omega (arith, e)), h)
set-cases (z ∷ zs) (suc i) y (suc j) x h = on (set-cases zs i y j x h)
  where
    on : ((j ≡ i) × (y ≡ x)) ⊎ ((j ≡ i → ⊥) × (slice_get zs j ≡ Some x)) → ((suc j ≡ suc i) × (y ≡ x)) ⊎ ((suc j ≡ suc i → ⊥) × (slice_get zs j ≡ Some x))
    on (inl s) = inl (ap suc s.0, s.1)
    on (inr o) = inr ((λ e. o.0 (omega (arith, e))), o.1)

-- the places of a home from the last one back: this place is its first where it is of that home
pub firsts-more : (homes firsts : List ℕ) (place home : ℕ) → slice_get homes place ≡ Some home → AreFirsts homes (suc place) firsts → AreFirsts homes place (set firsts home place)
firsts-more homes firsts place home is h other to there = by (set-cases firsts home place other to there)
  where
    by : ((other ≡ home) × (place ≡ to)) ⊎ ((other ≡ home → ⊥) × (slice_get firsts other ≡ Some to)) → IsNext homes other place to
    by (inl s) =
        let within : place < length homes = slice_get_within homes place home is in
        record {
          behind = omega (arith, s.1);
          within = omega (arith, s.1, within);
          there = λ w. subst (λ n. slice_get homes n ≡ Some other) s.1 (is ∙ ap Some (sym s.0));
          first = λ j low high e. omega (arith, low, high, s.1);
        }
    by (inr o) =
        let next : IsNext homes other (suc place) to = h other to o.1 in
        record {
          behind = omega (arith, next.behind);
          within = next.within;
          there = next.there;
          first = λ j low high e. at j (cases_eq j place) low high e next;
        }
      where
        at : (j : ℕ) → (j ≡ place) ⊎ (j ≡ place → ⊥) → place ≤ j → j < to → slice_get homes j ≡ Some other → IsNext homes other (suc place) to → ⊥
        at j (inl same) low high e next = o.0 (same_Some other home (sym e ∙ ap (slice_get homes) same ∙ is))
        at j (inr differs) low high e next = next.first j (omega (arith, low, differs)) high e

-- and the one that was first is behind it
pub nexts-more : (homes firsts nexts : List ℕ) (place home to : ℕ) → slice_get homes place ≡ Some home → slice_get firsts home ≡ Some to
    → AreFirsts homes (suc place) firsts → AreNexts homes (suc place) nexts → AreNexts homes place (set nexts place to)
nexts-more homes firsts nexts place home to is front h k j other next low of_j there = by (set-cases nexts place to j next there)
  where
    by : ((j ≡ place) × (to ≡ next)) ⊎ ((j ≡ place → ⊥) × (slice_get nexts j ≡ Some next)) → IsNext homes other (suc j) next
    by (inl s) =
        let same : home ≡ other = same_Some home other (sym is ∙ ap (slice_get homes) (sym s.0) ∙ of_j) in
        subst (λ n. IsNext homes other (suc n) next) (sym s.0)
        (subst (λ n. IsNext homes other (suc place) n) s.1 (subst (λ n. IsNext homes n (suc place) to) same (h home to front)))
    by (inr o) = k j other next (omega (arith, low, o.0)) of_j o.1

-- a list of one number throughout
of-replicate : (n x i y : ℕ) → slice_get (replicate n x) i ≡ Some y → x ≡ y
of-replicate zero x i y h = absurd (none-some y h)
of-replicate (suc n) x zero y h = same_Some x y h
of-replicate (suc n) x (suc i) y h = of-replicate n x i y h

-- where no place is linked yet, none is found
pub firsts-none : (homes firsts : List ℕ) (count : ℕ) → firsts ≡ replicate count (length homes) → AreFirsts homes (length homes) firsts
firsts-none homes firsts count e home place there =
    let ends : length homes ≡ place = of-replicate count (length homes) home place (subst (λ xs. slice_get xs home ≡ Some place) e there) in
    record {
      behind = omega (arith, ends);
      within = omega (arith, ends);
      there = λ w. absurd (omega (arith, w, ends));
      first = λ j low high is. omega (arith, low, high, ends);
    }

pub nexts-none : (homes nexts : List ℕ) → AreNexts homes (length homes) nexts
nexts-none homes nexts j home place low is there = absurd (none-some home (sym (slice_get_past homes j low) ∙ is))

-- no place has a home that is known to no place
pub nobody-past : (homes : List ℕ) (count home : ℕ) → ((j h : ℕ) → slice_get homes j ≡ Some h → h < count) → count ≤ home → IsNext homes home 0 (length homes)
nobody-past homes count home known past = record {
  behind = omega arith;
  within = omega arith;
  there = λ w. absurd (omega (arith, w));
  first = λ j low high is. omega (arith, past, known j home is);
}
