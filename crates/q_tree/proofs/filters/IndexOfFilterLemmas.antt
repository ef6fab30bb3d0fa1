-- A search among filters by their homes finds the first that takes a packet.
use Rattle.std.proofs.Common.{◌≡◌, ◌∙◌, ℕ, zero, suc, ◌*◌, ◌<◌, ◌≤◌, List, [], ◌∷◌, ◌++◌, length, refl, sym, ap, subst, Some, None, arith}
use Rattle.std.proofs.lemmas.Bool.{cases_order}
use Rattle.std.proofs.lemmas.Option.{none-some, same_Some, slice_get-get_or, slice_get_cases, slice_get_within}
use mathlib.Core.Logic.{◌⊎◌, inl, inr}
use Rattle.std.specs.List.{find}
use Rattle.std.specs.Prelude.{Bool, true, false, get_or, if◌then◌else◌, slice_get}
use Rattle.q_packet.specs.Descriptor.{Descriptor}
use Rattle.q_packet.specs.Key.{IsKey}
use Rattle.q_model.specs.Filters.{matches}
use Rattle.q_model.specs.declared.filter.Filter.{Filter}
use Rattle.q_tree.specs.filters.Chains.{IsNext}
use Rattle.q_tree.specs.filters.FilterShapes.{Parts, bucket, parts_of, parts_wanted, shape_of, spread, with_addresses}
use Rattle.q_tree.specs.filters.IndexOfFilters.{AreHomes, AreShapesIn, IsHome, IsShapeIn, home_of}
use Rattle.q_tree.specs.declared.filters.filter_shape.FilterShape.{FilterShape}
use Rattle.q_tree.proofs.filters.ShapeLemmas.{parts-wanted}

-- the element in the first place where it holds
pub find-place : {A : Type 0} (P : A → Bool) (xs : List A) (n : ℕ) → n ≤ length xs → ((x : A) → n < length xs → slice_get xs n ≡ Some x → P x ≡ true)
    → ((j : ℕ) (x : A) → j < n → slice_get xs j ≡ Some x → P x ≡ false) → slice_get xs n ≡ find P xs
find-place P [] n within there before = refl
find-place P (x ∷ xs) zero within there before = sym (ap (λ b. if b then Some x else find P xs) (there x (omega arith) refl))
find-place P (x ∷ xs) (suc n) within there before =
    find-place P xs n (omega (arith, within)) (λ y low e. there y (omega (arith, low)) e) (λ j y low e. before (suc j) y (omega (arith, low)) e)
    ∙ sym (ap (λ b. if b then Some x else find P xs) (before 0 x (omega arith) refl))

-- that it holds of none of a home before one place, of none there, and so of none before the next of that home
pub passed-more : {A : Type 0} (P : A → Bool) (homes : List ℕ) (xs : List A) (home place next : ℕ) (x : A) → slice_get xs place ≡ Some x → P x ≡ false
    → ((j : ℕ) (y : A) → j < place → slice_get homes j ≡ Some home → slice_get xs j ≡ Some y → P y ≡ false) → IsNext homes home (suc place) next
    → (j : ℕ) (y : A) → j < next → slice_get homes j ≡ Some home → slice_get xs j ≡ Some y → P y ≡ false
passed-more P homes xs home place next x here false_here before behind j y low of_home is = by (cases_order j place)
  where
    by : (j ≡ place) ⊎ ((j < place) ⊎ (place < j)) → P y ≡ false
    by (inl same) =
        let one : x ≡ y = same_Some x y (sym here ∙ ap (slice_get xs) (sym same) ∙ is) in
        ap P (sym one) ∙ false_here
    by (inr (inl earlier)) = before j y earlier of_home is
    by (inr (inr later)) = absurd (behind.first j later low of_home)

-- an element of a list with one more is one of the list, or that one
push-cases : {A : Type 0} (xs : List A) (x : A) (j : ℕ) (y : A) → slice_get (xs ++ x ∷ []) j ≡ Some y → (slice_get xs j ≡ Some y) ⊎ ((j ≡ length xs) × (x ≡ y))
push-cases [] x zero y h = inr (refl, same_Some x y h)
push-cases [] x (suc j) y h = absurd (none-some y h)
push-cases (z ∷ xs) x zero y h = inl h
push-cases (z ∷ xs) x (suc j) y h = on (push-cases xs x j y h)
  where
    on : (slice_get xs j ≡ Some y) ⊎ ((j ≡ length xs) × (x ≡ y)) → (slice_get (z ∷ xs) (suc j) ≡ Some y) ⊎ ((suc j ≡ length (z ∷ xs)) × (x ≡ y))
    on (inl e) = inl e
    on (inr e) = inr (ap suc e.0, e.1)

-- one shape more is that of a filter
pub shapes-more : (filters : List Filter) (shapes shapes2 : List FilterShape) (place : ℕ) (f : Filter) (shape : FilterShape) → slice_get filters place ≡ Some f → shape ≡ shape_of f
    → ((i : ℕ) (s : FilterShape) → slice_get shapes2 i ≡ Some s → (slice_get shapes i ≡ Some s) ⊎ (s ≡ shape)) → AreShapesIn filters shapes → AreShapesIn filters shapes2
shapes-more filters shapes shapes2 place f shape there of_it added each i s is = by (added i s is)
  where
    by : (slice_get shapes i ≡ Some s) ⊎ (s ≡ shape) → IsShapeIn filters s
    by (inl old) = each i s old
    by (inr new) = record { place = place; filter = f; there = there; is = new ∙ of_it }

-- one filter more has its home, among shapes of which none is gone
pub homes-more : (shapes shapes2 : List FilterShape) (filters : List Filter) (homes : List ℕ) (f : Filter) (home : ℕ)
    → ((i : ℕ) (s : FilterShape) → slice_get shapes i ≡ Some s → slice_get shapes2 i ≡ Some s)
    → AreHomes shapes filters homes → slice_get filters (length homes) ≡ Some f → IsHome shapes2 f home → AreHomes shapes2 filters (homes ++ home ∷ [])
homes-more shapes shapes2 filters homes f home stay each here new j h g of_filter of_home = by (push-cases homes home j h of_home)
  where
    by : (slice_get homes j ≡ Some h) ⊎ ((j ≡ length homes) × (home ≡ h)) → IsHome shapes2 g h
    by (inl e) =
        let old : IsHome shapes g h = each j h g of_filter e in
        record { group = old.group; shape = stay old.group (shape_of g) old.shape; is = old.is; range = old.range }
    by (inr e) =
        let same : f ≡ g = same_Some f g (sym here ∙ ap (slice_get filters) (sym e.0) ∙ of_filter) in
        subst (λ n. IsHome shapes2 g n) e.1 (subst (λ x. IsHome shapes2 x home) same new)

-- where no filter of the packet's bucket in any group takes it, none does
pub none-before : (p : Descriptor) (shapes : List FilterShape) (filters : List Filter) (homes : List ℕ) (first : ℕ) → IsKey p.key → length homes ≡ length filters → AreHomes shapes filters homes
    → ((g j : ℕ) (s : FilterShape) (f : Filter) → g < length shapes → slice_get shapes g ≡ Some s → j < first → slice_get homes j
    ≡ Some (home_of g (parts_of s p.key)) → slice_get filters j ≡ Some f → matches p f ≡ false)
    → (j : ℕ) (f : Filter) → j < first → slice_get filters j ≡ Some f → matches p f ≡ false
none-before p shapes filters homes first key long each passed j f low is = by (matches p f) refl
  where
    by : (b : Bool) → matches p f ≡ b → matches p f ≡ false
    by false e = e
    by true e =
        let home : ℕ = get_or homes j 0 in
        let inside : j < length homes = omega (arith, long, slice_get_within filters j f is) in
        let at_home : slice_get homes j ≡ Some home = slice_get-get_or homes j 0 inside in
        let of_f : IsHome shapes f home = each j home f is at_home in
        let same : parts_of (shape_of f) p.key ≡ parts_wanted f = parts-wanted p f of_f.range key e in
        let there : home ≡ home_of of_f.group (parts_of (shape_of f) p.key) = of_f.is ∙ ap (λ (q : Parts). home_of of_f.group q) (sym same) in
        passed of_f.group j (shape_of f) f (slice_get_within shapes of_f.group (shape_of f) of_f.shape) of_f.shape low (at_home ∙ ap Some there) is

-- a home is among the buckets of the groups
pub home-known : (shapes : List FilterShape) (filters : List Filter) (homes : List ℕ) → length homes ≡ length filters → ((q : Parts) → bucket q < 256)
    → AreHomes shapes filters homes → (j home : ℕ) → slice_get homes j ≡ Some home → home < length shapes * 256
home-known shapes filters homes long small each j home is = at (slice_get_cases filters j).1
  where
    at : ((f : Filter) × (j < length filters) × (slice_get filters j ≡ Some f) × (get_or filters j f ≡ f)) ⊎ ((length filters ≤ j) × (slice_get filters j ≡ None)) → home < length shapes * 256
    at (inl e) =
        let of_f : IsHome shapes e.0 home = each j home e.0 e.2 is in
        omega (arith, slice_get_within shapes of_f.group (shape_of e.0) of_f.shape, small (parts_wanted e.0), of_f.is)
    at (inr e) = absurd (omega (arith, e.0, slice_get_within homes j home is, long))

spread-small : (n : ℕ) → spread n < 256
unfolding spread
spread-small n = omega arith

pub bucket-small : (q : Parts) → bucket q < 256
bucket-small q = spread-small (with_addresses q.word q.src q.dst)
