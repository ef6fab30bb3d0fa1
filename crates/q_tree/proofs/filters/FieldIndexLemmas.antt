-- The first filter in the sets of all fields is the first that takes the packet.
use Rattle.std.proofs.Common.{◌≡◌, ◌∙◌, ◌⊎◌, ap, ap₂, ℕ, zero, suc, ◌<◌, ◌≤◌, sym, refl, subst, arith, inl, inr, List, [], ◌∷◌, ◌++◌, length, length-take, map, slice_get, Some}
use Rattle.std.specs.Prelude.{Bool, true, false, ◌&&◌, option_map}
use Rattle.std.specs.Option.{option_map_or}
use Rattle.std.specs.List.{find, insert, prefix_len, remove, take_while}
use Rattle.std.proofs.lemmas.Bool.{cases_lt}
use Rattle.std.proofs.lemmas.Option.{slice_get-map, slice_get_past}
use Rattle.q_packet.specs.Descriptor.{Descriptor}
use Rattle.q_packet.specs.Key.{IsKey, Key}
use Rattle.q_model.specs.Filters.{matches}
use Rattle.q_model.specs.declared.filter.Filter.{Filter}
use Rattle.q_tree.specs.filters.FieldSets.{IsFieldOf, is_in, takes_at}
use Rattle.q_tree.specs.filters.FieldValues.{dport_values, dst_values, family_values, proto_values, sport_values, src_values}
use Rattle.q_tree.specs.filters.FilterSets.{holds}
use Rattle.q_tree.specs.declared.filters.field_sets.Piece.{Piece}
use Rattle.q_tree.specs.declared.filters.field_sets.Values.{Values}
use Rattle.q_tree.specs.declared.filters.filter_set.FilterSet.{FilterSet}
use Rattle.q_tree.proofs.filters.FieldValueLemmas.{takes-in}
use Rattle.q_tree.proofs.filters.IndexOfFilterLemmas.{find-place}

takes_at-map : (t : Filter → Values) (filters : List Filter) (j x : ℕ) (f : Filter) → slice_get filters j ≡ Some f → takes_at (map t filters) j x ≡ is_in (t f) x
takes_at-map t filters j x f e =
    ap (λ o. option_map_or (λ (v : Values). is_in v x) o false) (slice_get-map t filters j ∙ ap (option_map t) e)

-- whether the filter in this place is in the sets of all fields
abbrev pub in_all : List Filter → Key → ℕ → Bool
in_all filters k j =
    (takes_at (map family_values filters) j k.family && takes_at (map proto_values filters) j k.proto)
    && ((takes_at (map src_values filters) j k.src && takes_at (map dst_values filters) j k.dst)
    && (takes_at (map sport_values filters) j k.sport && takes_at (map dport_values filters) j k.dport))

in_all-takes : (p : Descriptor) (filters : List Filter) (j : ℕ) (f : Filter) → IsKey p.key → slice_get filters j ≡ Some f → in_all filters p.key j ≡ matches p f
in_all-takes p filters j f key e =
    ap₂ (λ a b. a && b)
    (ap₂ (λ a b. a && b) (takes_at-map family_values filters j p.key.family f e) (takes_at-map proto_values filters j p.key.proto f e))
    (ap₂ (λ a b. a && b)
    (ap₂ (λ a b. a && b) (takes_at-map src_values filters j p.key.src f e) (takes_at-map dst_values filters j p.key.dst f e))
    (ap₂ (λ a b. a && b) (takes_at-map sport_values filters j p.key.sport f e) (takes_at-map dport_values filters j p.key.dport f e)))
    ∙ takes-in p f key

pub first-found : (p : Descriptor) (filters : List Filter) (s : FilterSet) (first : ℕ) → IsKey p.key → length filters ≤ 256 → ((j : ℕ) → holds s j ≡ in_all filters p.key j)
    → (first < 256 → holds s first ≡ true) → ((j : ℕ) → j < first → holds s j ≡ false) → slice_get filters first ≡ find (matches p) filters
first-found p filters s first key few is there before = by (cases_lt first (length filters))
  where
    each : (j : ℕ) (f : Filter) → slice_get filters j ≡ Some f → matches p f ≡ holds s j
    each j f e = sym (is j ∙ in_all-takes p filters j f key e)

    by : (first < length filters) ⊎ (length filters ≤ first) → slice_get filters first ≡ find (matches p) filters
    by (inl inside) =
        find-place (matches p) filters first (omega (arith, inside)) (λ f low e. each first f e ∙ there (omega (arith, inside, few))) (λ j f low e. each j f e ∙ before j low)
    by (inr past) =
        slice_get_past filters first past ∙ sym (slice_get_past filters (length filters) (omega arith))
        ∙ find-place (matches p) filters (length filters) (omega arith) (λ f low e. absurd (omega (arith, low))) (λ j f low e. each j f e ∙ before j (omega (arith, low, past)))

-- a field with a filter more
map-more : (t : Filter → Values) (filters : List Filter) (f : Filter) → map t filters ++ t f ∷ [] ≡ map t (filters ++ f ∷ [])
map-more t [] f = refl
map-more t (g ∷ filters) f = ap (λ vs. t g ∷ vs) (map-more t filters f)

pub length-more : (filters : List Filter) (f : Filter) → length (filters ++ f ∷ []) ≡ suc (length filters)
length-more [] f = refl
length-more (g ∷ filters) f = ap suc (length-more filters f)

pub length-values : (t : Filter → Values) (filters : List Filter) → length (map t filters) ≡ length filters
length-values t [] = refl
length-values t (g ∷ filters) = ap suc (length-values t filters)

pub field-more : (t : Filter → Values) (pieces : List Piece) (filters : List Filter) (f : Filter) (v : Values) → v ≡ t f → IsFieldOf pieces (map t filters ++ v ∷ [])
    → IsFieldOf pieces (map t (filters ++ f ∷ []))
field-more t pieces filters f v e field = subst (IsFieldOf pieces) (ap (λ w. map t filters ++ w ∷ []) e ∙ map-more t filters f) field

-- what was inserted is removed again
pub remove-insert : {A : Type 0} (xs : List A) (k : ℕ) (y : A) → k ≤ length xs → remove (insert xs k y) k ≡ xs
remove-insert xs zero y within = refl
remove-insert [] (suc k) y within = absurd (omega (arith, within))
remove-insert (x ∷ xs) (suc k) y within = ap (λ ys. x ∷ ys) (remove-insert xs k y (omega (arith, within)))

pub taken-within : {A : Type 0} (p : A → Bool) (xs : List A) → length (take_while p xs) ≤ length xs
taken-within p xs = omega (arith, length-take (prefix_len p xs) xs)
