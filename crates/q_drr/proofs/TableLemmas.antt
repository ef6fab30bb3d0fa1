-- The entries of a map from names to what is kept of each class, seen as the list of their states.
use Rattle.std.proofs.Common.{◌≡◌, ℕ, zero, suc, ◌+◌, ◌<◌, Some, None, Bool, false, eqb, not, cond, List, [], ◌∷◌, ◌++◌, map, length, set, refl, sym, ap, ◌∙◌, arith}
use Rattle.std.specs.Prelude.{◌==◌, nat_eq, nat_lt, if◌then◌else◌, slice_get, slice_index_or}
use Rattle.std.specs.List.{position, position_or_len, remove}
use Rattle.std.specs.Map.{keys_of, values_of}
use Rattle.std.proofs.lemmas.Bool.{or_parts}
use Rattle.std.proofs.lemmas.List.{length-map}
use Rattle.indexmap.specs.IndexMap.{insert_entry, set_value_at}
use Rattle.q_drr.specs.declared.class_table.ClassState.{ClassState}
use Rattle.q_drr.specs.States.{NamedState, no_state, name_in, named, named_entry, kept_of, has_state, place_of_state}

-- the place of a key is that of the class with this name
key_len : (n : ℕ) (es : List (ℕ × ClassState)) → position_or_len (nat_eq n) (keys_of es) ≡ position_or_len (λ (c : NamedState). n == c.name) (map named_entry es)
key_len n [] = refl
key_len n (e ∷ es) = ap (λ k. cond (not (n == e.0)) (1 + k) 0) (key_len n es)

pub place_of_key : (n : ℕ) (es : List (ℕ × ClassState)) → position (nat_eq n) (keys_of es) ≡ place_of_state n (map named_entry es)
place_of_key n es =
    ap (λ i. cond (nat_lt i (length (keys_of es))) (Some i) None) (key_len n es)
    ∙ ap (λ l. cond (nat_lt (position_or_len (λ (c : NamedState). n == c.name) (map named_entry es)) l) (Some (position_or_len (λ (c : NamedState). n == c.name) (map named_entry es))) None)
    (length-map es (λ e. e.0) ∙ sym (length-map es named_entry))

-- the value in a place
pub value_in : (es : List (ℕ × ClassState)) (place : ℕ) (c : ClassState) → slice_get (values_of es) place ≡ Some c → c ≡ kept_of (slice_index_or (map named_entry es) place no_state)
value_in [] place c e = cc
value_in (x ∷ es) zero c e = cc
value_in (x ∷ es) (suc place) c e = value_in es place c e

pub written : (es : List (ℕ × ClassState)) (place : ℕ) (c : ClassState) → place < length es
    → map named_entry (set_value_at es place c) ≡ set (map named_entry es) place (named (name_in (map named_entry es) place) c)
written [] place c lt = refl
written (x ∷ es) zero c lt = refl
written (x ∷ es) (suc place) c lt = ap (λ cs. named_entry x ∷ cs) (written es place c (omega arith))

-- a new name goes last
pub inserted : (n : ℕ) (c : ClassState) (es : List (ℕ × ClassState)) → has_state n (map named_entry es) ≡ false → map named_entry (insert_entry nat_eq es n c) ≡ map named_entry es ++ named n c ∷ []
inserted n c [] absent = refl
inserted n c (e ∷ es) absent =
    let parts = or_parts (eqb n e.0) (has_state n (map named_entry es)) absent in
    ap (λ (t : Bool). map named_entry (if t then (e.0, c) ∷ es else e ∷ insert_entry nat_eq es n c)) parts.0 ∙ ap (λ cs. named_entry e ∷ cs) (inserted n c es parts.1)

pub shifted : (es : List (ℕ × ClassState)) (place : ℕ) → map named_entry (remove es place) ≡ remove (map named_entry es) place
shifted [] zero = refl
shifted [] (suc place) = refl
shifted (e ∷ es) zero = refl
shifted (e ∷ es) (suc place) = ap (λ cs. named_entry e ∷ cs) (shifted es place)
