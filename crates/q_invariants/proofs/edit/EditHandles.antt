-- How often a handle stands in a tree: at most once, and not at all where it is free.
use Rattle.std.proofs.Common.{◌≡◌, ℕ, zero, suc, ◌+◌, ◌<◌, ◌≤◌, Bool, true, false, eqb, ◌||◌, not, List, [], ◌∷◌, ◌++◌, length, map, set, refl, sym, ap, ap₂, ◌∙◌, Option, Some, None, inl, inr, arith}
use Rattle.std.specs.Prelude.{slice_get, ◌==◌, if◌then◌else◌}
use Rattle.std.specs.List.{AllPairs, list_any, enumerate_from, flat_map}
use Rattle.std.specs.Option.{option_map_or}
use Rattle.std.proofs.lemmas.Bool.{false≢true, eqb-true, eq-eqb, ne_eqb, not-true, not-false, cases_Bool, cases_lt, or_parts, or_from, false_from_ne_true}
use Rattle.std.proofs.lemmas.Option.{none-some, same_Some}
use Rattle.q_packet.proofs.LeastLemmas.{least_le, least_holds, least_gt}
use Rattle.q_packet.specs.Least.{least}
use Rattle.q_drr.proofs.DifferLemmas.{Differ, differ_from_pairs, pairs_from_differ}
use Rattle.q_drr.proofs.NameLemmas.{eqb_sym}
use Rattle.q_drr.proofs.KeyLemmas.{has, others, has_others}
use Rattle.q_model.specs.Node.{Forest, none, more, Node, nodes_in, side_by_side, each}
use Rattle.q_model.specs.Find.{Address, from_parent, addresses_own, addresses, has_handle, free_handle}
use Rattle.q_invariants.specs.Kept.{AreApart}

-- one where it is this handle
abbrev pub one : ℕ → Option ℕ → ℕ
one h None = 0
one h (Some k) = if h == k then 1 else 0

abbrev pub times_below : {M : Type 0} → ℕ → Forest M → ℕ
times_below h none = 0
times_below h (more own m below others) = one h own.handle + times_below h below + times_below h others

abbrev pub times : {M : Type 0} → ℕ → Node M → ℕ
times h n = one h n.own.handle + times_below h n.below

-- one child changed
pub times-set : {M : Type 0} (h : ℕ) (x : Forest M) (i : ℕ) (old new : Node M) → slice_get (nodes_in x) i ≡ Some old
    → times_below h (side_by_side (set (nodes_in x) i new)) + times h old ≡ times_below h x + times h new
times-set h none i old new e = absurd (none-some old e)
times-set h (more own m below others) zero old new e =
    let same : one h own.handle + times_below h below ≡ times h old = ap (times h) (same_Some (record { own = own; memory = m; below = below }) old e) in
    omega (arith, same, times-side h others)
  where
    times-side : {M : Type 0} (h : ℕ) (x : Forest M) → times_below h (side_by_side (nodes_in x)) ≡ times_below h x
    times-side h none = refl
    times-side h (more own m below others) = ap (λ k. one h own.handle + times_below h below + k) (times-side h others)
times-set h (more own m below others) (suc i) old new e = omega (arith, times-set h others i old new e)

-- ---- addresses

abbrev key : Address → ℕ
key a = a.handle

abbrev among : ℕ → List Address → ℕ
among h [] = 0
among h (a ∷ found) = one h (Some a.handle) + among h found

among-append : (h : ℕ) (found bs : List Address) → among h (found ++ bs) ≡ among h found + among h bs
among-append h [] bs = omega arith
among-append h (a ∷ found) bs = omega (arith, among-append h found bs)

among-longer : (h k : ℕ) (found : List Address) → among h (map (λ (a : Address). record a { path = k ∷ a.path }) found) ≡ among h found
among-longer h k [] = refl
among-longer h k (a ∷ found) = ap (λ n. one h (Some a.handle) + n) (among-longer h k found)

abbrev among_each : ℕ → List (List Address) → ℕ
among_each h [] = 0
among_each h (found ∷ below) = among h found + among_each h below

abbrev prefixed : ℕ × List Address → List Address
prefixed child = map (λ (a : Address). record a { path = child.0 ∷ a.path }) child.1

among-enumerated : (h k : ℕ) (below : List (List Address)) → among h (flat_map prefixed (enumerate_from k below)) ≡ among_each h below
among-enumerated h k [] = refl
among-enumerated h k (found ∷ below) =
    omega (arith, among-append h (prefixed (k, found)) (flat_map prefixed (enumerate_from (k + 1) below)), among-longer h k found, among-enumerated h (k + 1) below)

among-own : (h : ℕ) (handle : Option ℕ) (below : List Address) → among h (option_map_or (λ k. record { handle = k; path = [] } ∷ below) handle below) ≡ one h handle + among h below
among-own h None below = omega arith
among-own h (Some k) below = refl

among_each-times : {M : Type 0} (h : ℕ) (x : Forest M) → among_each h (each addresses_own x) ≡ times_below h x
among_each-times h none = refl
among_each-times h (more own m below others) =
    omega (arith, among-own h own.handle (from_parent (each addresses_own below)), among-enumerated h 0 (each addresses_own below), among_each-times h below, among_each-times h others)

among-times : {M : Type 0} (h : ℕ) (n : Node M) → among h (addresses n) ≡ times h n
among-times h n =
    omega (arith, among-own h n.own.handle (from_parent (each addresses_own n.below)), among-enumerated h 0 (each addresses_own n.below), among_each-times h n.below)

-- ---- at most once

none_among : (h : ℕ) (found : List Address) → has key h found ≡ false → among h found ≡ 0
none_among h [] e = refl
none_among h (a ∷ found) e =
    let parts = or_parts (eqb h a.handle) (has key h found) e in
    let first : one h (Some a.handle) ≡ 0 = ap (λ (t : Bool). if t then 1 else 0) parts.0 in
    omega (arith, first, none_among h found parts.1)

none_there : (h : ℕ) (found : List Address) → among h found ≡ 0 → has key h found ≡ false
none_there h [] e = refl
none_there h (a ∷ found) e = elim (cases_Bool (eqb h a.handle)) [
  | inl same ↦
      let first : one h (Some a.handle) ≡ 1 = ap (λ (t : Bool). if t then 1 else 0) same in
      absurd (omega (arith, first, e))
  | inr apart ↦ or_from (eqb h a.handle) (has key h found) apart (none_there h found (omega arith))
]

once_from_differ : (h : ℕ) (found : List Address) → Differ key found → among h found ≤ 1
once_from_differ h [] d = omega arith
once_from_differ h (a ∷ found) d = elim (cases_Bool (eqb h a.handle)) [
  | inl same ↦
      let first : one h (Some a.handle) ≡ 1 = ap (λ (t : Bool). if t then 1 else 0) same in
      let rest : among h found ≡ 0 = none_among h found (ap (λ k. has key k found) (eqb-true h a.handle same) ∙ d.0) in
      omega (arith, first, rest)
  | inr apart ↦
      let first : one h (Some a.handle) ≡ 0 = ap (λ (t : Bool). if t then 1 else 0) apart in
      omega (arith, first, once_from_differ h found d.1)
]

differ_from_once : (found : List Address) → ((h : ℕ) → among h found ≤ 1) → Differ key found
differ_from_once [] h = tt
differ_from_once (a ∷ found) h =
    let first : one a.handle (Some a.handle) ≡ 1 = ap (λ (t : Bool). if t then 1 else 0) (eq-eqb a.handle a.handle refl) in
    (none_there a.handle found (omega (arith, h a.handle, first)), differ_from_once found (λ k. omega (arith, h k)))

pub once-apart : {M : Type 0} (n : Node M) (h : ℕ) → AreApart n → times h n ≤ 1
once-apart n h apart = omega (arith, among-times h n, once_from_differ h (addresses n) (differ_from_pairs key (addresses n) apart))

pub apart-once : {M : Type 0} (n : Node M) → ((h : ℕ) → times h n ≤ 1) → AreApart n
apart-once n once = pairs_from_differ key (addresses n) (differ_from_once (addresses n) (λ h. omega (arith, among-times h n, once h)))

-- ---- a handle that no node has

has_swapped : (h : ℕ) (found : List Address) → list_any (λ (a : Address). a.handle == h) found ≡ has key h found
has_swapped h [] = refl
has_swapped h (a ∷ found) = ap₂ (λ s t. s || t) (eqb_sym a.handle h) (has_swapped h found)

pub times-absent : {M : Type 0} (h : ℕ) (n : Node M) → has_handle h n ≡ false → times h n ≡ 0
times-absent h n e = sym (among-times h n) ∙ none_among h (addresses n) (sym (has_swapped h (addresses n)) ∙ e)

fewer_others : (h : ℕ) (found : List Address) → length (others key h found) ≤ length found
fewer_others h [] = omega arith
fewer_others h (a ∷ found) = elim (cases_Bool (eqb h a.handle)) [
  | inl e ↦ omega (arith, ap (λ (t : Bool). length (if not t then a ∷ others key h found else others key h found)) e, fewer_others h found)
  | inr e ↦ omega (arith, ap (λ (t : Bool). length (if not t then a ∷ others key h found else others key h found)) e, fewer_others h found)
]

shorter_others : (h : ℕ) (found : List Address) → has key h found ≡ true → suc (length (others key h found)) ≤ length found
shorter_others h [] e = absurd (false≢true e)
shorter_others h (a ∷ found) e = elim (cases_Bool (eqb h a.handle)) [
  | inl s ↦ omega (arith, ap (λ (t : Bool). length (if not t then a ∷ others key h found else others key h found)) s, fewer_others h found)
  | inr s ↦ omega (
    arith,
    ap (λ (t : Bool). length (if not t then a ∷ others key h found else others key h found)) s,
    shorter_others h found (sym (ap (λ t. t || has key h found) s) ∙ e),
  )
]

-- so many handles in a row take as many addresses
each_takes_one : (from k : ℕ) (found : List Address) → ((i : ℕ) → i < k → has key (from + i) found ≡ true) → k ≤ length found
each_takes_one from zero found h = omega arith
each_takes_one from (suc k) found h =
    omega (
      arith,
      shorter_others (from + k) found (h k (omega arith)),
      each_takes_one from k (others key (from + k) found)
          (λ i lt. has_others key (from + i) (from + k) found (ne_eqb (from + k) (from + i) (λ e. omega arith)) ∙ h i (omega arith)),
    )

pub free_handle-absent : {M : Type 0} (n : Node M) → has_handle (free_handle n) n ≡ false
free_handle-absent n = elim (cases_lt (least p k) k) [
  | inl lt ↦ not-true (has_handle (0x8001 + least p k) n) (least_holds p k lt)
  | inr ge ↦ false_from_ne_true (has_handle (0x8001 + least p k) n) (λ e. all_taken ge e)
]
  where
    k : ℕ
    k = length (addresses n)

    p : ℕ → Bool
    p i = not (has_handle (0x8001 + i) n)

    all_taken : k ≤ least p k → has_handle (0x8001 + least p k) n ≡ true → ⊥
    all_taken ge e =
        let taken : (i : ℕ) → i < suc k → has key (0x8001 + i) (addresses n) ≡ true = λ i lt.
        sym (has_swapped (0x8001 + i) (addresses n)) ∙ elim (cases_lt i (least p k)) [
          | inl below ↦ not-false (has_handle (0x8001 + i) n) (least_gt p k i below)
          | inr above ↦ ap (λ j. has_handle (0x8001 + j) n) (omega (arith, least_le p k)) ∙ e
        ] in
        omega (arith, each_takes_one 0x8001 (suc k) (addresses n) taken)
