-- An index of handles that is made of a tree address by address, and what is found in it.
use Rattle.std.proofs.Common.{◌≡◌, ℕ, zero, suc, ◌+◌, ◌-◌, ◌<◌, ◌≤◌, ◌∙◌, List, [], ◌∷◌, ◌++◌, drop, length, map, refl, sym, ap, ap₂, subst, append_assoc, append-nil, eqb, Option, Some, None, option_map, arith}
use Rattle.std.specs.Prelude.{Bool, true, false, not, nat_eq, ◌==◌, ◌||◌, cond, is_some, if◌then◌else◌, slice_index_or}
use Rattle.std.specs.List.{enumerate_from, find, flat_map, fold, sum}
use Rattle.std.specs.Map.{lookup}
use Rattle.std.proofs.lemmas.Bool.{ne_eqb, or_parts}
use Rattle.std.proofs.lemmas.List.{drop_more, drop_all, length-append, length-map, map-append}
use Rattle.std.proofs.lemmas.List.Sums.{fold-append, sum_by-cons}
use Rattle.arrayvec.specs.ArrayVec.{ArrayVec}
use Rattle.indexmap.specs.IndexMap.{insert_entry}
use Rattle.q_packet.specs.Least.{least}
use Rattle.q_drr.proofs.DifferLemmas.{Differ, differ_from_pairs}
use Rattle.q_drr.proofs.KeyLemmas.{has}
use Rattle.q_drr.proofs.NameLemmas.{eqb_swap, eqb_sym}
use Rattle.q_model.specs.Find.{Address, addresses, addresses_own, count_nodes, from_parent}
use Rattle.q_model.specs.Node.{Forest, none, more, Node, each}
use Rattle.q_invariants.specs.Kept.{AreApart}
use Rattle.q_invariants.proofs.tree.Forests.{each-nodes}
use Rattle.q_tree.specs.commands.Index.{added, address_of, addresses_beneath, free_among, has_among, listed, own_address, path_among, under}
use Rattle.q_tree.specs.Kept.{Kept}

abbrev key : Address → ℕ
key a = a.handle

-- ---- what is found

pub path-listed : (h : ℕ) (es : List (ℕ × ArrayVec ℕ)) → option_map (λ (v : ArrayVec ℕ). v.items) (lookup (nat_eq h) es) ≡ path_among h (listed es)
path-listed h [] = refl
path-listed h (e ∷ es) =
    ap (λ b. option_map (λ (v : ArrayVec ℕ). v.items) (cond b (Some e.1) (lookup (nat_eq h) es))) (eqb_sym h e.0) ∙ by (e.0 == h) (path-listed h es) where
      by : (b : Bool) → option_map (λ (v : ArrayVec ℕ). v.items) (lookup (nat_eq h) es) ≡ path_among h (listed es)
          → option_map (λ (v : ArrayVec ℕ). v.items) (cond b (Some e.1) (lookup (nat_eq h) es))
          ≡ option_map (λ (a : Address). a.path) (cond b (Some (address_of e)) (find (λ (a : Address). a.handle == h) (listed es)))
      by true same = refl
      by false same = same

pub has-listed : (h : ℕ) (es : List (ℕ × ArrayVec ℕ)) → is_some (lookup (nat_eq h) es) ≡ has_among h (listed es)
has-listed h [] = refl
has-listed h (e ∷ es) = ap (λ b. is_some (cond b (Some e.1) (lookup (nat_eq h) es))) (eqb_sym h e.0) ∙ by (e.0 == h) (has-listed h es) where
  by : (b : Bool) → is_some (lookup (nat_eq h) es) ≡ has_among h (listed es) → is_some (cond b (Some e.1) (lookup (nat_eq h) es)) ≡ (b || has_among h (listed es))
  by true same = refl
  by false same = same

-- another handle than the root's
module _ (h : ℕ) (xs : List Address) where
  pub path-other : (root : Option ℕ) → (root ≡ Some h → ⊥) → path_among h xs ≡ path_among h (own_address [] root ++ xs)
  path-other None other = refl
  path-other (Some k) other =
      sym (ap (λ b. option_map (λ (a : Address). a.path) (cond b (Some (record { handle = k; path = [] })) (find (λ (a : Address). a.handle == h) xs))) (ne_eqb k h (λ e. other (ap Some e))))

  pub has-other : (root : Option ℕ) → (root ≡ Some h → ⊥) → has_among h xs ≡ has_among h (own_address [] root ++ xs)
  has-other None other = refl
  has-other (Some k) other = sym (ap (λ b. b || has_among h xs) (ne_eqb k h (λ e. other (ap Some e))))

-- ---- the first number that none of them is
abbrev pub is_free : List Address → ℕ → Bool
is_free found k = not (has_among (0x8001 + k) found)

-- the least from a number on, where all before it were tried
abbrev pub least_from : List Address → ℕ → ℕ
least_from found k = k + least (λ j. is_free found (k + j)) (length found - k)

pub free-is : (found : List Address) → 0x8001 + least_from found 0 ≡ free_among found
free-is found =
    let all : length found - 0 ≡ length found = omega arith in
    ap (λ m. 0x8001 + m) (ap (λ m. 0 + least (λ j. is_free found (0 + j)) m) all ∙ (λ i. 0 + least (λ j. is_free found (same j i)) (length found)) ∙ omega arith) where
      same : (j : ℕ) → 0 + j ≡ j
      same j = omega arith

module _ (found : List Address) (k : ℕ) (inside : k < length found) where
  further : length found - k ≡ suc (length found - (k + 1))
  further = omega (arith, inside)

  same-test : (j : ℕ) → is_free found (k + suc j) ≡ is_free found (k + 1 + j)
  same-test j = ap (is_free found) (omega arith)

  pub taken : is_free found k ≡ false → least_from found (k + 1) ≡ least_from found k
  taken e = sym (
      ap (λ m. k + least (λ j. is_free found (k + j)) m) further
      ∙ ap (λ b. k + (if b then zero else suc (least (λ j. is_free found (k + suc j)) (length found - (k + 1))))) (ap (is_free found) (omega arith) ∙ e)
      ∙ (λ i. k + suc (least (λ j. same-test j i) (length found - (k + 1))))
      ∙ omega arith
      )

  pub first-free : is_free found k ≡ true → least_from found k ≡ k
  first-free e =
      ap (λ m. k + least (λ j. is_free found (k + j)) m) further
      ∙ ap (λ b. k + (if b then zero else suc (least (λ j. is_free found (k + suc j)) (length found - (k + 1))))) (ap (is_free found) (omega arith) ∙ e)
      ∙ omega arith

pub none-free : (found : List Address) (k : ℕ) → k ≡ length found → least_from found k ≡ k
none-free found k is =
    let none : length found - k ≡ 0 = omega (arith, is) in
    ap (λ m. k + least (λ j. is_free found (k + j)) m) none ∙ omega arith

-- ---- the addresses of a tree, node by node

abbrev lifted : ℕ → Address → Address
lifted k a = record a { path = k ∷ a.path }

-- the addresses beneath children of which the first is the k-th
abbrev pub addresses_from : ℕ → List (Node Kept) → List Address
addresses_from k ns = flat_map (λ child. map (λ (a : Address). record a { path = child.0 ∷ a.path }) child.1) (enumerate_from k (map addresses ns))

-- a node's own, and those beneath it
pub addresses-all : (n : Node Kept) → addresses n ≡ own_address [] n.own.handle ++ addresses_beneath n
addresses-all n = by n.own.handle ∙ ap (λ xs. own_address [] n.own.handle ++ from_parent xs) (each-nodes addresses_own n.below) where
  by : (o : Option ℕ) → addresses_own (record n.own { handle = o }) (each addresses_own n.below) ≡ own_address [] o ++ from_parent (each addresses_own n.below)
  by None = refl
  by (Some h) = refl

under-own : (p : List ℕ) (o : Option ℕ) → map (under p) (own_address [] o) ≡ own_address p o
under-own p None = refl
under-own p (Some h) = ap (λ q. record { handle = h; path = q } ∷ []) (append-nil p)

under-all : (p : List ℕ) (n : Node Kept) → map (under p) (addresses n) ≡ own_address p n.own.handle ++ map (under p) (addresses_beneath n)
under-all p n =
    ap (map (under p)) (addresses-all n) ∙ map-append (under p) (own_address [] n.own.handle) (addresses_beneath n)
    ∙ ap (λ xs. xs ++ map (under p) (addresses_beneath n)) (under-own p n.own.handle)

under-lifted : (p : List ℕ) (k : ℕ) (xs : List Address) → map (under p) (map (lifted k) xs) ≡ map (under (p ++ k ∷ [])) xs
under-lifted p k [] = refl
under-lifted p k (a ∷ xs) = ap₂ (λ q ys. record { handle = a.handle; path = q } ∷ ys) (sym (append_assoc p (k ∷ []) a.path)) (under-lifted p k xs)

under-nothing : (xs : List Address) → map (under []) xs ≡ xs
under-nothing [] = refl
under-nothing (a ∷ xs) = ap (λ ys. a ∷ ys) (under-nothing xs)

-- ---- one child more

module _ (ns : List (Node Kept)) (i : ℕ) where
  module _ (n : Node Kept) (inside : i < length ns) (is : n ≡ slice_index_or ns i n) where
    from-here : addresses_from i (drop i ns) ≡ map (lifted i) (addresses n) ++ addresses_from (i + 1) (drop (i + 1) ns)
    from-here = ap (addresses_from i) (drop_more ns i n inside ∙ ap (λ x. x ∷ drop (i + 1) ns) (sym is))

    pub length-next : (p : List ℕ) → length (addresses_from i (drop i ns)) ≡ length (own_address p n.own.handle) + length (addresses_beneath n) + length (addresses_from (i + 1) (drop (i + 1) ns))
    length-next p =
        ap length from-here ∙ length-append (map (lifted i) (addresses n)) (addresses_from (i + 1) (drop (i + 1) ns))
        ∙ ap (λ k. k + length (addresses_from (i + 1) (drop (i + 1) ns)))
        (length-map (addresses n) (lifted i) ∙ ap length (addresses-all n) ∙ length-append (own_address [] n.own.handle) (addresses_beneath n)
        ∙ ap (λ k. k + length (addresses_beneath n)) (one n.own.handle)) where
          one : (o : Option ℕ) → length (own_address [] o) ≡ length (own_address p o)
          one None = refl
          one (Some h) = refl

    pub added-next : (path way : List ℕ) (before own after : List Address) → way ≡ path ++ i ∷ []
        → own ≡ fold added before (own_address way n.own.handle) → after ≡ fold added own (map (under way) (addresses_beneath n))
        → fold added after (map (under path) (addresses_from (i + 1) (drop (i + 1) ns))) ≡ fold added before (map (under path) (addresses_from i (drop i ns)))
    added-next path way before own after step first last =
        let rest : List Address = map (under path) (addresses_from (i + 1) (drop (i + 1) ns)) in
        let here : map (under path) (addresses_from i (drop i ns)) ≡ map (under way) (addresses n) ++ rest =
        ap (map (under path)) from-here ∙ map-append (under path) (map (lifted i) (addresses n)) (addresses_from (i + 1) (drop (i + 1) ns))
        ∙ ap (λ xs. xs ++ rest) (under-lifted path i (addresses n) ∙ ap (λ p. map (under p) (addresses n)) (sym step)) in
        sym (
        ap (fold added before) here
        ∙ fold-append added before (map (under way) (addresses n)) rest
        ∙ ap (λ xs. fold added xs rest) (ap (fold added before) (under-all way n) ∙ fold-append added before (own_address way n.own.handle) (map (under way) (addresses_beneath n))
        ∙ ap (λ xs. fold added xs (map (under way) (addresses_beneath n))) (sym first) ∙ sym last)
        )

  pub none-left : length ns ≤ i → addresses_from i (drop i ns) ≡ []
  none-left past = ap (addresses_from i) (drop_all i ns past)

-- ---- inserting

pub listed-insert : (es : List (ℕ × ArrayVec ℕ)) (k : ℕ) (v : ArrayVec ℕ) → listed (insert_entry nat_eq es k v) ≡ added (listed es) (address_of (k, v))
listed-insert [] k v = refl
listed-insert (e ∷ es) k v = by (k == e.0) (listed-insert es k v) where
  by : (b : Bool) → listed (insert_entry nat_eq es k v) ≡ added (listed es) (address_of (k, v))
      → listed (if b then (e.0, v) ∷ es else e ∷ insert_entry nat_eq es k v) ≡
      (if b then record (address_of e) { path = v.items } ∷ listed es else address_of e ∷ added (listed es) (address_of (k, v)))
  by true same = refl
  by false same = ap (λ xs. address_of e ∷ xs) same

-- a handle that is not there goes last
added-last : (a : Address) (xs : List Address) → has key a.handle xs ≡ false → added xs a ≡ xs ++ a ∷ []
added-last a [] e = refl
added-last a (x ∷ xs) e =
    let parts = or_parts (eqb a.handle x.handle) (has key a.handle xs) e in
    ap (λ b. if b then record x { path = a.path } ∷ xs else x ∷ added xs a) parts.0 ∙ ap (λ ys. x ∷ ys) (added-last a xs parts.1)

absent-before : (a : Address) (xs ys : List Address) → Differ key (xs ++ a ∷ ys) → has key a.handle xs ≡ false
absent-before a [] ys d = refl
absent-before a (x ∷ xs) ys d = ap₂ (λ s t. s || t) (eqb_swap x.handle a.handle (apart-from xs d.0)) (absent-before a xs ys d.1) where
  apart-from : (zs : List Address) → has key x.handle (zs ++ a ∷ ys) ≡ false → eqb x.handle a.handle ≡ false
  apart-from [] e = (or_parts (eqb x.handle a.handle) (has key x.handle ys) e).0
  apart-from (z ∷ zs) e = apart-from zs (or_parts (eqb x.handle z.handle) (has key x.handle (zs ++ a ∷ ys)) e).1

-- handles that differ are listed as they come
all-added : (xs ys : List Address) → Differ key (xs ++ ys) → fold added xs ys ≡ xs ++ ys
all-added xs [] d = sym (append-nil xs)
all-added xs (a ∷ ys) d =
    ap (λ zs. fold added zs ys) (added-last a xs (absent-before a xs ys d))
    ∙ all-added (xs ++ a ∷ []) ys (subst (Differ key) (sym (append_assoc xs (a ∷ []) ys)) d)
    ∙ append_assoc xs (a ∷ []) ys

module _ (n : Node Kept) (xs : List Address) (apart : AreApart n) (is : xs ≡ fold added [] (map (under []) (addresses_beneath n))) where
  pub all-beneath : xs ≡ addresses_beneath n
  all-beneath =
      is ∙ ap (fold added []) (under-nothing (addresses_beneath n))
      ∙ all-added [] (addresses_beneath n) (beneath n.own.handle (subst (Differ key) (addresses-all n) (differ_from_pairs key (addresses n) apart))) where
        beneath : (o : Option ℕ) → Differ key (own_address [] o ++ addresses_beneath n) → Differ key (addresses_beneath n)
        beneath None d = d
        beneath (Some h) d = d.1

  pub renewed : own_address [] n.own.handle ++ xs ≡ addresses n
  renewed = ap (λ ys. own_address [] n.own.handle ++ ys) all-beneath ∙ sym (addresses-all n)

-- ---- how many there are: one less than nodes, beneath a root, at most

abbrev nodes_own : {A : Type 0} → A → List ℕ → ℕ
nodes_own own below = suc (sum below)

few-own : (o : Option ℕ) (own : _) (below : List (List Address)) → length (addresses_own (record own { handle = o }) below) ≤ suc (length (from_parent below))
few-own None own below = omega arith
few-own (Some h) own below = omega arith

few-in : (k : ℕ) (x : Forest Kept) → length (flat_map (λ child. map (λ (a : Address). record a { path = child.0 ∷ a.path }) child.1) (enumerate_from k (each addresses_own x))) ≤ sum (each nodes_own x)
few-in k none = omega arith
few-in k (more own m below others) =
    omega (
      arith,
      length-append (map (lifted k) (addresses_own own (each addresses_own below)))
          (flat_map (λ child. map (λ (a : Address). record a { path = child.0 ∷ a.path }) child.1)
          (enumerate_from (k + 1) (each addresses_own others))),
      length-map (addresses_own own (each addresses_own below)) (lifted k),
      few-own own.handle own (each addresses_own below),
      few-in 0 below,
      few-in (k + 1) others,
      sum_by-cons (λ j. j) (suc (sum (each nodes_own below))) (each nodes_own others),
    )

pub few-beneath : (n : Node Kept) → length (addresses_beneath n) + 1 ≤ count_nodes n
few-beneath n = omega (arith, few-in 0 n.below, ap (λ xs. length (from_parent xs)) (each-nodes addresses_own n.below))

pub few-all : (n : Node Kept) → length (addresses n) ≤ count_nodes n
few-all n = omega (arith, few-beneath n, ap length (addresses-all n), length-append (own_address [] n.own.handle) (addresses_beneath n), one n.own.handle) where
  one : (o : Option ℕ) → length (own_address [] o) ≤ 1
  one None = omega arith
  one (Some h) = omega arith
