-- The children of a node that is made anew, and what was beneath those that go.
use Rattle.std.proofs.Common.{◌≡◌, ℕ, zero, suc, ◌+◌, ◌-◌, ◌<◌, ◌≤◌, Bool, true, false, eqb, ◌||◌, List, [], ◌∷◌, ◌++◌, length, map, take, drop, replicate, refl, sym, ap, ap₂, ◌∙◌, Some, inl, inr, arith}
use Rattle.std.specs.Prelude.{slice_get, if◌then◌else◌}
use Rattle.std.specs.List.{enumerate_from, flat_map, list_any, range_with_len, remove}
use Rattle.std.specs.Option.{option_to_list}
use Rattle.std.proofs.lemmas.Bool.{eq-eqb, ne_eqb, or_left, or_right, or_from, cases_eq, cases_lt}
use Rattle.std.proofs.lemmas.Option.{none-some, same_Some}
use Rattle.std.proofs.lemmas.List.{length-drop, take_all}
use Rattle.std.proofs.lemmas.List.Concat.{flat_map-append}
use Rattle.std.proofs.lemmas.List.FromFn.{take-map-range_with_len}
use Rattle.q_packet.specs.Descriptor.{Descriptor}
use Rattle.q_model.specs.Tally.{Tally}
use Rattle.q_model.specs.Node.{Node, Shape, blank}
use Rattle.q_model.specs.Beneath.{beneath}
use Rattle.q_model.specs.Edit.{Child, Kept, New, child_of, keeps}
use Rattle.q_invariants.specs.Weights.{weigh}
use Rattle.q_invariants.proofs.sums.Joined.{joined}
use Rattle.q_invariants.proofs.sums.Weights.{weigh-nil, weigh-append}

abbrev pub kept_from : ℕ → ℕ → List Child
kept_from a k = map Kept (range_with_len a k)

-- ---- the children

-- some taken off the front
pub drop_kept : (i a k : ℕ) → drop i (kept_from a k) ≡ kept_from (a + i) (k - i)
drop_kept zero a k = ap₂ kept_from (omega arith) (omega arith)
drop_kept (suc i) a zero = ap (kept_from (a + suc i)) {x = 0} {y = 0 - suc i} (omega arith)
drop_kept (suc i) a (suc k) = drop_kept i (a + 1) k ∙ ap₂ kept_from (omega arith) (omega arith)

module _ {M : Type 0} (t : Tally M) where
  abbrev pub kids : List (Node M) → List Child → List (Node M)
  kids old below = flat_map (child_of t old) below

  pub kids-append : (old : List (Node M)) (xs ys : List Child) → kids old (xs ++ ys) ≡ kids old xs ++ kids old ys
  kids-append old xs ys = flat_map-append (child_of t old) xs ys

  -- children kept in a row are a part of those that there were
  kids_empty : (a k : ℕ) → kids [] (kept_from a k) ≡ []
  kids_empty a zero = refl
  kids_empty a (suc k) = kids_empty (a + 1) k

  kids_past : (n : Node M) (old : List (Node M)) (a k : ℕ) → kids (n ∷ old) (kept_from (suc a) k) ≡ kids old (kept_from a k)
  kids_past n old a zero = refl
  kids_past n old a (suc k) =
      ap (λ o. option_to_list (slice_get old a) ++ o)
      (ap (λ j. kids (n ∷ old) (kept_from j k)) (omega arith) ∙ kids_past n old (a + 1) k)

  take_none : (k : ℕ) → take {A = Node M} k [] ≡ []
  take_none zero = refl
  take_none (suc k) = refl

  pub kids_kept : (old : List (Node M)) (a k : ℕ) → kids old (kept_from a k) ≡ take k (drop a old)
  kids_kept [] zero k = kids_empty 0 k ∙ sym (take_none k)
  kids_kept [] (suc a) k = kids_empty (suc a) k ∙ sym (take_none k)
  kids_kept (n ∷ old) zero zero = refl
  kids_kept (n ∷ old) zero (suc k) = ap (λ o. n ∷ o) (ap (λ j. kids (n ∷ old) (kept_from j k)) (omega arith) ∙ kids_past n old 0 k ∙ kids_kept old 0 k)
  kids_kept (n ∷ old) (suc a) k = kids_past n old a k ∙ kids_kept old a k

  pub kids_new : (old : List (Node M)) (leaf : Shape) (k : ℕ) → kids old (replicate k (New leaf)) ≡ replicate k (blank t leaf)
  kids_new old leaf zero = refl
  kids_new old leaf (suc k) = ap (λ o. blank t leaf ∷ o) (kids_new old leaf k)

  -- all of them, and all but one
  pub kids_all : (old : List (Node M)) (k : ℕ) → k ≡ length old → kids old (kept_from 0 k) ≡ old
  kids_all old k e = kids_kept old 0 k ∙ take_all k old (omega arith)

  pub kids_removed : (old : List (Node M)) (k i : ℕ) → k ≡ length old → i < k → kids old (remove (kept_from 0 k) i) ≡ remove old i
  kids_removed old k i e lt =
      let from : 0 + suc i ≡ suc i = omega arith in
      let front : take i (kept_from 0 k) ≡ kept_from 0 i = take-map-range_with_len Kept 0 k i (omega arith) in
      let back : drop (suc i) (kept_from 0 k) ≡ kept_from (suc i) (k - suc i) = drop_kept (suc i) 0 k ∙ ap (λ j. kept_from j (k - suc i)) from in
      let enough : length (drop (suc i) old) ≤ k - suc i = omega (arith, length-drop (suc i) old) in
      kids-append old (take i (kept_from 0 k)) (drop (suc i) (kept_from 0 k))
      ∙ ap₂ (λ (a : List (Node M)) (b : List (Node M)). a ++ b) (ap (kids old) front ∙ kids_kept old 0 i)
      (ap (kids old) back ∙ kids_kept old (suc i) (k - suc i) ∙ take_all (k - suc i) (drop (suc i) old) enough)

-- ---- which stay

pub kept_there : (j a k : ℕ) → a ≤ j → j < a + k → list_any (keeps j) (kept_from a k) ≡ true
kept_there j a zero le lt = absurd (omega arith)
kept_there j a (suc k) le lt = elim (cases_eq j a) [
  | inl e ↦ or_left (eqb j a) (list_any (keeps j) (kept_from (a + 1) k)) (eq-eqb j a e)
  | inr apart ↦ or_right (eqb j a) (list_any (keeps j) (kept_from (a + 1) k)) (kept_there j (a + 1) k (omega arith) (omega arith))
]

pub kept_below : (j a k : ℕ) → j < a → list_any (keeps j) (kept_from a k) ≡ false
kept_below j a zero lt = refl
kept_below j a (suc k) lt =
    or_from (eqb j a) (list_any (keeps j) (kept_from (a + 1) k)) (ne_eqb j a (λ e. omega arith)) (kept_below j (a + 1) k (omega arith))

pub kept_above : (j a k : ℕ) → a + k ≤ j → list_any (keeps j) (kept_from a k) ≡ false
kept_above j a zero le = refl
kept_above j a (suc k) le =
    or_from (eqb j a) (list_any (keeps j) (kept_from (a + 1) k)) (ne_eqb j a (λ e. omega arith)) (kept_above j (a + 1) k (omega arith))

pub new_keeps : (j : ℕ) (leaf : Shape) (k : ℕ) → list_any (keeps j) (replicate k (New leaf)) ≡ false
new_keeps j leaf zero = refl
new_keeps j leaf (suc k) = new_keeps j leaf k

pub any-append : (test : Child → Bool) (xs ys : List Child) → list_any test (xs ++ ys) ≡ (list_any test xs || list_any test ys)
any-append test [] ys = refl
any-append test (x ∷ xs) ys = ap (λ t. test x || t) (any-append test xs ys) ∙ joined_or (test x) (list_any test xs) (list_any test ys)
  where
    joined_or : (a b c : Bool) → (a || (b || c)) ≡ ((a || b) || c)
    joined_or true b c = refl
    joined_or false b c = refl

-- ---- what was beneath those that go

abbrev pub gone : (ℕ → Bool) → ℕ → List (List Descriptor) → List Descriptor
gone keep a [] = []
gone keep a (ps ∷ below) = (if keep a then [] else ps) ++ gone keep (a + 1) below

-- all but one of those in a row
pub removed_is : (k i : ℕ) → i < k → remove (kept_from 0 k) i ≡ kept_from 0 i ++ kept_from (suc i) (k - suc i)
removed_is k i lt =
    let from : 0 + suc i ≡ suc i = omega arith in
    ap₂ (λ (a : List Child) (b : List Child). a ++ b) (take-map-range_with_len Kept 0 k i (omega arith))
    (drop_kept (suc i) 0 k ∙ ap (λ j. kept_from j (k - suc i)) from)

pub removed_keeps : (k i j : ℕ) → i < k → j < k → (j ≡ i → ⊥) → list_any (keeps j) (remove (kept_from 0 k) i) ≡ true
removed_keeps k i j lt within apart =
    ap (list_any (keeps j)) (removed_is k i lt) ∙ any-append (keeps j) (kept_from 0 i) (kept_from (suc i) (k - suc i)) ∙ elim (cases_lt j i) [
      | inl below ↦ or_left (list_any (keeps j) (kept_from 0 i)) (list_any (keeps j) (kept_from (suc i) (k - suc i))) (kept_there j 0 i (omega arith) (omega arith))
      | inr above ↦ or_right (list_any (keeps j) (kept_from 0 i)) (list_any (keeps j) (kept_from (suc i) (k - suc i)))
          (kept_there j (suc i) (k - suc i) (omega arith) (omega arith))
    ]

pub removed_goes : (k i : ℕ) → i < k → list_any (keeps i) (remove (kept_from 0 k) i) ≡ false
removed_goes k i lt =
    ap (list_any (keeps i)) (removed_is k i lt) ∙ any-append (keeps i) (kept_from 0 i) (kept_from (suc i) (k - suc i))
    ∙ or_from (list_any (keeps i) (kept_from 0 i)) (list_any (keeps i) (kept_from (suc i) (k - suc i))) (kept_above i 0 i (omega arith)) (kept_below i (suc i) (k - suc i) (omega arith))

pub gone_is : {M : Type 0} (keep : ℕ → Bool) (a : ℕ) (ns : List (Node M))
    → flat_map (λ (child : ℕ × Node M). if keep child.0 then [] else beneath child.1) (enumerate_from a ns) ≡ gone keep a (map beneath ns)
gone_is keep a [] = refl
gone_is keep a (n ∷ ns) = ap (λ o. (if keep a then [] else beneath n) ++ o) (gone_is keep (a + 1) ns)

-- nothing, where all stay; what is past some in front, where those stay; and one, where it alone goes
pub gone_none : (keep : ℕ → Bool) (a : ℕ) (below : List (List Descriptor)) → ((j : ℕ) → a ≤ j → j < a + length below → keep j ≡ true) → gone keep a below ≡ []
gone_none keep a [] h = refl
gone_none keep a (ps ∷ below) h =
    ap₂ (λ (t : Bool) (o : List Descriptor). (if t then [] else ps) ++ o) (h a (omega arith) (omega arith))
    (gone_none keep (a + 1) below (λ j le lt. h j (omega arith) (omega arith)))

pub gone_all : (keep : ℕ → Bool) (a : ℕ) (below : List (List Descriptor)) → ((j : ℕ) → a ≤ j → keep j ≡ false) → gone keep a below ≡ joined below
gone_all keep a [] h = refl
gone_all keep a (ps ∷ below) h =
    ap₂ (λ (t : Bool) (o : List Descriptor). (if t then [] else ps) ++ o) (h a (omega arith)) (gone_all keep (a + 1) below (λ j le. h j (omega arith)))

pub gone_past : (keep : ℕ → Bool) (a k : ℕ) (below : List (List Descriptor)) → ((j : ℕ) → a ≤ j → j < a + k → keep j ≡ true) → ((j : ℕ) → a + k ≤ j → keep j ≡ false)
    → gone keep a below ≡ joined (drop k below)
gone_past keep a zero below stay go = gone_all keep a below (λ j le. go j (omega arith))
gone_past keep a (suc k) [] stay go = refl
gone_past keep a (suc k) (ps ∷ below) stay go =
    ap₂ (λ (t : Bool) (o : List Descriptor). (if t then [] else ps) ++ o) (stay a (omega arith) (omega arith))
    (gone_past keep (a + 1) k below (λ j le lt. stay j (omega arith) (omega arith)) (λ j le. go j (omega arith)))

pub gone_one : (w : Descriptor → ℕ) (keep : ℕ → Bool) (a i : ℕ) (below : List (List Descriptor)) (ps : List Descriptor) → slice_get below i ≡ Some ps
    → ((j : ℕ) → a ≤ j → j < a + length below → (j ≡ a + i → ⊥) → keep j ≡ true) → keep (a + i) ≡ false → weigh w (gone keep a below) ≡ weigh w ps
gone_one w keep a i [] ps e stay go = absurd (none-some ps e)
gone_one w keep a zero (qs ∷ below) ps e stay go =
    let first : (if keep a then [] else qs) ≡ ps =
    ap (λ (t : Bool). if t then [] else qs) (ap keep (omega arith) ∙ go) ∙ same_Some qs ps e in
    let rest : gone keep (a + 1) below ≡ [] = gone_none keep (a + 1) below (λ j le lt. stay j (omega arith) (omega arith) (λ s. omega arith)) in
    omega (arith, weigh-append w (if keep a then [] else qs) (gone keep (a + 1) below), ap (weigh w) first, ap (weigh w) rest, weigh-nil w)
gone_one w keep a (suc i) (qs ∷ below) ps e stay go =
    let first : (if keep a then [] else qs) ≡ [] = ap (λ (t : Bool). if t then [] else qs) (stay a (omega arith) (omega arith) (λ s. omega arith)) in
    let rest : weigh w (gone keep (a + 1) below) ≡ weigh w ps =
    gone_one w keep (a + 1) i below ps e (λ j le lt apart. stay j (omega arith) (omega arith) (λ s. apart (omega arith))) (ap keep (omega arith) ∙ go) in
    omega (arith, weigh-append w (if keep a then [] else qs) (gone keep (a + 1) below), ap (weigh w) first, rest, weigh-nil w)
