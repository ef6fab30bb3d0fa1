-- Lists of names in which no two are equal: membership, one more name, and rotation.
use Rattle.std.proofs.Common.{◌≡◌, ℕ, ◌<◌, ◌≤◌, Bool, true, false, eqb, ◌||◌, not, cond, List, [], ◌∷◌, ◌++◌, length, refl, sym, ap, ◌∙◌, subst, inl, inr, eq-eqb}
use Rattle.std.proofs.lemmas.Bool.{eqb-true, ne_eqb, false≢true, or_parts, or_from, cases_Bool}
use Rattle.std.proofs.lemmas.Map.Steps.{length-le_from_distinct_below}
use Rattle.std.specs.List.{IsDistinct, All, AllByRecursion}
use Rattle.std.proofs.lemmas.List.Elements.{All-head, All-tail}
use Rattle.q_drr.specs.Links.{is_among, without}
use Rattle.q_drr.proofs.DifferLemmas.{AllDiffer}

-- a number that is a member differs from one that is not
pub differ_by_member : (a l : ℕ) (ns : List ℕ) → is_among l ns ≡ true → is_among a ns ≡ false → eqb a l ≡ false
differ_by_member a l ns there absent = ne_eqb a l (λ e. false≢true (sym absent ∙ ap (λ m. is_among m ns) e ∙ there))

pub eqb_swap : (a b : ℕ) → eqb a b ≡ false → eqb b a ≡ false
eqb_swap a b e = ne_eqb b a (λ q. false≢true (sym e ∙ eq-eqb a b (sym q)))

pub eqb_sym : (a b : ℕ) → eqb a b ≡ eqb b a
eqb_sym a b = elim (cases_Bool (eqb b a)) [
  | inl e ↦ eq-eqb a b (sym (eqb-true b a e)) ∙ sym e
  | inr e ↦ eqb_swap b a e ∙ sym e
]

pub among_itself : (n : ℕ) (ns : List ℕ) → is_among n (n ∷ ns) ≡ true
among_itself n ns = ap (λ t. t || is_among n ns) (eq-eqb n n refl)

or_assoc : (a b c : Bool) → ((a || b) || c) ≡ (a || (b || c))
or_assoc true b c = refl
or_assoc false b c = refl

or_false : (a : Bool) → (a || false) ≡ a
or_false true = refl
or_false false = refl

pub or_left : (x y : Bool) → x ≡ true → (x || y) ≡ true
or_left true y e = refl
or_left false y e = absurd (false≢true e)

pub or_right : (x y : Bool) → y ≡ true → (x || y) ≡ true
or_right true y e = refl
or_right false y e = e

pub or_middle : (x y z : Bool) → (x || z) ≡ true → (x || (y || z)) ≡ true
or_middle true y z h = refl
or_middle false true z h = refl
or_middle false false z h = h

or_comm : (a b : Bool) → (a || b) ≡ (b || a)
or_comm true true = refl
or_comm true false = refl
or_comm false true = refl
or_comm false false = refl

pub is_among-append : (n : ℕ) (ns ms : List ℕ) → is_among n (ns ++ ms) ≡ (is_among n ns || is_among n ms)
is_among-append n [] ms = refl
is_among-append n (m ∷ ns) ms = ap (λ t. eqb n m || t) (is_among-append n ns ms) ∙ sym (or_assoc (eqb n m) (is_among n ns) (is_among n ms))

pub among_push : (n m : ℕ) (ns : List ℕ) → is_among n (ns ++ m ∷ []) ≡ (is_among n ns || eqb n m)
among_push n m ns = is_among-append n ns (m ∷ []) ∙ ap (λ t. is_among n ns || t) (or_false (eqb n m))

pub among_rotated : (n m : ℕ) (ns : List ℕ) → is_among n (ns ++ m ∷ []) ≡ is_among n (m ∷ ns)
among_rotated n m ns = among_push n m ns ∙ or_comm (is_among n ns) (eqb n m)

pub differ_push : (n : ℕ) (ns : List ℕ) → AllDiffer ns → is_among n ns ≡ false → AllDiffer (ns ++ n ∷ [])
differ_push n [] d absent = (refl, tt)
differ_push n (m ∷ ns) d absent =
    let parts = or_parts (eqb n m) (is_among n ns) absent in
    (among_push m n ns ∙ or_from (is_among m ns) (eqb m n) d.0 (eqb_swap n m parts.0), differ_push n ns d.1 parts.1)

pub differ_rotated : (n : ℕ) (ns : List ℕ) → AllDiffer (n ∷ ns) → AllDiffer (ns ++ n ∷ [])
differ_rotated n ns d = differ_push n ns d.1 d.0

-- what holds of each holds of a member
pub each_at : (P : ℕ → Type 0) (n : ℕ) (ns : List ℕ) → All P ns → is_among n ns ≡ true → P n
each_at P n [] h there = absurd (false≢true there)
each_at P n (m ∷ ns) h there = elim (cases_Bool (eqb n m)) [
  | inl e ↦ subst P (sym (eqb-true n m e)) (All-head P m ns h)
  | inr e ↦ each_at P n ns (All-tail P m ns h) (sym (ap (λ t. t || is_among n ns) e) ∙ there)
]

apart : (n : ℕ) (ns : List ℕ) → is_among n ns ≡ false → AllByRecursion (λ m. eqb n m ≡ false) ns
apart n [] absent = tt
apart n (m ∷ ns) absent = let parts = or_parts (eqb n m) (is_among n ns) absent in (parts.0, apart n ns parts.1)

-- as many as there are numbers below the bound, at most
distinct : (ns : List ℕ) → AllDiffer ns → IsDistinct eqb ns
unfolding IsDistinct
distinct [] d = tt
distinct (n ∷ ns) d = (apart n ns d.0, distinct ns d.1)

pub length_le_from_differ : (ns : List ℕ) (bound : ℕ) → AllDiffer ns → All (λ n. n < bound) ns → length ns ≤ bound
length_le_from_differ ns bound d below =
    length-le_from_distinct_below ns bound (distinct ns d) (λ q there. each_at (λ n. n < bound) q ns below there)

pub without_absent : (n : ℕ) (ns : List ℕ) → is_among n ns ≡ false → without n ns ≡ ns
without_absent n [] absent = refl
without_absent n (m ∷ ns) absent =
    let parts = or_parts (eqb n m) (is_among n ns) absent in
    ap (λ t. cond (not t) (m ∷ without n ns) (without n ns)) parts.0 ∙ ap (λ ms. m ∷ ms) (without_absent n ns parts.1)

-- the place of a member, and what is left without it
pub record Place (n : ℕ) (ns : List ℕ) : Type 0 where
  pub front : List ℕ
  pub rest : List ℕ
  pub is : ns ≡ front ++ n ∷ rest
  pub others : without n ns ≡ front ++ rest

pub place_of : (n : ℕ) (ns : List ℕ) → AllDiffer ns → is_among n ns ≡ true → Place n ns
place_of n [] d there = absurd (false≢true there)
place_of n (m ∷ ns) d there = elim (cases_Bool (eqb n m)) [
  | inl e ↦ let same : n ≡ m = eqb-true n m e in
      record {
        front = [];
        rest = ns;
        is = ap (λ k. k ∷ ns) (sym same);
        others = ap (λ t. cond (not t) (m ∷ without n ns) (without n ns)) e ∙ without_absent n ns (ap (λ k. is_among k ns) same ∙ d.0);
      }
  | inr e ↦ let p = place_of n ns d.1 (sym (ap (λ t. t || is_among n ns) e) ∙ there) in
      record {
        front = m ∷ p.front;
        rest = p.rest;
        is = ap (λ ks. m ∷ ks) p.is;
        others = ap (λ t. cond (not t) (m ∷ without n ns) (without n ns)) e ∙ ap (λ ks. m ∷ ks) p.others;
      }
]
