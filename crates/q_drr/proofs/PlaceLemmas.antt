-- The active classes by their places in the table, and by the names that stand there.
use Rattle.std.proofs.Common.{◌≡◌, ◌≢◌, ℕ, zero, suc, ◌+◌, ◌-◌, ◌<◌, ◌≤◌, Bool, true, false, eqb, ◌||◌, not, cond, List, [], ◌∷◌, ◌++◌, map, length, take, drop, refl, sym, ap, ◌∙◌, inl, inr, arith, eq-eqb}
use Rattle.std.specs.Prelude.{if◌then◌else◌}
use Rattle.std.specs.List.{All, remove}
use Rattle.std.proofs.lemmas.Bool.{eqb-true, ne_eqb, false≢true, or_parts, cases_Bool, cases_lt, lt-ltb, le-ltb}
use Rattle.std.proofs.lemmas.List.{map-append, get_or_append_left}
use Rattle.std.proofs.lemmas.List.Edits.{get_or-remove_below, get_or-remove_above}
use Rattle.std.proofs.lemmas.List.Elements.{All-head, All-tail, All-nil, All-cons}
use Rattle.q_drr.specs.Links.{is_among, without, moved_down}
use Rattle.q_drr.specs.States.{NamedState, no_state, name_in, names_in, with_state}
use Rattle.q_drr.proofs.DifferLemmas.{StatesDiffer}
use Rattle.q_drr.proofs.StateLemmas.{stands_in}

-- two places have the same class where they are the same
same_place : (states : List NamedState) (p q : ℕ) → StatesDiffer states → p < length states → q < length states → eqb (name_in states p) (name_in states q) ≡ eqb p q
same_place states p q d inside within = elim (cases_Bool (eqb p q)) [
  | inl e ↦ eq-eqb (name_in states p) (name_in states q) (ap (name_in states) (eqb-true p q e)) ∙ sym e
  | inr e ↦ ne_eqb (name_in states p) (name_in states q) (λ same. false≢true (sym e ∙ eq-eqb p q ((stands_in states q d within).only p inside same))) ∙ sym e
]

pub among_places : (states : List NamedState) (place : ℕ) (ps : List ℕ) → StatesDiffer states → place < length states → All (λ p. p < length states) ps
    → is_among (name_in states place) (names_in states ps) ≡ is_among place ps
among_places states place [] d lt all = refl
among_places states place (p ∷ ps) d lt all =
    ap (λ t. t || is_among (name_in states place) (names_in states ps)) (same_place states place p d lt (All-head (λ p. p < length states) p ps all))
    ∙ ap (λ t. eqb place p || t) (among_places states place ps d lt (All-tail (λ p. p < length states) p ps all))

pub without_places : (states : List NamedState) (place : ℕ) (ps : List ℕ) → StatesDiffer states → place < length states → All (λ p. p < length states) ps
    → names_in states (without place ps) ≡ without (name_in states place) (names_in states ps)
without_places states place [] d lt all = refl
without_places states place (p ∷ ps) d lt all =
    let n = name_in states place in
    let rest = without_places states place ps d lt (All-tail (λ p. p < length states) p ps all) in
    let same = same_place states place p d lt (All-head (λ p. p < length states) p ps all) in
    split (eqb place p) (without place ps)
    ∙ ap (λ ns. cond (not (eqb place p)) (name_in states p ∷ ns) ns) rest
    ∙ ap (λ t. cond (not t) (name_in states p ∷ without n (names_in states ps)) (without n (names_in states ps))) (sym same)
  where
    split : (t : Bool) (qs : List ℕ) → names_in states (cond (not t) (p ∷ qs) qs) ≡ cond (not t) (name_in states p ∷ names_in states qs) (names_in states qs)
    split true qs = refl
    split false qs = refl

pub names_rotated : (states : List NamedState) (ps : List ℕ) → names_in states (drop 1 ps ++ take 1 ps) ≡ drop 1 (names_in states ps) ++ take 1 (names_in states ps)
names_rotated states [] = refl
names_rotated states (p ∷ ps) = map-append (name_in states) ps (p ∷ [])

pub names_pushed : (states : List NamedState) (ps : List ℕ) (p n : ℕ) → name_in states p ≡ n → names_in states (ps ++ p ∷ []) ≡ names_in states ps ++ n ∷ []
names_pushed states ps p n e = map-append (name_in states) ps (p ∷ []) ∙ ap (λ m. names_in states ps ++ m ∷ []) e

name_with : (new : NamedState) (states : List NamedState) (p : ℕ) → name_in (with_state new states) p ≡ name_in states p
name_with new [] p = refl
name_with new (c ∷ states) zero = elim (cases_Bool (eqb new.name c.name)) [
  | inl e ↦ ap (λ (t : Bool). (if t then new else c).name) e ∙ eqb-true new.name c.name e
  | inr e ↦ ap (λ (t : Bool). (if t then new else c).name) e
]
name_with new (c ∷ states) (suc p) = name_with new states p

pub names_with : (new : NamedState) (states : List NamedState) (ps : List ℕ) → names_in (with_state new states) ps ≡ names_in states ps
names_with new states [] = refl
names_with new states (p ∷ ps) =
    ap (λ n. n ∷ names_in (with_state new states) ps) (name_with new states p) ∙ ap (λ ns. name_in states p ∷ ns) (names_with new states ps)

pub names_added : (states : List NamedState) (new : NamedState) (ps : List ℕ) → All (λ p. p < length states) ps → names_in (states ++ new ∷ []) ps ≡ names_in states ps
names_added states new [] all = refl
names_added states new (p ∷ ps) all =
    ap (λ (c : NamedState). c.name ∷ names_in (states ++ new ∷ []) ps) (get_or_append_left states (new ∷ []) no_state p (All-head (λ p. p < length states) p ps all))
    ∙ ap (λ ns. name_in states p ∷ ns) (names_added states new ps (All-tail (λ p. p < length states) p ps all))

-- a place once a gap is closed
pub down_above : (gap p : ℕ) → gap < p → moved_down gap p ≡ p - 1
down_above gap p lt = ap (λ (t : Bool). if t then p - 1 else p) (lt-ltb gap p lt)

pub down_below : (gap p : ℕ) → p ≤ gap → moved_down gap p ≡ p
down_below gap p le = ap (λ (t : Bool). if t then p - 1 else p) (le-ltb gap p le)

pub other_place : (gap p : ℕ) (ps : List ℕ) → is_among gap (p ∷ ps) ≡ false → p ≢ gap
other_place gap p ps absent e = false≢true (sym (or_parts (eqb gap p) (is_among gap ps) absent).0 ∙ eq-eqb gap p (sym e))

name_down : (states : List NamedState) (gap p : ℕ) → gap < length states → p ≢ gap → name_in (remove states gap) (moved_down gap p) ≡ name_in states p
name_down states gap p inside apart = elim (cases_lt p gap) [
  | inl lt ↦ ap (name_in (remove states gap)) (down_below gap p (omega arith)) ∙ ap (λ (c : NamedState). c.name) (get_or-remove_below states gap no_state p lt inside)
  | inr ge ↦
      let above : gap < p = omega arith in
      let back : p - 1 + 1 ≡ p = omega arith in
      ap (name_in (remove states gap)) (down_above gap p above) ∙ ap (λ (c : NamedState). c.name) (get_or-remove_above states gap no_state (p - 1) (omega arith) inside) ∙ ap (name_in states) back
]

pub names_down : (states : List NamedState) (gap : ℕ) (ps : List ℕ) → gap < length states → is_among gap ps ≡ false
    → names_in (remove states gap) (map (moved_down gap) ps) ≡ names_in states ps
names_down states gap [] inside absent = refl
names_down states gap (p ∷ ps) inside absent =
    ap (λ n. n ∷ names_in (remove states gap) (map (moved_down gap) ps)) (name_down states gap p inside (other_place gap p ps absent))
    ∙ ap (λ ns. name_in states p ∷ ns) (names_down states gap ps inside (or_parts (eqb gap p) (is_among gap ps) absent).1)

-- places are within a table with one class less
below_down : (gap p len : ℕ) → p < len → gap < len → p ≢ gap → moved_down gap p < len - 1
below_down gap p len lt inside apart = elim (cases_lt p gap) [
  | inl less ↦ omega (arith, down_below gap p (omega arith))
  | inr more ↦ omega (arith, down_above gap p (omega arith))
]

pub all_down : (gap len : ℕ) (ps : List ℕ) → gap < len → is_among gap ps ≡ false → All (λ p. p < len) ps → All (λ p. p < len - 1) (map (moved_down gap) ps)
all_down gap len [] inside absent all = All-nil (λ p. p < len - 1)
all_down gap len (p ∷ ps) inside absent all =
    All-cons (λ p. p < len - 1) (moved_down gap p) (map (moved_down gap) ps)
    (below_down gap p len (All-head (λ p. p < len) p ps all) inside (other_place gap p ps absent))
    (all_down gap len ps inside (or_parts (eqb gap p) (is_among gap ps) absent).1 (All-tail (λ p. p < len) p ps all))

-- two places that are not the gap stay apart
pub down_apart : (gap p q : ℕ) → p ≢ gap → q ≢ gap → eqb (moved_down gap p) (moved_down gap q) ≡ eqb p q
down_apart gap p q far off = elim (cases_Bool (eqb p q)) [
  | inl e ↦ eq-eqb (moved_down gap p) (moved_down gap q) (ap (moved_down gap) (eqb-true p q e)) ∙ sym e
  | inr e ↦ ne_eqb (moved_down gap p) (moved_down gap q) (λ same. false≢true (sym e ∙ eq-eqb p q (once same))) ∙ sym e
]
  where
    once : moved_down gap p ≡ moved_down gap q → p ≡ q
    once same = elim (cases_lt p gap) [
      | inl less ↦ elim (cases_lt q gap) [
        | inl fewer ↦ omega (arith, same, down_below gap p (omega arith), down_below gap q (omega arith))
        | inr more ↦ omega (arith, same, down_below gap p (omega arith), down_above gap q (omega arith))
      ]
      | inr more ↦ elim (cases_lt q gap) [
        | inl fewer ↦ omega (arith, same, down_above gap p (omega arith), down_below gap q (omega arith))
        | inr above ↦ omega (arith, same, down_above gap p (omega arith), down_above gap q (omega arith))
      ]
    ]

pub among_down : (gap p : ℕ) (ps : List ℕ) → p ≢ gap → is_among gap ps ≡ false → is_among (moved_down gap p) (map (moved_down gap) ps) ≡ is_among p ps
among_down gap p [] far absent = refl
among_down gap p (q ∷ ps) far absent =
    ap (λ t. t || is_among (moved_down gap p) (map (moved_down gap) ps)) (down_apart gap p q far (other_place gap q ps absent))
    ∙ ap (λ t. eqb p q || t) (among_down gap p ps far (or_parts (eqb gap q) (is_among gap ps) absent).1)
