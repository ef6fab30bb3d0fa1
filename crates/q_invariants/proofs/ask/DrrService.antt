-- What a drr's asking comes to: what its children tell, which of them is met, and the heads that they show.
use Rattle.std.proofs.Common.{◌≡◌, ℕ, zero, suc, ◌≤◌, List, [], ◌∷◌, map, take, drop, flat_map, refl, ap, subst, Option, Some, None, option_map, option_and_then, option_to_list, ◌∙◌, arith}
use Rattle.std.specs.Prelude.{Bool, true, false, ◌==◌, slice_get, get_or, if◌then◌else◌}
use Rattle.std.specs.List.{list_any, position}
use Rattle.std.specs.Option.{option_map_or}
use Rattle.std.proofs.lemmas.Bool.{or_left, or_right, or_parts, or_from}
use Rattle.std.proofs.lemmas.List.Elements.{All-head}
use Rattle.std.proofs.lemmas.List.Quantifiers.{position-Some}
use Rattle.std.proofs.lemmas.Option.{same_Some, slice_get-get_or}
use Rattle.q_packet.specs.Choice.{Choice}
use Rattle.q_packet.specs.Descriptor.{Descriptor}
use Rattle.q_drr.specs.Schedule.{Class, Entry, Schedule}
use Rattle.q_drr.specs.Changes.{HeadsFit}
use Rattle.q_drr.specs.declared.take.Met.{Met}
use Rattle.q_drr.proofs.DifferLemmas.{EntriesDiffer}
use Rattle.q_model.specs.Tally.{Note, Granted}
use Rattle.q_model.specs.Beneath.{beneath}
use Rattle.q_model.specs.Route.{class_at}
use Rattle.q_model.specs.Grants.{asked_entries, grant_notes, granted_notes}
use Rattle.q_model.specs.Ask.{Asked, is_among, head_of, length_of}
use Rattle.q_invariants.specs.Weights.{lost, marked, weigh}
use Rattle.q_invariants.proofs.ask.Answer.{IsAnswer, AreAnswers, IsSilent, silent-nil, silent-append}
use Rattle.q_invariants.proofs.class.ClassSums.{answer_in}
use Rattle.q_invariants.proofs.sums.Lengths.{HasLength, lengths-among}
use Rattle.q_invariants.proofs.sums.Sums.{total}
use Rattle.q_invariants.proofs.sums.Weights.{IsQuiet, quiet-nil, quiet-append, lost-nil, marked-nil, arrived-cons, sent-cons, lost-cons, dropped-cons, marked-cons, lost-append, marked-append}

-- ---- what is noted

one_grant : (n k : ℕ) (notes : List Note) → IsSilent notes → IsSilent (Granted n k ∷ notes)
one_grant n k notes h = record {
  no_arrival = λ w. omega (arith, arrived-cons w (Granted n k) notes, h.no_arrival w);
  nothing_sent = λ w. omega (arith, sent-cons w (Granted n k) notes, h.nothing_sent w);
  nothing_lost = λ w. omega (arith, lost-cons w (Granted n k) notes, h.nothing_lost w);
  nothing_dropped = λ w. omega (arith, dropped-cons w (Granted n k) notes, h.nothing_dropped w);
  nothing_marked = λ w. omega (arith, marked-cons w (Granted n k) notes, h.nothing_marked w);
}

some_grants : (k : ℕ) (es : List Entry) → IsSilent (map (λ (e : Entry). Granted e.class k) es)
some_grants k [] = silent-nil
some_grants k (e ∷ es) = one_grant e.class k (map (λ (e : Entry). Granted e.class k) es) (some_grants k es)

grants-silent : (k : ℕ) (es : List Entry) → IsSilent (grant_notes k es)
grants-silent k es = by (k == 0)
  where
    by : (b : Bool) → IsSilent (if b then [] else map (λ (e : Entry). Granted e.class k) es)
    by true = silent-nil
    by false = some_grants k es

pub notes-silent : (o : Option Choice) (es : List Entry) → IsSilent (granted_notes o es)
notes-silent None es = silent-nil
notes-silent (Some c) es =
    silent-append (grant_notes (suc c.rounds) (take c.place es)) (grant_notes c.rounds (drop c.place es))
    (grants-silent (suc c.rounds) (take c.place es)) (grants-silent c.rounds (drop c.place es))

-- what the children that are asked have to tell
abbrev pub told_by : Option Asked → List Note
told_by o = option_map_or (λ (a : Asked). a.rises) o []

abbrev pub told_of : List Class → List Asked → List Entry → List Note
told_of classes below entries = flat_map (λ (e : Entry). told_by (answer_in classes below e.class)) entries

lost-told : (w : Descriptor → ℕ) (o : Option Asked) → lost w (told_by o) ≡ option_map_or (λ (a : Asked). lost w a.rises) o 0
lost-told w None = lost-nil w
lost-told w (Some a) = refl

marked-told : (w : Descriptor → ℕ) (o : Option Asked) → marked w (told_by o) ≡ option_map_or (λ (a : Asked). marked w a.rises) o 0
marked-told w None = marked-nil w
marked-told w (Some a) = refl

pub lost-all : (w : Descriptor → ℕ) (classes : List Class) (below : List Asked) (entries : List Entry)
    → lost w (told_of classes below entries) ≡ total
    (λ (e : Entry). option_map_or (λ (a : Asked). lost w a.rises) (answer_in classes below e.class) 0) entries
lost-all w classes below [] = lost-nil w
lost-all w classes below (e ∷ entries) =
    omega (arith, lost-append w (told_by (answer_in classes below e.class)) (told_of classes below entries), lost-told w (answer_in classes below e.class), lost-all w classes below entries)

pub marked-all : (w : Descriptor → ℕ) (classes : List Class) (below : List Asked) (entries : List Entry)
    → marked w (told_of classes below entries) ≡ total
    (λ (e : Entry). option_map_or (λ (a : Asked). marked w a.rises) (answer_in classes below e.class) 0) entries
marked-all w classes below [] = marked-nil w
marked-all w classes below (e ∷ entries) =
    omega (arith, marked-append w (told_by (answer_in classes below e.class)) (told_of classes below entries), marked-told w (answer_in classes below e.class), marked-all w classes below entries)

pub answer-at : (mtu now : ℕ) (below : List Asked) (i : ℕ) (a : Asked) → AreAnswers mtu now below → slice_get below i ≡ Some a → IsAnswer mtu now a
answer-at mtu now [] i a all e = cc
answer-at mtu now (b ∷ below) zero a all e = subst (IsAnswer mtu now) (same_Some b a e) all.0
answer-at mtu now (b ∷ below) (suc i) a all e = answer-at mtu now below i a all.1 e

answer-of_class : (mtu now : ℕ) (below : List Asked) (o : Option ℕ) (a : Asked) → AreAnswers mtu now below → option_and_then (slice_get below) o ≡ Some a → IsAnswer mtu now a
answer-of_class mtu now below None a all e = cc
answer-of_class mtu now below (Some i) a all e = answer-at mtu now below i a all e

quiet-told : (mtu now : ℕ) (o : Option Asked) → ((a : Asked) → o ≡ Some a → IsAnswer mtu now a) → IsQuiet (told_by o)
quiet-told mtu now None h = quiet-nil
quiet-told mtu now (Some a) h = (h a refl).quiet

pub quiet-all : (mtu now : ℕ) (classes : List Class) (below : List Asked) (entries : List Entry) → AreAnswers mtu now below → IsQuiet (told_of classes below entries)
quiet-all mtu now classes below [] all = quiet-nil
quiet-all mtu now classes below (e ∷ entries) all =
    quiet-append (told_by (answer_in classes below e.class)) (told_of classes below entries)
    (quiet-told mtu now (answer_in classes below e.class) (λ a. answer-of_class mtu now below (position (λ (c : Class). e.class == c.name) classes) a all))
    (quiet-all mtu now classes below entries all)

-- ---- the heads that are shown

pub shown-short : (mtu now : ℕ) (a : Asked) (p : Descriptor) → IsAnswer mtu now a → a.shown ≡ Some p → p.len ≤ mtu
shown-short mtu now a p h e =
    let shown : (w : Descriptor → ℕ) → weigh w (option_to_list a.shown) ≡ weigh w (p ∷ []) = λ w. ap (λ (o : Option Descriptor). weigh w (option_to_list o)) e in
    (All-head (HasLength mtu) p [] (lengths-among mtu (beneath a.before) (p ∷ []) (λ w. omega (arith, h.peeks w, h.gives w, shown w)) h.lawful_before.0.lengths)).1

pub heads-fit : (mtu now : ℕ) (s : Schedule) (below : List Asked) → AreAnswers mtu now below → HeadsFit (head_of s below) mtu
heads-fit mtu now s below all n len e = by (answer_in s.classes below n) (λ a. answer-of_class mtu now below (position (λ (c : Class). n == c.name) s.classes) a all) e
  where
    shown : (a : Asked) (o : Option Descriptor) → a.shown ≡ o → IsAnswer mtu now a → option_map (λ (p : Descriptor). p.len) o ≡ Some len → len ≤ mtu
    shown a None is h e = cc
    shown a (Some p) is h e = subst (λ n. n ≤ mtu) (same_Some p.len len e) (shown-short mtu now a p h is)

    by : (o : Option Asked) → ((a : Asked) → o ≡ Some a → IsAnswer mtu now a) → option_and_then length_of o ≡ Some len → len ≤ mtu
    by None h e = cc
    by (Some a) h e = shown a a.shown refl (h a refl) e

-- ---- the class that is met

any-at : (test : Entry → Bool) (es : List Entry) (k : ℕ) (e : Entry) → slice_get es k ≡ Some e → test e ≡ true → list_any test es ≡ true
any-at test [] k e at passes = cc
any-at test (x ∷ es) zero e at passes = or_left (test x) (list_any test es) (ap test (same_Some x e at) ∙ passes)
any-at test (x ∷ es) (suc k) e at passes = or_right (test x) (list_any test es) (any-at test es k e at passes)

get-take : (es : List Entry) (k : ℕ) → slice_get (take (suc k) es) k ≡ slice_get es k
get-take [] zero = refl
get-take [] (suc k) = refl
get-take (x ∷ es) zero = refl
get-take (x ∷ es) (suc k) = get-take es k

-- the class at this place is there, and was asked
pub record IsMetAt (s : Schedule) (entries : List Entry) (i : ℕ) : Type 0 where
  pub class : Class
  pub there : slice_get s.classes i ≡ Some class
  pub asked : is_among entries class ≡ true

asked-at : (s : Schedule) (c : Choice) (e : Entry) (i : ℕ) → slice_get s.active c.place ≡ Some e → class_at e.class s ≡ Some i → IsMetAt s (asked_entries (Some c) s.active) i
asked-at s c e i at place =
    let d : Class = record { name = 0; quantum = 0 } in
    let found = position-Some (λ (x : Class). e.class == x.name) s.classes i d place in
    let class : Class = get_or s.classes i d in
    record {
      class = class;
      there = slice_get-get_or s.classes i d found.0;
      asked = by (c.rounds == 0) class found.1;
    }
  where
    by : (b : Bool) (class : Class) → (e.class == class.name) ≡ true → is_among (if b then take (suc c.place) s.active else s.active) class ≡ true
    by true class passes = any-at (λ (x : Entry). x.class == class.name) (take (suc c.place) s.active) c.place e (get-take s.active c.place ∙ at) passes
    by false class passes = any-at (λ (x : Entry). x.class == class.name) s.active c.place e at passes

pub met-asked : (s : Schedule) (heads : ℕ → Option ℕ) (o : Option Choice) (i : ℕ)
    → option_and_then (λ (m : Met). class_at m.class s)
    (option_map (λ (e : Entry). record { class = e.class; head = heads e.class })
    (option_and_then (λ (c : Choice). slice_get s.active c.place) o)) ≡ Some i
    → IsMetAt s (asked_entries o s.active) i
met-asked s heads None i h = cc
met-asked s heads (Some c) i h = by (slice_get s.active c.place) refl h
  where
    by : (x : Option Entry) → slice_get s.active c.place ≡ x
        → option_and_then (λ (m : Met). class_at m.class s) (option_map (λ (e : Entry). record { class = e.class; head = heads e.class }) x) ≡ Some i → IsMetAt s (asked_entries (Some c) s.active) i
    by None is e = cc
    by (Some e) is h = asked-at s c e i is h

-- ---- entries that are asked differ, as all that are active

differ-take : (k : ℕ) (es : List Entry) → EntriesDiffer es → EntriesDiffer (take k es)
differ-take zero es h = tt
differ-take (suc k) [] h = tt
differ-take (suc k) (e ∷ es) h = (none-take e.class k es h.0, differ-take k es h.1)
  where
    none-take : (n k : ℕ) (es : List Entry) → list_any (λ (x : Entry). n == x.class) es ≡ false → list_any (λ (x : Entry). n == x.class) (take k es) ≡ false
    none-take n zero es h = refl
    none-take n (suc k) [] h = refl
    none-take n (suc k) (x ∷ es) h =
        let parts = or_parts (n == x.class) (list_any (λ (x : Entry). n == x.class) es) h in
        or_from (n == x.class) (list_any (λ (x : Entry). n == x.class) (take k es)) parts.0 (none-take n k es parts.1)

pub differ-asked : (o : Option Choice) (es : List Entry) → EntriesDiffer es → EntriesDiffer (asked_entries o es)
differ-asked None es h = tt
differ-asked (Some c) es h = by (c.rounds == 0)
  where
    by : (b : Bool) → EntriesDiffer (if b then take (suc c.place) es else es)
    by true = differ-take (suc c.place) es h
    by false = h
