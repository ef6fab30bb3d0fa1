-- The classes of a drr that are asked one after another: what one more changes in its children and in what they tell.
use Rattle.std.proofs.Common.{◌≡◌, ℕ, zero, suc, ◌<◌, ◌≤◌, List, [], ◌∷◌, ◌++◌, map, length, take, set, get_or, flat_map, append_assoc, refl, sym, ap, ap₂, subst, ◌∙◌, Some, None, option_and_then, inl, inr, arith, eq-eqb}
use Rattle.std.specs.Prelude.{Bool, true, false, cond, ◌==◌, ◌||◌, slice_get, if◌then◌else◌}
use Rattle.std.specs.List.{list_any, position, position_or_len, zip}
use Rattle.std.specs.Option.{option_map_or}
use Rattle.std.proofs.lemmas.Bool.{cases_lt, lt-ltb, false≢true, ne_eqb, eqb-true}
use Rattle.std.proofs.lemmas.List.{append-nil, length-take, get_or-take}
use Rattle.std.proofs.lemmas.List.Folds.{Any-from_list_any, list_any_none}
use Rattle.std.proofs.lemmas.List.Quantifiers.{position-Some}
use Rattle.std.proofs.lemmas.List.Sums.{fails_before_first}
use Rattle.std.proofs.lemmas.Map.Keys.{any_passes_from_place}
use Rattle.std.proofs.lemmas.Option.{same_Some, slice_get_within, slice_get-get_or, get_or_from_slice_get}
use Rattle.q_packet.specs.Choice.{Choice}
use Rattle.q_drr.specs.Schedule.{Class, Entry, Schedule, has_class, IsEntry, IsLawful}
use Rattle.q_drr.proofs.ServingLemmas.{one_place}
use Rattle.q_model.specs.Tally.{Note}
use Rattle.q_model.specs.Work.{Worked}
use Rattle.q_model.specs.Route.{class_at}
use Rattle.q_model.specs.Grants.{asked_entries}
use Rattle.q_model.specs.Ask.{Asked, befores, class_answer, is_among, peeked_classes, length_of, head_of}

-- ---- which of the active classes are asked

pub asked-now : (c : Choice) (es : List Entry) → c.rounds ≡ 0 → asked_entries (Some c) es ≡ take (suc c.place) es
asked-now c es none = ap (λ b. if b then take (suc c.place) es else es) (eq-eqb c.rounds 0 none)

pub asked-all : (c : Choice) (es : List Entry) → 1 ≤ c.rounds → asked_entries (Some c) es ≡ es
asked-all c es some = ap (λ b. if b then take (suc c.place) es else es) (ne_eqb c.rounds 0 (λ none. absurd (omega (arith, none))))

-- ---- the children of which some are asked

abbrev looked : (Class → Bool) → List Class → List Asked → List Worked
looked test classes below = map (λ pair. if test pair.0 then pair.1.peeked else pair.1.before) (zip classes below)

looked-none : (classes : List Class) (below : List Asked) → length below ≡ length classes → looked (is_among []) classes below ≡ befores below
looked-none [] [] same = refl
looked-none [] (a ∷ below) same = absurd (omega (arith, same))
looked-none (c ∷ classes) [] same = refl
looked-none (c ∷ classes) (a ∷ below) same = ap (λ ws. a.before ∷ ws) (looked-none classes below (omega (arith, same)))

looked-same : (test new : Class → Bool) (classes : List Class) (below : List Asked)
    → ((k : ℕ) (d : Class) → slice_get classes k ≡ Some d → new d ≡ test d) → looked new classes below ≡ looked test classes below
looked-same test new [] below same = refl
looked-same test new (c ∷ classes) [] same = refl
looked-same test new (c ∷ classes) (a ∷ below) same =
    ap₂ (λ t ws. (if t then a.peeked else a.before) ∷ ws) (same 0 c refl) (looked-same test new classes below (λ k d at. same (suc k) d at))

-- one more class passes
looked-set : (test new : Class → Bool) (classes : List Class) (below : List Asked) (i : ℕ) (c : Class) (a : Asked) → slice_get classes i ≡ Some c → slice_get below i ≡ Some a → new c ≡ true
    → ((k : ℕ) (d : Class) → slice_get classes k ≡ Some d → (k ≡ i → ⊥) → new d ≡ test d) → looked new classes below ≡ set (looked test classes below) i a.peeked
looked-set test new [] below i c a ec ea passes same = cc
looked-set test new (d ∷ classes) [] i c a ec ea passes same = cc
looked-set test new (d ∷ classes) (b ∷ below) zero c a ec ea passes same =
    let first : (if new d then b.peeked else b.before) ≡ a.peeked =
    ap (λ t. if t then b.peeked else b.before) (ap new (same_Some d c ec) ∙ passes) ∙ ap (λ (x : Asked). x.peeked) (same_Some b a ea) in
    ap₂ (λ w ws. w ∷ ws) first (looked-same test new classes below (λ k e at. same (suc k) e at (λ z. absurd (omega (arith, z)))))
looked-set test new (d ∷ classes) (b ∷ below) (suc i) c a ec ea passes same =
    ap₂ (λ t ws. (if t then b.peeked else b.before) ∷ ws) (same 0 d refl (λ z. absurd (omega (arith, z))))
    (looked-set test new classes below i c a ec ea passes (λ k e at apart. same (suc k) e at (λ z. apart (omega (arith, z)))))

looked-at : (test : Class → Bool) (classes : List Class) (below : List Asked) (i : ℕ) (c : Class) (a : Asked) (t : Bool) → slice_get classes i ≡ Some c → slice_get below i ≡ Some a → test c ≡ t
    → slice_get (looked test classes below) i ≡ Some (if t then a.peeked else a.before)
looked-at test [] below i c a t ec ea passes = cc
looked-at test (d ∷ classes) [] i c a t ec ea passes = cc
looked-at test (d ∷ classes) (b ∷ below) zero c a t ec ea passes =
    ap₂ (λ t (x : Asked). Some (if t then x.peeked else x.before)) (ap test (same_Some d c ec) ∙ passes) (same_Some b a ea)
looked-at test (d ∷ classes) (b ∷ below) (suc i) c a t ec ea passes = looked-at test classes below i c a t ec ea passes

-- ---- the classes and the entries by their places

record IsClassAt (s : Schedule) (n i : ℕ) : Type 0 where
  class : Class
  there : slice_get s.classes i ≡ Some class
  named : n ≡ class.name

class-found : (s : Schedule) (n i : ℕ) → class_at n s ≡ Some i → IsClassAt s n i
class-found s n i place =
    let d : Class = record { name = 0; quantum = 0 } in
    let found = position-Some (λ (c : Class). n == c.name) s.classes i d place in
    record {
      class = get_or s.classes i d;
      there = slice_get-get_or s.classes i d found.0;
      named = eqb-true n (get_or s.classes i d).name found.1;
    }

get-take : {X : Type 0} (xs : List X) (j k : ℕ) → k < j → slice_get (take j xs) k ≡ slice_get xs k
get-take xs zero k early = absurd (omega arith)
get-take [] (suc j) k early = refl
get-take (x ∷ xs) (suc j) zero early = refl
get-take (x ∷ xs) (suc j) (suc k) early = get-take xs j k (omega arith)

-- the class of an entry among the first j is among them
among-first : (es : List Entry) (j k : ℕ) (e : Entry) (c : Class) → k < j → slice_get es k ≡ Some e → e.class ≡ c.name → is_among (take j es) c ≡ true
among-first es j k e c early at named = any_passes_from_place (λ (x : Entry). x.class == c.name) (take j es) k e (get-take es j k early ∙ at) (eq-eqb e.class c.name named)

-- one entry more, of another class
among-same : (es : List Entry) (j : ℕ) (e : Entry) (d : Class) → slice_get es j ≡ Some e → (e.class == d.name) ≡ false → is_among (take (suc j) es) d ≡ is_among (take j es) d
among-same [] j e d at other = cc
among-same (x ∷ es) zero e d at other = ap (λ t. t || false) (ap (λ (y : Entry). y.class == d.name) (same_Some x e at) ∙ other)
among-same (x ∷ es) (suc j) e d at other = ap (λ t. (x.class == d.name) || t) (among-same es j e d at other)

-- the class of the entry behind them is not among them
among-none : (s : Schedule) (j : ℕ) (e : Entry) (c : Class) → IsLawful s → slice_get s.active j ≡ Some e → e.class ≡ c.name → is_among (take j s.active) c ≡ false
among-none s j e c law at named = list_any_none (λ (x : Entry). x.class == c.name) (take j s.active) (λ k d inside.
    let early : k < j = omega (arith, inside, length-take j s.active) in
    ap (λ (x : Entry). x.class == c.name) (get_or-take j s.active k d early)
    ∙ ne_eqb (get_or s.active k d).class c.name (λ same.
    law.entries_differ k j d early (slice_get_within s.active j e at) (same ∙ sym named ∙ sym (ap (λ (x : Entry). x.class) (get_or_from_slice_get s.active j e d at)))))

-- ---- one after another

pub nobody-asked : (s : Schedule) (below : List Asked) → length below ≡ length s.classes → peeked_classes s [] below ≡ befores below
nobody-asked s below same = looked-none s.classes below same

-- the class of the j-th entry, which stands at place i among the children, is asked next: its child alone changes
pub next-asked : (s : Schedule) (below : List Asked) (j : ℕ) (e : Entry) (i : ℕ) (a : Asked) → IsLawful s → slice_get s.active j ≡ Some e → class_at e.class s ≡ Some i → slice_get below i ≡ Some a
    → peeked_classes s (take (suc j) s.active) below ≡ set (peeked_classes s (take j s.active) below) i a.peeked
next-asked s below j e i a law at place there =
    let c = class-found s e.class i place in
    looked-set (is_among (take j s.active)) (is_among (take (suc j) s.active)) s.classes below i c.class a c.there there
    (among-first s.active (suc j) j e c.class (omega arith) at c.named)
    (λ k d at_k apart. among-same s.active j e d at
    (ne_eqb e.class d.name (λ same. apart (one_place (λ (x : Class). x.name) s.classes law.classes_differ k i d c.class at_k c.there
    (sym same ∙ c.named)))))

-- until then it is as it was
pub before-asked : (s : Schedule) (below : List Asked) (j : ℕ) (e : Entry) (i : ℕ) (a : Asked) → IsLawful s → slice_get s.active j ≡ Some e → class_at e.class s ≡ Some i → slice_get below i ≡ Some a
    → slice_get (peeked_classes s (take j s.active) below) i ≡ Some a.before
before-asked s below j e i a law at place there =
    let c = class-found s e.class i place in
    looked-at (is_among (take j s.active)) s.classes below i c.class a false c.there there (among-none s j e c.class law at c.named)

-- and once it was asked it stays so
pub was-asked : (s : Schedule) (below : List Asked) (j k : ℕ) (e : Entry) (i : ℕ) (a : Asked) → k < j → slice_get s.active k ≡ Some e → class_at e.class s ≡ Some i → slice_get below i ≡ Some a
    → slice_get (peeked_classes s (take j s.active) below) i ≡ Some a.peeked
was-asked s below j k e i a early at place there =
    let c = class-found s e.class i place in
    looked-at (is_among (take j s.active)) s.classes below i c.class a true c.there there (among-first s.active j k e c.class early at c.named)

-- ---- what they tell and show

-- what the children of these entries tell the nodes above
abbrev pub rises_of : Schedule → List Entry → List Asked → List Note
rises_of s entries below = flat_map (λ (e : Entry). option_map_or (λ (a : Asked). a.rises) (class_answer s below e.class) []) entries

pub answer-is : (s : Schedule) (below : List Asked) (n i : ℕ) (a : Asked) → class_at n s ≡ Some i → slice_get below i ≡ Some a → class_answer s below n ≡ Some a
answer-is s below n i a place there = ap (option_and_then (slice_get below)) place ∙ there

pub head-is : (s : Schedule) (below : List Asked) (n i : ℕ) (a : Asked) → class_at n s ≡ Some i → slice_get below i ≡ Some a → head_of s below n ≡ length_of a
head-is s below n i a place there = ap (option_and_then length_of) (answer-is s below n i a place there)

told-more : (f : Entry → List Note) (es : List Entry) (j : ℕ) (e : Entry) → slice_get es j ≡ Some e → flat_map f (take (suc j) es) ≡ flat_map f (take j es) ++ f e
told-more f [] j e at = cc
told-more f (x ∷ es) zero e at = append-nil (f x) ∙ ap f (same_Some x e at)
told-more f (x ∷ es) (suc j) e at = ap (λ notes. f x ++ notes) (told-more f es j e at) ∙ sym (append_assoc (f x) (flat_map f (take j es)) (f e))

pub next-rises : (s : Schedule) (below : List Asked) (j : ℕ) (e : Entry) (i : ℕ) (a : Asked) → slice_get s.active j ≡ Some e → class_at e.class s ≡ Some i → slice_get below i ≡ Some a
    → rises_of s (take (suc j) s.active) below ≡ rises_of s (take j s.active) below ++ a.rises
next-rises s below j e i a at place there =
    told-more (λ (x : Entry). option_map_or (λ (b : Asked). b.rises) (class_answer s below x.class) []) s.active j e at
    ∙ ap (λ o. rises_of s (take j s.active) below ++ option_map_or (λ (b : Asked). b.rises) o []) (answer-is s below e.class i a place there)

-- ---- each active class has a child

known-place : {X : Type 0} (p : X → Bool) (xs : List X) → list_any p xs ≡ true → (i : ℕ) × (position p xs ≡ Some i) × (i < length xs)
known-place p xs passes = elim (cases_lt (position_or_len p xs) (length xs)) [
  | inl within ↦ (position_or_len p xs, ap (λ b. cond b (Some (position_or_len p xs)) None) (lt-ltb (position_or_len p xs) (length xs) within), within)
  | inr past ↦
      let any = Any-from_list_any p xs passes in
      absurd (false≢true (sym (fails_before_first p xs any.0 any.1 (omega (arith, any.2))) ∙ ap p any.3 ∙ any.4))
]

some-at : {X : Type 0} (xs : List X) (i : ℕ) → i < length xs → (x : X) × (slice_get xs i ≡ Some x)
some-at [] i within = absurd (omega arith)
some-at (x ∷ xs) zero within = (x, refl)
some-at (x ∷ xs) (suc i) within = some-at xs i (omega arith)

pub class-known : (s : Schedule) (below : List Asked) (n : ℕ) → has_class n s.classes ≡ true → length below ≡ length s.classes
    → (i : ℕ) × (a : Asked) × (class_at n s ≡ Some i) × (slice_get below i ≡ Some a)
class-known s below n known same =
    let place = known-place (λ (c : Class). n == c.name) s.classes known in
    let child = some-at below place.0 (omega (arith, same, place.2)) in
    (place.0, child.0, place.1, child.1)

pub class-there : (s : Schedule) (below : List Asked) (j : ℕ) (e : Entry) → IsLawful s → slice_get s.active j ≡ Some e → length below ≡ length s.classes
    → (i : ℕ) × (a : Asked) × (class_at e.class s ≡ Some i) × (slice_get below i ≡ Some a)
class-there s below j e law at same =
    let is : IsEntry s.max_len s.classes e = subst (IsEntry s.max_len s.classes) (get_or_from_slice_get s.active j e e at) (law.entries j e (slice_get_within s.active j e at)) in
    class-known s below e.class is.there same
