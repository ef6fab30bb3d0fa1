-- A drr whose walk was interrupted after some grants goes on as the whole walk would have, where asking its classes changes nothing and has
-- nothing to tell.
use Rattle.std.proofs.Common.{◌≡◌, ℕ, zero, suc, ◌∙◌, List, [], ◌∷◌, ◌++◌, map, take, drop, refl, sym, ap, ap₂, subst, Option, Some, None, option_and_then}
use Rattle.std.specs.Prelude.{Bool, true, false, ◌==◌, if◌then◌else◌, slice_get}
use Rattle.std.specs.List.{flat_map, position, zip}
use Rattle.std.specs.Option.{option_map_or}
use Rattle.q_packet.specs.Descriptor.{Descriptor}
use Rattle.q_packet.specs.Choice.{Choice}
use Rattle.q_drr.specs.Schedule.{Class, Entry, Schedule}
use Rattle.q_drr.specs.Take.{choice_of, met, met_in, sent_in, served}
use Rattle.q_drr.specs.declared.take.Met.{Met}
use Rattle.q_drr.proofs.ServingLemmas.{IsServing}
use Rattle.q_model.specs.Ask.{Asked, Service, ask_drr, class_answer, class_gives, class_serves, gives_nothing, head_of, is_among, length_of, place_met, service_of}
use Rattle.q_model.specs.Grants.{grant_notes, granted_notes}
use Rattle.q_model.specs.Node.{Drr, Forest, Own}
use Rattle.q_model.specs.Tally.{Granted, Note, noted}
use Rattle.q_model.specs.Work.{Worked, booked}
use Rattle.q_tree.specs.Kept.{Kept, kept}

-- ---- children that are not changed by being asked, and have nothing to tell

pub record IsQuietAnswer (a : Asked) : Type 0 where
  pub peeked : a.peeked ≡ a.before
  pub rises : a.rises ≡ []

abbrev pub AreQuiet : List Asked → Type 0
AreQuiet [] = Unit {0}
AreQuiet (a ∷ below) = IsQuietAnswer a × AreQuiet below

kids-quiet : (es : List Entry) (cs : List Class) (below : List Asked) → AreQuiet below
    → map (λ pair. if is_among es pair.0 then pair.1.peeked else pair.1.before) (zip cs below) ≡ map (λ pair. pair.1.before) (zip cs below)
kids-quiet es [] below h = refl
kids-quiet es (c ∷ cs) [] h = refl
kids-quiet es (c ∷ cs) (a ∷ below) h = ap₂ (λ (w : Worked) (ws : List Worked). w ∷ ws) (one (is_among es c)) (kids-quiet es cs below h.1)
  where
    one : (b : Bool) → (if b then a.peeked else a.before) ≡ a.before
    one true = h.0.peeked
    one false = refl

at-quiet : (below : List Asked) (i : ℕ) → AreQuiet below → option_map_or (λ (a : Asked). a.rises) (slice_get below i) [] ≡ []
at-quiet [] i h = refl
at-quiet (a ∷ below) zero h = h.0.rises
at-quiet (a ∷ below) (suc i) h = at-quiet below i h.1

found-quiet : (below : List Asked) (o : Option ℕ) → AreQuiet below → option_map_or (λ (a : Asked). a.rises) (option_and_then (slice_get below) o) [] ≡ []
found-quiet below None h = refl
found-quiet below (Some i) h = at-quiet below i h

rises-quiet : (s : Schedule) (below : List Asked) (es : List Entry) → AreQuiet below
    → flat_map (λ (e : Entry). option_map_or (λ (a : Asked). a.rises) (class_answer s below e.class) []) es ≡ []
rises-quiet s below [] h = refl
rises-quiet s below (e ∷ es) h =
    ap₂ (λ (xs ys : List Note). xs ++ ys) (found-quiet below (position (λ (c : Class). e.class == c.name) s.classes) h) (rises-quiet s below es h)

-- ---- grants are not counted

skip-map : (times : ℕ) (es : List Entry) (m : Kept) → noted kept m (map (λ (e : Entry). Granted e.class times) es) ≡ m
skip-map times [] m = refl
skip-map times (e ∷ es) m = skip-map times es m

skip-notes : (times : ℕ) (es : List Entry) (m : Kept) → noted kept m (grant_notes times es) ≡ m
skip-notes times es m = by (times == 0)
  where
    by : (b : Bool) → noted kept m (if b then [] else map (λ (e : Entry). Granted e.class times) es) ≡ m
    by true = refl
    by false = skip-map times es m

noted-both : (m : Kept) (xs ys : List Note) → noted kept m (xs ++ ys) ≡ noted kept (noted kept m xs) ys
noted-both m [] ys = refl
noted-both m (x ∷ xs) ys = noted-both (kept.more m x) xs ys

pub skip-grants : (o : Option Choice) (es : List Entry) (m : Kept) → noted kept m (granted_notes o es) ≡ m
skip-grants None es m = refl
skip-grants (Some c) es m =
    noted-both m (grant_notes (suc c.rounds) (take c.place es)) (grant_notes c.rounds (drop c.place es))
    ∙ ap (λ (x : Kept). noted kept x (grant_notes c.rounds (drop c.place es))) (skip-notes (suc c.rounds) (take c.place es) m)
    ∙ skip-notes c.rounds (drop c.place es) m

-- ---- the schedule

abbrev heads_by : List Class → List Asked → ℕ → Option ℕ
heads_by cs below name = option_and_then length_of (option_and_then (slice_get below) (position (λ (c : Class). name == c.name) cs))

module _ (s later : Schedule) (below : List Asked) (turns : ℕ) (h : IsServing (head_of s below) s later turns) where
  pub served-on : served (head_of later below) later ≡ served (head_of s below) s
  served-on =
      ap (λ (cs : List Class). served (heads_by cs below) later) h.classes
      ∙ ap (λ (r : Schedule). sent_in (head_of s below) r.active r) h.ready

  pub place-on : place_met later below ≡ place_met s below
  place-on =
      ap (λ (cs : List Class). option_and_then (λ (m : Met). position (λ (c : Class). m.class == c.name) cs) (met (heads_by cs below) later)) h.classes
      ∙ ap (λ (r : Schedule). option_and_then (λ (m : Met). position (λ (c : Class). m.class == c.name) s.classes) (met_in (head_of s below) r.active)) h.ready

-- ---- what the walk comes to

-- the same is shown and told, and a node that remembers numbers alone is left the same
pub record IsLeftSame (k : Kept) (a b : Asked) : Type 0 where
  pub shown : b.shown ≡ a.shown
  pub rises : b.rises ≡ a.rises
  pub taken : (f : Forest Kept) (o u : Own) → booked kept (record { own = u; memory = k; below = f }) b.taken ≡ booked kept (record { own = o; memory = k; below = f }) a.taken
  pub peeked : (f : Forest Kept) (o u : Own) → booked kept (record { own = u; memory = k; below = f }) b.peeked ≡ booked kept (record { own = o; memory = k; below = f }) a.peeked

abbrev walked : Own → List Asked → Service → Option ℕ → Asked
walked own below v met =
    option_map_or (λ i. option_map_or (class_serves own below v i) (slice_get below i) (gives_nothing own below v)) met (gives_nothing own below v)

module _ (k : Kept) (own : Own) (later : Schedule) (below : List Asked) (v : Service) (g : List Note) (skip : (m : Kept) → noted kept m g ≡ m)
    (skip2 : (m : Kept) → noted kept m v.grants ≡ m) where
  memory2 : (xs : List Note) → noted kept k (xs ++ g) ≡ noted kept k (xs ++ v.grants)
  memory2 xs = noted-both k xs g ∙ skip (noted kept k xs) ∙ sym (skip2 (noted kept k xs)) ∙ sym (noted-both k xs v.grants)

  memory : (xs ys : List Note) → noted kept k (xs ++ g ++ ys) ≡ noted kept k (xs ++ v.grants ++ ys)
  memory xs ys = noted-both k (xs ++ g) ys ∙ ap (λ (m : Kept). noted kept m ys) (memory2 xs) ∙ sym (noted-both k (xs ++ v.grants) ys)

  abbrev own2 : Own
  own2 = record own { discipline = Drr later }

  abbrev v2 : Service
  v2 = record v { grants = g }

  nothing-same : IsLeftSame k (gives_nothing own below v) (gives_nothing own2 below v2)
  nothing-same = let a : Asked = gives_nothing own below v in record {
    shown = refl;
    rises = refl;
    taken = λ f o u. ap (λ (m : Kept). record (booked kept (record { own = o; memory = k; below = f }) a.taken) { memory = m }) (memory v.rises []);
    peeked = λ f o u. ap (λ (m : Kept). record (booked kept (record { own = o; memory = k; below = f }) a.peeked) { memory = m }) (memory2 v.rises);
  }

  gives-same : (i : ℕ) (child : Asked) (p : Descriptor) → IsLeftSame k (class_gives own below v i child p) (class_gives own2 below v2 i child p)
  gives-same i child p = let a : Asked = class_gives own below v i child p in record {
    shown = refl;
    rises = refl;
    taken = λ f o u. ap (λ (m : Kept). record (booked kept (record { own = o; memory = k; below = f }) a.taken) { memory = m }) (memory v.rises _);
    peeked = λ f o u. ap (λ (m : Kept). record (booked kept (record { own = o; memory = k; below = f }) a.peeked) { memory = m }) (memory2 v.rises);
  }

  by-shown : (i : ℕ) (child : Asked) (o : Option Descriptor)
      → IsLeftSame k (option_map_or (class_gives own below v i child) o (gives_nothing own below v)) (option_map_or (class_gives own2 below v2 i child) o (gives_nothing own2 below v2))
  by-shown i child None = nothing-same
  by-shown i child (Some p) = gives-same i child p

  by-child : (i : ℕ) (o : Option Asked)
      → IsLeftSame k (option_map_or (class_serves own below v i) o (gives_nothing own below v)) (option_map_or (class_serves own2 below v2 i) o (gives_nothing own2 below v2))
  by-child i None = nothing-same
  by-child i (Some child) = by-shown i child child.shown

  pub walked-same : (met : Option ℕ) → IsLeftSame k (walked own below v met) (walked own2 below v2 met)
  walked-same None = nothing-same
  walked-same (Some i) = by-child i (slice_get below i)

-- so the interrupted drr comes to what the whole walk comes to
pub drr-goes-on : (k : Kept) (own : Own) (s later : Schedule) (below : List Asked) (turns : ℕ) → IsServing (head_of s below) s later turns → AreQuiet below
    → IsLeftSame k (ask_drr own below s) (ask_drr (record own { discipline = Drr later }) below later)
drr-goes-on k own s later below turns h quiet =
    let v : Service = service_of s below in
    let w : Service = service_of later below in
    let kids : w.below ≡ v.below =
    kids-quiet _ later.classes below quiet ∙ ap (λ (cs : List Class). map (λ pair. pair.1.before) (zip cs below)) h.classes ∙ sym (kids-quiet _ s.classes below quiet) in
    let rises : w.rises ≡ v.rises = rises-quiet later below _ quiet ∙ sym (rises-quiet s below _ quiet) in
    let same : w ≡ record v { grants = w.grants } = λ i. record { schedule = served-on s later below turns h i; below = kids i; rises = rises i; grants = w.grants } in
    subst (λ (x : Service). IsLeftSame k (ask_drr own below s) (walked (record own { discipline = Drr later }) below x (place_met later below))) (sym same)
    (subst (λ (met : Option ℕ). IsLeftSame k (ask_drr own below s) (walked (record own { discipline = Drr later }) below (record v { grants = w.grants }) met)) (sym (place-on s later below turns h))
    (walked-same k own later below v w.grants (skip-grants (choice_of (head_of later below) later) later.active) (skip-grants (choice_of (head_of s below) s) s.active) (place_met s below)))
