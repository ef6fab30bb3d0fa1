-- The active list of a drr holds exactly the classes whose child has something queued, over every change of a child.
use Rattle.std.proofs.Common.{◌≡◌, ℕ, zero, suc, List, [], ◌∷◌, ◌++◌, length, set, take, drop, refl, sym, ap, ap₂, subst, Option, Some, None, ◌∙◌, eq-eqb}
use Rattle.std.specs.Prelude.{Bool, true, false, not, cond, ◌||◌, ◌==◌, slice_get, if◌then◌else◌}
use Rattle.std.specs.List.{AllZip, list_any, filter}
use Rattle.std.proofs.lemmas.Bool.{eqb-true, eqb-false, ne_eqb, or_parts}
use Rattle.std.proofs.lemmas.List.Folds.{list_any-append}
use Rattle.std.proofs.lemmas.Option.{same_Some}
use Rattle.std.specs.Option.{option_map_or}
use Rattle.q_packet.specs.Choice.{Choice}
use Rattle.q_packet.specs.Descriptor.{Descriptor}
use Rattle.q_drr.specs.Schedule.{Class, Entry, Schedule, is_active, asleep, woken}
use Rattle.q_drr.specs.Take.{granted, brought_up, prepared, sent_by, sent_in, served, choice_of}
use Rattle.q_drr.specs.Schedule as drr
use Rattle.q_drr.proofs.DifferLemmas.{ClassesDiffer}
use Rattle.q_model.specs.Work.{settled_class}
use Rattle.q_invariants.proofs.tree.Members.{fails-at}

-- a class is active exactly where something is queued
abbrev pub IsExact : (ℕ → Bool) → Class → List Descriptor → Type 0
IsExact active c packets = active c.name ≡ not (length packets == 0)

abbrev pub AreExact : (ℕ → Bool) → List Class → List (List Descriptor) → Type 0
AreExact active classes below = AllZip (IsExact active) classes below

-- a child for each class, and the class of each child
pub exact-length : (active : ℕ → Bool) (classes : List Class) (below : List (List Descriptor)) → AreExact active classes below → length classes ≡ length below
exact-length active [] [] h = refl
exact-length active [] (ps ∷ below) h = absurd h
exact-length active (c ∷ classes) [] h = absurd h
exact-length active (c ∷ classes) (ps ∷ below) h = ap suc (exact-length active classes below h.1)

pub class-there : (active : ℕ → Bool) (classes : List Class) (below : List (List Descriptor)) (i : ℕ) (x : List Descriptor)
    → AreExact active classes below → slice_get below i ≡ Some x → (c : Class) × (slice_get classes i ≡ Some c)
class-there active [] [] i x h e = cc
class-there active [] (y ∷ below) i x h e = absurd h
class-there active (c ∷ classes) [] i x h e = cc
class-there active (c ∷ classes) (y ∷ below) zero x h e = (c, refl)
class-there active (c ∷ classes) (y ∷ below) (suc i) x h e = class-there active classes below i x h.1 e

-- which classes are active after each change of a schedule
active-append : (n : ℕ) (xs ys : List Entry) → is_active n (xs ++ ys) ≡ (is_active n xs || is_active n ys)
active-append n xs ys = list_any-append (λ (e : Entry). n == e.class) xs ys

or_swapped : (a b : Bool) → (a || b) ≡ (b || a)
or_swapped true true = refl
or_swapped true false = refl
or_swapped false true = refl
or_swapped false false = refl

active-granted : (n : ℕ) (quantum : ℕ → ℕ) (k : ℕ) (es : List Entry) → is_active n (granted quantum k es) ≡ is_active n es
active-granted n quantum k [] = refl
active-granted n quantum k (e ∷ es) = ap (λ b. (n == e.class) || b) (active-granted n quantum k es)

active-split : (n k : ℕ) (es : List Entry) → (is_active n (take k es) || is_active n (drop k es)) ≡ is_active n es
active-split n zero es = refl
active-split n (suc k) [] = refl
active-split n (suc k) (e ∷ es) = or_grouped (n == e.class) (is_active n (take k es)) (is_active n (drop k es)) ∙ ap (λ b. (n == e.class) || b) (active-split n k es)
  where
    or_grouped : (a b c : Bool) → ((a || b) || c) ≡ (a || (b || c))
    or_grouped true b c = refl
    or_grouped false b c = refl

pub active-brought_up : (n : ℕ) (quantum : ℕ → ℕ) (o : Option Choice) (es : List Entry) → is_active n (brought_up quantum o es) ≡ is_active n es
active-brought_up n quantum None es = refl
active-brought_up n quantum (Some c) es =
    active-append n (granted quantum c.rounds (drop c.place es)) (granted quantum (suc c.rounds) (take c.place es))
    ∙ ap₂ (λ a b. a || b) (active-granted n quantum c.rounds (drop c.place es)) (active-granted n quantum (suc c.rounds) (take c.place es))
    ∙ or_swapped (is_active n (drop c.place es)) (is_active n (take c.place es))
    ∙ active-split n c.place es

active-sent_in : (n : ℕ) (heads : ℕ → Option ℕ) (es : List Entry) (s : Schedule) → s.active ≡ es → is_active n (sent_in heads es s).active ≡ is_active n es
active-sent_in n heads [] s e = ap (is_active n) e
active-sent_in n heads (x ∷ es) s e = by (heads x.class)
  where
    by : (o : Option ℕ) → is_active n (sent_by o x es s).active ≡ is_active n (x ∷ es)
    by None = ap (is_active n) e
    by (Some len) = refl

pub active-served : (n : ℕ) (heads : ℕ → Option ℕ) (s : Schedule) → is_active n (served heads s).active ≡ is_active n s.active
active-served n heads s =
    active-sent_in n heads (prepared heads s).active (prepared heads s) refl
    ∙ active-brought_up n (λ m. drr.quantum_of m s.classes) (choice_of heads s) s.active

pub classes-served : (heads : ℕ → Option ℕ) (s : Schedule) → (served heads s).classes ≡ s.classes
classes-served heads s = by (prepared heads s).active
  where
    given : (x : Entry) (es : List Entry) (o : Option ℕ) → (sent_by o x es (prepared heads s)).classes ≡ s.classes
    given x es None = refl
    given x es (Some len) = refl

    by : (es : List Entry) → (sent_in heads es (prepared heads s)).classes ≡ s.classes
    by [] = refl
    by (x ∷ es) = given x es (heads x.class)

pub longest-served : (heads : ℕ → Option ℕ) (s : Schedule) → (served heads s).max_len ≡ s.max_len
longest-served heads s = by (prepared heads s).active
  where
    given : (x : Entry) (es : List Entry) (o : Option ℕ) → (sent_by o x es (prepared heads s)).max_len ≡ s.max_len
    given x es None = refl
    given x es (Some len) = refl

    by : (es : List Entry) → (sent_in heads es (prepared heads s)).max_len ≡ s.max_len
    by [] = refl
    by (x ∷ es) = given x es (heads x.class)

-- one that falls asleep is not active, and the others are as they were
asleep-itself : (m : ℕ) (es : List Entry) → is_active m (filter (λ (e : Entry). not (m == e.class)) es) ≡ false
asleep-itself m [] = refl
asleep-itself m (e ∷ es) = by (m == e.class) refl (asleep-itself m es)
  where
    by : (b : Bool) → (m == e.class) ≡ b → is_active m (filter (λ (e : Entry). not (m == e.class)) es) ≡ false
        → is_active m (cond (not b) (e ∷ filter (λ (e : Entry). not (m == e.class)) es) (filter (λ (e : Entry). not (m == e.class)) es)) ≡ false
    by true h rest = rest
    by false h rest = ap (λ b. b || is_active m (filter (λ (e : Entry). not (m == e.class)) es)) h ∙ rest

asleep-other : (n m : ℕ) (es : List Entry) → (n == m) ≡ false → is_active n (filter (λ (e : Entry). not (m == e.class)) es) ≡ is_active n es
asleep-other n m [] apart = refl
asleep-other n m (e ∷ es) apart = by (m == e.class) refl (asleep-other n m es apart)
  where
    by : (b : Bool) → (m == e.class) ≡ b → is_active n (filter (λ (e : Entry). not (m == e.class)) es) ≡ is_active n es
        → is_active n (cond (not b) (e ∷ filter (λ (e : Entry). not (m == e.class)) es) (filter (λ (e : Entry). not (m == e.class)) es)) ≡ is_active n (e ∷ es)
    by true h rest = rest ∙ sym (ap (λ b. b || is_active n es) (ne_eqb n e.class (λ same. eqb-false n m apart (same ∙ sym (eqb-true m e.class h)))))
    by false h rest = ap (λ b. (n == e.class) || b) rest

-- one that wakes is active, and the others are as they were
woken-itself : (m : ℕ) (s : Schedule) → is_active m (woken m s).active ≡ true
woken-itself m s = by (is_active m s.active) refl
  where
    by : (b : Bool) → is_active m s.active ≡ b
        → is_active m (if b then s else record s { active = s.active ++ record { class = m; deficit = drr.quantum_of m s.classes; granted = 0 } ∷ [] }).active ≡ true
    by true h = h
    by false h =
        active-append m s.active (record { class = m; deficit = drr.quantum_of m s.classes; granted = 0 } ∷ [])
        ∙ ap (λ b. b || ((m == m) || false)) h ∙ ap (λ b. b || false) (eq-eqb m m refl)

woken-other : (n m : ℕ) (s : Schedule) → (n == m) ≡ false → is_active n (woken m s).active ≡ is_active n s.active
woken-other n m s apart = by (is_active m s.active)
  where
    last : (b : Bool) → (b || false) ≡ b
    last true = refl
    last false = refl

    by : (b : Bool) → is_active n (if b then s else record s { active = s.active ++ record { class = m; deficit = drr.quantum_of m s.classes; granted = 0 } ∷ [] }).active ≡ is_active n s.active
    by true = refl
    by false =
        active-append n s.active (record { class = m; deficit = drr.quantum_of m s.classes; granted = 0 } ∷ [])
        ∙ ap (λ b. is_active n s.active || (b || false)) apart ∙ last (is_active n s.active)

-- the class at a place, asleep where its child is emptied and else awake
abbrev pub settled_schedule : Bool → Class → Schedule → Schedule
settled_schedule emptied c s = if emptied then asleep c.name s else woken c.name s

settled-itself : (emptied : Bool) (c : Class) (s : Schedule) → is_active c.name (settled_schedule emptied c s).active ≡ not emptied
settled-itself true c s = asleep-itself c.name s.active
settled-itself false c s = woken-itself c.name s

settled-other : (emptied : Bool) (c : Class) (s : Schedule) (n : ℕ) → (n == c.name) ≡ false → is_active n (settled_schedule emptied c s).active ≡ is_active n s.active
settled-other true c s n apart = asleep-other n c.name s.active apart
settled-other false c s n apart = woken-other n c.name s apart

-- where activity is the same, exactness is
pub exact-same : (a b : ℕ → Bool) (classes : List Class) (below : List (List Descriptor)) → ((n : ℕ) → b n ≡ a n) → AreExact a classes below → AreExact b classes below
exact-same a b [] [] same h = tt
exact-same a b [] (x ∷ below) same h = absurd h
exact-same a b (c ∷ classes) [] same h = absurd h
exact-same a b (c ∷ classes) (x ∷ below) same h = (same c.name ∙ h.0, exact-same a b classes below same h.1)

-- the classes that do not have this number
pub exact-others : (a b : ℕ → Bool) (m : ℕ) (classes : List Class) (below : List (List Descriptor)) → list_any (λ (c : Class). m == c.name) classes ≡ false
    → ((n : ℕ) → (n == m) ≡ false → b n ≡ a n) → AreExact a classes below → AreExact b classes below
exact-others a b m [] [] none same h = tt
exact-others a b m [] (x ∷ below) none same h = absurd h
exact-others a b m (c ∷ classes) [] none same h = absurd h
exact-others a b m (c ∷ classes) (x ∷ below) none same h =
    let parts = or_parts (m == c.name) (list_any (λ (c : Class). m == c.name) classes) none in
    (same c.name (ne_eqb c.name m (λ e. eqb-false m c.name parts.0 (sym e))) ∙ h.0, exact-others a b m classes below parts.1 same h.1)

-- one child has other packets, and its class is active accordingly
exact-set : (a b : ℕ → Bool) (classes : List Class) (below : List (List Descriptor)) (i : ℕ) (c : Class) (packets : List Descriptor) → slice_get classes i ≡ Some c
    → ClassesDiffer classes → IsExact b c packets → ((n : ℕ) → (n == c.name) ≡ false → b n ≡ a n) → AreExact a classes below → AreExact b classes (set below i packets)
exact-set a b [] below i c packets e differ here same h = cc
exact-set a b (d ∷ classes) [] i c packets e differ here same h = absurd h
exact-set a b (d ∷ classes) (x ∷ below) zero c packets e differ here same h =
    let is : d ≡ c = same_Some d c e in (
      subst (λ (y : Class). IsExact b y packets) (sym is) here,
      exact-others a b c.name classes below (subst (λ (y : Class). list_any (λ (z : Class). y.name == z.name) classes ≡ false) is differ.0) same h.1,
    )
exact-set a b (d ∷ classes) (x ∷ below) (suc i) c packets e differ here same h =
    (same d.name (fails-at (λ (z : Class). d.name == z.name) classes i c differ.0 e) ∙ h.0, exact-set a b classes below i c packets e differ.1 here same h.1)

pub exact-settled : (s : Schedule) (classes : List Class) (below : List (List Descriptor)) (i : ℕ) (c : Class) (packets : List Descriptor) → slice_get classes i ≡ Some c → ClassesDiffer classes
    → AreExact (λ n. is_active n s.active) classes below → AreExact (λ n. is_active n (settled_schedule (length packets == 0) c s).active) classes (set below i packets)
exact-settled s classes below i c packets e differ h =
    exact-set (λ n. is_active n s.active) (λ n. is_active n (settled_schedule (length packets == 0) c s).active) classes below i c packets e differ
    (settled-itself (length packets == 0) c s) (settled-other (length packets == 0) c s) h

pub settled-at : (i : ℕ) (emptied : Bool) (s : Schedule) (c : Class) → slice_get s.classes i ≡ Some c → settled_class i emptied s ≡ settled_schedule emptied c s
settled-at i emptied s c e = ap (λ o. option_map_or (λ (c : Class). if emptied then asleep c.name s else woken c.name s) o s) e

pub settled-classes : (emptied : Bool) (c : Class) (s : Schedule) → (settled_schedule emptied c s).classes ≡ s.classes
settled-classes true c s = refl
settled-classes false c s = by (is_active c.name s.active)
  where
    by : (b : Bool) → (if b then s else record s { active = s.active ++ record { class = c.name; deficit = drr.quantum_of c.name s.classes; granted = 0 } ∷ [] }).classes ≡ s.classes
    by true = refl
    by false = refl

pub settled-longest : (emptied : Bool) (c : Class) (s : Schedule) → (settled_schedule emptied c s).max_len ≡ s.max_len
settled-longest true c s = refl
settled-longest false c s = by (is_active c.name s.active)
  where
    by : (b : Bool) → (if b then s else record s { active = s.active ++ record { class = c.name; deficit = drr.quantum_of c.name s.classes; granted = 0 } ∷ [] }).max_len ≡ s.max_len
    by true = refl
    by false = refl
