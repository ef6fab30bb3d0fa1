-- The nodes of a tree in the order of show, one after the other, and what is shown of each.
use Rattle.std.proofs.Common.{◌≡◌, ℕ, zero, suc, ◌+◌, ◌-◌, ◌≤◌, ◌<◌, ◌∙◌, List, [], ◌∷◌, ◌++◌, map, drop, length, refl, sym, ap, ap₂, subst, Option, Some, None, option_map, option_and_then, arith}
use Rattle.std.specs.Prelude.{◌↔◌, Bool, true, false, ◌==◌, ◌||◌, cond, IsTrue, IsSome, IfSome, slice_get, slice_index_or, unwrap_or}
use Rattle.std.specs.List.{filter_map, find, range_with_len}
use Rattle.std.specs.Option.{option_map_or}
use Rattle.std.proofs.lemmas.Bool.{eq-eqb, false≢true}
use Rattle.std.proofs.lemmas.List.{drop_more, drop_all, length-append, length-map, map-append}
use Rattle.std.proofs.lemmas.List.FromFn.{length-range_with_len, get_or-range_with_len}
use Rattle.std.proofs.lemmas.Option.{none-some, same_Some, slice_get_past, slice_get-get_or, slice_get-map}
use Rattle.q_drr.specs.Schedule.{Class, Entry, Schedule, has_class, is_active, deficit_of, quantum_of, name_at}
use Rattle.q_model.specs.declared.class_id.ClassId.{ClassId}
use Rattle.q_model.specs.declared.class_kind.ClassKind.TheVariants as class
use Rattle.q_model.specs.declared.place.Place.{Place}
use Rattle.q_model.specs.declared.place.Place.TheVariants as place
use Rattle.q_model.specs.declared.qdisc_view.QdiscView.TheVariants as qdisc
use Rattle.q_model.specs.Beneath.{beneath_own}
use Rattle.q_model.specs.Lawful.{IsLawfulOwn, IsLawfulDiscipline, IsLawfulPrio, IsLawfulDrr}
use Rattle.q_model.specs.Node as spec
use Rattle.q_model.specs.Conserved.{every_node, nodes_of}
use Rattle.q_model.specs.Find.{depth, greatest}
use Rattle.q_model.specs.Node.{Forest, none, more, Node, children, each, from_below, nodes_in, side_by_side}
use Rattle.q_model.specs.TreeState.{TreeState}
use Rattle.q_model.specs.declared.node_view.NodeView.{NodeView}
use Rattle.q_model.specs.Numbers.{IsMinor}
use Rattle.q_model.specs.Views.{class_ids, class_kind, minors, node, node_view, places_below, qdisc_view, views, views_in}
use Rattle.q_invariants.proofs.tree.Forests.{each-nodes, each-side, nodes-side, side-nodes}
use Rattle.q_invariants.proofs.tree.Members.{All-at, passes-at}
use Rattle.q_invariants.proofs.tree.Quiet.{child-lawful}
use Rattle.q_tree.specs.answers.Showing.{HasClass, IsNumbered, standing, standing_in}
use Rattle.q_tree.specs.Kept.{Kept, kept}
use Rattle.q_tree.specs.NodeCode.{forest_size, node_size}
use Rattle.q_tree.specs.route.Ahead.{depths}
use Rattle.q_tree.specs.Seen.{seen, children_seen, discipline_seen}
use Rattle.q_tree.specs.declared.node.Discipline.TheVariants.{Prio, Drr}
use Rattle.q_tree.specs.declared.node.Node.TheInside.{Inside}
use Rattle.q_tree.proofs.route.RouteLemmas.{child-depth, child-size}

-- a child is smaller than its node
pub beneath-size : (n : Node Kept) (ns : List (Node Kept)) (i : ℕ) (c : Node Kept) → ns ≡ children n → slice_get ns i ≡ Some c → node_size c < node_size n
beneath-size n ns i c is at = omega (arith, child-size ns i c at, ap forest_size (ap side_by_side is ∙ side-nodes n.below))

-- and less deep
pub beneath-depth : (n : Node Kept) (ns : List (Node Kept)) (i : ℕ) (c : Node Kept) → ns ≡ children n → slice_get ns i ≡ Some c → suc (depth c) ≤ depth n
beneath-depth n ns i c is at =
    omega (arith, child-depth ns i c at, ap (λ xs. greatest (depths xs)) is, ap greatest (each-nodes (λ own below. suc (greatest below)) n.below))

-- nodes side by side, from this one on
abbrev pub from : List Place → List (Node Kept) → ℕ → List (Place × Node Kept)
from places ns i = standing_in (drop i places) (side_by_side (drop i ns))

get-front : {A : Type 0} (xs ys : List A) (k : ℕ) (x : A) → slice_get xs k ≡ Some x → slice_get (xs ++ ys) k ≡ Some x
get-front [] ys k x e = absurd (none-some x e)
get-front (y ∷ xs) ys zero x e = e
get-front (y ∷ xs) ys (suc k) x e = get-front xs ys k x e

get-back : {A : Type 0} (xs ys : List A) (k m : ℕ) → k + length xs ≡ m → slice_get (xs ++ ys) m ≡ slice_get ys k
get-back [] ys k m e = ap (slice_get ys) (sym (omega (arith, e)))
get-back (x ∷ xs) ys k zero e = absurd (omega (arith, e))
get-back (x ∷ xs) ys k (suc m) e = get-back xs ys k m (omega (arith, e))

pub get-next : {A : Type 0} (x : A) (xs : List A) (k : ℕ) → 0 < k → slice_get (x ∷ xs) k ≡ slice_get xs (k - 1)
get-next x xs zero e = absurd (omega (arith, e))
get-next x xs (suc k) e = ap (slice_get xs) (omega arith)

first-dropped : {A : Type 0} (xs : List A) (i : ℕ) → slice_get (drop i xs) 0 ≡ slice_get xs i
first-dropped [] zero = refl
first-dropped [] (suc i) = refl
first-dropped (x ∷ xs) zero = refl
first-dropped (x ∷ xs) (suc i) = first-dropped xs i

more-by-one : (k : ℕ) → suc k ≡ k + 1
more-by-one k = omega arith

rest-dropped : {A : Type 0} (xs : List A) (i : ℕ) → drop 1 (drop i xs) ≡ drop (i + 1) xs
rest-dropped xs i = by xs i ∙ ap (λ k. drop k xs) (more-by-one i) where
  by : {A : Type 0} (xs : List A) (i : ℕ) → drop 1 (drop i xs) ≡ drop (suc i) xs
  by [] zero = refl
  by [] (suc i) = refl
  by (x ∷ xs) zero = refl
  by (x ∷ xs) (suc i) = by xs i

module _ (places : List Place) (ns : List (Node Kept)) (i : ℕ) (n : Node Kept) (inside : i < length ns) (is : n ≡ slice_index_or ns i n) where
  abbrev pub here : Place
  here = unwrap_or (slice_get places i) place.Root

  pub from-here : from places ns i ≡ standing here n ++ from places ns (i + 1)
  from-here =
      ap (λ xs. standing_in (drop i places) (side_by_side xs)) (drop_more ns i n inside ∙ ap (λ x. x ∷ drop (i + 1) ns) (sym is))
      ∙ ap (λ o. standing (unwrap_or o place.Root) n ++ standing_in (drop 1 (drop i places)) (side_by_side (drop (i + 1) ns))) (first-dropped places i)
      ∙ ap (λ ps. standing here n ++ standing_in ps (side_by_side (drop (i + 1) ns))) (rest-dropped places i)

  -- the node that is looked for stands here or beneath
  pub found-here : (k : ℕ) (x : Place × Node Kept) → slice_get (standing here n) k ≡ Some x → slice_get (from places ns i) k ≡ Some x
  found-here k x e = ap (λ xs. slice_get xs k) from-here ∙ get-front (standing here n) (from places ns (i + 1)) k x e

  -- or further on
  pub found-later : (k m : ℕ) → k + length (standing here n) ≡ m → slice_get (from places ns i) m ≡ slice_get (from places ns (i + 1)) k
  found-later k m e = ap (λ xs. slice_get xs m) from-here ∙ get-back (standing here n) (from places ns (i + 1)) k m e

  pub count-here : length (from places ns i) ≡ length (standing here n) + length (from places ns (i + 1))
  count-here = ap length from-here ∙ length-append (standing here n) (from places ns (i + 1))

pub nobody-left : (places : List Place) (ns : List (Node Kept)) (i : ℕ) → length ns ≤ i → from places ns i ≡ []
nobody-left places ns i past = ap (λ xs. standing_in (drop i places) (side_by_side xs)) (drop_all i ns past)

-- a node, and then its children
pub beneath-first : (p : Place) (n : Node Kept) (ns : List (Node Kept)) → ns ≡ children n → standing p n ≡ (p, n) ∷ from (places_below n.own n.below) ns 0
beneath-first p n ns is = ap (λ x. (p, n) ∷ standing_in (places_below n.own n.below) x) (sym (side-nodes n.below) ∙ ap side_by_side (sym is))

-- and a child's classes have numbers too
pub child-numbered : (n : Node Kept) (ns : List (Node Kept)) (i : ℕ) (c : Node Kept) → IsNumbered n → ns ≡ children n → slice_get ns i ≡ Some c → IsNumbered c
child-numbered n ns i c h is at =
    record { mtu = h.mtu; clock = h.clock; lawful = child-lawful h.mtu h.clock n.below i c h.lawful.1 (ap (λ xs. slice_get xs i) (sym is) ∙ at) }

-- what a node with a handle shows of each of its classes, or of its filters
module _ {A B : Type 0} (f : A → ℕ → B) where
  nobody : (xs : List A) (i : ℕ) → slice_get (filter_map (λ x. option_map (f x) None) xs) i ≡ None
  nobody [] i = slice_get_past [] i (omega arith)
  nobody (x ∷ xs) i = nobody xs i

  all : (h : ℕ) (xs : List A) (i : ℕ) → slice_get (filter_map (λ x. option_map (f x) (Some h)) xs) i ≡ option_map (λ x. f x h) (slice_get xs i)
  all h [] i = slice_get_past [] i (omega arith) ∙ sym (ap (option_map (λ x. f x h)) (slice_get_past [] i (omega arith)))
  all h (x ∷ xs) zero = refl
  all h (x ∷ xs) (suc i) = all h xs i

  pub by-handle : (o : Option ℕ) (xs : List A) (i : ℕ) → slice_get (filter_map (λ x. option_map (f x) o) xs) i ≡ option_and_then (λ h. option_map (λ x. f x h) (slice_get xs i)) o
  by-handle None xs i = nobody xs i
  by-handle (Some h) xs i = all h xs i

-- the number of a band, counted from 1
pub band-number : (bands i : ℕ) → i < bands → slice_get (range_with_len 1 bands) i ≡ Some (i + 1)
band-number bands i inside =
    slice_get-get_or (range_with_len 1 bands) i 0 (omega (arith, inside, length-range_with_len 1 bands))
    ∙ ap Some (get_or-range_with_len 1 bands i 0 inside ∙ omega arith)

pub no-band : (bands i : ℕ) → bands ≤ i → slice_get (range_with_len 1 bands) i ≡ None
no-band bands i past = slice_get_past (range_with_len 1 bands) i (omega (arith, past, length-range_with_len 1 bands))

pub minor-made : (o : Option ℕ) (k : ℕ) → (IsSome o ↔ IsMinor k) → IfSome o (λ n. n ≡ k) → IsMinor k → o ≡ Some k
minor-made None k made value fits = absurd (false≢true (made.1 fits))
minor-made (Some n) k made value fits = ap Some value

-- a prio has at most 16 bands, and the class of a drr is a minor number
module _ (a : Inside) (n : Node Kept) (h : IsNumbered n) (view : seen a ≡ n) where
  lawful-here : IsLawfulOwn h.mtu h.clock (seen a).own (each beneath_own (seen a).below)
  lawful-here = subst (λ (m : Node Kept). IsLawfulOwn h.mtu h.clock m.own (each beneath_own m.below)) (sym view) h.lawful.0

  module _ (priomap : List ℕ) (bands : _) (is : a.discipline ≡ Prio priomap bands) where
    pub few-bands : length bands.items ≤ 16
    few-bands =
        let law : IsLawfulPrio priomap (each beneath_own (side_by_side bands.items)) =
        subst (λ d. IsLawfulDiscipline h.mtu h.clock (each beneath_own (side_by_side (children_seen d))) (discipline_seen d)) is
        lawful-here.discipline in
        omega (arith, law.most, ap length (each-side beneath_own bands.items), length-map bands.items (from_below beneath_own))

    pub minors-prio : minors (length (children n)) n.own.discipline ≡ range_with_len 1 (length bands.items)
    minors-prio =
        ap (λ (m : Node Kept). minors (length (children m)) m.own.discipline) (sym view)
        ∙ ap (λ d. minors (length (nodes_in (side_by_side (children_seen d)))) (discipline_seen d)) is
        ∙ ap (λ (ns : List (Node Kept)). range_with_len 1 (length ns)) (nodes-side bands.items)

    pub view-prio : qdisc.Prio (length bands.items) priomap ≡ qdisc_view (length (children n)) n.own.discipline
    view-prio =
        ap (λ (ns : List (Node Kept)). qdisc.Prio (length ns) priomap) (sym (nodes-side bands.items))
        ∙ sym (ap (λ d. qdisc_view (length (nodes_in (side_by_side (children_seen d)))) (discipline_seen d)) is)
        ∙ ap (λ (m : Node Kept). qdisc_view (length (children m)) m.own.discipline) view

  module _ (s : Schedule) (classes : _) (is : a.discipline ≡ Drr s classes) where
    pub drr-minors : minors (length (children n)) n.own.discipline ≡ map (λ (c : Class). c.name) s.classes
    drr-minors =
        ap (λ (m : Node Kept). minors (length (children m)) m.own.discipline) (sym view)
        ∙ ap (λ d. minors (length (nodes_in (side_by_side (children_seen d)))) (discipline_seen d)) is

    pub named-minor : (i k : ℕ) → name_at i s.classes ≡ Some k → IsMinor k
    named-minor i k e =
        let law : IsLawfulDrr h.mtu s (each beneath_own (side_by_side classes.items)) =
        subst (λ d. IsLawfulDiscipline h.mtu h.clock (each beneath_own (side_by_side (children_seen d))) (discipline_seen d)) is
        lawful-here.discipline in
        by law (slice_get s.classes i) refl e where
          by : IsLawfulDrr h.mtu s (each beneath_own (side_by_side classes.items)) → (o : Option Class) → slice_get s.classes i ≡ o → option_map (λ (c : Class). c.name) o ≡ Some k → IsMinor k
          by law None at e = absurd (none-some k e)
          by law (Some c) at e = subst IsMinor (same_Some c.name k e) (All-at (λ (c : Class). IsMinor c.name) s.classes i c law.minors at)

-- a class that is shown is there
pub there : (n : Node Kept) (j : ℕ) (id : ClassId) → slice_get (class_ids n) j ≡ Some id → HasClass id.minor n.own.discipline
there n j id e = by n.own.discipline n.own.handle (sym (by-handle with_major n.own.handle (minors (length (children n)) n.own.discipline) j) ∙ e) where
  with_major : ℕ → ℕ → ClassId
  with_major minor major = record { major = major; minor = minor }

  found : (s : Schedule) (h : ℕ) (o : Option Class) → slice_get s.classes j ≡ o
      → option_map (λ m. with_major m h) (option_map (λ (c : Class). c.name) o) ≡ Some id → IsTrue (has_class id.minor s.classes)
  found s h None at e = absurd (none-some id e)
  found s h (Some c) at e =
      passes-at (λ (d : Class). id.minor == d.name) s.classes j c at (eq-eqb id.minor c.name (ap (λ (i : ClassId). i.minor) (sym (same_Some (with_major c.name h) id e))))

  by : (d : spec.Discipline) (o : Option ℕ) → option_and_then (λ h. option_map (λ m. with_major m h) (slice_get (minors (length (children n)) d) j)) o ≡ Some id → HasClass id.minor d
  by (spec.Fifo limit queue) o e = tt
  by (spec.Prio priomap) o e = tt
  by (spec.Tbf bucket limit) o e = tt
  by (spec.FqCodel s) o e = tt
  by (spec.Drr s) None e = absurd (none-some id e)
  by (spec.Drr s) (Some h) e = found s h (slice_get s.classes j) refl (sym (ap (option_map (λ m. with_major m h)) (slice_get-map (λ (c : Class). c.name) s.classes j)) ∙ e)

pub class-asleep : (s : Schedule) (minor : ℕ) → is_active minor s.active ≡ false → class.Drr (quantum_of minor s.classes) None ≡ class_kind (spec.Drr s) minor
class-asleep s minor e = ap (class.Drr (quantum_of minor s.classes)) (asleep s.active e) where
  asleep : (es : List Entry) → is_active minor es ≡ false → None ≡ option_map (λ (e : Entry). e.deficit) (find (λ (e : Entry). minor == e.class) es)
  asleep [] e = refl
  asleep (x ∷ es) e = by (minor == x.class) (asleep es) e where
    by : (b : Bool) → (is_active minor es ≡ false → None ≡ option_map (λ (e : Entry). e.deficit) (find (λ (e : Entry). minor == e.class) es)) → (b || is_active minor es) ≡ false
        → None ≡ option_map (λ (e : Entry). e.deficit) (cond b (Some x) (find (λ (e : Entry). minor == e.class) es))
    by true rest e = absurd (false≢true (sym e))
    by false rest e = rest e

pub class-awake : (s : Schedule) (minor : ℕ) → is_active minor s.active ≡ true → class.Drr (quantum_of minor s.classes) (Some (deficit_of minor s.active)) ≡ class_kind (spec.Drr s) minor
class-awake s minor e = ap (class.Drr (quantum_of minor s.classes)) (awake s.active e) where
  awake : (es : List Entry) → is_active minor es ≡ true → Some (deficit_of minor es) ≡ option_map (λ (e : Entry). e.deficit) (find (λ (e : Entry). minor == e.class) es)
  awake [] e = absurd (false≢true e)
  awake (x ∷ es) e = by (minor == x.class) (awake es) e where
    by : (b : Bool) → (is_active minor es ≡ true → Some (deficit_of minor es) ≡ option_map (λ (e : Entry). e.deficit) (find (λ (e : Entry). minor == e.class) es)) → (b || is_active minor es) ≡ true
        → Some (option_map_or (λ (e : Entry). e.deficit) (cond b (Some x) (find (λ (e : Entry). minor == e.class) es)) 0)
        ≡ option_map (λ (e : Entry). e.deficit) (cond b (Some x) (find (λ (e : Entry). minor == e.class) es))
    by true rest e = refl
    by false rest e = rest e

-- what is shown of every node, and every node
views-are : (places : List Place) (x : Forest Kept) → views_in kept places x ≡ map (λ (y : Place × Node Kept). node_view kept y.0 y.1) (standing_in places x)
views-are places none = refl
views-are places (more own m below others) =
    ap₂ (λ (xs ys : List NodeView). node_view kept (unwrap_or (slice_get places 0) place.Root) (record { own = own; memory = m; below = below }) ∷ xs
    ++ ys) (views-are (places_below own below) below) (views-are (drop 1 places) others)
    ∙ ap (λ xs. node_view kept (unwrap_or (slice_get places 0) place.Root) (record { own = own; memory = m; below = below }) ∷ xs)
    (sym (map-append (λ (y : Place × Node Kept). node_view kept y.0 y.1) (standing_in (places_below own below) below) (standing_in (drop 1 places) others)))

pub views-standing : (s : TreeState Kept) → map (λ (y : Place × Node Kept). node_view kept y.0 y.1) (standing place.Root s.root) ≡ views kept s
views-standing s = sym (ap (λ xs. node_view kept place.Root s.root ∷ xs) (views-are (places_below s.root.own s.root.below) s.root.below))

pub node-shown : (s : TreeState Kept) (i : ℕ) → option_map (λ (y : Place × Node Kept). node_view kept y.0 y.1) (slice_get (standing place.Root s.root) i) ≡ node kept i s
node-shown s i =
    sym (slice_get-map (λ (y : Place × Node Kept). node_view kept y.0 y.1) (standing place.Root s.root) i) ∙ ap (λ vs. slice_get vs i) (views-standing s)

nodes-are : (places : List Place) (x : Forest Kept) → nodes_of x ≡ map (λ (y : Place × Node Kept). y.1) (standing_in places x)
nodes-are places none = refl
nodes-are places (more own m below others) =
    ap₂ (λ (xs ys : List (Node Kept)). record { own = own; memory = m; below = below } ∷ xs ++ ys) (nodes-are (places_below own below) below) (nodes-are (drop 1 places) others)
    ∙ ap (λ xs. record { own = own; memory = m; below = below } ∷ xs)
    (sym (map-append (λ (y : Place × Node Kept). y.1) (standing_in (places_below own below) below) (standing_in (drop 1 places) others)))

pub every-standing : (n : Node Kept) → map (λ (y : Place × Node Kept). y.1) (standing place.Root n) ≡ every_node n
every-standing n = sym (ap (λ xs. n ∷ xs) (nodes-are (places_below n.own n.below) n.below))

pub every-node : (n : Node Kept) (i : ℕ) → option_map (λ (y : Place × Node Kept). y.1) (slice_get (standing place.Root n) i) ≡ slice_get (every_node n) i
every-node n i = sym (slice_get-map (λ (y : Place × Node Kept). y.1) (standing place.Root n) i) ∙ ap (λ ns. slice_get ns i) (every-standing n)

-- what is found of the node that is looked for
pub of-node : {A : Type 0} (f : Node Kept → Option A) (n : Node Kept) (i : ℕ) (o : Option (Place × Node Kept))
    → o ≡ slice_get (standing place.Root n) i → option_and_then (λ (y : Place × Node Kept). f y.1) o ≡ option_and_then f (slice_get (every_node n) i)
of-node f n i o e = apart o ∙ ap (λ x. option_and_then f (option_map (λ (y : Place × Node Kept). y.1) x)) e ∙ ap (option_and_then f) (every-node n i) where
  apart : (o : Option (Place × Node Kept)) → option_and_then (λ (y : Place × Node Kept). f y.1) o ≡ option_and_then f (option_map (λ (y : Place × Node Kept). y.1) o)
  apart None = refl
  apart (Some y) = refl
