-- What `tc qdisc show`, `tc class show` and `tc filter show` print of a tree (tc(8)), node by node from the root down.
-- Each node comes before what is below it; children come in class order.
use Rattle.std.specs.Prelude.{ℕ, ◌==◌, List, [], ◌∷◌, ◌++◌, map, drop, length, Option, option_map, option_and_then, slice_get, unwrap_or}
use Rattle.std.specs.List.{filter_map, find, range_with_len}
use Rattle.q_codel.specs.declared.limit.Limit.TheVariants.{Packets, Bytes}
use Rattle.q_drr.specs.Schedule.{Class, Entry, quantum_of}
use Rattle.q_model.specs.declared.class_id.ClassId.{ClassId}
use Rattle.q_model.specs.declared.class_kind.ClassKind.{ClassKind}
use Rattle.q_model.specs.declared.class_kind.ClassKind.TheVariants as class
use Rattle.q_model.specs.declared.class_view.ClassView.{ClassView}
use Rattle.q_model.specs.declared.filter.Filter.{Filter}
use Rattle.q_model.specs.declared.filter_view.FilterView.{FilterView}
use Rattle.q_model.specs.declared.node_view.NodeView.{NodeView}
use Rattle.q_model.specs.declared.place.Place.{Place}
use Rattle.q_model.specs.declared.place.Place.TheVariants as place
use Rattle.q_model.specs.declared.qdisc_view.QdiscView.{QdiscView}
use Rattle.q_model.specs.declared.qdisc_view.QdiscView.TheVariants as qdisc
use Rattle.q_model.specs.Tally.{Tally}
use Rattle.q_model.specs.Node.{Discipline, Fifo, Prio, Tbf, Drr, FqCodel, Own, Forest, none, more, Node, nodes_in, children}
use Rattle.q_model.specs.Beneath.{row}
use Rattle.q_model.specs.Conserved.{every_node}
use Rattle.q_model.specs.TreeState.{TreeState}

-- a discipline with so many children, and its settings
abbrev pub qdisc_view : ℕ → Discipline → QdiscView
qdisc_view bands (Fifo (Packets most) queue) = qdisc.Pfifo most
qdisc_view bands (Fifo (Bytes most) queue) = qdisc.Bfifo most
qdisc_view bands (Prio priomap) = qdisc.Prio bands priomap
qdisc_view bands (Tbf bucket limit) = qdisc.Tbf bucket.rate bucket.burst limit
qdisc_view bands (Drr s) = qdisc.Drr
qdisc_view bands (FqCodel s) = qdisc.FqCodel s.settings

-- the minor numbers of the classes of a node with so many children, in class order
abbrev pub minors : ℕ → Discipline → List ℕ
minors bands (Prio priomap) = range_with_len 1 bands
minors bands (Tbf bucket limit) = 1 ∷ []
minors bands (Drr s) = map (λ (c : Class). c.name) s.classes
minors bands (Fifo limit queue) = []
minors bands (FqCodel s) = []

-- their names; only a node with a handle has classes
abbrev pub ids_of : Own → ℕ → List ClassId
ids_of own bands =
    filter_map (λ minor. option_map (λ major. record { major = major; minor = minor }) own.handle) (minors bands own.discipline)

abbrev pub class_ids : {M : Type 0} → Node M → List ClassId
class_ids n = ids_of n.own (length (children n))

abbrev pub places_below : {M : Type 0} → Own → Forest M → List Place
places_below own below = map place.Class (ids_of own (length (nodes_in below)))

abbrev pub node_view : {M : Type 0} → Tally M → Place → Node M → NodeView
node_view t p n = record {
  handle = n.own.handle;
  place = p;
  qdisc = qdisc_view (length (children n)) n.own.discipline;
  row = row t n;
}

-- nodes side by side, which are in these places, and all below them
abbrev pub views_in : {M : Type 0} → Tally M → List Place → Forest M → List NodeView
views_in t places none = []
views_in t places (more own m below others) =
    node_view t (unwrap_or (slice_get places 0) place.Root) (record { own = own; memory = m; below = below })
    ∷ views_in t (places_below own below) below
    ++ views_in t (drop 1 places) others

abbrev pub views : {M : Type 0} → Tally M → TreeState M → List NodeView
views t s = node_view t place.Root s.root ∷ views_in t (places_below s.root.own s.root.below) s.root.below

-- a class of a drr is active with a deficit, or inactive; the only others are those of tbf and prio
abbrev pub class_kind : Discipline → ℕ → ClassKind
class_kind (Drr s) minor = class.Drr
    (quantum_of minor s.classes)
    (option_map (λ (e : Entry). e.deficit) (find (λ (e : Entry). minor == e.class) s.active))
class_kind (Tbf bucket limit) minor = class.Tbf
class_kind other minor = class.Prio

abbrev pub class_views : {M : Type 0} → Node M → List ClassView
class_views n = map (λ (c : ClassId). record { class = c; kind = class_kind n.own.discipline c.minor }) (class_ids n)

-- only a node with a handle has filters
abbrev pub filter_views : {M : Type 0} → Node M → List FilterView
filter_views n = filter_map (λ (f : Filter). option_map (λ parent. record { parent = parent; filter = f }) n.own.handle) n.own.filters

-- the i-th node, and its j-th class and filter
abbrev pub node : {M : Type 0} → Tally M → ℕ → TreeState M → Option NodeView
node t i s = slice_get (views t s) i

abbrev pub class_of : {M : Type 0} → ℕ → ℕ → TreeState M → Option ClassView
class_of i j s = option_and_then (λ n. slice_get (class_views n) j) (slice_get (every_node s.root) i)

abbrev pub filter_of : {M : Type 0} → ℕ → ℕ → TreeState M → Option FilterView
filter_of i j s = option_and_then (λ n. slice_get (filter_views n) j) (slice_get (every_node s.root) i)
