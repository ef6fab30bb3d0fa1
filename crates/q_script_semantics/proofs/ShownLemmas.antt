-- What is shown of a tree is the same whatever its nodes keep, as long as they count alike: totals or whole histories.
use Rattle.std.proofs.Common.{◌≡◌, Bool, ℕ, suc, ◌∙◌, List, ◌∷◌, ◌++◌, map, length, refl, sym, ap, ap₂}
use Rattle.std.specs.Prelude.{drop, slice_get, unwrap_or}
use Rattle.std.specs.List.{flat_map}
use Rattle.std.proofs.lemmas.Grind.{flat_map-append}
use Rattle.q_packet.specs.Descriptor.{Descriptor}
use Rattle.q_model.specs.declared.class_id.ClassId.{ClassId}
use Rattle.q_model.specs.declared.class_view.ClassView.{ClassView}
use Rattle.q_model.specs.declared.node_view.NodeView.{NodeView}
use Rattle.q_model.specs.declared.place.Place.{Place}
use Rattle.q_model.specs.declared.place.Place.TheVariants as place
use Rattle.q_model.specs.Tally.{Tally, Note, Counts, counts_in, history, totals}
use Rattle.q_model.specs.Node.{Own, Forest, none, more, Node, nodes_in, each_memory, with_memory}
use Rattle.q_model.specs.Beneath.{beneath_own, beneath, row_of}
use Rattle.q_model.specs.Conserved.{nodes_of, every_node}
use Rattle.q_model.specs.Views.{qdisc_view, ids_of, class_kind, class_views, filter_views, places_below, node_view, views, views_in}
use Rattle.q_model.specs.Shrink.{remembering}
use Rattle.q_model.specs.TreeState.{TreeState}
use Rattle.q_model.proofs.ShrinkLemmas.{each-each_memory}
use Rattle.q_model.specs.Step.{DeviceState}
use Rattle.q_model.specs.ShrinkDevice.{shrunk}
use Rattle.q_line.specs.declared.show.Show.{Show}
use Rattle.q_line.specs.declared.object.Object.{Object}
use Rattle.q_line.specs.declared.object.Object.TheVariants as object
use Rattle.q_script_semantics.specs.Text.{qdisc_text, class_line, filter_line}
use Rattle.q_script_semantics.specs.Report.{show_text}

module _ {M N : Type 0} (t : Tally M) (u : Tally N) (f : M → N) (same : (m : M) → t.counts_of m ≡ u.counts_of (f m)) where
  -- what waits, and how many nodes stand side by side
  pub beneath-seen : (n : Node M) → beneath n ≡ beneath (with_memory f n)
  beneath-seen n = sym (ap (λ b. beneath_own n.own b) (each-each_memory beneath_own f n.below))

  side_by_side-seen : (x : Forest M) → length (nodes_in x) ≡ length (nodes_in (each_memory f x))
  side_by_side-seen none = refl
  side_by_side-seen (more own m below others) = ap suc (side_by_side-seen others)

  -- qdiscs
  node_view-seen : (p : Place) (n : Node M) → node_view t p n ≡ node_view u p (with_memory f n)
  node_view-seen p n =
      ap₂ (λ (bands : ℕ) (waiting : List Descriptor). record {
        handle = n.own.handle;
        place = p;
        qdisc = qdisc_view bands n.own.discipline;
        row = row_of (t.counts_of n.memory) waiting;
      }) (side_by_side-seen n.below) (beneath-seen n)
      ∙ ap (λ (c : Counts). record {
        handle = n.own.handle;
        place = p;
        qdisc = qdisc_view (length (nodes_in (each_memory f n.below))) n.own.discipline;
        row = row_of c (beneath (with_memory f n));
      }) (same n.memory)

  places-seen : (own : Own) (below : Forest M) → places_below own below ≡ places_below own (each_memory f below)
  places-seen own below = ap (λ bands. map place.Class (ids_of own bands)) (side_by_side-seen below)

  views_in-seen : (places : List Place) (x : Forest M) → views_in t places x ≡ views_in u places (each_memory f x)
  views_in-seen places none = refl
  views_in-seen places (more own m below others) =
      ap₂ (λ (v : NodeView) (rest : List NodeView). v ∷ rest)
      (node_view-seen (unwrap_or (slice_get places 0) place.Root) (record { own = own; memory = m; below = below }))
      (ap₂ (λ (a b : List NodeView). a ++ b)
      (views_in-seen (places_below own below) below ∙ ap (λ ps. views_in u ps (each_memory f below)) (places-seen own below))
      (views_in-seen (drop 1 places) others))

  pub views-seen : (s : TreeState M) → views t s ≡ views u (remembering f s)
  views-seen s =
      let n = s.root in
      ap₂ (λ (v : NodeView) (rest : List NodeView). v ∷ rest) (node_view-seen place.Root n)
      (views_in-seen (places_below n.own n.below) n.below ∙ ap (λ ps. views_in u ps (each_memory f n.below)) (places-seen n.own n.below))

  -- classes and filters
  pub class_views-seen : (n : Node M) → class_views n ≡ class_views (with_memory f n)
  class_views-seen n =
      ap (λ bands. map (λ (c : ClassId). record { class = c; kind = class_kind n.own.discipline c.minor }) (ids_of n.own bands)) (side_by_side-seen n.below)

  -- a text for each node
  texts_below-seen : (a : Node M → List ℕ) (b : Node N → List ℕ) → ((n : Node M) → a n ≡ b (with_memory f n)) → (x : Forest M) → flat_map a (nodes_of x) ≡ flat_map b (nodes_of (each_memory f x))
  texts_below-seen a b h none = refl
  texts_below-seen a b h (more own m below others) =
      ap₂ (λ (a b : List ℕ). a ++ b) (h (record { own = own; memory = m; below = below }))
      (flat_map-append a (nodes_of below) (nodes_of others)
      ∙ ap₂ (λ (a b : List ℕ). a ++ b) (texts_below-seen a b h below) (texts_below-seen a b h others)
      ∙ sym (flat_map-append b (nodes_of (each_memory f below)) (nodes_of (each_memory f others))))

  texts-seen : (a : Node M → List ℕ) (b : Node N → List ℕ) → ((n : Node M) → a n ≡ b (with_memory f n)) → (n : Node M) → flat_map a (every_node n) ≡ flat_map b (every_node (with_memory f n))
  texts-seen a b h n = ap₂ (λ (a b : List ℕ). a ++ b) (h n) (texts_below-seen a b h n.below)

  -- what is shown of a tree
  pub qdiscs-seen : (counters : Bool) (s : TreeState M) → flat_map (qdisc_text counters) (views t s) ≡ flat_map (qdisc_text counters) (views u (remembering f s))
  qdiscs-seen counters s = ap (λ (vs : List NodeView). flat_map (qdisc_text counters) vs) (views-seen s)

  pub classes-seen : (s : TreeState M)
      → flat_map (λ n. flat_map class_line (class_views n)) (every_node s.root) ≡ flat_map (λ n. flat_map class_line (class_views n))
      (every_node (remembering f s).root)
  classes-seen s =
      texts-seen (λ n. flat_map class_line (class_views n)) (λ n. flat_map class_line (class_views n))
      (λ n. ap (λ (vs : List ClassView). flat_map class_line vs) (class_views-seen n)) s.root

  pub filters-seen : (s : TreeState M)
      → flat_map (λ n. flat_map filter_line (filter_views n)) (every_node s.root)
      ≡ flat_map (λ n. flat_map filter_line (filter_views n)) (every_node (remembering f s).root)
  filters-seen s = texts-seen (λ n. flat_map filter_line (filter_views n)) (λ n. flat_map filter_line (filter_views n)) (λ n. refl) s.root

-- with totals in place of histories
same_counts : (notes : List Note) → history.counts_of notes ≡ totals.counts_of (counts_in notes)
same_counts notes = refl

pub beneath-shrunk : (n : Node (List Note)) → beneath n ≡ beneath (with_memory counts_in n)
beneath-shrunk n = beneath-seen history totals counts_in same_counts n

pub show_text-shrunk : (s : Show) (d : DeviceState (List Note)) → show_text history s d ≡ show_text totals s (shrunk d)
show_text-shrunk s d = by s.object
  where
    by : (o : Object) → show_text history (record s { object = o }) d ≡ show_text totals (record s { object = o }) (shrunk d)
    by object.Qdisc = qdiscs-seen history totals counts_in same_counts s.counters d.tree
    by object.Class = classes-seen history totals counts_in same_counts d.tree
    by object.Filter = filters-seen history totals counts_in same_counts d.tree
