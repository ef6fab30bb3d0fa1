-- The entries of a tree are the same whatever its nodes remember.
use Rattle.std.proofs.Common.{◌≡◌, ◌∙◌, ℕ, suc, List, ◌∷◌, ◌++◌, map, length, refl, sym, ap, ap₂}
use Rattle.std.specs.Prelude.{drop, slice_get, unwrap_or}
use Rattle.std.proofs.lemmas.List.{map-append}
use Rattle.q_model.specs.declared.class_id.ClassId.{ClassId}
use Rattle.q_model.specs.declared.place.Place.{Place}
use Rattle.q_model.specs.declared.place.Place.TheVariants as place
use Rattle.q_model.specs.Node.{Own, Forest, none, more, Node, nodes_in, each_memory, with_memory}
use Rattle.q_model.specs.Shrink.{remembering}
use Rattle.q_model.specs.TreeState.{TreeState}
use Rattle.q_model.specs.Views.{class_kind, filter_views, ids_of, places_below, qdisc_view}
use Rattle.q_tree.specs.answers.Showing.{standing_in}
use Rattle.q_setup.specs.Alike.{Entry, entries, entry}

module _ {M N : Type 0} (f : M → N) where
  count-seen : (x : Forest M) → length (nodes_in (each_memory f x)) ≡ length (nodes_in x)
  count-seen none = refl
  count-seen (more own m below others) = ap suc (count-seen others)

  entry-seen : (p : Place) (n : Node M) → entry (p, with_memory f n) ≡ entry (p, n)
  entry-seen p n = ap (λ (bands : ℕ). record {
    place = p;
    handle = n.own.handle;
    qdisc = qdisc_view bands n.own.discipline;
    classes = map (λ (c : ClassId). record { class = c; kind = class_kind n.own.discipline c.minor }) (ids_of n.own bands);
    filters = filter_views n;
  }) (count-seen n.below)

  places-seen : (own : Own) (below : Forest M) → places_below own (each_memory f below) ≡ places_below own below
  places-seen own below = ap (λ bands. map place.Class (ids_of own bands)) (count-seen below)

  entries_in-seen : (places : List Place) (x : Forest M) → map entry (standing_in places (each_memory f x)) ≡ map entry (standing_in places x)
  entries_in-seen places none = refl
  entries_in-seen places (more own m below others) =
      let below_new = standing_in (places_below own (each_memory f below)) (each_memory f below) in
      ap₂ (λ (e : Entry) (rest : List Entry). e ∷ rest)
      (entry-seen (unwrap_or (slice_get places 0) place.Root) (record { own = own; memory = m; below = below }))
      (map-append entry below_new (standing_in (drop 1 places) (each_memory f others))
      ∙ ap₂ (λ (a b : List Entry). a ++ b)
      (ap (λ ps. map entry (standing_in ps (each_memory f below))) (places-seen own below) ∙ entries_in-seen (places_below own below) below)
      (entries_in-seen (drop 1 places) others)
      ∙ sym (map-append entry (standing_in (places_below own below) below) (standing_in (drop 1 places) others)))

  pub entries-seen : (s : TreeState M) → entries (remembering f s) ≡ entries s
  entries-seen s =
      let n = s.root in
      ap₂ (λ (e : Entry) (rest : List Entry). e ∷ rest) (entry-seen place.Root n)
      (ap (λ ps. map entry (standing_in ps (each_memory f n.below))) (places-seen n.own n.below) ∙ entries_in-seen (places_below n.own n.below) n.below)
