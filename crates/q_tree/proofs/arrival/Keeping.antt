-- A packet that is kept with nothing lost and no place made: what is known of its way, from the queue up.
use Rattle.std.proofs.Common.{◌≡◌, ℕ, ◌<◌, ◌∙◌, List, [], ◌∷◌, map, set, length, refl, sym, ap, subst, Option, Some, option_and_then}
use Rattle.std.specs.Prelude.{Bool, IfSome, if◌then◌else◌, slice_get, slice_index_or}
use Rattle.std.proofs.lemmas.Option.{slice_get_read}
use Rattle.q_packet.specs.Descriptor.{Descriptor}
use Rattle.q_packet.specs.declared.cause.Cause.TheVariants.{OverLimit}
use Rattle.q_model.specs.declared.filter.Filter.{Filter}
use Rattle.q_model.specs.declared.row.Row.{Row}
use Rattle.q_model.specs.Beneath.{is_empty}
use Rattle.q_model.specs.Find.{node_at}
use Rattle.q_model.specs.Node as spec
use Rattle.q_model.specs.Node.{Node, shape, side_by_side}
use Rattle.q_model.specs.Put.{put_along}
use Rattle.q_model.specs.Route.{Route, route, way, ends, refused, through}
use Rattle.q_model.specs.Work.{settled_in}
use Rattle.q_invariants.proofs.tree.Forests.{nodes-side}
use Rattle.q_tree.specs.arrival.Arrivals.{HasPlace, HasPlaceIn, with_arrival}
use Rattle.q_tree.specs.arrival.ArriveSteps.{CanCome, CanKeep, CanKeepIn, HasCome, HasPlaceOn, nothing_lost, rises_along, way_in}
use Rattle.q_tree.specs.departure.AskSteps.{IsToldOf}
use Rattle.q_tree.specs.route.Ahead.{ways}
use Rattle.q_codel.specs.Losses.{SinkState}
use Rattle.q_tree.specs.arrival.KeepSteps.{IsKeptAlong, IsKeptIn, no_sink}
use Rattle.q_tree.specs.arrival.Places.{unplaced}
use Rattle.q_tree.specs.commands.DisciplineChanges.{IsUnchanged}
use Rattle.q_tree.specs.departure.Holding.{packet_held, since_held}
use Rattle.q_tree.specs.Kept.{Kept}
use Rattle.q_tree.specs.Seen.{IsKept, children_seen, discipline_seen, places_seen, seen}
use Rattle.q_tree.specs.declared.node.Discipline.{Discipline}
use Rattle.q_tree.specs.declared.node.Node.TheInside.{Inside}
use Rattle.q_tree.proofs.arrival.ArrivedNodes.{come-after, come-kept, come-told}
use Rattle.q_tree.proofs.arrival.Arriving.{gone-in, through-at}
use Rattle.q_tree.proofs.arrival.PlacesLemmas.{kept-places}
use Rattle.q_tree.proofs.route.RouteLemmas.{way-from}

-- ---- a fifo that has room

record EndsHere (p : Descriptor) (n : Node Kept) : Type 0 where
  pub way : route p n ≡ ends
  pub place : HasPlaceIn n.memory.places n.own.discipline

ends-here : (p : Descriptor) (n : Node Kept) → CanKeep p.len n → EndsHere p n
ends-here p n = by n.own.discipline refl
  where
    by : (d : spec.Discipline) → n.own.discipline ≡ d → CanKeepIn p.len n.memory.places d → EndsHere p n
    by (spec.Fifo limit packets) e can = record {
      way = ap (λ (d : spec.Discipline). way p n.own (spec.each (λ own below. way p own below own.discipline) n.below) d) e
          ∙ ap (λ (b : Bool). if b then ends else refused OverLimit) can.0;
      place = subst (λ (d : spec.Discipline). HasPlaceIn n.memory.places d) (sym e) can.1;
    }
    by (spec.Prio priomap) e can = absurd can
    by (spec.Tbf bucket limit) e can = absurd can
    by (spec.Drr s) e can = absurd can
    by (spec.FqCodel s) e can = absurd can

pub kept-here : (now : ℕ) (p : Descriptor) (n m : Node Kept) → CanKeep p.len n → HasCome now p n m nothing_lost
    → ((sink : SinkState) → IsToldOf (rises_along now p n) sink sink) → IsKeptAlong now p n m
kept-here now p n m can come told =
    let here = ends-here p n can in
    record {
      come = come;
      told = told no_sink;
      passes = ap (λ (r : Route). r.refusal) here.way;
      place = subst (λ (r : Route). HasPlace r.path n) (sym here.way) here.place;
    }

-- ---- a discipline whose child has kept it

module _ (now : ℕ) (p : Descriptor) (filters : List Filter) (before after : Discipline) (ns : List (Node Kept)) (i : ℕ) (x x2 : Node Kept)
    (kids : children_seen before ≡ ns) (inside : i < length ns) (is : x ≡ slice_index_or ns i x)
    (to : way_in p filters before ≡ through (ways p ns) i) (h : IsKeptAlong now p x x2) (place : Node Kept → Discipline)
    (kids2 : (m : Node Kept) → children_seen (place m) ≡ set ns i m)
    (same2 : (m : Node Kept) → discipline_seen (place m) ≡ discipline_seen before)
    (places2 : (m : Node Kept) → places_seen (place m) ≡ places_seen before) where
  on : slice_get ns i ≡ Some x
  on = slice_get_read ns (length ns) i x refl inside is

  way-is : way_in p filters before ≡ record { path = i ∷ (route p x).path; refusal = (route p x).refusal }
  way-is = to ∙ through-at p ns i x on

  pub kept-below : children_seen after ≡ set ns i x2 → places_seen after ≡ places_seen before
      → discipline_seen after ≡ settled_in i (is_empty (put_along now p (route p x).refusal (route p x).path (shape h.come.placed)).node) (discipline_seen before)
      → IsKeptIn now p filters before after
  kept-below kids3 places3 settled = record {
    come = gone-in now p filters before (place h.come.placed) after ns i x x2 nothing_lost kids inside is to h.come (kids2 h.come.placed) (same2 h.come.placed)
        (places2 h.come.placed) kids3 places3 settled no_sink no_sink h.told;
    passes = ap (λ (r : Route). r.refusal) way-is ∙ h.passes;
    place =
        subst (λ (r : Route). HasPlaceOn r.path before) (sym way-is)
        (subst (λ (y : Option (Node Kept)). IfSome (option_and_then (node_at (route p x).path) y) (λ (end : Node Kept). HasPlaceIn end.memory.places end.own.discipline))
        (sym (ap (λ xs. slice_get xs i) kids ∙ on)) h.place);
  }

-- ---- a node whose discipline has kept it, or has not changed

module _ (now : ℕ) (p : Descriptor) (a : Inside) (n : Node Kept) (k : IsKept a) (view : seen a ≡ n) (can : CanCome now p n) (filters : List Filter) (same : filters ≡ a.filters)
    (d : Discipline) (h : IsKeptIn now p filters a.discipline d) (row : Row) (row_is : row ≡ with_arrival p nothing_lost a.row) where
  way-of : way_in p filters a.discipline ≡ route p n
  way-of = way-from p a n filters view same

  place-up : (path : List ℕ) → HasPlaceOn path a.discipline → HasPlace path (seen a)
  place-up [] there = there
  place-up (i ∷ rest) there =
      subst (λ xs. IfSome (option_and_then (node_at rest) (slice_get xs i)) (λ (end : Node Kept). HasPlaceIn end.memory.places end.own.discipline))
      (sym (nodes-side (children_seen a.discipline))) there

  pub kept-node : IsKept (record a { row = row; discipline = d })
  kept-node = come-kept now p a n k view can filters same d nothing_lost no_sink no_sink h.come row row_is

  pub kept-up : IsKeptAlong now p n (seen (record a { row = row; discipline = d }))
  kept-up = record {
    come = come-after now p a n k view can filters same d nothing_lost no_sink no_sink h.come row row_is;
    told = come-told now p a n k view can filters same d nothing_lost no_sink no_sink h.come;
    passes = ap (λ (r : Route). r.refusal) (sym way-of) ∙ h.passes;
    place = subst (λ (r : Route). HasPlace r.path n) way-of
        (subst (λ (m : Node Kept). HasPlace (way_in p filters a.discipline).path m) view (place-up (way_in p filters a.discipline).path h.place));
  }

module _ (a : Inside) (n : Node Kept) (view : seen a ≡ n) (d : Discipline) (h : IsUnchanged a.discipline d) where
  pub same-node : seen (record a { discipline = d }) ≡ n
  same-node =
      (λ j. record {
        own = record { handle = a.handle; discipline = h.discipline j; held = packet_held a.held; since = since_held a.held; filters = a.filters };
        memory = record { counts = (seen a).memory.counts; places = h.places j };
        below = side_by_side (h.children j);
      })
      ∙ view

  pub same-kept : IsKept a → IsKept (record a { discipline = d })
  same-kept k = kept-places a d h.discipline (ap (map unplaced) h.children) k
