-- The worst delay of a fifo, in line or in a class of a drr, in a tree whose nodes remember something else.
use Rattle.std.proofs.Common.{◌≡◌, ℕ, ◌∙◌, List, [], ◌∷◌, refl, ap, ap₂, Option, Some, None, option_map, option_and_then}
use Rattle.std.specs.Prelude.{Bool, ◌&&◌, ◌==◌, slice_get, if◌then◌else◌}
use Rattle.q_codel.specs.declared.limit.Limit.{Limit}
use Rattle.q_model.specs.declared.class_id.ClassId.{ClassId}
use Rattle.q_model.specs.declared.place.Place.{Place}
use Rattle.q_model.specs.declared.place.Place.TheVariants as place
use Rattle.q_model.specs.Find.{class_path, node_at, place_path}
use Rattle.q_model.specs.Node.{Discipline, Fifo, Prio, Tbf, Drr, FqCodel, Node, children, with_memory}
use Rattle.q_model.specs.Tally.{Counts, totals}
use Rattle.q_model.proofs.ShrinkLemmas.{child-with_memory}
use Rattle.q_tree.specs.Kept.{Kept, kept}
use Rattle.q_tree.specs.declared.answers.ways.Link.{Link}
use Rattle.q_tree.specs.answers.Lanes.{is_prio, lane_below, lane_from, lane_to, limit_along, limit_of}
use Rattle.q_tree.specs.answers.Turns.{limit_in, turn_on, turn_to}
use Rattle.q_tree.specs.answers.Ways.{Way, shares_of}
use Rattle.q_device.proofs.device.StatsStands.{class-stands, node_at-stands}
use Rattle.q_device.proofs.promises.PromiseStands.{counted, tbf-stands, way-stands}

pub limit-stands : {M N : Type 0} (f : M → N) (path : List ℕ) (n : Node M) → limit_along path (with_memory f n) ≡ limit_along path n
limit-stands f [] n = refl
limit-stands {M} f (i ∷ path) n =
    ap (λ (o : Option Limit). if i == 0 && is_prio n.own.discipline then o else None)
    (ap (option_and_then (limit_along path)) (child-with_memory f n i) ∙ by (slice_get (children n) i) (λ c. limit-stands f path c))
  where
    by : (o : Option (Node M)) → ((c : Node M) → limit_along path (with_memory f c) ≡ limit_along path c)
        → option_and_then (limit_along path) (option_map (with_memory f) o) ≡ option_and_then (limit_along path) o
    by None rest = refl
    by (Some c) rest = rest c

below-stands : (link : Option Link) (path : List ℕ) (n : Node Kept) → lane_below link path (counted n) ≡ lane_below link path n
below-stands link path n =
    ap₂ (λ (b : Bool) (o : Option Limit). if b then None else option_map (λ (limit : Limit). record { link = link; limit = limit }) o) (tbf-stands n)
    (limit-stands (λ (k : Kept). k.counts) path n)

from-stands : (path : List ℕ) (n : Node Kept) (k : Discipline) → lane_from path (counted n) k ≡ lane_from path n k
from-stands [] n (Tbf b limit) = refl
from-stands (i ∷ path) n (Tbf b limit) = by n.own.handle
  where
    child : (link : Option Link) (o : Option (Node Kept)) → option_and_then (lane_below link path) (option_map counted o) ≡ option_and_then (lane_below link path) o
    child link None = refl
    child link (Some c) = below-stands link path c

    by : (o : Option ℕ)
        → option_and_then (λ h. option_and_then (lane_below (Some (record { handle = h; rate = b.rate; burst = b.burst })) path)
        (slice_get (children (counted n)) i)) o ≡ option_and_then
        (λ h. option_and_then (lane_below (Some (record { handle = h; rate = b.rate; burst = b.burst })) path) (slice_get (children n) i)) o
    by None = refl
    by (Some h) =
        let link : Option Link = Some (record { handle = h; rate = b.rate; burst = b.burst }) in
        ap (option_and_then (lane_below link path)) (child-with_memory (λ (k : Kept). k.counts) n i) ∙ child link (slice_get (children n) i)
from-stands path n (Fifo limit queue) = below-stands None path n
from-stands path n (Prio priomap) = below-stands None path n
from-stands path n (Drr s) = below-stands None path n
from-stands path n (FqCodel s) = below-stands None path n

path-stands : (p : Place) (n : Node Kept) → place_path p (counted n) ≡ place_path p n
path-stands place.Top n = refl
path-stands place.Root n = refl
path-stands (place.Class class) n = class-stands kept totals (λ (k : Kept). k.counts) (λ k. refl) class n

pub lane-stands : (p : Place) (n : Node Kept) → lane_to p (counted n) ≡ lane_to p n
lane-stands p n = ap (option_and_then (λ path. lane_from path (counted n) n.own.discipline)) (path-stands p n) ∙ by (place_path p n)
  where
    by : (o : Option (List ℕ)) → option_and_then (λ path. lane_from path (counted n) n.own.discipline) o ≡ option_and_then (λ path. lane_from path n n.own.discipline) o
    by None = refl
    by (Some path) = from-stands path n n.own.discipline

-- ---- a class of a drr

limit_in-stands : (class : ClassId) (n : Node Kept) → limit_in class (counted n) ≡ limit_in class n
limit_in-stands class n =
    ap (option_and_then (λ path. option_and_then (λ (child : Node Counts). limit_of child.own.discipline) (node_at path (counted n))))
    (class-stands kept totals (λ (k : Kept). k.counts) (λ k. refl) class n)
    ∙ by (class_path class n)
  where
    child : (o : Option (Node Kept)) → option_and_then (λ (c : Node Counts). limit_of c.own.discipline) (option_map counted o) ≡ option_and_then (λ (c : Node Kept). limit_of c.own.discipline) o
    child None = refl
    child (Some c) = refl

    by : (o : Option (List ℕ))
        → option_and_then (λ path. option_and_then (λ (c : Node Counts). limit_of c.own.discipline) (node_at path (counted n))) o
        ≡ option_and_then (λ path. option_and_then (λ (c : Node Kept). limit_of c.own.discipline) (node_at path n)) o
    by None = refl
    by (Some path) =
        ap (option_and_then (λ (c : Node Counts). limit_of c.own.discipline)) (node_at-stands kept totals (λ (k : Kept). k.counts) (λ k. refl) path n) ∙ child (node_at path n)

pub turn-stands : (p : Place) (n : Node Kept) → turn_to p (counted n) ≡ turn_to p n
turn-stands place.Top n = refl
turn-stands place.Root n = refl
turn-stands (place.Class class) n =
    ap₂ (λ (o : Option Limit) (way : Option Way). option_and_then (λ (w : Way). option_and_then (turn_on w.link (shares_of w)) o) way) (limit_in-stands class n) (way-stands class n)
