-- What a class is promised, in a tree whose nodes remember something else, and as it is read off a way.
use Rattle.std.proofs.Common.{◌≡◌, ℕ, ◌∙◌, List, [], ◌∷◌, refl, sym, ap, ap₂, Option, Some, None, option_map, option_and_then}
use Rattle.std.specs.Prelude.{Bool, ◌||◌, slice_get, if◌then◌else◌}
use Rattle.std.specs.List.{list_any}
use Rattle.std.proofs.lemmas.Option.{none-some, same_Some}
use Rattle.q_model.specs.declared.class_id.ClassId.{ClassId}
use Rattle.q_model.specs.declared.place.Place.{Place}
use Rattle.q_model.specs.declared.place.Place.TheVariants as place
use Rattle.q_model.specs.Find.{class_path}
use Rattle.q_model.specs.Node.{Discipline, Fifo, Prio, Tbf, Drr, FqCodel, Own, Node, children, with_memory}
use Rattle.q_model.specs.Tally.{Counts, totals}
use Rattle.q_model.proofs.ShrinkLemmas.{child-with_memory, each-each_memory}
use Rattle.q_tree.specs.Kept.{Kept, kept}
use Rattle.q_tree.specs.declared.answers.ways.Link.{Link}
use Rattle.q_tree.specs.declared.answers.ways.Share.{Share}
use Rattle.q_tree.specs.answers.Ways.{DrrClass, Way, drr_class, drrs_on, has_tbf, is_tbf, shares_of, way_below, way_from, way_to}
use Rattle.q_device.specs.promises.Promise.{Promise, promise_of, promise_on}
use Rattle.q_device.proofs.device.StatsStands.{class-stands}

abbrev tbf_here : Own → List Bool → Bool
tbf_here own below = is_tbf own.discipline || list_any (λ b. b) below

abbrev pub counted : Node Kept → Node Counts
counted n = with_memory (λ (k : Kept). k.counts) n

drrs-stand : (path : List ℕ) (n : Node Kept) → drrs_on path (counted n) ≡ drrs_on path n
drrs-stand [] n = refl
drrs-stand (i ∷ path) n =
    ap (λ (o : Option (List DrrClass)). option_and_then (λ (d : DrrClass). option_map (λ (rest : List DrrClass). d ∷ rest) o) (drr_class i n.own))
    (ap (option_and_then (drrs_on path)) (child-with_memory (λ (k : Kept). k.counts) n i) ∙ by (slice_get (children n) i) (λ c. drrs-stand path c))
  where
    by : (o : Option (Node Kept)) → ((c : Node Kept) → drrs_on path (counted c) ≡ drrs_on path c) → option_and_then (drrs_on path) (option_map counted o) ≡ option_and_then (drrs_on path) o
    by None rest = refl
    by (Some c) rest = rest c

pub tbf-stands : (n : Node Kept) → has_tbf (counted n) ≡ has_tbf n
tbf-stands n = ap (tbf_here n.own) (each-each_memory tbf_here (λ (k : Kept). k.counts) n.below)

below-stands : (link : Link) (path : List ℕ) (n : Node Kept) → way_below link path (counted n) ≡ way_below link path n
below-stands link [] n = refl
below-stands link (i ∷ path) n =
    ap₂ (λ (b : Bool) (o : Option (List DrrClass)). if b then None else option_map (λ (ds : List DrrClass). record { link = Some link; drrs = ds }) o) (tbf-stands n) (drrs-stand (i ∷ path) n)

from-stands : (path : List ℕ) (n : Node Kept) (k : Discipline) → way_from path (counted n) k ≡ way_from path n k
from-stands [] n k = refl
from-stands (i ∷ path) n (Tbf b limit) = by n.own.handle
  where
    child : (link : Link) (o : Option (Node Kept)) → option_and_then (way_below link path) (option_map counted o) ≡ option_and_then (way_below link path) o
    child link None = refl
    child link (Some c) = below-stands link path c

    by : (o : Option ℕ)
        → option_and_then (λ h. option_and_then (way_below (record { handle = h; rate = b.rate; burst = b.burst }) path)
        (slice_get (children (counted n)) i)) o ≡ option_and_then
        (λ h. option_and_then (way_below (record { handle = h; rate = b.rate; burst = b.burst }) path) (slice_get (children n) i)) o
    by None = refl
    by (Some h) =
        let link : Link = record { handle = h; rate = b.rate; burst = b.burst } in
        ap (option_and_then (way_below link path)) (child-with_memory (λ (k : Kept). k.counts) n i) ∙ child link (slice_get (children n) i)
from-stands (i ∷ path) n (Drr s) = ap (option_map (λ (ds : List DrrClass). record { link = None; drrs = ds })) (drrs-stand (i ∷ path) n)
from-stands (i ∷ path) n (Fifo limit queue) = refl
from-stands (i ∷ path) n (Prio priomap) = refl
from-stands (i ∷ path) n (FqCodel s) = refl

pub way-stands : (class : ClassId) (n : Node Kept) → way_to class (counted n) ≡ way_to class n
way-stands class n =
    ap (option_and_then (λ path. way_from path (counted n) n.own.discipline)) (class-stands kept totals (λ (k : Kept). k.counts) (λ k. refl) class n) ∙ by (class_path class n)
  where
    by : (o : Option (List ℕ)) → option_and_then (λ path. way_from path (counted n) n.own.discipline) o ≡ option_and_then (λ path. way_from path n n.own.discipline) o
    by None = refl
    by (Some path) = from-stands path n n.own.discipline

pub promise-stands : (p : Place) (mtu : ℕ) (n : Node Kept) → promise_of p mtu (counted n) ≡ promise_of p mtu n
promise-stands place.Top mtu n = refl
promise-stands place.Root mtu n = refl
promise-stands (place.Class class) mtu n = ap (option_and_then (λ (w : Way). promise_on mtu w.link (shares_of w))) (way-stands class n)

-- ---- by what is read of a way

module _ (mtu : ℕ) where
  abbrev promised : Option Way → Option Promise
  promised o = option_and_then (λ (w : Way). promise_on mtu w.link (shares_of w)) o

  pub no-way : (o : Option Way) → None ≡ option_map (λ (w : Way). w.link) o → None ≡ promised o
  no-way None e = refl
  no-way (Some w) e = absurd (none-some w.link e)

  pub some-way : (o : Option Way) (link : Option Link) (shares : List Share) → Some link ≡ option_map (λ (w : Way). w.link) o
      → Some shares ≡ option_map shares_of o → promise_on mtu link shares ≡ promised o
  some-way None link shares e f = absurd (none-some link (sym e))
  some-way (Some w) link shares e f = ap₂ (promise_on mtu) (same_Some link w.link e) (same_Some shares (shares_of w) f)
