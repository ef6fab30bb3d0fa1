-- An arrival leaves the fifos in line, their limits and the bucket at the root as they were.
use Rattle.std.proofs.Common.{◌≡◌, ℕ, zero, suc, inl, inr, ◌∙◌, refl, sym, ap, ap₂, List, [], ◌∷◌, ◌++◌, length, Option, Some, None, option_map, option_and_then}
use Rattle.std.specs.Prelude.{Bool, ◌&&◌, ◌||◌, ◌==◌, slice_get, if◌then◌else◌}
use Rattle.std.specs.List.{find, list_any}
use Rattle.std.specs.Option.{option_map_or}
use Rattle.q_packet.specs.Descriptor.{Descriptor}
use Rattle.q_packet.specs.declared.cause.Cause.{Cause}
use Rattle.q_codel.specs.declared.limit.Limit.{Limit}
use Rattle.q_drr.specs.Schedule.{Class, no_classes}
use Rattle.q_fqcodel.specs.FqState.{FqState}
use Rattle.q_model.specs.declared.class_id.ClassId.{ClassId}
use Rattle.q_model.specs.declared.place.Place.{Place}
use Rattle.q_model.specs.declared.place.Place.TheVariants as place
use Rattle.q_model.specs.Find.{Address, addresses_own, class_in, class_place, class_path, from_parent, node_at, path_of, place_path}
use Rattle.q_model.specs.Node.{Discipline, Fifo, Prio, Tbf, Drr, FqCodel, Own, Forest, none, more, Node, Shape, children, each, nodes_in, shape}
use Rattle.q_model.specs.Put.{put_along, put_beneath, put_here, queued_in}
use Rattle.q_model.specs.Route.{Route}
use Rattle.q_model.specs.Tally.{Note, history}
use Rattle.q_model.specs.TreeState.{put_on}
use Rattle.q_model.specs.Work.{Worked, booked, each_booked, settled_in}
use Rattle.q_invariants.proofs.put.DrrSettled.{class-settled}
use Rattle.q_invariants.proofs.put.PutStages.{IsPutOf, along-related, quiet-related}
use Rattle.q_invariants.proofs.tree.Related.{AllRelated, IsRelated, forget}
use Rattle.q_tree.specs.declared.answers.ways.Link.{Link}
use Rattle.q_tree.specs.answers.Lanes.{is_prio, lane_below, lane_from, lane_to, level_of, limit_along, limit_of}
use Rattle.q_tree.specs.answers.Turns.{limit_in, turn_on, turn_to}
use Rattle.q_tree.specs.answers.Ways.{DrrClass, Way, class_of_drr, drr_class, drrs_on, has_tbf, is_tbf, shares_of, way_below, way_from, way_to}

-- What a discipline is without the packets that it queues, as far as places and lanes are found by it: an fq_codel has neither.
abbrev pub setting : Discipline → Discipline
setting (Fifo limit queue) = Fifo limit []
setting (Prio priomap) = Prio priomap
setting (Tbf b limit) = Tbf b limit
setting (Drr s) = Drr (record (no_classes 0) { classes = s.classes })
setting (FqCodel s) = Drr (no_classes 0)

place-setting : (bands minor : ℕ) (d : Discipline) → class_in bands minor (setting d) ≡ class_in bands minor d
place-setting bands minor (Fifo limit queue) = refl
place-setting bands minor (Prio priomap) = refl
place-setting bands minor (Tbf b limit) = refl
place-setting bands minor (Drr s) = refl
place-setting bands minor (FqCodel s) = refl

limit-setting : (d : Discipline) → limit_of (setting d) ≡ limit_of d
limit-setting (Fifo limit queue) = refl
limit-setting (Prio priomap) = refl
limit-setting (Tbf b limit) = refl
limit-setting (Drr s) = refl
limit-setting (FqCodel s) = refl

prio-setting : (d : Discipline) → is_prio (setting d) ≡ is_prio d
prio-setting (Fifo limit queue) = refl
prio-setting (Prio priomap) = refl
prio-setting (Tbf b limit) = refl
prio-setting (Drr s) = refl
prio-setting (FqCodel s) = refl

tbf-setting : (d : Discipline) → is_tbf (setting d) ≡ is_tbf d
tbf-setting (Fifo limit queue) = refl
tbf-setting (Prio priomap) = refl
tbf-setting (Tbf b limit) = refl
tbf-setting (Drr s) = refl
tbf-setting (FqCodel s) = refl

level-setting : (now : ℕ) (d : Discipline) → level_of now (setting d) ≡ level_of now d
level-setting now (Fifo limit queue) = refl
level-setting now (Prio priomap) = refl
level-setting now (Tbf b limit) = refl
level-setting now (Drr s) = refl
level-setting now (FqCodel s) = refl

lane-setting : (path : List ℕ) (n : Node (List Note)) (d : Discipline) → lane_from path n (setting d) ≡ lane_from path n d
lane-setting path n (Fifo limit queue) = refl
lane-setting path n (Prio priomap) = refl
lane-setting path n (Tbf b limit) = refl
lane-setting path n (Drr s) = refl
lane-setting path n (FqCodel s) = refl

-- ---- nodes that are set alike

pub record IsAlike (a b : Own) : Type 0 where
  pub handle : b.handle ≡ a.handle
  pub set : setting b.discipline ≡ setting a.discipline

abbrev pub AllAlike : Forest (List Note) → Forest (List Note) → Type 0
AllAlike none none = Unit {0}
AllAlike none (more own m below others) = ⊥
AllAlike (more own m below others) none = ⊥
AllAlike (more own m below others) (more own_after m_after below_after others_after) = IsAlike own own_after × AllAlike below below_after
    × AllAlike others others_after

abbrev pub AreAlike : Node (List Note) → Node (List Note) → Type 0
AreAlike n k = IsAlike n.own k.own × AllAlike n.below k.below

-- what is found from below by handles and settings
each-alike : {A : Type 0} (f : Own → List A → A) → ((a b : Own) (xs : List A) → IsAlike a b → f b xs ≡ f a xs) → (x y : Forest (List Note))
    → AllAlike x y → each f y ≡ each f x
each-alike f same none none h = refl
each-alike f same none (more own m below others) h = absurd h
each-alike f same (more own m below others) none h = absurd h
each-alike f same (more own m below others) (more own_after m_after below_after others_after) h =
    ap₂ (λ a b. a ∷ b) (ap (f own_after) (each-alike f same below below_after h.1) ∙ same own own_after (each f below) h.0)
    (each-alike f same others others_after h.2)

many-alike : (x y : Forest (List Note)) → AllAlike x y → length (nodes_in y) ≡ length (nodes_in x)
many-alike none none h = refl
many-alike none (more own m below others) h = absurd h
many-alike (more own m below others) none h = absurd h
many-alike (more own m below others) (more own_after m_after below_after others_after) h = ap suc (many-alike others others_after h.2)

-- both or neither are there
abbrev AlikeIfThere : Option (Node (List Note)) → Option (Node (List Note)) → Type 0
AlikeIfThere None None = Unit {0}
AlikeIfThere None (Some k) = ⊥
AlikeIfThere (Some n) None = ⊥
AlikeIfThere (Some n) (Some k) = AreAlike n k

child-alike : (i : ℕ) (x y : Forest (List Note)) → AllAlike x y → AlikeIfThere (slice_get (nodes_in x) i) (slice_get (nodes_in y) i)
child-alike i none none h = tt
child-alike i none (more own m below others) h = absurd h
child-alike i (more own m below others) none h = absurd h
child-alike zero (more own m below others) (more own_after m_after below_after others_after) h = (h.0, h.1)
child-alike (suc i) (more own m below others) (more own_after m_after below_after others_after) h = child-alike i others others_after h.2

-- what alike nodes make alike
both : {A : Type 0} (f : Node (List Note) → Option A) → (o p : Option (Node (List Note))) → AlikeIfThere o p
    → ((n k : Node (List Note)) → AreAlike n k → f k ≡ f n) → option_and_then f p ≡ option_and_then f o
both f None None h same = refl
both f None (Some k) h same = absurd h
both f (Some n) None h same = absurd h
both f (Some n) (Some k) h same = same n k h

at-alike : (path : List ℕ) (n k : Node (List Note)) → AreAlike n k → AlikeIfThere (node_at path n) (node_at path k)
at-alike [] n k h = h
at-alike (i ∷ path) n k h = by (slice_get (children n) i) (slice_get (children k) i) (child-alike i n.below k.below h.1) (λ c e. at-alike path c e)
  where
    by : (o p : Option (Node (List Note))) → AlikeIfThere o p
        → ((c e : Node (List Note)) → AreAlike c e → AlikeIfThere (node_at path c) (node_at path e))
        → AlikeIfThere (option_and_then (node_at path) o) (option_and_then (node_at path) p)
    by None None h rest = tt
    by None (Some e) h rest = absurd h
    by (Some c) None h rest = absurd h
    by (Some c) (Some e) h rest = rest c e h

-- ---- places and lanes

place-alike : (minor : ℕ) (n k : Node (List Note)) → AreAlike n k → class_place minor k ≡ class_place minor n
place-alike minor n k h =
    ap (λ bands. class_in bands minor k.own.discipline) (many-alike n.below k.below h.1)
    ∙ sym (place-setting (length (children n)) minor k.own.discipline) ∙ ap (class_in (length (children n)) minor) h.0.set
    ∙ place-setting (length (children n)) minor n.own.discipline

address-alike : (a b : Own) (xs : List (List Address)) → IsAlike a b → addresses_own b xs ≡ addresses_own a xs
address-alike a b xs h = ap (λ (o : Option ℕ). option_map_or (λ handle. record { handle = handle; path = [] } ∷ from_parent xs) o
    (from_parent xs)) h.handle

to-alike : (handle : ℕ) (n k : Node (List Note)) → AreAlike n k → path_of handle k ≡ path_of handle n
to-alike handle n k h =
    ap (λ (found : List Address). option_map (λ (a : Address). a.path) (find (λ (a : Address). a.handle == handle) found))
    (ap (addresses_own k.own) (each-alike addresses_own address-alike n.below k.below h.1)
    ∙ address-alike n.own k.own (each addresses_own n.below) h.0)

pub class-alike : (class : ClassId) (n k : Node (List Note)) → AreAlike n k → class_path class k ≡ class_path class n
class-alike class n k h =
    ap (option_and_then (λ path. option_and_then (λ parent. option_map (λ i. path ++ i ∷ []) (class_place class.minor parent)) (node_at path k)))
    (to-alike class.major n k h)
    ∙ by (path_of class.major n)
  where
    at : (path : List ℕ) → option_and_then (λ parent. option_map (λ i. path ++ i ∷ []) (class_place class.minor parent))
        (node_at path k) ≡ option_and_then (λ parent. option_map (λ i. path ++ i ∷ []) (class_place class.minor parent)) (node_at path n)
    at path =
        both (λ parent. option_map (λ i. path ++ i ∷ []) (class_place class.minor parent)) (node_at path n) (node_at path k) (at-alike path n k h)
        (λ a b alike. ap (option_map (λ i. path ++ i ∷ [])) (place-alike class.minor a b alike))

    by : (o : Option (List ℕ))
        → option_and_then (λ path. option_and_then (λ parent. option_map (λ i. path ++ i ∷ []) (class_place class.minor parent))
        (node_at path k)) o ≡ option_and_then (λ path. option_and_then
        (λ parent. option_map (λ i. path ++ i ∷ []) (class_place class.minor parent)) (node_at path n)) o
    by None = refl
    by (Some path) = at path

path-alike : (p : Place) (n k : Node (List Note)) → AreAlike n k → place_path p k ≡ place_path p n
path-alike place.Top n k h = refl
path-alike place.Root n k h = refl
path-alike (place.Class class) n k h = class-alike class n k h

limit-alike : (path : List ℕ) (n k : Node (List Note)) → AreAlike n k → limit_along path k ≡ limit_along path n
limit-alike [] n k h = sym (limit-setting k.own.discipline) ∙ ap limit_of h.0.set ∙ limit-setting n.own.discipline
limit-alike (i ∷ path) n k h =
    ap (λ t. if i == 0 && t then option_and_then (limit_along path) (slice_get (children k) i) else None)
    (sym (prio-setting k.own.discipline) ∙ ap is_prio h.0.set ∙ prio-setting n.own.discipline)
    ∙ ap (λ (o : Option Limit). if i == 0 && is_prio n.own.discipline then o else None)
    (both (limit_along path) (slice_get (children n) i) (slice_get (children k) i) (child-alike i n.below k.below h.1)
    (λ c e alike. limit-alike path c e alike))

tbf-alike : (n k : Node (List Note)) → AreAlike n k → has_tbf k ≡ has_tbf n
tbf-alike n k h = ap (λ bs. is_tbf k.own.discipline || list_any (λ b. b) bs)
    (each-alike (λ own below. is_tbf own.discipline || list_any (λ b. b) below) here n.below k.below h.1)
    ∙ here n.own k.own (each (λ own below. is_tbf own.discipline || list_any (λ b. b) below) n.below) h.0
  where
    here : (a b : Own) (xs : List Bool) → IsAlike a b → (is_tbf b.discipline || list_any (λ x. x) xs) ≡ (is_tbf a.discipline || list_any (λ x. x) xs)
    here a b xs alike = ap (λ t. t || list_any (λ x. x) xs) (sym (tbf-setting b.discipline) ∙ ap is_tbf alike.set ∙ tbf-setting a.discipline)

below-alike : (link : Option Link) (path : List ℕ) (n k : Node (List Note)) → AreAlike n k → lane_below link path k ≡ lane_below link path n
below-alike link path n k h = ap₂ (λ (b : Bool) (o : Option Limit). if b then None else option_map
    (λ (limit : Limit). record { link = link; limit = limit }) o) (tbf-alike n k h) (limit-alike path n k h)

from-alike : (path : List ℕ) (n k : Node (List Note)) (d : Discipline) → AreAlike n k → lane_from path k d ≡ lane_from path n d
from-alike [] n k (Tbf b limit) h = refl
from-alike (i ∷ path) n k (Tbf b limit) h =
    ap (option_and_then (λ handle. option_and_then (lane_below (Some (record { handle = handle; rate = b.rate; burst = b.burst })) path)
    (slice_get (children k) i))) h.0.handle
    ∙ by n.own.handle
  where
    by : (o : Option ℕ)
        → option_and_then (λ handle. option_and_then (lane_below (Some (record { handle = handle; rate = b.rate; burst = b.burst })) path)
        (slice_get (children k) i)) o ≡ option_and_then (λ handle. option_and_then
        (lane_below (Some (record { handle = handle; rate = b.rate; burst = b.burst })) path) (slice_get (children n) i)) o
    by None = refl
    by (Some handle) =
        let link : Option Link = Some (record { handle = handle; rate = b.rate; burst = b.burst }) in
        both (lane_below link path) (slice_get (children n) i) (slice_get (children k) i) (child-alike i n.below k.below h.1)
        (λ c e alike. below-alike link path c e alike)
from-alike path n k (Fifo limit queue) h = below-alike None path n k h
from-alike path n k (Prio priomap) h = below-alike None path n k h
from-alike path n k (Drr s) h = below-alike None path n k h
from-alike path n k (FqCodel s) h = below-alike None path n k h

pub lane-alike : (p : Place) (n k : Node (List Note)) → AreAlike n k → lane_to p k ≡ lane_to p n
lane-alike p n k h = ap (option_and_then (λ path. lane_from path k k.own.discipline)) (path-alike p n k h) ∙ by (place_path p n)
  where
    by : (o : Option (List ℕ)) → option_and_then (λ path. lane_from path k k.own.discipline) o ≡ option_and_then
        (λ path. lane_from path n n.own.discipline) o
    by None = refl
    by (Some path) =
        sym (lane-setting path k k.own.discipline) ∙ ap (lane_from path k) h.0.set ∙ lane-setting path k n.own.discipline
        ∙ from-alike path n k n.own.discipline h

pub level-alike : (now : ℕ) (n k : Node (List Note)) → AreAlike n k → level_of now k.own.discipline ≡ level_of now n.own.discipline
level-alike now n k h = sym (level-setting now k.own.discipline) ∙ ap (level_of now) h.0.set ∙ level-setting now n.own.discipline

-- ---- ways

module _ (i : ℕ) where
  class-setting : (major : ℕ) (d : Discipline) → class_of_drr i major (setting d) ≡ class_of_drr i major d
  class-setting major (Fifo limit queue) = refl
  class-setting major (Prio priomap) = refl
  class-setting major (Tbf b limit) = refl
  class-setting major (Drr s) = refl
  class-setting major (FqCodel s) = refl

  drr-alike : (a b : Own) → IsAlike a b → drr_class i b ≡ drr_class i a
  drr-alike a b h = ap (option_and_then (λ major. class_of_drr i major b.discipline)) h.handle ∙ by a.handle
    where
      by : (o : Option ℕ) → option_and_then (λ major. class_of_drr i major b.discipline) o ≡ option_and_then (λ major. class_of_drr i major a.discipline) o
      by None = refl
      by (Some major) = sym (class-setting major b.discipline) ∙ ap (class_of_drr i major) h.set ∙ class-setting major a.discipline

drrs-alike : (path : List ℕ) (n k : Node (List Note)) → AreAlike n k → drrs_on path k ≡ drrs_on path n
drrs-alike [] n k h = refl
drrs-alike (i ∷ path) n k h =
    ap₂ (λ (o : Option DrrClass) (rest : Option (List DrrClass)). option_and_then (λ (d : DrrClass). option_map (λ (ds : List DrrClass). d ∷ ds) rest) o)
    (drr-alike i n.own k.own h.0)
    (both (drrs_on path) (slice_get (children n) i) (slice_get (children k) i) (child-alike i n.below k.below h.1) (λ c e alike. drrs-alike path c e alike))

way-below-alike : (link : Link) (path : List ℕ) (n k : Node (List Note)) → AreAlike n k → way_below link path k ≡ way_below link path n
way-below-alike link [] n k h = refl
way-below-alike link (i ∷ path) n k h = ap₂ (λ (b : Bool) (o : Option (List DrrClass)). if b then None else option_map
    (λ (ds : List DrrClass). record { link = Some link; drrs = ds }) o) (tbf-alike n k h) (drrs-alike (i ∷ path) n k h)

way-from-alike : (path : List ℕ) (n k : Node (List Note)) (d : Discipline) → AreAlike n k → way_from path k d ≡ way_from path n d
way-from-alike [] n k d h = refl
way-from-alike (i ∷ path) n k (Tbf b limit) h =
    ap (option_and_then (λ handle. option_and_then (way_below (record { handle = handle; rate = b.rate; burst = b.burst }) path)
    (slice_get (children k) i))) h.0.handle
    ∙ by n.own.handle
  where
    by : (o : Option ℕ)
        → option_and_then (λ handle. option_and_then (way_below (record { handle = handle; rate = b.rate; burst = b.burst }) path)
        (slice_get (children k) i)) o ≡ option_and_then (λ handle. option_and_then
        (way_below (record { handle = handle; rate = b.rate; burst = b.burst }) path) (slice_get (children n) i)) o
    by None = refl
    by (Some handle) =
        let link : Link = record { handle = handle; rate = b.rate; burst = b.burst } in
        both (way_below link path) (slice_get (children n) i) (slice_get (children k) i) (child-alike i n.below k.below h.1)
        (λ c e alike. way-below-alike link path c e alike)
way-from-alike (i ∷ path) n k (Drr s) h = ap (option_map (λ (ds : List DrrClass). record { link = None; drrs = ds })) (drrs-alike (i ∷ path) n k h)
way-from-alike (i ∷ path) n k (Fifo limit queue) h = refl
way-from-alike (i ∷ path) n k (Prio priomap) h = refl
way-from-alike (i ∷ path) n k (FqCodel s) h = refl

-- an fq_codel has no classes on a way
no-drrs : (i : ℕ) (path : List ℕ) (n : Node (List Note)) (s : FqState) → n.own.discipline ≡ FqCodel s → drrs_on (i ∷ path) n ≡ None
no-drrs i path n s e =
    ap (option_and_then (λ (d : DrrClass). option_map (λ (rest : List DrrClass). d ∷ rest) (option_and_then (drrs_on path) (slice_get (children n) i))))
    (ap (λ (k : Discipline). option_and_then (λ major. class_of_drr i major k) n.own.handle) e ∙ by n.own.handle)
  where
    by : (o : Option ℕ) → option_and_then (λ major. class_of_drr i major (FqCodel s)) o ≡ None
    by None = refl
    by (Some major) = refl

way-setting : (path : List ℕ) (n : Node (List Note)) (d : Discipline) → n.own.discipline ≡ d → way_from path n (setting d) ≡ way_from path n d
way-setting [] n d is = refl
way-setting (i ∷ path) n (Fifo limit queue) is = refl
way-setting (i ∷ path) n (Prio priomap) is = refl
way-setting (i ∷ path) n (Tbf b limit) is = refl
way-setting (i ∷ path) n (Drr s) is = refl
way-setting (i ∷ path) n (FqCodel s) is = ap (option_map (λ (ds : List DrrClass). record { link = None; drrs = ds })) (no-drrs i path n s is)

pub way-at-alike : (path : List ℕ) (n k : Node (List Note)) → AreAlike n k → way_from path k k.own.discipline ≡ way_from path n n.own.discipline
way-at-alike path n k h =
    sym (way-setting path k k.own.discipline refl) ∙ ap (way_from path k) h.0.set ∙ way-from-alike path n k (setting n.own.discipline) h
    ∙ way-setting path n n.own.discipline refl

-- ---- turns

way-to-alike : (class : ClassId) (n k : Node (List Note)) → AreAlike n k → way_to class k ≡ way_to class n
way-to-alike class n k h = ap (option_and_then (λ path. way_from path k k.own.discipline)) (class-alike class n k h) ∙ by (class_path class n)
  where
    by : (o : Option (List ℕ)) → option_and_then (λ path. way_from path k k.own.discipline) o ≡ option_and_then (λ path. way_from path n n.own.discipline) o
    by None = refl
    by (Some path) = way-at-alike path n k h

limit-in-alike : (class : ClassId) (n k : Node (List Note)) → AreAlike n k → limit_in class k ≡ limit_in class n
limit-in-alike class n k h =
    ap (option_and_then (λ path. option_and_then (λ (c : Node (List Note)). limit_of c.own.discipline) (node_at path k))) (class-alike class n k h)
    ∙ by (class_path class n)
  where
    by : (o : Option (List ℕ)) → option_and_then (λ path. option_and_then (λ (c : Node (List Note)). limit_of c.own.discipline) (node_at path k)) o
        ≡ option_and_then (λ path. option_and_then (λ (c : Node (List Note)). limit_of c.own.discipline) (node_at path n)) o
    by None = refl
    by (Some path) =
        both (λ (c : Node (List Note)). limit_of c.own.discipline) (node_at path n) (node_at path k) (at-alike path n k h)
        (λ a b alike. sym (limit-setting b.own.discipline) ∙ ap limit_of alike.0.set ∙ limit-setting a.own.discipline)

pub turn-alike : (p : Place) (n k : Node (List Note)) → AreAlike n k → turn_to p k ≡ turn_to p n
turn-alike place.Top n k h = refl
turn-alike place.Root n k h = refl
turn-alike (place.Class class) n k h =
    ap₂ (λ (o : Option Way) (l : Option Limit). option_and_then (λ (w : Way). option_and_then (turn_on w.link (shares_of w)) l) o)
    (way-to-alike class n k h) (limit-in-alike class n k h)

-- ---- an arrival

module _ (now : ℕ) (p : Descriptor) (refusal : Option Cause) where
  queued-setting : (d : Discipline) → setting (queued_in p now d) ≡ setting d
  queued-setting (Fifo limit queue) = refl
  queued-setting (Prio priomap) = refl
  queued-setting (Tbf b limit) = refl
  queued-setting (Drr s) = refl
  queued-setting (FqCodel s) = refl

  settled-setting : (i : ℕ) (emptied : Bool) (d : Discipline) → setting (settled_in i emptied d) ≡ setting d
  settled-setting i emptied (Fifo limit queue) = refl
  settled-setting i emptied (Prio priomap) = refl
  settled-setting i emptied (Tbf b limit) = refl
  settled-setting i emptied (Drr s) = ap (λ (cs : List Class). Drr (record (no_classes 0) { classes = cs })) (class-settled i emptied s)
  settled-setting i emptied (FqCodel s) = refl

  here-setting : (o : Option Cause) (s : Shape) → setting (put_here now p o s).node.own.discipline ≡ setting s.own.discipline
  here-setting None s = queued-setting s.own.discipline
  here-setting (Some cause) s = refl

  along-setting : (path : List ℕ) (s : Shape) → setting (put_along now p refusal path s).node.own.discipline ≡ setting s.own.discipline
  along-setting [] s = here-setting refusal s
  along-setting (i ∷ path) s = by (slice_get (children s) i)
    where
      by : (o : Option Shape) → setting (option_map_or (λ (child : Shape). put_beneath p i s (put_along now p refusal path child)) o
          (put_here now p refusal s)).node.own.discipline ≡ setting s.own.discipline
      by None = here-setting refusal s
      by (Some c) = settled-setting i (Rattle.q_model.specs.Beneath.is_empty (put_along now p refusal path c).node) s.own.discipline

  put-setting : (s : Shape) (w : Worked) → IsPutOf now p refusal s w → setting w.own.discipline ≡ setting s.own.discipline
  put-setting s w (inl is) = ap (λ (x : Worked). setting x.own.discipline) is
  put-setting s w (inr way) = ap (λ (x : Worked). setting x.own.discipline) way.1 ∙ along-setting way.0 s

  below-booked : (x y : Forest (List Note)) → AllRelated (IsPutOf now p refusal) (forget x) y → AllAlike x (each_booked history x y)
  below-booked none none h = tt
  below-booked none (more own notes below others) h = absurd h
  below-booked (more own m below others) none h = absurd h
  below-booked (more own m below others) (more own_after notes below_after others_after) h = (
    record {
      handle = h.1;
      set = put-setting (record { own = own; memory = tt; below = forget below })
          (record { own = own_after; memory = notes; below = below_after }) h.0;
    },
    below-booked below below_after h.2,
    below-booked others others_after h.3,
  )

  booked-alike : (root : Node (List Note)) (w : Worked) → IsRelated (IsPutOf now p refusal) (shape root) w → AreAlike root (booked history root w)
  booked-alike root w h = (record { handle = h.1; set = put-setting (shape root) w h.0 }, below-booked root.below w.below h.2)

pub put-alike : (now : ℕ) (p : Descriptor) (r : Option Route) (root : Node (List Note))
    → AreAlike root (booked history root (put_on now p r (shape root)).node)
put-alike now p None root = booked-alike now p None root (put_on now p None (shape root)).node (quiet-related now p None (shape root))
put-alike now p (Some r) root = booked-alike now p r.refusal root (put_on now p (Some r) (shape root)).node
    (along-related now p r.refusal r.path (shape root))
