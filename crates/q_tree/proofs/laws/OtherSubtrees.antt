-- A node that stands off the packet's route is as it was before the put, and one off the way of a command as it was before that.
-- A put leaves all places.
use Rattle.std.proofs.Common.{◌≡◌, ℕ, zero, suc, ◌∙◌, List, [], ◌∷◌, ◌++◌, map, set, refl, sym, ap, Option, Some, None, option_map, option_and_then}
use Rattle.std.specs.Prelude.{◌≢◌, if◌then◌else◌, nat_lt, slice_get}
use Rattle.std.specs.Option.{option_map_or}
use Rattle.std.proofs.lemmas.Option.{none-some, same_Some, slice_get-map}
use Rattle.q_packet.specs.Descriptor.{Descriptor}
use Rattle.q_packet.specs.declared.cause.Cause.{Cause}
use Rattle.q_model.specs.Edit.{Graft, Remake, above, edited_at, lost_by, remade}
use Rattle.q_model.specs.Find.{node_at}
use Rattle.q_model.specs.Node.{Node, Shape, blank, nodes_in, side_by_side, children, shape}
use Rattle.q_model.specs.Put.{put_along, put_here, put_beneath}
use Rattle.q_model.specs.Tally.{Note}
use Rattle.q_model.specs.TreeState.{put_on}
use Rattle.q_model.specs.Work.{Worked, quiet, each_booked, booked}
use Rattle.q_invariants.proofs.tree.Forests.{nodes-side, side-nodes}
use Rattle.q_tree.specs.arrival.Places.{places_at, places_under}
use Rattle.q_tree.specs.Kept.{Kept, kept}
use Rattle.q_tree.specs.Laws.{EditLeavesOtherSubtrees, PutKeepsPlaces, PutLeavesOtherSubtrees}
use Rattle.q_model.specs.Route.{Route, device_route}
use Rattle.q_tree.proofs.arrival.Puts.{same-way}
use Rattle.q_tree.proofs.arrival.TreePuts.{still}
use Rattle.q_tree.proofs.departure.Forms.{children-shape, noted-kept, side-quiet, side-booked}

other-set : {A : Type 0} (xs : List A) (i j : ℕ) (x : A) → i ≢ j → slice_get (set xs i x) j ≡ slice_get xs j
other-set [] i j x differ = refl
other-set (y ∷ xs) zero zero x differ = absurd (differ refl)
other-set (y ∷ xs) zero (suc j) x differ = refl
other-set (y ∷ xs) (suc i) zero x differ = refl
other-set (y ∷ xs) (suc i) (suc j) x differ = other-set xs i j x (λ e. differ (ap suc e))

own-set : {A : Type 0} (xs : List A) (i : ℕ) (x y : A) → slice_get xs i ≡ Some y → slice_get (set xs i x) i ≡ Some x
own-set [] i x y e = absurd (none-some y e)
own-set (z ∷ xs) zero x y e = refl
own-set (z ∷ xs) (suc i) x y e = own-set xs i x y e

-- children where nothing happened, and where one has worked
same-children : (n : Node Kept) → nodes_in (each_booked kept n.below (side_by_side (map quiet (children (shape n))))) ≡ children n
same-children n =
    ap (λ ws. nodes_in (each_booked kept n.below (side_by_side (map quiet ws)))) (children-shape n)
    ∙ ap (λ x. nodes_in (each_booked kept x (side_by_side (map quiet (map shape (children n)))))) (sym (side-nodes n.below))
    ∙ ap nodes_in (side-quiet kept (children n))
    ∙ nodes-side (children n)

one-child-set : (n c : Node Kept) (i : ℕ) (w : Worked) → slice_get (children n) i ≡ Some c
    → nodes_in (each_booked kept n.below (side_by_side (set (map quiet (children (shape n))) i w))) ≡ set (children n) i (booked kept c w)
one-child-set n c i w e =
    ap (λ ws. nodes_in (each_booked kept n.below (side_by_side (set (map quiet ws) i w)))) (children-shape n)
    ∙ ap (λ x. nodes_in (each_booked kept x (side_by_side (set (map quiet (map shape (children n))) i w)))) (sym (side-nodes n.below))
    ∙ ap nodes_in (side-booked kept (children n) i c w e)
    ∙ nodes-side (set (children n) i (booked kept c w))

here-children : (now : ℕ) (p : Descriptor) (refusal : Option Cause) (n : Node Kept) → children (booked kept n (put_here now p refusal (shape n)).node) ≡ children n
here-children now p None n = same-children n
here-children now p (Some cause) n = same-children n

-- at this place
shape-at : (n : Node Kept) (i : ℕ) → slice_get (children (shape n)) i ≡ option_map shape (slice_get (children n) i)
shape-at n i = ap (λ xs. slice_get xs i) (children-shape n) ∙ slice_get-map shape (children n) i

nobody-there : (now : ℕ) (p : Descriptor) (refusal : Option Cause) (i : ℕ) (path : List ℕ) (n : Node Kept) → slice_get (children n) i ≡ None
    → children (booked kept n (put_along now p refusal (i ∷ path) (shape n)).node) ≡ children n
nobody-there now p refusal i path n e =
    ap (λ o. children (booked kept n (option_map_or (λ (child : Shape). put_beneath p i (shape n) (put_along now p refusal path child)) o
    (put_here now p refusal (shape n))).node)) (shape-at n i ∙ ap (option_map shape) e)
    ∙ here-children now p refusal n

child-there : (now : ℕ) (p : Descriptor) (refusal : Option Cause) (i : ℕ) (path : List ℕ) (n c : Node Kept) → slice_get (children n) i ≡ Some c
    → children (booked kept n (put_along now p refusal (i ∷ path) (shape n)).node) ≡ set (children n) i (booked kept c (put_along now p refusal path (shape c)).node)
child-there now p refusal i path n c e =
    ap (λ o. children (booked kept n (option_map_or (λ (child : Shape). put_beneath p i (shape n) (put_along now p refusal path child)) o
    (put_here now p refusal (shape n))).node)) (shape-at n i ∙ ap (option_map shape) e)
    ∙ one-child-set n c i (put_along now p refusal path (shape c)).node e

along : (now : ℕ) (p : Descriptor) (refusal : Option Cause) (shared rest below : List ℕ) (i j : ℕ) (n : Node Kept) → i ≢ j
    → node_at (shared ++ j ∷ below) (booked kept n (put_along now p refusal (shared ++ i ∷ rest) (shape n)).node) ≡ node_at (shared ++ j ∷ below) n
along now p refusal [] rest below i j n differ = by (slice_get (children n) i) refl where
  by : (o : Option (Node Kept)) → slice_get (children n) i ≡ o
      → option_and_then (node_at below) (slice_get (children (booked kept n (put_along now p refusal (i ∷ rest) (shape n)).node)) j)
      ≡ option_and_then (node_at below) (slice_get (children n) j)
  by None e = ap (λ ns. option_and_then (node_at below) (slice_get ns j)) (nobody-there now p refusal i rest n e)
  by (Some c) e =
      ap (λ ns. option_and_then (node_at below) (slice_get ns j)) (child-there now p refusal i rest n c e)
      ∙ ap (option_and_then (node_at below)) (other-set (children n) i j (booked kept c (put_along now p refusal rest (shape c)).node) differ)
along now p refusal (k ∷ shared) rest below i j n differ = by (slice_get (children n) k) refl (λ c. along now p refusal shared rest below i j c differ) where
  by : (o : Option (Node Kept)) → slice_get (children n) k ≡ o
      → ((c : Node Kept) → node_at (shared ++ j ∷ below) (booked kept c (put_along now p refusal (shared ++ i ∷ rest) (shape c)).node)
      ≡ node_at (shared ++ j ∷ below) c)
      → option_and_then (node_at (shared ++ j ∷ below))
      (slice_get (children (booked kept n (put_along now p refusal (k ∷ shared ++ i ∷ rest) (shape n)).node)) k)
      ≡ option_and_then (node_at (shared ++ j ∷ below)) (slice_get (children n) k)
  by None e on = ap (λ ns. option_and_then (node_at (shared ++ j ∷ below)) (slice_get ns k)) (nobody-there now p refusal k (shared ++ i ∷ rest) n e)
  by (Some c) e on =
      ap (λ ns. option_and_then (node_at (shared ++ j ∷ below)) (slice_get ns k)) (child-there now p refusal k (shared ++ i ∷ rest) n c e)
      ∙ ap (option_and_then (node_at (shared ++ j ∷ below))) (own-set (children n) k (booked kept c (put_along now p refusal (shared ++ i ∷ rest) (shape c)).node) c e)
      ∙ on c
      ∙ sym (ap (option_and_then (node_at (shared ++ j ∷ below))) e)

pub put-leaves : PutLeavesOtherSubtrees
put-leaves now p s r shared rest below i j route path differ =
    ap (λ o. node_at (shared ++ j ∷ below) (booked kept s.root (put_on now p o (shape s.root)).node)) (ap (λ way. if nat_lt s.device.mtu p.len then None else Some way) (same-way p s.root) ∙ route)
    ∙ ap (λ way. node_at (shared ++ j ∷ below) (booked kept s.root (put_along now p r.refusal way (shape s.root)).node)) path
    ∙ along now p r.refusal shared rest below i j s.root differ

-- ---- places

-- among the children of which one has worked
same-places : (ns : List (Node Kept)) (i : ℕ) (c after : Node Kept) → slice_get ns i ≡ Some c
    → ((way : List ℕ) → places_at way after ≡ places_at way c) → (way : List ℕ) (j : ℕ) → places_under way j (set ns i after) ≡ places_under way j ns
same-places [] i c after e same way j = refl
same-places (n ∷ ns) zero c after e same way zero = same way ∙ ap (places_at way) (sym (same_Some n c e))
same-places (n ∷ ns) zero c after e same way (suc j) = refl
same-places (n ∷ ns) (suc i) c after e same way zero = refl
same-places (n ∷ ns) (suc i) c after e same way (suc j) = same-places ns i c after e same way j

along-places : (now : ℕ) (p : Descriptor) (refusal : Option Cause) (path way : List ℕ) (n : Node Kept) → places_at way (booked kept n (put_along now p refusal path (shape n)).node) ≡ places_at way n
along-places now p refusal path [] n = ap (λ (k : Kept). k.places) (noted-kept n.memory (put_along now p refusal path (shape n)).node.memory)
along-places now p refusal [] (j ∷ way) n = ap (places_under way j) (here-children now p refusal n)
along-places now p refusal (i ∷ path) (j ∷ way) n = by (slice_get (children n) i) refl (λ c w. along-places now p refusal path w c) where
  by : (o : Option (Node Kept)) → slice_get (children n) i ≡ o → ((c : Node Kept) (w : List ℕ) → places_at w (booked kept c (put_along now p refusal path (shape c)).node) ≡ places_at w c)
      → places_under way j (children (booked kept n (put_along now p refusal (i ∷ path) (shape n)).node)) ≡ places_under way j (children n)
  by None e on = ap (places_under way j) (nobody-there now p refusal i path n e)
  by (Some c) e on = ap (places_under way j) (child-there now p refusal i path n c e) ∙ same-places (children n) i c (booked kept c (put_along now p refusal path (shape c)).node) e (on c) way j

pub put-root-places : (now : ℕ) (p : Descriptor) (o : Option Route) (n : Node Kept) (way : List ℕ) → places_at way (booked kept n (put_on now p o (shape n)).node) ≡ places_at way n
put-root-places now p None n way = ap (places_at way) (still n)
put-root-places now p (Some r) n way = along-places now p r.refusal r.path way n

pub put-places : PutKeepsPlaces
put-places now p s way = put-root-places now p (device_route p s.device.mtu (shape s.root)) s.root way

-- ---- commands

edited-along : (notes : List Note) (f : Node Kept → Node Kept) (shared rest below : List ℕ) (i j : ℕ) (n : Node Kept) → i ≢ j
    → node_at (shared ++ j ∷ below) (edited_at kept notes f (shared ++ i ∷ rest) n) ≡ node_at (shared ++ j ∷ below) n
edited-along notes f [] rest below i j n differ = by (slice_get (children n) i) where
  by : (o : Option (Node Kept))
      → option_and_then (node_at below) (slice_get (children (option_map_or (λ child. above kept notes i (edited_at kept notes f rest child) n) o n))
      j) ≡ option_and_then (node_at below) (slice_get (children n) j)
  by None = refl
  by (Some c) =
      ap (λ ns. option_and_then (node_at below) (slice_get ns j)) (nodes-side (set (children n) i (edited_at kept notes f rest c)))
      ∙ ap (option_and_then (node_at below)) (other-set (children n) i j (edited_at kept notes f rest c) differ)
edited-along notes f (k ∷ shared) rest below i j n differ = by (slice_get (children n) k) refl (λ c. edited-along notes f shared rest below i j c differ) where
  by : (o : Option (Node Kept)) → slice_get (children n) k ≡ o → ((c : Node Kept) → node_at (shared ++ j ∷ below) (edited_at kept notes f (shared ++ i ∷ rest) c) ≡ node_at (shared ++ j ∷ below) c)
      → option_and_then (node_at (shared ++ j ∷ below))
      (slice_get (children (option_map_or (λ child. above kept notes k (edited_at kept notes f (shared ++ i ∷ rest) child) n) o n)) k)
      ≡ option_and_then (node_at (shared ++ j ∷ below)) (slice_get (children n) k)
  by None e on = refl
  by (Some c) e on =
      ap (λ ns. option_and_then (node_at (shared ++ j ∷ below)) (slice_get ns k)) (nodes-side (set (children n) k (edited_at kept notes f (shared ++ i ∷ rest) c)))
      ∙ ap (option_and_then (node_at (shared ++ j ∷ below))) (own-set (children n) k (edited_at kept notes f (shared ++ i ∷ rest) c) c e)
      ∙ on c
      ∙ sym (ap (option_and_then (node_at (shared ++ j ∷ below))) e)

pub edit-leaves : EditLeavesOtherSubtrees
edit-leaves (Graft path new) s shared rest below i j way differ =
    let notes = lost_by (Graft path new) (shape s.root) in
    ap (λ w. node_at (shared ++ j ∷ below) (edited_at kept notes (λ old. blank kept new) w s.root)) way ∙ edited-along notes (λ old. blank kept new) shared rest below i j s.root differ
edit-leaves (Remake path own children_of) s shared rest below i j way differ =
    let notes = lost_by (Remake path own children_of) (shape s.root) in
    ap (λ w. node_at (shared ++ j ∷ below) (edited_at kept notes (remade kept own children_of notes) w s.root)) way
    ∙ edited-along notes (remade kept own children_of notes) shared rest below i j s.root differ
