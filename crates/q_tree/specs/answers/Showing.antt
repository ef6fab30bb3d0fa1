-- The nodes of a tree, each with the place where it is, in the order in which `tc qdisc show` prints them (tc(8)): each
-- before what is below it, and children in class order.
use Rattle.std.specs.Prelude.{ℕ, IsTrue, List, [], ◌∷◌, ◌++◌, drop, slice_get, unwrap_or}
use Rattle.q_model.specs.declared.place.Place.{Place}
use Rattle.q_model.specs.declared.place.Place.TheVariants as place
use Rattle.q_drr.specs.Schedule.{has_class}
use Rattle.q_model.specs.Node.{Discipline, Fifo, Prio, Tbf, Drr, FqCodel, Forest, none, more, Node}
use Rattle.q_model.specs.Views.{places_below}
use Rattle.q_invariants.specs.Kept.{IsLawfulRoot}
use Rattle.q_tree.specs.Kept.{Kept}

-- nodes side by side, which are in these places, and all below them
abbrev pub standing_in : {M : Type 0} → List Place → Forest M → List (Place × Node M)
standing_in places none = []
standing_in places (more own m below others) =
    (unwrap_or (slice_get places 0) place.Root, record { own = own; memory = m; below = below })
    ∷ standing_in (places_below own below) below
    ++ standing_in (drop 1 places) others

-- a node in this place, and all below it
abbrev pub standing : {M : Type 0} → Place → Node M → List (Place × Node M)
standing p n = (p, n) ∷ standing_in (places_below n.own n.below) n.below

-- a node whose classes have numbers that can be shown: it is lawful, and so is all below it
pub record IsNumbered (n : Node Kept) : Type 0 where
  pub mtu : ℕ
  pub clock : ℕ
  pub lawful : IsLawfulRoot mtu clock n

-- the class that a line names is one of a drr's; the others have no list of them
abbrev pub HasClass : ℕ → Discipline → Type 0
HasClass minor (Drr s) = IsTrue (has_class minor s.classes)
HasClass minor (Fifo limit queue) = Unit {0}
HasClass minor (Prio priomap) = Unit {0}
HasClass minor (Tbf bucket limit) = Unit {0}
HasClass minor (FqCodel s) = Unit {0}
