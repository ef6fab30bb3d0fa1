-- What the rules make of a tree: each node as it is afterwards, with what it has to note, and how that is remembered.
-- A loss and a mark are noted where they happen and at every node above (tc(8), `-s`: a parent's numbers have its children's).
use Rattle.std.specs.Prelude.{ℕ, Bool, if◌then◌else◌, List, [], map, slice_get}
use Rattle.std.specs.Option.{option_map_or}
use Rattle.q_packet.specs.Descriptor.{Descriptor}
use Rattle.q_packet.specs.declared.cause.Cause.{Cause}
use Rattle.q_drr.specs.Schedule.{Class, Schedule, asleep, woken}
use Rattle.q_model.specs.Tally.{Tally, Note, Lost, noted}
use Rattle.q_model.specs.Node.{Discipline, Fifo, Prio, Tbf, Drr, FqCodel, Own, Forest, none, more, Node, Shape, with_memory, side_by_side}

-- a node after the rules were followed: what it, and each node below it, has to note
abbrev pub Worked : Type 0
Worked = Node (List Note)

-- the node, and what each node above it has to note as well, since its counters have those of its children
pub record Work : Type 0 where
  pub node : Worked
  pub rises : List Note

-- nothing has happened at the node or below it
abbrev pub quiet : Shape → Worked
quiet s = with_memory (λ u. []) s

abbrev pub worked : Own → List Note → List Worked → Worked
worked own notes below = record { own = own; memory = notes; below = side_by_side below }

abbrev pub losses_of : Cause → List Descriptor → List Note
losses_of cause packets = map (λ (p : Descriptor). Lost p cause) packets

-- A drr's class is active exactly while something is queued at its child: one that gets its first packet goes to the end
-- of the active list, and one that is emptied leaves it.
abbrev pub settled_class : ℕ → Bool → Schedule → Schedule
settled_class i emptied s =
    option_map_or (λ (c : Class). if emptied then asleep c.name s else woken c.name s) (slice_get s.classes i) s

abbrev pub settled_in : ℕ → Bool → Discipline → Discipline
settled_in i emptied (Drr s) = Drr (settled_class i emptied s)
settled_in i emptied (Fifo limit queue) = Fifo limit queue
settled_in i emptied (Prio priomap) = Prio priomap
settled_in i emptied (Tbf bucket limit) = Tbf bucket limit
settled_in i emptied (FqCodel s) = FqCodel s

-- what a node is once the child at place i is empty, or is not
abbrev pub settled : ℕ → Bool → Own → Own
settled i emptied own = record own { discipline = settled_in i emptied own.discipline }

-- Every node as the rules leave it, remembering what it did and what it has to note. The rules of packets keep the tree's
-- form: the same nodes are in the same places.
abbrev pub each_booked : {M : Type 0} → Tally M → Forest M → Forest (List Note) → Forest M
each_booked t none after = none
each_booked t (more own m below others) none = none
each_booked t (more own m below others) (more own_after notes below_after others_after) =
    more own_after (noted t m notes) (each_booked t below below_after) (each_booked t others others_after)

abbrev pub booked : {M : Type 0} → Tally M → Node M → Worked → Node M
booked t n w = record { own = w.own; memory = noted t n.memory w.memory; below = each_booked t n.below w.below }
