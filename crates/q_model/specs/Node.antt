-- A tree of queueing disciplines: what each node is, its children in class order, and what it remembers.
-- tc(8) has qdiscs, classes and filters; the disciplines are those of tc-pfifo(8), tc-prio(8), tc-tbf(8), tc-drr(8), tc-fq_codel(8).
use Rattle.std.specs.Prelude.{ℕ, List, [], ◌∷◌, Option}
use Rattle.q_packet.specs.Descriptor.{Descriptor}
use Rattle.q_packet.specs.declared.stamped.Stamped.{Stamped}
use Rattle.q_codel.specs.declared.limit.Limit.{Limit}
use Rattle.q_fqcodel.specs.FqState.{FqState}
use Rattle.q_bucket.specs.Level.{TokenBucket}
use Rattle.q_drr.specs.Schedule.{Schedule}
use Rattle.q_model.specs.declared.filter.Filter.{Filter}
use Rattle.q_model.specs.Tally.{Tally}

-- A discipline with its settings and its own lists and states. A prio has as many bands as children, and the band of each
-- priority; a tbf has the limit, in bytes, of its implicit bfifo; a drr has its classes in the order of its children.
pub data Discipline : Type 0 where
  Fifo : Limit → List Stamped → Discipline
  Prio : List ℕ → Discipline
  Tbf : TokenBucket → ℕ → Discipline
  Drr : Schedule → Discipline
  FqCodel : FqState → Discipline

-- What a node is, apart from its children: the major number of its handle, which an implicit leaf lacks, its discipline,
-- the packet that it was asked to show and has dequeued for that, and its filters in their order. `since` is when the packet
-- that it holds arrived, 0 where it holds none.
pub record Own : Type 0 where
  pub handle : Option ℕ
  pub discipline : Discipline
  pub held : Option Descriptor
  pub since : ℕ
  pub filters : List Filter

-- nodes side by side: the first one, what it remembers, its children, and the others
pub data Forest (M : Type 0) : Type 0 where
  none : Forest M
  more : Own → M → Forest M → Forest M → Forest M

pub record Node (M : Type 0) : Type 0 where
  pub own : Own
  pub memory : M
  pub below : Forest M

-- the same, as a list of nodes
abbrev pub nodes_in : {M : Type 0} → Forest M → List (Node M)
nodes_in none = []
nodes_in (more own m below others) = record { own = own; memory = m; below = below } ∷ nodes_in others

abbrev pub side_by_side : {M : Type 0} → List (Node M) → Forest M
side_by_side [] = none
side_by_side (n ∷ others) = more n.own n.memory n.below (side_by_side others)

abbrev pub children : {M : Type 0} → Node M → List (Node M)
children n = nodes_in n.below

-- what comes of each node, given what came of its children
abbrev pub each : {M A : Type 0} → (Own → List A → A) → Forest M → List A
each f none = []
each f (more own m below others) = f own (each f below) ∷ each f others

abbrev pub from_below : {M A : Type 0} → (Own → List A → A) → Node M → A
from_below f n = f n.own (each f n.below)

-- the same nodes, where each remembers something else
abbrev pub each_memory : {M N : Type 0} → (M → N) → Forest M → Forest N
each_memory f none = none
each_memory f (more own m below others) = more own (f m) (each_memory f below) (each_memory f others)

abbrev pub with_memory : {M N : Type 0} → (M → N) → Node M → Node N
with_memory f n = record { own = n.own; memory = f n.memory; below = each_memory f n.below }

-- a node that remembers nothing: all that the rules read
abbrev pub Shape : Type 0
Shape = Node (Unit {0})

abbrev pub shape : {M : Type 0} → Node M → Shape
shape n = with_memory (λ m. tt) n

-- nodes of which nothing has been noted yet
abbrev pub blank : {M : Type 0} → Tally M → Shape → Node M
blank t s = with_memory (λ u. t.none) s
