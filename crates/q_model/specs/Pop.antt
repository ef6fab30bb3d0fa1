-- Popping: a node that was asked and shows a packet hands it out, and no node is asked again.
-- tc-prio(8); a tbf, a drr and an fq_codel hold what they have shown, which is this project's choice.
use Rattle.std.specs.Prelude.{ℕ, suc, List, [], ◌++◌, map, take, drop, Option, Some, None, is_some, option_and_then, slice_get}
use Rattle.std.specs.List.{position_or_len}
use Rattle.std.specs.Option.{option_map_or, option_to_list}
use Rattle.q_packet.specs.Descriptor.{Descriptor}
use Rattle.q_model.specs.Tally.{Sent}
use Rattle.q_model.specs.Node.{Discipline, Fifo, Prio, Tbf, Drr, FqCodel, Own, Node, from_below}
use Rattle.q_model.specs.Beneath.{packets_of}
use Rattle.q_model.specs.Work.{Worked, worked}

-- `before`: the node as it is. `shown`: the packet that it has at hand, without being asked. `after`: once that is popped.
pub record Popping : Type 0 where
  pub before : Worked
  pub shown : Option Descriptor
  pub after : Worked

abbrev pub as_they_are : List Popping → List Worked
as_they_are below = map (λ (b : Popping). b.before) below

abbrev pub giving : Own → List Popping → Own → List Worked → Option Descriptor → Popping
giving own below after children packet = record {
  before = worked own [] (as_they_are below);
  shown = packet;
  after = worked after (map Sent (option_to_list packet)) children;
}

-- the first of these that has a packet at hand, else their number; and the packet that it has
abbrev pub first_ready : List Popping → ℕ
first_ready below = position_or_len (λ (b : Popping). is_some b.shown) below

abbrev pub first_shown : List Popping → Option Descriptor
first_shown below = option_and_then (λ (b : Popping). b.shown) (slice_get below (first_ready below))

-- these, where the one in this place hands out its packet
abbrev pub popped_at : ℕ → List Popping → List Worked
popped_at k below =
    as_they_are (take k below) ++ map (λ (b : Popping). b.after) (drop k (take (suc k) below)) ++ as_they_are (drop (suc k) below)

-- a prio hands out the packet of its first band that has one
abbrev pub pop_prio : Own → List Popping → Popping
pop_prio own below = giving own below own (popped_at (first_ready below) below) (first_shown below)

abbrev pub pop_discipline : Own → List Popping → Discipline → Popping
pop_discipline own below (Fifo limit queue) = giving own below (record own { discipline = Fifo limit (drop 1 queue) }) (as_they_are below) (slice_get (packets_of queue) 0)
pop_discipline own below (Prio priomap) = pop_prio own below
pop_discipline own below (Tbf bucket limit) = giving own below own (as_they_are below) None
pop_discipline own below (Drr s) = giving own below own (as_they_are below) None
pop_discipline own below (FqCodel s) = giving own below own (as_they_are below) None

-- a node that holds a packet hands that one out
abbrev pub pop_own : Own → List Popping → Popping
pop_own own below = option_map_or (λ (p : Descriptor). giving own below (record own { held = None; since = 0 }) (as_they_are below) (Some p)) own.held (pop_discipline own below own.discipline)

-- a whole tree
abbrev pub pop : {M : Type 0} → Node M → Popping
pop n = from_below pop_own n
