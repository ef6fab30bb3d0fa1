-- The path of an arriving packet from a node down: by filters, bands and classes, and where it ends in a refusal.
-- tc-prio(8), tc-drr(8), tc-tbf(8), tc-pfifo(8); that a tbf refuses what is longer than its burst is this project's choice.
use Rattle.std.specs.Prelude.{ℕ, ◌-◌, ◌==◌, nat_lt, if◌then◌else◌, List, [], ◌∷◌, Option, Some, None, slice_get, slice_index}
use Rattle.std.specs.List.{position}
use Rattle.std.specs.Option.{option_map_or}
use Rattle.q_packet.specs.Descriptor.{Descriptor}
use Rattle.q_packet.specs.declared.cause.Cause.{Cause}
use Rattle.q_packet.specs.declared.cause.Cause.TheVariants.{TooLong, NoClass, OverLimit}
use Rattle.q_codel.specs.FifoState.{takes}
use Rattle.q_drr.specs.Schedule.{Class, Schedule}
use Rattle.q_model.specs.Filters.{named_class}
use Rattle.q_model.specs.Node.{Discipline, Fifo, Prio, Tbf, Drr, FqCodel, Own, Node, from_below}

-- the child that the packet goes to at each node, counted from 0 in class order, and the cause where it is refused at the end
pub record Route : Type 0 where
  pub path : List ℕ
  pub refusal : Option Cause

-- it ends here, and the packet is queued, or is refused
abbrev pub ends : Route
ends = record { path = []; refusal = None }

abbrev pub refused : Cause → Route
refused cause = record { path = []; refusal = Some cause }

-- it goes on through this child; every child that a rule names is there
abbrev pub through : List Route → ℕ → Route
through below i = option_map_or (λ (r : Route). record r { path = i ∷ r.path }) (slice_get below i) (refused NoClass)

-- the band: the filter's class, 1 for the first band, else that of the packet's priority
abbrev pub band_of : Own → List ℕ → Descriptor → ℕ
band_of own priomap p = option_map_or (λ minor. minor - 1) (named_class own.filters p) (slice_index priomap p.prio)

-- the place among a drr's classes of the one with this number
abbrev pub class_at : ℕ → Schedule → Option ℕ
class_at minor s = position (λ (c : Class). minor == c.name) s.classes

-- the path from a node with this discipline, given that from each of its children
abbrev pub way : Descriptor → Own → List Route → Discipline → Route
way p own below (Fifo limit queue) = if takes limit queue p.len then ends else refused OverLimit
way p own below (FqCodel s) = ends
way p own below (Prio priomap) = through below (band_of own priomap p)
way p own below (Tbf bucket limit) = if nat_lt bucket.burst p.len then refused TooLong else through below 0
way p own below (Drr s) =
    elim (named_class own.filters p) [
      | None ↦ refused NoClass
      | Some minor ↦ option_map_or (through below) (class_at minor s) (refused NoClass)
    ]

abbrev pub route : {M : Type 0} → Descriptor → Node M → Route
route p n = from_below (λ own below. way p own below own.discipline) n

-- The route from the device down: none where the packet is longer than the mtu, since the device then refuses it as TooLong
-- before the root. A root that refuses it, as a tbf does what is longer than its burst, has a route which ends there.
abbrev pub device_route : {M : Type 0} → Descriptor → ℕ → Node M → Option Route
device_route p mtu root = if nat_lt mtu p.len then None else Some (route p root)
