-- What a ring of the last events keeps beside what a contract sees.
-- Nothing here is of a standard.
use Rattle.std.specs.Prelude.{◌≡◌, ◌≤◌, ◌<◌, ◌^◌, min, length}
use Rattle.std.specs.VecDeque.{deque_capacity}
use Rattle.q_device.specs.declared.log.last_events.LastEvents.TheInside.{Inside}
use Rattle.q_device.specs.log.LastNoted.{LastNoted}

abbrev pub last_noted : Inside → LastNoted
last_noted a = record { places = a.places; noted = a.noted; events = a.events.items }

-- as many events as were noted or as it has places, with room for those; both numbers fit their types
pub record IsKeptRing (a : Inside) : Type 0 where
  pub length_is : length a.events.items ≡ min a.places a.noted
  pub fits : a.places < 2 ^ 32
  pub capacity : a.places ≤ deque_capacity a.events
