-- What a ring of the last events keeps: of all events that were noted in it the last, as many as it has places.
-- Nothing here is of a standard.
use Rattle.std.specs.Prelude.{◌≡◌, ◌+◌, ◌-◌, ℕ, List, [], ◌∷◌, ◌++◌, min, length, drop}
use Rattle.q_model.specs.declared.event.Event.{Event}
use Rattle.q_device.specs.device.DeviceSeen.{most_events}

-- so many of the last elements of a list, or all where it has no more
abbrev pub last_of : {A : Type 0} → ℕ → List A → List A
last_of n xs = drop (length xs - n) xs

-- its places, how many events were noted in all, and those that it keeps, the oldest first
pub record LastNoted : Type 0 where
  pub places : ℕ
  pub noted : ℕ
  pub events : List Event

-- nothing was noted yet
abbrev pub none_noted : ℕ → LastNoted
none_noted places = record { places = places; noted = 0; events = [] }

-- an event is noted: it comes last, and where all places are taken the oldest makes way for it
abbrev pub with_noted : Event → LastNoted → LastNoted
with_noted e l = record l { noted = min (l.noted + 1) most_events; events = last_of l.places (l.events ++ e ∷ []) }

-- these are noted in turn
abbrev pub all_noted : List Event → LastNoted → LastNoted
all_noted [] l = l
all_noted (e ∷ es) l = all_noted es (with_noted e l)

-- After a list of events was noted the last of them are there, as many as there are places, and all are counted.
abbrev pub KeepsTheLast : Type 0
KeepsTheLast = (places : ℕ) (es : List Event) → all_noted es (none_noted places) ≡ record { places = places; noted = min (length es) most_events; events = last_of places es }
