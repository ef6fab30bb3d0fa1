-- What polls give: each gives a packet, and the first that gives none is the last.
-- Nothing here is of a standard.
use Rattle.std.specs.Prelude.{ℕ, zero, suc, List, [], ◌∷◌, Option, Some, None}
use Rattle.q_packet.specs.Descriptor.{Descriptor}
use Rattle.q_model.specs.declared.event.Event.TheVariants.{Poll}
use Rattle.q_device.specs.device.DeviceSeen.{DeviceSeen, polled_memory}
use Rattle.q_device.specs.Events.{after_event, reply_to, with_memory}
use Rattle.q_device.specs.Laws.{given_in}

-- the device after a poll, which takes no memory: the packets that it took have left the tree, and every place is still there
unfoldable pub after_poll : ℕ → DeviceSeen → DeviceSeen
after_poll now d = let after = after_event (Poll now) d in with_memory (polled_memory after.device.clock d.memory) after

-- the packet that a poll gives, if any
abbrev pub given_at : ℕ → DeviceSeen → Option Descriptor
given_at now d = given_in (reply_to (Poll now) d)

-- what follows a packet, and nothing where none was given
abbrev pub and_then : Option Descriptor → List Descriptor → List Descriptor
and_then (Some p) rest = p ∷ rest
and_then None rest = []

-- what comes of the polls that follow a packet, and of this one where it gave none
abbrev pub or_last : {A : Type 0} → Option Descriptor → A → A → A
or_last (Some p) last rest = rest
or_last None last rest = last

-- what so many polls at most give
abbrev pub given_by : ℕ → ℕ → DeviceSeen → List Descriptor
given_by zero now d = []
given_by (suc n) now d = and_then (given_at now d) (given_by n now (after_poll now d))

-- the device after them
abbrev pub polled_by : ℕ → ℕ → DeviceSeen → DeviceSeen
polled_by zero now d = d
polled_by (suc n) now d = or_last (given_at now d) (after_poll now d) (polled_by n now (after_poll now d))
