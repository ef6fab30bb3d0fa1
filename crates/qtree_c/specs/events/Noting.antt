-- What the calls from C note in the ring of the last events that is beside a device, and what they report of it.
-- The ring is q_device's (LastNoted.antt); the calls are this project's own.
use Rattle.std.specs.Prelude.{◌≡◌, ℕ, ◌+◌, ◌==◌, if◌then◌else◌, List, [], ◌∷◌, length, map, replicate, slice_get, Result, Ok, Err, Option, Some, None}
use Rattle.q_device.specs.device.DeviceSeen.{DeviceSeen, as_counted}
use Rattle.q_device.specs.log.LastNoted.{LastNoted, all_noted}
use Rattle.q_line.specs.declared.line.Line.{Line}
use Rattle.q_line.specs.declared.line.Line.TheVariants as line
use Rattle.q_model.specs.declared.event.Event.{Event}
use Rattle.q_model.specs.declared.event.Event.TheVariants.{Arrive, Command, Poll}
use Rattle.q_packet.specs.Descriptor.{Descriptor}
use Rattle.q_ports.specs.NotedIn.{arrivals_between}
use Rattle.q_ports.specs.Rings.{RingSeen}
use Rattle.q_words.specs.declared.line_fault.LineFault.{LineFault}
use Rattle.qtree_c.specs.device.Calls.{event_or, found_number}
use Rattle.qtree_c.specs.events.Scripts.{IsLineOf}
use Rattle.qtree_c.specs.declared.abi.c_event.CEvent.{CEvent}

-- ---- what is noted

-- the ring, where there is one, after these events were noted in it in turn
abbrev pub noting : List Event → Option LastNoted → Option LastNoted
noting es None = None
noting es (Some l) = Some (all_noted es l)

-- A call on a place with this device. Where it is open these events are noted, and where it is closed none is.
abbrev pub Notes : (DeviceSeen → List Event) → Option DeviceSeen → Option LastNoted → Option LastNoted → Type 0
Notes events None before after = after ≡ before
Notes events (Some d) before after = after ≡ noting (events d) before

-- the event as it counts at the device, alone
abbrev pub one_event : Event → DeviceSeen → List Event
one_event e d = as_counted d.device e ∷ []

-- these packets arrive, all at the same time
abbrev pub arrival_events : ℕ → List Descriptor → DeviceSeen → List Event
arrival_events now packets d = map (λ p. as_counted d.device (Arrive p now)) packets

-- as many polls, all at the same time, as give so many packets, and the one that gives none where the answer says so
abbrev pub poll_events : ℕ → ℕ → ℕ → DeviceSeen → List Event
poll_events now code count d = replicate (if code == 0 then count else count + 1) (as_counted d.device (Poll now))

-- the command of a line
abbrev pub command_events : Result Line LineFault → ℕ → DeviceSeen → List Event
command_events (Ok (line.Tc c)) now d = one_event (Command c now) d
command_events (Ok line.Blank) now d = []
command_events (Ok (line.Show show)) now d = []
command_events (Ok (line.At moment)) now d = []
command_events (Ok (line.Pkt arrival)) now d = []
command_events (Ok (line.Frame len head)) now d = []
command_events (Ok (line.Poll polls)) now d = []
command_events (Ok line.Reap) now d = []
command_events (Ok line.Totals) now d = []
command_events (Err f) now d = []

-- A call on the places of a device and of an outlet: the packets that were received from the ring are those that arrived.
abbrev pub NotesTakenIn : ℕ → Option DeviceSeen → Option RingSeen → Option RingSeen → Option LastNoted → Option LastNoted → Type 0
NotesTakenIn now None o o' before after = after ≡ before
NotesTakenIn now (Some d) None o' before after = after ≡ before
NotesTakenIn now (Some d) (Some o) None before after = ⊥
NotesTakenIn now (Some d) (Some o) (Some o') before after = after ≡ noting (arrivals_between now d o o') before

-- ---- what is told

-- a call on a place with this device, which tells of the ring where it is open
abbrev pub Tells : Type 0 → ℕ → Option DeviceSeen → Type 0
Tells told code None = code ≡ 50
Tells told code (Some d) = told

-- how many events were noted, and those that are kept; nothing without a ring
abbrev pub noted_in : Option LastNoted → ℕ
noted_in None = 0
noted_in (Some l) = l.noted

abbrev pub kept_in : Option LastNoted → List Event
kept_in None = []
kept_in (Some l) = l.events

pub record IsCountOfLast (code events last : ℕ) (l : Option LastNoted) : Type 0 where
  pub answer : code ≡ 0
  pub noted : events ≡ noted_in l
  pub kept : last ≡ length (kept_in l)

pub record IsLastEvent (index code : ℕ) (before after : CEvent) (l : Option LastNoted) : Type 0 where
  pub answer : code ≡ found_number (slice_get (kept_in l) index)
  pub event : after ≡ event_or before (slice_get (kept_in l) index)

abbrev pub IsLastLine : ℕ → ℕ → ℕ → List ℕ → List ℕ → Option LastNoted → Type 0
IsLastLine index code needed before after l = IsLineOf (slice_get (kept_in l) index) code needed before after
