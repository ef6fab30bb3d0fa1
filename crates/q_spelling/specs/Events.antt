-- The line of a script that an event is, and the script that plays events again.
-- The lines are those of the script language, which is this project's, after tc(8).
use Rattle.std.specs.Prelude.{◌≡◌, ℕ, ◌==◌, List, [], ◌∷◌, ◌++◌, codes, if◌then◌else◌, Some, Ok}
use Rattle.q_packet.specs.Descriptor.{Descriptor}
use Rattle.q_packet.specs.Key.{IsKey}
use Rattle.q_model.specs.Events.{IsEvent}
use Rattle.q_model.specs.declared.event.Event.{Event}
use Rattle.q_model.specs.declared.event.Event.TheVariants as event
use Rattle.q_line.specs.Grammar.{line_of}
use Rattle.q_line.specs.Ranges.{IsWhole}
use Rattle.q_line.specs.Spelling.{spelling}
use Rattle.q_line.specs.declared.arrival.Arrival.{Arrival}
use Rattle.q_line.specs.declared.line.Line.{Line}
use Rattle.q_line.specs.declared.line.Line.TheVariants as line
use Rattle.q_spelling.specs.Words.{device_name}

-- what a line says of a packet: all but its port, its number among those of the port, and its buffer
abbrev pub arrival_of : Descriptor → Arrival
arrival_of p = record { key = p.key; hash = Some p.hash; len = p.len; prio = p.prio; ecn = p.ecn }

abbrev pub event_line : Event → Line
event_line (event.Arrive p now) = line.Pkt (arrival_of p)
event_line (event.Poll now) = line.Poll 1
event_line (event.Command c now) = line.Tc c

abbrev pub line_text : Line → List ℕ
line_text l = spelling device_name [] l

abbrev pub event_text : Event → List ℕ
event_text e = line_text (event_line e)

abbrev pub moment_of : Event → ℕ
moment_of (event.Arrive p now) = now
moment_of (event.Poll now) = now
moment_of (event.Command c now) = now

-- the line that sets the time, where it is another one than that of the line before
abbrev pub moment_text : ℕ → ℕ → List ℕ
moment_text before now = if now == before then [] else line_text (line.At now) ++ codes "\n"

-- a line for each event, behind one that sets its time; a script begins at time 0
abbrev pub script_from : ℕ → List Event → List ℕ
script_from before [] = []
script_from before (e ∷ events) = moment_text before (moment_of e) ++ event_text e ++ codes "\n" ++ script_from (moment_of e) events

abbrev pub script_text : List Event → List ℕ
script_text events = script_from 0 events

-- what a line can say: a packet that is not IP has no addresses, and a command is one that a line gives
abbrev pub IsSayable : Event → Type 0
IsSayable (event.Arrive p now) = IsKey p.key × (p.key.family ≡ 0 → (p.key.src ≡ 0) × (p.key.dst ≡ 0))
IsSayable (event.Poll now) = Unit {0}
IsSayable (event.Command c now) = IsWhole c

-- the line of such an event is read as what the event does
abbrev pub EventsAreReadBack : Type 0
EventsAreReadBack = (e : Event) → IsEvent e → IsSayable e → line_of (event_text e) ≡ Ok (event_line e)
