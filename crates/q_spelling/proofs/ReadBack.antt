-- The line of an event is read as what the event does: q_line's law, of the lines that events are.
use Rattle.std.proofs.Common.{refl, arith, [], ◌∷◌}
use Rattle.std.proofs.lemmas.Str.{IsUtf8-from_ascii}
use Rattle.std.proofs.lemmas.Str.Ascii.{IsAscii-cons, IsAscii-nil}
use Rattle.std.specs.Str.{IsAscii}
use Rattle.q_model.specs.Numbers.{IsWithin}
use Rattle.q_model.specs.declared.event.Event.TheVariants as event
use Rattle.q_line.proofs.SpelledLines.{spellings}
use Rattle.q_line.specs.Laws.{IsName}
use Rattle.q_line.specs.declared.line.Line.TheVariants as line
use Rattle.q_spelling.specs.Events.{EventsAreReadBack, arrival_of}
use Rattle.q_spelling.specs.Words.{device_name}

-- `eth0`
ascii : IsAscii device_name
ascii =
    IsAscii-cons 101 (116 ∷ 104 ∷ 48 ∷ []) (omega arith)
    (IsAscii-cons 116 (104 ∷ 48 ∷ []) (omega arith) (IsAscii-cons 104 (48 ∷ []) (omega arith) (IsAscii-cons 48 [] (omega arith) IsAscii-nil)))

name : IsName device_name
name = record { word = refl; short = omega arith; text = IsUtf8-from_ascii device_name ascii }

once : IsWithin 1 100000 1
once = (omega arith, omega arith)

pub read_back : EventsAreReadBack
read_back (event.Arrive p now) in_range sayable =
    spellings device_name [] (line.Pkt (arrival_of p)) name
    (record { len = in_range.0.len; key = sayable.0; plain = sayable.1; prio = in_range.0.prio; hash = in_range.0.hash })
read_back (event.Poll now) in_range sayable = spellings device_name [] (line.Poll 1) name once
read_back (event.Command c now) in_range sayable = spellings device_name [] (line.Tc c) name (in_range.0, sayable)
