-- The ranges of an event's fields: what a law over all lists of events asks of them. The types keep them, and more of an address.
-- A time is at most 2^62 ns, since intervals and gaps are added to it in 64 bits.
use Rattle.std.specs.Prelude.{◌≤◌, ◌^◌}
use Rattle.q_model.specs.Ranges.{HasPacketFields, IsCommand}
use Rattle.q_model.specs.declared.event.Event.{Event}
use Rattle.q_model.specs.declared.event.Event.TheVariants.{Arrive, Poll, Command}

abbrev pub IsEvent : Event → Type 0
IsEvent (Arrive p moment) = HasPacketFields p × (moment ≤ 2 ^ 62)
IsEvent (Poll moment) = moment ≤ 2 ^ 62
IsEvent (Command c moment) = IsCommand c × (moment ≤ 2 ^ 62)
