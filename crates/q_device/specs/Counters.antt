-- What events make of the counters of a device: they only rise, and arrivals alone count as arrived.
-- They are those of `tc -s qdisc show` (tc(8)); what is queued is none of them.
use Rattle.std.specs.Prelude.{ℕ, ◌≤◌, if◌then◌else◌, is_some}
use Rattle.q_model.specs.declared.totals.Totals.{Totals}
use Rattle.q_model.specs.declared.event.Event.{Event}
use Rattle.q_model.specs.declared.event.Event.TheVariants.{Arrive, Poll, Command}
use Rattle.q_model.specs.Step.{DeviceState, counts_at}
use Rattle.q_model.specs.Tally.{Counts, with_packet}
use Rattle.q_model.specs.TreeState.{given}

pub record IsNotBelow (before after : Totals) : Type 0 where
  pub packets : before.packets ≤ after.packets
  pub bytes : before.bytes ≤ after.bytes

pub record HasNotFallen (before after : Counts) : Type 0 where
  pub arrived : IsNotBelow before.arrived after.arrived
  pub sent : IsNotBelow before.sent after.sent
  pub refused : IsNotBelow before.refused after.refused
  pub dropped : IsNotBelow before.dropped after.dropped
  pub marked : IsNotBelow before.marked after.marked

-- what has arrived after an event
abbrev pub arrived_after : Event → Totals → Totals
arrived_after (Arrive p moment) t = with_packet t p
arrived_after (Poll moment) t = t
arrived_after (Command c moment) t = t

-- how many packets an event sends: a poll sends one, or none
abbrev pub sent_by : Event → DeviceState Counts → ℕ
sent_by (Arrive p moment) d = 0
sent_by (Poll moment) d = if is_some (given (counts_at moment d) d.tree) then 1 else 0
sent_by (Command c moment) d = 0
