use Rattle.std.proofs.Common.{◌≡◌, ◌++◌, drop}
use Rattle.q_spelling.specs.Events.{script_from, script_text}
use Rattle.q_spelling.proofs.events.script_of.Given as goal

-- what is written, with the script of the events that are left
abbrev pub invariant-loop-event : goal.invariant-loop-event
invariant-loop-event l = record {
  so_far : l.text.items ++ script_from l.before (drop l.event-index l.events) ≡ script_text l.events;
}
