use Rattle.std.proofs.Common.{◌≡◌, ◌≤◌, ◌+◌, drop}
use Rattle.q_setup.specs.Effects.{count}
use Rattle.q_setup.proofs.counting.count.Given as goal

abbrev pub invariant-loop-command : goal.invariant-loop-command
invariant-loop-command l = record {
  so_far : l.found + count l.effect (drop l.command-index l.commands) ≡ count l.effect l.commands;
  few : l.found ≤ l.command-index;
}
