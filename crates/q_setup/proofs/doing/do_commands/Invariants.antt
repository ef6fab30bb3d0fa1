use Rattle.std.proofs.Common.{◌≡◌, take}
use Rattle.q_setup.proofs.DoneLemmas.{IsDone}
use Rattle.q_setup.proofs.doing.do_commands.Given as goal

-- as many were done as were gone over
abbrev pub invariant-loop-command : goal.invariant-loop-command
invariant-loop-command l = record {
  number : l.done ≡ l.command-index;
  so_far : IsDone l.now (take l.command-index l.commands) l.fn.device l.device;
}
