use Rattle.std.proofs.Common.{◌≡◌, ◌<◌, ◌+◌, ◌^◌, length}
use Rattle.q_script.specs.Script.{lines_of}
use Rattle.q_setup.specs.Tried.{with_lines}
use Rattle.q_setup.specs.Trying.{seen}
use Rattle.q_setup.proofs.trial.try_lines.Given as goal

-- what the lines that are left make of the trial so far is what all make of the first
abbrev pub invariant-loop-rest : goal.invariant-loop-rest
invariant-loop-rest l = record {
  so_far : with_lines l.now (seen l.trial) (lines_of l.rest) ≡ with_lines l.now (seen l.fn.trial) (lines_of l.text);
  few : l.trial.lines + length l.rest < 2 ^ 64;
}

abbrev pub decreases-loop-rest : goal.decreases-loop-rest
decreases-loop-rest l = length l.rest
