use Rattle.std.proofs.Common.{◌≡◌, length}
use Rattle.q_options.proofs.Joined.{Joins}
use Rattle.q_options.proofs.usage.put_joined.Given as goal

abbrev pub invariant-loop-i : goal.invariant-loop-i
invariant-loop-i l = record {
  gained : Joins l.fn.text l.fn.line l.line l.begins l.i;
  end : l.i-end ≡ length l.fn.text;
}
