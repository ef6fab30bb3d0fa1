use Rattle.std.proofs.Common.{◌≡◌}
use Rattle.q_tree.proofs.commands.IndexLemmas.{least_from}
use Rattle.q_tree.proofs.commands.handles.Handles.least_free.Given as goal

-- all before this number are taken
abbrev pub invariant-loop-k : goal.invariant-loop-k
invariant-loop-k l = least_from l.self.addresses l.k ≡ least_from l.self.addresses 0
