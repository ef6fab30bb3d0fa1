use Rattle.std.proofs.Common.{replicate}
use Rattle.q_model.specs.Make.{implicit_pfifo}
use Rattle.q_tree.specs.commands.Making.{AreNew}
use Rattle.q_tree.specs.commands.Planning.{device_of}
use Rattle.q_tree.proofs.commands.planner.Planner.leaves.Given as goal

abbrev pub invariant-loop : goal.invariant-loop
invariant-loop l = AreNew l.nodes.items (replicate l.counter (implicit_pfifo (device_of l.self)))
