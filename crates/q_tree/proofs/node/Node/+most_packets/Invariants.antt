use Rattle.std.proofs.Common.{◌≡◌, ◌+◌, ◌<◌, ◌^◌}
use Rattle.std.specs.Prelude.{◌-◌, min}
use Rattle.q_tree.specs.answers.MostPackets.{most_packets}
use Rattle.q_tree.proofs.answers.MostPacketsLemmas.{most_from}
use Rattle.q_tree.proofs.node.Node.+most_packets.Given as goal

abbrev pub decreases-most_packets : goal.decreases-most_packets
decreases-most_packets l = goal.size-most_packets l

-- those that were passed, and those ahead
abbrev pub invariant-loop-child : goal.invariant-loop-child
invariant-loop-child l = (min (l.most + most_from l.child-index l.child-items) (2 ^ 64 - 1) ≡ min (most_packets l.fn.self) (2 ^ 64 - 1)) × (l.most < 2 ^ 64)
