-- Each child of a node is smaller than the node, so that what goes down a tree ends.
-- Nothing here is of a standard.
use Rattle.std.specs.Prelude.{suc, ◌+◌, ◌≤◌, max, List, [], ◌∷◌}
use Rattle.std.proofs.Common.{arith}
use denote.Param.Weighed.{most}
use Rattle.q_tree.specs.Kept.{Kept}
use Rattle.q_model.specs.Node as spec
use Rattle.q_tree.specs.NodeCode.{node_size, forest_size}
use Rattle.q_tree.specs.Seen.{seen, children_seen}
use Rattle.q_tree.specs.declared.node.Discipline.{Discipline}
use Rattle.q_tree.specs.declared.node.Discipline.TheVariants.{Fifo, Prio, Tbf, Drr, FqCodel}
use Rattle.q_tree.specs.declared.node.Node.TheDeep.{deep-Discipline}
use Rattle.q_tree.specs.declared.node.Node.TheInside.{Inside}

pub most_le-forest_size : (kids : List (spec.Node Kept)) → most (λ k. node_size k + 1) kids ≤ forest_size (spec.side_by_side kids) + 1
most_le-forest_size [] = omega arith
most_le-forest_size (k ∷ kids) = omega (arith, most_le-forest_size kids)

pub deep_le : (d : Discipline) → max (deep-Discipline d) 0 ≤ suc (forest_size (spec.side_by_side (children_seen d)))
deep_le (Fifo f) = omega arith
deep_le (Prio priomap bands) = omega (arith, most_le-forest_size bands.items)
deep_le (Tbf bucket limit child) = omega arith
deep_le (Drr active classes) = omega (arith, most_le-forest_size classes.items)
deep_le (FqCodel s) = omega arith

pub child_smaller : (a : Inside) → max (deep-Discipline a.discipline) 0 ≤ node_size (seen a)
child_smaller a = deep_le a.discipline
