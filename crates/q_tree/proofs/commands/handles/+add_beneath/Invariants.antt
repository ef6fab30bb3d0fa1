use Rattle.std.proofs.Common.{◌≡◌, ◌≤◌, ◌+◌, drop, length, map}
use Rattle.std.specs.List.{fold}
use Rattle.indexmap.specs.IndexMap.{spare}
use Rattle.q_tree.specs.commands.Index.{added, addresses_beneath, listed, under}
use Rattle.q_tree.proofs.commands.IndexLemmas.{addresses_from}
use Rattle.q_tree.proofs.commands.handles.+add_beneath.Given as goal

abbrev pub decreases-add_beneath : goal.decreases-add_beneath
decreases-add_beneath l = goal.size-add_beneath l

-- those that were added, and those ahead, for which there is room
abbrev pub invariant-loop-place : goal.invariant-loop-place
invariant-loop-place l =
    (l.path.items ≡ l.fn.path.items)
    × (fold added (listed l.ways.entries) (map (under l.fn.path.items) (addresses_from l.place (drop l.place l.child-items)))
    ≡ fold added (listed l.fn.ways.entries) (map (under l.fn.path.items) (addresses_beneath l.fn.node)))
    × (length (addresses_from l.place (drop l.place l.child-items)) ≤ spare l.ways)
    × (spare l.fn.ways + length (addresses_from l.place (drop l.place l.child-items)) ≤ spare l.ways + length (addresses_beneath l.fn.node))
