use Rattle.std.proofs.Common.{◌≡◌, ◌+◌, length}
use Rattle.std.specs.Prelude.{slice_get}
use Rattle.q_model.specs.Views.{places_below}
use Rattle.q_tree.specs.answers.Showing.{standing}
use Rattle.q_tree.proofs.answers.ShowLemmas.{from}
use Rattle.q_tree.proofs.node.Node.+nth.Given as goal

abbrev pub decreases-nth : goal.decreases-nth
decreases-nth l = goal.size-nth l

-- what is looked for stands this far on among the children that are left
abbrev pub invariant-loop-i : goal.invariant-loop-i
invariant-loop-i l =
    (slice_get (standing l.fn.place l.fn.self) l.fn.left ≡ slice_get (from (places_below l.fn.self.own l.fn.self.below) l.child-items l.i) l.left)
    × (l.left + length (standing l.fn.place l.fn.self) ≡ l.fn.left + length (from (places_below l.fn.self.own l.fn.self.below) l.child-items l.i))
