use Rattle.std.proofs.Common.{subst}
use Rattle.std.specs.List.{AllByRecursion}
use Rattle.q_model.specs.Tally.{Counts}
use Rattle.q_tree.specs.Kept.{Kept}
use Rattle.q_tree.specs.TreeSeen.{tree_numbers}
use Rattle.q_setup.specs.Alike.{IsShort}
use Rattle.q_setup.proofs.EntryLemmas.{entries-seen}
use Rattle.q_setup.proofs.ShortLemmas.{short-tree}
use Rattle.q_setup.proofs.alike.all_are_short.Goals as goal

pub returns : goal.returns
returns c =
    let counts : Kept → Counts = λ k. k.counts in
    let tree = c.args.tree.now.tree in
    subst (AllByRecursion IsShort) (entries-seen counts tree) (short-tree c.args.tree.now.clock (tree_numbers tree) c.tree_is_lawful.ensures)
