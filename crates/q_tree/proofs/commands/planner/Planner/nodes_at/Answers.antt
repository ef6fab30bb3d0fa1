use Rattle.std.proofs.Common.{◌≡◌, ◌∙◌, sym, ap, Some, option_copied, arith}
use Rattle.q_model.specs.Find.{node_at}
use Rattle.q_tree.proofs.commands.GraftLemmas.{at-few}
use Rattle.q_tree.specs.commands.Planning.{root_of}
use Rattle.q_tree.proofs.commands.Plans.{bounded-by}
use Rattle.q_tree.proofs.commands.planner.Planner.nodes_at.Goals as goal

pub count_nodes-requires : goal.count_nodes-requires
count_nodes-requires c =
    let there : node_at c.args.path.now (root_of c.args.self.now) ≡ Some c.in-Some.node.now = sym c.at.ensures ∙ ap option_copied c.in-Some.is in
    at-few c.args.path.now (root_of c.args.self.now) c.in-Some.node.now there (bounded-by c.args.self.now)

pub returns-clause-few : goal.returns-clause-few
returns-clause-few c =
    let there : node_at c.args.path.now (root_of c.args.self.now) ≡ Some c.in-Some.node.now = sym c.at.ensures ∙ ap option_copied c.in-Some.is in
    omega (arith, c.count_nodes.ensures, at-few c.args.path.now (root_of c.args.self.now) c.in-Some.node.now there (bounded-by c.args.self.now))
