use Rattle.std.proofs.Common.{◌∙◌, ap}
use Rattle.q_tree.specs.commands.Index.{path_among}
use Rattle.q_tree.proofs.commands.qdiscs.Qdiscs.path_to.Goals as goal

pub returns : goal.returns
returns c = c.path_to.ensures ∙ ap (path_among c.args.handle) c.args.self.now.indexed
