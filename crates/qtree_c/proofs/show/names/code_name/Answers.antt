use Rattle.qtree_c.proofs.show.Naming.{cause-named, refusal-named}
use Rattle.qtree_c.proofs.show.names.code_name.Goals as goal

pub returns-clause-causes : goal.returns-clause-causes
returns-clause-causes c = cause-named c.args.code c.listed_name.result.now c.listed_name.ensures

pub returns-clause-refusals : goal.returns-clause-refusals
returns-clause-refusals c = refusal-named c.args.code c.listed_name.result.now c.listed_name.ensures
