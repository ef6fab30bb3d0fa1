use Rattle.q_session.proofs.ListedLemmas.{few-filters-of}
use Rattle.q_session.proofs.listed.FilterViewListed.find.Goals as goal

pub returns : goal.returns
returns c = record { found = c.filter.ensures; few = few-filters-of c.args.node.now.1 }
