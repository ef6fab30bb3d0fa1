use Rattle.q_tree.proofs.filters.filter_set.FilterSet.both.Goals as goal
use Rattle.q_tree.proofs.filters.FilterSetLemmas.{both-holds}

pub returns : goal.returns
returns c = both-holds c.args.self c.args.other
