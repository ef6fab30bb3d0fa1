use Rattle.q_tree.proofs.filters.filter_set.FilterSet.with.Goals as goal
use Rattle.q_tree.proofs.filters.FilterSetLemmas.{with_high-holds, with_low-holds}

pub returns-then-place-lt128 : goal.returns-then-place-lt128
returns-then-place-lt128 c = λ j. with_low-holds c.args.self c.args.place j c.if-place-lt128.true

pub returns : goal.returns
returns c = λ j. with_high-holds c.args.self c.args.place j c.if-place-lt128.false c.requires
