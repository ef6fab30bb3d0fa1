use Rattle.std.proofs.Common.{arith, rules}
use Rattle.q_tree.proofs.filters.filter_set.FilterSet.first.Goals as goal
use Rattle.q_tree.proofs.filters.FilterSetLemmas.{first_high-holds, first_high-none, first_low-holds, first_low-none}

pub returns-then-self-ne0-clause-there : goal.returns-then-self-ne0-clause-there
returns-then-self-ne0-clause-there c = λ within. first_low-holds c.args.self (omega (arith, c.if-self-ne0.true)) (search rules)

pub returns-then-self-ne0-clause-before : goal.returns-then-self-ne0-clause-before
returns-then-self-ne0-clause-before c = first_low-none c.args.self (omega (arith, c.if-self-ne0.true)) (search rules)

pub returns-clause-there : goal.returns-clause-there
returns-clause-there c = first_high-holds c.args.self (search rules)

pub returns-clause-before : goal.returns-clause-before
returns-clause-before c = first_high-none c.args.self c.if-self-ne0.false (search rules)
