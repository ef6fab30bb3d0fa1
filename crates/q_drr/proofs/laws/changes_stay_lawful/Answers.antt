use Rattle.q_drr.proofs.ChangeLemmas.{empty_lawful, added_lawful, removed_lawful, woken_lawful, asleep_lawful, with_quantum_lawful, turned_lawful}
use Rattle.q_drr.proofs.ServedLemmas.{served_lawful}
use Rattle.q_drr.proofs.laws.changes_stay_lawful.Goals as goal

pub returns-clause-empty : goal.returns-clause-empty
returns-clause-empty c = empty_lawful

pub returns-clause-added : goal.returns-clause-added
returns-clause-added c = added_lawful

pub returns-clause-removed : goal.returns-clause-removed
returns-clause-removed c = removed_lawful

pub returns-clause-woken : goal.returns-clause-woken
returns-clause-woken c = woken_lawful

pub returns-clause-asleep : goal.returns-clause-asleep
returns-clause-asleep c = asleep_lawful

pub returns-clause-with_quantum : goal.returns-clause-with_quantum
returns-clause-with_quantum c = with_quantum_lawful

pub returns-clause-turned : goal.returns-clause-turned
returns-clause-turned c = turned_lawful

pub returns-clause-served : goal.returns-clause-served
returns-clause-served c = served_lawful
