use Rattle.q_tree.proofs.laws.CountedLosses.{put-counts, peek-counts, take-counts}
use Rattle.q_tree.proofs.laws.losses_are_counted.Goals as goal

pub returns-clause-put : goal.returns-clause-put
returns-clause-put c = put-counts

pub returns-clause-peek : goal.returns-clause-peek
returns-clause-peek c = peek-counts

pub returns-clause-take : goal.returns-clause-take
returns-clause-take c = take-counts
