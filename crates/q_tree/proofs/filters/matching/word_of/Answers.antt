use Rattle.std.proofs.Common.{subst}
use Rattle.q_packet.specs.Key.{IsKey}
use Rattle.q_tree.proofs.filters.matching.word_of.Goals as goal

pub returns-clause-ranged : goal.returns-clause-ranged
returns-clause-ranged c = subst IsKey c.key.view_is c.key.invariant
