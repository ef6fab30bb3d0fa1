use Rattle.std.proofs.Common.{sym, ◌∙◌}
use Rattle.q_fqcodel.specs.Turns.{IsSettled}
use Rattle.q_fqcodel.proofs.SentLemmas.{empty_of}
use Rattle.q_fqcodel.proofs.TurnLemmas.{settled_none, none_in_front}
use Rattle.q_fqcodel.proofs.fq_codel.FqCodel.select.Goals as goal
use Rattle.q_fqcodel.proofs.fq_codel.FqCodel.select.Goals.{After-loop-self-2}

-- both lists are empty
none_listed : (c : After-loop-self-2) → IsSettled c.loop-self-2.self.state
none_listed c =
    settled_none c.loop-self-2.self.state c.loop-self-2.invariant.no_new
    (empty_of c.loop-self-2.self.state.old_flows (sym c.has_old.ensures ∙ c.loop-self-2-test.false))

pub returns-clause-state : goal.returns-clause-state
returns-clause-state c = sym (none_listed c).chosen ∙ c.loop-self-2.invariant.same

pub returns-clause-settled : goal.returns-clause-settled
returns-clause-settled c = none_listed c

pub returns-clause-first : goal.returns-clause-first
returns-clause-first c =
    none_in_front c.loop-self-2.self.state c.loop-self-2.invariant.no_new
    (empty_of c.loop-self-2.self.state.old_flows (sym c.has_old.ensures ∙ c.loop-self-2-test.false))
