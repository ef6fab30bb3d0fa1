use Rattle.std.proofs.Common.{ℕ, inr, refl, ap₂, ◌∙◌, ap, arith}
use Rattle.q_fqcodel.specs.FqState.{FqState, is_idle, packets_of}
use Rattle.q_fqcodel.specs.Quanta.{leave}
use Rattle.q_fqcodel.specs.Rounds.{fewest_old, rounds_given}
use Rattle.q_fqcodel.proofs.VisitLemmas.{fewest_needed, packets_of-clear}
use Rattle.q_fqcodel.proofs.fq_codel.FqCodel.skip_rounds.Goals as goal

pub give_rounds-requires-clause-needed : goal.give_rounds-requires-clause-needed
give_rounds-requires-clause-needed c =
    let s = c.visit_all.new.self.state in
    fewest_needed s.settings.quantum (is_idle s.flows) c.in-Some.fewest s.old_flows (omega (arith, c.in-Some.ensures.fewest))

pub returns-in-Some-clause-packets : goal.returns-in-Some-clause-packets
returns-in-Some-clause-packets c =
    let s = c.visit_all.new.self.state in
    ap (λ (t : FqState). packets_of t.flows) c.give_rounds.ensures.state ∙ packets_of-clear (leave s.settings.quantum c.in-Some.fewest s.old_flows) s.flows
    ∙ c.visit_all.ensures.packets

pub returns-in-Some-clause-at_once : goal.returns-in-Some-clause-at_once
returns-in-Some-clause-at_once c =
    let round = c.in-Some.ensures.round refl in
    inr (c.give_rounds.ensures.state ∙ ap₂ (λ (n : ℕ) (s : FqState). rounds_given n s) (c.in-Some.ensures.fewest ∙ ap fewest_old round) round)
