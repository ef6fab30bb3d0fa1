use Rattle.std.proofs.Common.{◌≡◌, ℕ, ◌≤◌, ◌<◌, length, refl, sym, ap, ◌∙◌, subst, arith, add-one}
use Rattle.q_fqcodel.specs.FqState.{FqSettings, FqView}
use Rattle.q_fqcodel.specs.Rounds.{FrontNeeds, rounds_given, visited}
use Rattle.q_fqcodel.specs.Take.{selected}
use Rattle.q_fqcodel.specs.Turns.{turns}
use Rattle.q_fqcodel.proofs.TurnLemmas.{rounds_selected, turns_rounds}
use Rattle.q_fqcodel.proofs.VisitLemmas.{front_needs, visited_all, visited_more, visited_none}
use Rattle.q_fqcodel.proofs.fq_codel.FqCodel.give_rounds.Goals as goal
use Rattle.q_fqcodel.proofs.fq_codel.FqCodel.give_rounds.Goals.{In-loop-given, After-loop-given}

less : (c : In-loop-given) → c.loop-given._given < length c.args.self.now.state.old_flows
less c = omega (arith, c.loop-given-test.true, c.loop-given.invariant.end)

pub loop-given-init : goal.loop-given-init
loop-given-init c = record {
  part = visited_none c.args.rounds c.args.self.now.state;
  end = c.lengths-given-end.ensures.old ∙ ap (λ (v : FqView). length v.state.old_flows) c.self.view_is;
  places = refl;
}

pub give_front-requires-clause-needed : goal.give_front-requires-clause-needed
give_front-requires-clause-needed c =
    subst (FrontNeeds c.args.rounds) (sym c.loop-given.invariant.part)
    (front_needs c.args.rounds c.loop-given._given c.args.self.now.state (less (goal.at.give_front-requires-clause-needed c).In-loop-given) c.requires.needed)

pub loop-given-preserved : goal.loop-given-preserved
loop-given-preserved c = record {
  part = c.give_front.ensures.state ∙ ap (visited c.args.rounds 1) c.loop-given.invariant.part
      ∙ visited_more c.args.rounds c.loop-given._given c.args.self.now.state (less (goal.at.loop-given-preserved c).In-loop-given)
      ∙ ap (λ (p : ℕ). visited c.args.rounds p c.args.self.now.state) (sym (add-one c.loop-given._given));
  end = c.loop-given.invariant.end;
  places = c.give_front.ensures.places ∙ c.loop-given.invariant.places;
}

given : (c : After-loop-given) → c.loop-given.self.state ≡ rounds_given c.args.rounds c.args.self.now.state
given c = c.loop-given.invariant.part
    ∙ visited_all c.args.rounds c.loop-given._given c.args.self.now.state (omega (arith, c.loop-given-test.false, c.loop-given.invariant.end, c.loop-given.auto._given-end))

positive : (c : After-loop-given) → 1 ≤ c.args.self.now.state.settings.quantum
positive c = omega (arith, ap (λ (x : FqSettings). x.quantum) c.settings.view_is, c.settings.invariant.quantum_low, ap (λ (v : FqView). v.state.settings.quantum) c.self.view_is)

pub returns-clause-same : goal.returns-clause-same
returns-clause-same c =
    let a = (goal.at.returns-clause-same c).After-loop-given in
    ap selected (given a) ∙ rounds_selected c.args.rounds c.args.self.now.state c.requires.no_new (positive a) c.requires.needed

pub returns-clause-turns : goal.returns-clause-turns
returns-clause-turns c =
    let a = (goal.at.returns-clause-turns c).After-loop-given in
    omega (arith, ap turns (given a), turns_rounds c.args.rounds 0 c.args.self.now.state (positive a) (omega arith) (omega arith))
