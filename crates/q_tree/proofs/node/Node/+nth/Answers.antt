use Rattle.std.proofs.Common.{◌≡◌, ◌+◌, ◌∙◌, sym, ap, arith, length, option_map}
use Rattle.std.specs.Prelude.{slice_get}
use Rattle.q_model.specs.Views.{places_below}
use Rattle.q_tree.specs.answers.Showing.{standing}
use Rattle.q_tree.proofs.answers.ShowLemmas.{from, here, beneath-first, beneath-size, child-numbered, count-here, found-here, found-later, get-next, nobody-left}
use Rattle.q_tree.proofs.disciplines.AtHandLemmas.{there-at}
use Rattle.q_tree.proofs.node.Node.+nth.Goals as goal

pub nth-requires : goal.nth-requires
nth-requires t c =
    let at = there-at c.children-child-items.result.now c.loop-i.i c.child-item.result c.loop-i-test.true c.child-item.is in (
      omega (arith, beneath-size c.args.self.now c.children-child-items.result.now c.loop-i.i c.child-item.result c.children-child-items.ensures at, c.decreases),
      child-numbered c.args.self.now c.children-child-items.result.now c.loop-i.i c.child-item.result c.requires c.children-child-items.ensures at,
    )

pub loop-i-init : goal.loop-i-init
loop-i-init t c =
    let first = beneath-first c.args.place c.args.self.now c.children-child-items.result.now c.children-child-items.ensures in (
      ap (λ xs. slice_get xs c.args.left.now) first ∙ get-next (c.args.place, c.args.self.now)
          (from (places_below c.args.self.now.own c.args.self.now.below) c.children-child-items.result.now 0) c.args.left.now
          (omega (arith, c.if-left-eq0.false)),
      omega (arith, ap length first, c.if-left-eq0.false),
    )

pub loop-i-preserved : goal.loop-i-preserved
loop-i-preserved t c =
    let places = places_below c.args.self.now.own c.args.self.now.below in
    let ns = c.children-child-items.result.now in
    let passed : c.nth.new.left + length (standing (here places ns c.loop-i.i c.child-item.result c.loop-i-test.true c.child-item.is) c.child-item.result) ≡ c.loop-i.left =
    ap (λ p. c.nth.new.left + length (standing p c.child-item.result)) (sym c.place_beneath.ensures) ∙ c.nth.ensures.left c.in_default.is in (
      c.loop-i.invariant.0 ∙ found-later places ns c.loop-i.i c.child-item.result c.loop-i-test.true c.child-item.is c.nth.new.left c.loop-i.left passed,
      omega (arith, c.loop-i.invariant.1, passed, count-here places ns c.loop-i.i c.child-item.result c.loop-i-test.true c.child-item.is),
    )

pub returns-in-Some-clause-found : goal.returns-in-Some-clause-found
returns-in-Some-clause-found t c =
    let places = places_below c.args.self.now.own c.args.self.now.below in
    sym (c.loop-i.invariant.0
    ∙ found-here places c.children-child-items.result.now c.loop-i.i c.child-item.result c.loop-i-test.true c.child-item.is c.loop-i.left (c.in-Some.found.0, c.in-Some.found.1.now)
    (ap (λ p. slice_get (standing p c.child-item.result) c.loop-i.left) (sym c.place_beneath.ensures) ∙ sym c.nth.ensures.found ∙ ap (option_map (λ x. (x.0, x.1.now))) c.in-Some.is))

pub returns-in-Some-clause-numbered : goal.returns-in-Some-clause-numbered
returns-in-Some-clause-numbered t c = c.in-Some.ensures.numbered

pub returns-clause-found : goal.returns-clause-found
returns-clause-found t c =
    sym (c.loop-i.invariant.0
    ∙ ap (λ xs. slice_get xs c.loop-i.left) (nobody-left (places_below c.args.self.now.own c.args.self.now.below) c.children-child-items.result.now c.loop-i.i c.loop-i-test.false))

pub returns-clause-left : goal.returns-clause-left
returns-clause-left t c = λ none.
    omega (arith, c.loop-i.invariant.1, ap length (nobody-left (places_below c.args.self.now.own c.args.self.now.below) c.children-child-items.result.now c.loop-i.i c.loop-i-test.false))
