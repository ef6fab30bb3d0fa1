use Rattle.std.proofs.Common.{◌∙◌, refl, sym, ap, arith}
use Rattle.q_tree.specs.Seen.{children_seen, discipline_seen}
use Rattle.q_tree.proofs.disciplines.AtHandLemmas.{found, passed, nobody, prio-shown, there-at}
use Rattle.q_tree.proofs.route.RouteLemmas.{child-size, children-size}
use Rattle.q_tree.proofs.+at_hand.Goals as goal
use Rattle.q_tree.proofs.departure.HeldLemmas.{none-kept}

pub disciplines::prio::first_at_hand-loop-band-init : goal.disciplines::prio::first_at_hand-loop-band-init
disciplines::prio::first_at_hand-loop-band-init t c = refl

pub disciplines::prio::first_at_hand-returns-in-Some : goal.disciplines::prio::first_at_hand-returns-in-Some
disciplines::prio::first_at_hand-returns-in-Some t c =
    found c.args.bands.now c.loop-band.band-index c.band-item.result c.in-Some.packet c.loop-band-test.true c.band-item.is c.loop-band.invariant (sym c.at_hand.ensures ∙ c.in-Some.is)

pub disciplines::prio::first_at_hand-loop-band-preserved : goal.disciplines::prio::first_at_hand-loop-band-preserved
disciplines::prio::first_at_hand-loop-band-preserved t c =
    passed c.args.bands.now c.loop-band.band-index c.band-item.result c.loop-band-test.true c.band-item.is c.loop-band.invariant (sym c.at_hand.ensures ∙ c.in_default.is)

pub disciplines::prio::first_at_hand-returns : goal.disciplines::prio::first_at_hand-returns
disciplines::prio::first_at_hand-returns t c = nobody c.args.bands.now c.loop-band.band-index c.loop-band-test.false c.loop-band.invariant

pub node::Node::at_hand-first_at_hand-requires : goal.node::Node::at_hand-first_at_hand-requires
node::Node::at_hand-first_at_hand-requires t c =
    let children = c.deref.ensures.value ∙ sym (ap children_seen c.in-Prio.is) in
    (omega (arith, children-size c.self.inside c.args.self.now c.deref.result.now c.self.view_is children, c.decreases), tt)

pub node::Node::at_hand-returns-in-Prio : goal.node::Node::at_hand-returns-in-Prio
node::Node::at_hand-returns-in-Prio t c =
    c.first_at_hand.ensures
    ∙ prio-shown c.self.inside c.args.self.now c.deref.result.now c.in-Prio.priomap c.self.view_is
    (none-kept c.self.inside.held c.if-is_some.ensures) (ap discipline_seen c.in-Prio.is)
    (c.deref.ensures.value ∙ sym (ap children_seen c.in-Prio.is))

pub disciplines::prio::first_at_hand-at_hand-requires : goal.disciplines::prio::first_at_hand-at_hand-requires
disciplines::prio::first_at_hand-at_hand-requires t c = (
  omega (
    arith,
    child-size c.args.bands.now c.loop-band.band-index c.band-item.result
        (there-at c.args.bands.now c.loop-band.band-index c.band-item.result c.loop-band-test.true c.band-item.is),
    c.decreases,
  ),
  tt,
)
