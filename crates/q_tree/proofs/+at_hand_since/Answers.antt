use Rattle.std.proofs.Common.{◌∙◌, refl, sym, ap, arith}
use Rattle.q_tree.specs.Seen.{children_seen, discipline_seen}
use Rattle.q_tree.proofs.answers.SinceLemmas.{found-since, passed-since, nobody-since, kind-since}
use Rattle.q_tree.proofs.departure.HeldLemmas.{none-kept}
use Rattle.q_tree.proofs.disciplines.AtHandLemmas.{there-at}
use Rattle.q_tree.proofs.route.RouteLemmas.{child-size, children-size}
use Rattle.q_model.specs.Since.{at_hand_since}
use Rattle.q_model.specs.Node.{Node}
use Rattle.q_tree.specs.Kept.{Kept}
use Rattle.q_tree.proofs.+at_hand_since.Goals as goal

pub disciplines::prio::first_since-loop-band-init : goal.disciplines::prio::first_since-loop-band-init
disciplines::prio::first_since-loop-band-init t c = refl

pub disciplines::prio::first_since-returns-in-Some : goal.disciplines::prio::first_since-returns-in-Some
disciplines::prio::first_since-returns-in-Some t c =
    found-since c.args.bands.now c.loop-band.band-index c.band-item.result c.in-Some.since c.loop-band-test.true c.band-item.is c.loop-band.invariant (sym c.at_hand_since.ensures ∙ c.in-Some.is)

pub disciplines::prio::first_since-loop-band-preserved : goal.disciplines::prio::first_since-loop-band-preserved
disciplines::prio::first_since-loop-band-preserved t c =
    passed-since c.args.bands.now c.loop-band.band-index c.band-item.result c.loop-band-test.true c.band-item.is c.loop-band.invariant (sym c.at_hand_since.ensures ∙ c.in_default.is)

pub disciplines::prio::first_since-returns : goal.disciplines::prio::first_since-returns
disciplines::prio::first_since-returns t c = nobody-since c.args.bands.now c.loop-band.band-index c.loop-band-test.false c.loop-band.invariant

pub disciplines::prio::first_since-at_hand_since-requires : goal.disciplines::prio::first_since-at_hand_since-requires
disciplines::prio::first_since-at_hand_since-requires t c = (
  omega (
    arith,
    child-size c.args.bands.now c.loop-band.band-index c.band-item.result
        (there-at c.args.bands.now c.loop-band.band-index c.band-item.result c.loop-band-test.true c.band-item.is),
    c.decreases,
  ),
  tt,
)

pub node::Node::at_hand_since-first_since-requires : goal.node::Node::at_hand_since-first_since-requires
node::Node::at_hand_since-first_since-requires t c =
    let children = c.deref.ensures.value ∙ sym (ap children_seen c.in-Prio.is) in
    (omega (arith, children-size c.self.inside c.args.self.now c.deref.result.now c.self.view_is children, c.decreases), tt)

pub node::Node::at_hand_since-returns-in-Prio : goal.node::Node::at_hand_since-returns-in-Prio
node::Node::at_hand_since-returns-in-Prio t c =
    c.first_since.ensures
    ∙ kind-since c.self.inside _ c.deref.result.now (none-kept c.self.inside.held c.if-is_some.ensures) (ap discipline_seen c.in-Prio.is) (c.deref.ensures.value ∙ sym (ap children_seen c.in-Prio.is))
    ∙ ap (λ (n : Node Kept). at_hand_since n) c.self.view_is
