use Rattle.std.proofs.Common.{◌∙◌, ◌+◌, refl, sym, ap, ap₂, map, drop, arith, Some}
use Rattle.q_model.specs.Node as spec
use Rattle.q_tree.specs.answers.ReadyAt.{outlook, paid, with_band, with_bands}
use Rattle.q_tree.specs.Seen.{children_seen, discipline_seen}
use Rattle.q_tree.proofs.answers.OutlookLemmas.{no-held, outlook-is, front-known, band-next, bands-end, no-place, at-front}
use Rattle.q_tree.proofs.disciplines.AtHandLemmas.{there-at}
use Rattle.q_tree.proofs.route.RouteLemmas.{child-size, children-size}
use Rattle.q_tree.proofs.+outlook.Goals as goal

pub node::Node::outlook-of_bands-requires : goal.node::Node::outlook-of_bands-requires
node::Node::outlook-of_bands-requires t c =
    let children = c.deref.ensures.value ∙ sym (ap children_seen c.in-Prio.is) in
    (omega (arith, children-size c.self.inside c.args.self.now c.deref.result.now c.self.view_is children, c.decreases), tt)

pub node::Node::outlook-returns-in-Prio : goal.node::Node::outlook-returns-in-Prio
node::Node::outlook-returns-in-Prio t c =
    c.of_bands.ensures
    ∙ outlook-is c.args.now c.self.inside c.args.self.now c.deref.result.now (spec.Prio c.in-Prio.priomap) c.self.view_is
    (sym c.packet.ensures ∙ no-held c.packet.result c.in_default.not-Some) (ap discipline_seen c.in-Prio.is)
    (c.deref.ensures.value ∙ sym (ap children_seen c.in-Prio.is))

pub node::Node::outlook-of_front-requires : goal.node::Node::outlook-of_front-requires
node::Node::outlook-of_front-requires t c =
    let children = c.deref-in-Drr.ensures.value ∙ sym (ap children_seen c.in-Drr.is) in
    (omega (arith, children-size c.self.inside c.args.self.now c.deref-in-Drr.result.now c.self.view_is children, c.decreases), tt)

pub node::Node::outlook-returns-in-Drr : goal.node::Node::outlook-returns-in-Drr
node::Node::outlook-returns-in-Drr t c =
    c.of_front.ensures
    ∙ outlook-is c.args.now c.self.inside c.args.self.now c.deref-in-Drr.result.now (spec.Drr c.in-Drr.active) c.self.view_is
    (sym c.packet.ensures ∙ no-held c.packet.result c.in_default.not-Some) (ap discipline_seen c.in-Drr.is)
    (c.deref-in-Drr.ensures.value ∙ sym (ap children_seen c.in-Drr.is))

pub disciplines::drr::of_front-deficit-deficit-requires : goal.disciplines::drr::of_front-deficit-deficit-requires
disciplines::drr::of_front-deficit-deficit-requires t c =
    front-known c.args.active.now c.in-Some.class c.front.ensures.lawful (sym c.front.ensures.front ∙ c.in-Some.is)

pub disciplines::drr::of_front-returns-in_default-place_of :
    goal.disciplines::drr::of_front-returns-in_default-place_of
disciplines::drr::of_front-returns-in_default-place_of t c =
    sym (no-place c.args.now c.args.active.now c.in-Some.class c.args.classes.now (sym c.front.ensures.front ∙ c.in-Some.is) (sym c.place_of.ensures.value ∙ c.in_default-place_of.is))

pub disciplines::drr::of_front-outlook-requires : goal.disciplines::drr::of_front-outlook-requires
disciplines::drr::of_front-outlook-requires t c = (
  omega (
    arith,
    child-size c.args.classes.now c.in-Some-place_of.place c.index-classes-place.result
        (there-at c.args.classes.now c.in-Some-place_of.place c.index-classes-place.result (omega arith) c.index-classes-place.is),
    c.decreases,
  ),
  tt,
)

pub disciplines::drr::of_front-returns : goal.disciplines::drr::of_front-returns
disciplines::drr::of_front-returns t c =
    c.paid.ensures ∙ ap₂ paid c.deficit-deficit.ensures.value c.outlook.ensures
    ∙ sym (at-front c.args.now c.args.active.now c.in-Some.class c.args.classes.now (sym c.front.ensures.front ∙ c.in-Some.is)
    c.in-Some-place_of.place (sym c.place_of.ensures.value ∙ c.in-Some-place_of.is)
    (Some c.index-classes-place.result) (there-at c.args.classes.now c.in-Some-place_of.place c.index-classes-place.result (omega arith) c.index-classes-place.is))

pub disciplines::prio::of_bands-outlook-requires : goal.disciplines::prio::of_bands-outlook-requires
disciplines::prio::of_bands-outlook-requires t c = (
  omega (
    arith,
    child-size c.args.bands.now c.loop-band.band-index c.band-item.result
        (there-at c.args.bands.now c.loop-band.band-index c.band-item.result c.loop-band-test.true c.band-item.is),
    c.decreases,
  ),
  tt,
)

pub disciplines::prio::of_bands-loop-band-init : goal.disciplines::prio::of_bands-loop-band-init
disciplines::prio::of_bands-loop-band-init t c = refl

pub disciplines::prio::of_bands-loop-band-preserved : goal.disciplines::prio::of_bands-loop-band-preserved
disciplines::prio::of_bands-loop-band-preserved t c =
    ap (λ o. with_bands o (map (outlook c.args.now) (drop (c.loop-band.band-index + 1) c.args.bands.now))) (c.with_band-outlook.ensures ∙ ap (with_band c.loop-band.outlook) c.outlook.ensures)
    ∙ sym (band-next c.args.now c.args.bands.now c.loop-band.band-index c.band-item.result c.loop-band.outlook c.loop-band-test.true c.band-item.is)
    ∙ c.loop-band.invariant

pub disciplines::prio::of_bands-returns : goal.disciplines::prio::of_bands-returns
disciplines::prio::of_bands-returns t c =
    sym (bands-end c.args.now c.args.bands.now c.loop-band.band-index c.loop-band.outlook c.loop-band-test.false) ∙ c.loop-band.invariant
