use Rattle.std.proofs.Common.{◌≤◌, ◌∙◌, map, set, sym, ap, subst, arith}
use Rattle.q_tree.specs.arrival.Places.{unplaced, places_under}
use Rattle.q_tree.specs.Seen.{children_seen}
use Rattle.q_tree.proofs.arrival.PlacesLemmas.{set-places, seen-places, set-unplaced, within-led, leads-on, has-place, kept-places, same-places, way-on, place-on, place-off}
use Rattle.q_tree.proofs.node.+prepare.Goals as goal

pub Discipline::prepare_beneath-returns-in-Prio-clause-children :
    goal.Discipline::prepare_beneath-returns-in-Prio-clause-children
Discipline::prepare_beneath-returns-in-Prio-clause-children t c =
    set-unplaced c.in-Prio.bands.items c.args.place c.index_mut.result.now c.prepare.new.self c.index_mut.ensures.value c.prepare.ensures.same ∙ ap (map unplaced) (sym (ap children_seen c.in-Prio.is))

pub Discipline::prepare_beneath-returns-in-Prio-clause-ok :
    goal.Discipline::prepare_beneath-returns-in-Prio-clause-ok
Discipline::prepare_beneath-returns-in-Prio-clause-ok t c =
    has-place c.prepare.result c.args.rest.now c.args.place c.in-Prio.bands.items c.prepare.new.self
    (within-led c.args.rest.now c.args.place (children_seen c.args.self.now) c.in-Prio.bands.items c.requires (ap children_seen c.in-Prio.is)) c.prepare.ensures.ok

pub Discipline::prepare_beneath-index_mut-requires-in-Drr :
    goal.Discipline::prepare_beneath-index_mut-requires-in-Drr
Discipline::prepare_beneath-index_mut-requires-in-Drr t c =
    omega (arith, c.in-Drr.classes.ok, within-led c.args.rest.now c.args.place (children_seen c.args.self.now) c.in-Drr.classes.items c.requires (ap children_seen c.in-Drr.is))

pub Discipline::prepare_beneath-prepare-requires-in-Drr :
    goal.Discipline::prepare_beneath-prepare-requires-in-Drr
Discipline::prepare_beneath-prepare-requires-in-Drr t c = (
  omega (arith, c.decreases),
  leads-on c.args.rest.now c.args.place (children_seen c.args.self.now) c.in-Drr.classes.items c.index_mut-in-Drr.result.now c.requires (ap children_seen c.in-Drr.is) c.index_mut-in-Drr.ensures.value,
)

pub Discipline::prepare_beneath-returns-in-Drr-clause-children :
    goal.Discipline::prepare_beneath-returns-in-Drr-clause-children
Discipline::prepare_beneath-returns-in-Drr-clause-children t c =
    set-unplaced c.in-Drr.classes.items c.args.place c.index_mut-in-Drr.result.now c.prepare-in-Drr.new.self c.index_mut-in-Drr.ensures.value
    c.prepare-in-Drr.ensures.same ∙ ap (map unplaced) (sym (ap children_seen c.in-Drr.is))

pub Discipline::prepare_beneath-returns-in-Drr-clause-ok :
    goal.Discipline::prepare_beneath-returns-in-Drr-clause-ok
Discipline::prepare_beneath-returns-in-Drr-clause-ok t c =
    has-place c.prepare-in-Drr.result c.args.rest.now c.args.place c.in-Drr.classes.items c.prepare-in-Drr.new.self
    (within-led c.args.rest.now c.args.place (children_seen c.args.self.now) c.in-Drr.classes.items c.requires (ap children_seen c.in-Drr.is)) c.prepare-in-Drr.ensures.ok

pub Node::prepare-prepare_beneath-requires : goal.Node::prepare-prepare_beneath-requires
Node::prepare-prepare_beneath-requires t c = (
  omega (arith, c.decreases, c.in-Some.ensures.cases.1),
  way-on c.in-Some.field-0-0.now c.in-Some.rest.now c.args.path.now c.self.inside c.args.self.now c.self.view_is c.in-Some.ensures.cases.0 c.requires,
)

pub Node::prepare-invariant_of-self-2 : goal.Node::prepare-invariant_of-self-2
Node::prepare-invariant_of-self-2 t c = kept-places c.self.inside c.prepare_beneath.new.self c.prepare_beneath.ensures.discipline c.prepare_beneath.ensures.children c.self.invariant

pub Node::prepare-returns-clause-same : goal.Node::prepare-returns-clause-same
Node::prepare-returns-clause-same t c = same-places c.self.inside c.prepare_beneath.new.self c.prepare_beneath.ensures.discipline c.prepare_beneath.ensures.children c.args.self.now c.self.view_is

pub Node::prepare-returns-clause-ok : goal.Node::prepare-returns-clause-ok
Node::prepare-returns-clause-ok t c =
    place-on c.prepare_beneath.result c.in-Some.field-0-0.now c.in-Some.rest.now c.args.path.now
    (record c.self.inside { discipline = c.prepare_beneath.new.self }) c.in-Some.ensures.cases.0 c.prepare_beneath.ensures.ok

pub Node::prepare-returns-clause-succeeds : goal.Node::prepare-returns-clause-succeeds
Node::prepare-returns-clause-succeeds t c = λ there.
    c.prepare_beneath.ensures.succeeds (place-off c.in-Some.field-0-0.now c.in-Some.rest.now c.args.path.now c.self.inside c.args.self.now c.self.view_is c.in-Some.ensures.cases.0 there)

pub Discipline::prepare_beneath-returns-in-Prio-clause-grow :
    goal.Discipline::prepare_beneath-returns-in-Prio-clause-grow
Discipline::prepare_beneath-returns-in-Prio-clause-grow t c = λ way i.
    subst (λ ns. places_under way i ns ≤ places_under way i (set c.in-Prio.bands.items c.args.place c.prepare.new.self)) (sym (ap children_seen c.in-Prio.is))
    (set-places c.in-Prio.bands.items c.args.place c.index_mut.result.now c.prepare.new.self c.index_mut.ensures.value c.prepare.ensures.places way i)

pub Discipline::prepare_beneath-returns-in-Drr-clause-grow :
    goal.Discipline::prepare_beneath-returns-in-Drr-clause-grow
Discipline::prepare_beneath-returns-in-Drr-clause-grow t c = λ way i.
    subst (λ ns. places_under way i ns ≤ places_under way i (set c.in-Drr.classes.items c.args.place c.prepare-in-Drr.new.self)) (sym (ap children_seen c.in-Drr.is))
    (set-places c.in-Drr.classes.items c.args.place c.index_mut-in-Drr.result.now c.prepare-in-Drr.new.self c.index_mut-in-Drr.ensures.value c.prepare-in-Drr.ensures.places way i)

pub Node::prepare-returns-clause-places : goal.Node::prepare-returns-clause-places
Node::prepare-returns-clause-places t c =
    seen-places c.self.inside c.prepare_beneath.new.self (omega (arith, c.prepare_beneath.ensures.places)) c.prepare_beneath.ensures.grow c.args.self.now c.self.view_is

pub Node::prepare-returns-in_default-clause-places :
    goal.Node::prepare-returns-in_default-clause-places
Node::prepare-returns-in_default-clause-places t c =
    seen-places c.self.inside c.reserve.new.self c.reserve.ensures.grows
    (λ way i. subst (λ ns. places_under way i ns ≤ places_under way i (children_seen c.reserve.new.self)) c.reserve.ensures.children
    (omega arith)) c.args.self.now c.self.view_is
