use Rattle.std.proofs.Common.{◌≡◌, ◌∙◌, [], ◌∷◌, length, refl, sym, ap, subst, arith}
use Rattle.std.specs.Prelude.{IsSome, slice_get, Ok}
use Rattle.std.proofs.lemmas.List.{get_or-set_same}
use Rattle.std.proofs.lemmas.Option.{slice_get_within}
use Rattle.std.specs.Box.{with_value}
use Rattle.std.specs.Vec.{with_item}
use Rattle.q_codel.specs.Losses.{IsTold}
use Rattle.q_model.specs.Beneath.{is_empty, totals_in}
use Rattle.q_model.specs.Find.{node_at}
use Rattle.q_model.specs.Node as spec
use Rattle.q_model.specs.Node.{Node}
use Rattle.q_model.specs.Work.{settled_class, settled_in}
use Rattle.q_tree.specs.commands.Editing.{removed_at}
use Rattle.q_tree.specs.commands.Purging.{purged}
use Rattle.q_tree.specs.Kept.{Kept}
use Rattle.q_tree.specs.Seen.{children_seen, discipline_seen, places_seen}
use Rattle.q_tree.specs.declared.node.Discipline.TheVariants as code
use Rattle.q_tree.proofs.arrival.PlacesLemmas.{led}
use Rattle.q_tree.proofs.arrival.Puts.{same-child}
use Rattle.q_tree.proofs.commands.EditLemmas.{IsAnswer, on-ok, edited-into, only-edited, leads, lost-there, room, stays, after, of-child}
use Rattle.q_tree.proofs.node.+edit.Goals as goal

pub Discipline::edit_beneath-edit-requires : goal.Discipline::edit_beneath-edit-requires
Discipline::edit_beneath-edit-requires g t c κs within =
    let on = led c.args.rest.now c.args.place (children_seen c.args.self.now) c.requires.there in
    let same =
    same-child c.in-Prio.bands.items c.args.place c.index_mut.result.now on.child c.index_mut.ensures.value
    (ap (λ xs. slice_get xs c.args.place) (sym (ap children_seen c.in-Prio.is)) ∙ on.there) in (
      omega (arith, c.decreases),
      (
        within,
        (
          subst (λ (n : Node Kept). IsSome (node_at c.args.rest.now n)) (sym same) on.on,
          (c.requires.ready, omega (arith, c.requires.sink on.child on.there, ap (λ (n : Node Kept). length (removed_at c.args.edit c.args.rest.now n)) same)),
        ),
      ),
    )

pub Discipline::edit_beneath-returns-in-Prio-clause-after : goal.Discipline::edit_beneath-returns-in-Prio-clause-after
Discipline::edit_beneath-returns-in-Prio-clause-after g t c = on-ok c.edit.result (λ edited child at.
    edited-into c.args.edit c.args.rest.now c.args.place c.args.self.now (code.Prio c.in-Prio.priomap (with_item c.in-Prio.bands c.args.place c.edit.new.self)) c.in-Prio.bands.items
    c.index_mut.result.now c.edit.new.self child (ap children_seen c.in-Prio.is) c.index_mut.ensures.value at edited refl (sym (ap places_seen c.in-Prio.is))
    (sym (ap (λ d. settled_in c.args.place (is_empty c.edit.new.self) (discipline_seen d)) c.in-Prio.is))) c.edit.ensures.after

pub Discipline::edit_beneath-returns-in-Tbf-clause-after : goal.Discipline::edit_beneath-returns-in-Tbf-clause-after
Discipline::edit_beneath-returns-in-Tbf-clause-after g t c = on-ok c.edit-in-Tbf.result (λ edited child at.
    only-edited c.args.edit c.args.rest.now c.args.place c.args.self.now
    (code.Tbf c.in-Tbf.bucket c.in-Tbf.limit (with_value c.in-Tbf.child c.edit-in-Tbf.new.self)) c.deref_mut.result.now c.edit-in-Tbf.new.self
    child
    (ap children_seen c.in-Tbf.is ∙ ap (λ n. n ∷ []) (sym c.deref_mut.ensures.value)) at edited refl (sym (ap places_seen c.in-Tbf.is))
    (sym (ap (λ d. settled_in c.args.place (is_empty c.edit-in-Tbf.new.self) (discipline_seen d)) c.in-Tbf.is))) c.edit-in-Tbf.ensures.after

pub Discipline::edit_beneath-returns-in-Prio-clause-totals : goal.Discipline::edit_beneath-returns-in-Prio-clause-totals
Discipline::edit_beneath-returns-in-Prio-clause-totals g t c = on-ok c.edit.result (λ e child at.
    let same = same-child c.in-Prio.bands.items c.args.place c.index_mut.result.now child c.index_mut.ensures.value (ap (λ xs. slice_get xs c.args.place) (sym (ap children_seen c.in-Prio.is)) ∙ at) in
    e ∙ ap (λ (n : Node Kept). Ok (totals_in (removed_at c.args.edit c.args.rest.now n))) same) c.edit.ensures.totals

pub Discipline::edit_beneath-returns-in-Prio-clause-told : goal.Discipline::edit_beneath-returns-in-Prio-clause-told
Discipline::edit_beneath-returns-in-Prio-clause-told g t c =
    on-ok c.edit.result (λ e child at.
    let same = same-child c.in-Prio.bands.items c.args.place c.index_mut.result.now child c.index_mut.ensures.value (ap (λ xs. slice_get xs c.args.place) (sym (ap children_seen c.in-Prio.is)) ∙ at) in
    subst (λ (n : Node Kept). IsTold (purged (removed_at c.args.edit c.args.rest.now n)) (g.S.Sink.state c.args.sink.now) (g.S.Sink.state c.edit.new.sink)) same e) c.edit.ensures.told

pub Discipline::edit_beneath-index_mut-requires-in-Drr : goal.Discipline::edit_beneath-index_mut-requires-in-Drr
Discipline::edit_beneath-index_mut-requires-in-Drr g t c =
    let on = led c.args.rest.now c.args.place (children_seen c.args.self.now) c.requires.there in
    omega (arith, c.in-Drr.classes.ok, slice_get_within c.in-Drr.classes.items c.args.place on.child (ap (λ xs. slice_get xs c.args.place) (sym (ap children_seen c.in-Drr.is)) ∙ on.there))

pub Discipline::edit_beneath-edit-requires-in-Drr : goal.Discipline::edit_beneath-edit-requires-in-Drr
Discipline::edit_beneath-edit-requires-in-Drr g t c κs within =
    let on = led c.args.rest.now c.args.place (children_seen c.args.self.now) c.requires.there in
    let same =
    same-child c.in-Drr.classes.items c.args.place c.index_mut-in-Drr.result.now on.child c.index_mut-in-Drr.ensures.value
    (ap (λ xs. slice_get xs c.args.place) (sym (ap children_seen c.in-Drr.is)) ∙ on.there) in (
      omega (arith, c.decreases),
      (
        within,
        (
          subst (λ (n : Node Kept). IsSome (node_at c.args.rest.now n)) (sym same) on.on,
          (c.requires.ready, omega (arith, c.requires.sink on.child on.there, ap (λ (n : Node Kept). length (removed_at c.args.edit c.args.rest.now n)) same)),
        ),
      ),
    )

pub Discipline::edit_beneath-index-requires : goal.Discipline::edit_beneath-index-requires
Discipline::edit_beneath-index-requires g t c =
    let on = led c.args.rest.now c.args.place (children_seen c.args.self.now) c.requires.there in
    omega (arith, c.in-Drr.classes.ok, slice_get_within c.in-Drr.classes.items c.args.place on.child (ap (λ xs. slice_get xs c.args.place) (sym (ap children_seen c.in-Drr.is)) ∙ on.there))

pub Discipline::edit_beneath-returns-in-Drr-clause-after : goal.Discipline::edit_beneath-returns-in-Drr-clause-after
Discipline::edit_beneath-returns-in-Drr-clause-after g t c = λ child at.
    let there = ap (λ xs. slice_get xs c.args.place) (sym (ap children_seen c.in-Drr.is)) ∙ at in
    let stored : c.index.result.now ≡ c.edit-in-Drr.new.self =
    c.index.ensures ∙ get_or-set_same c.in-Drr.classes.items c.args.place c.edit-in-Drr.new.self c.index.result.now (slice_get_within c.in-Drr.classes.items c.args.place child there) in
    edited-into c.args.edit c.args.rest.now c.args.place c.args.self.now (code.Drr c.settle.new.active (with_item c.in-Drr.classes c.args.place c.edit-in-Drr.new.self)) c.in-Drr.classes.items
    c.index_mut-in-Drr.result.now c.edit-in-Drr.new.self child (ap children_seen c.in-Drr.is) c.index_mut-in-Drr.ensures.value at
    c.in_ok-lost-in-Drr.ensures.after refl (sym (ap places_seen c.in-Drr.is))
    (ap spec.Drr (c.settle.ensures ∙ ap (λ b. settled_class c.args.place b c.in-Drr.active) (c.is_empty.ensures ∙ ap (λ (n : Node Kept). is_empty n) stored))
    ∙ sym (ap (λ d. settled_in c.args.place (is_empty c.edit-in-Drr.new.self) (discipline_seen d)) c.in-Drr.is))

pub Discipline::edit_beneath-returns-in-Drr-clause-totals : goal.Discipline::edit_beneath-returns-in-Drr-clause-totals
Discipline::edit_beneath-returns-in-Drr-clause-totals g t c = λ child at.
    let same =
    same-child c.in-Drr.classes.items c.args.place c.index_mut-in-Drr.result.now child c.index_mut-in-Drr.ensures.value
    (ap (λ xs. slice_get xs c.args.place) (sym (ap children_seen c.in-Drr.is)) ∙ at) in
    c.in_ok-lost-in-Drr.ensures.totals ∙ ap (λ (n : Node Kept). Ok (totals_in (removed_at c.args.edit c.args.rest.now n))) same

pub Discipline::edit_beneath-returns-in-Drr-clause-told : goal.Discipline::edit_beneath-returns-in-Drr-clause-told
Discipline::edit_beneath-returns-in-Drr-clause-told g t c =
    λ child at.
    let same =
    same-child c.in-Drr.classes.items c.args.place c.index_mut-in-Drr.result.now child c.index_mut-in-Drr.ensures.value
    (ap (λ xs. slice_get xs c.args.place) (sym (ap children_seen c.in-Drr.is)) ∙ at) in
    subst (λ (n : Node Kept). IsTold (purged (removed_at c.args.edit c.args.rest.now n)) (g.S.Sink.state c.args.sink.now) (g.S.Sink.state c.edit-in-Drr.new.sink)) same c.in_ok-lost-in-Drr.ensures.told

pub Node::edit-edit_beneath-requires : goal.Node::edit-edit_beneath-requires
Node::edit-edit_beneath-requires g t c κs within = (
  omega (arith, c.decreases, c.in-Some.ensures.cases.1),
  (
    within,
    (
      leads c.args.edit c.self.inside c.args.self.now c.self.view_is c.self.invariant c.args.path.now c.in-Some.field-0-0.now c.in-Some.rest.now
          c.in-Some.ensures.cases.0 c.requires.ready c.requires.there,
      (
        c.requires.ready,
        λ child at. omega (
          arith,
          c.requires.sink,
          ap length
              (lost-there c.args.edit c.self.inside c.args.self.now c.self.view_is c.self.invariant c.args.path.now c.in-Some.field-0-0.now
              c.in-Some.rest.now c.in-Some.ensures.cases.0 c.requires.ready c.requires.there child at),
        ),
      ),
    ),
  ),
)

pub Node::edit-book_dropped-requires-clause-room : goal.Node::edit-book_dropped-requires-clause-room
Node::edit-book_dropped-requires-clause-room g t c =
    room c.args.edit c.self.inside c.args.self.now c.self.view_is c.self.invariant c.args.path.now c.in-Some.field-0-0.now c.in-Some.rest.now
    c.in-Some.ensures.cases.0 c.requires.ready c.requires.there
    c.in_ok-lost.lost c.in_ok-lost.ensures.totals (omega (arith, c.self.ranges, c.fit.ensures.packets, c.fit.ensures.bytes)) (omega (arith, c.self.ranges, c.fit.ensures.packets, c.fit.ensures.bytes))

pub Node::edit-invariant_of-self-2 : goal.Node::edit-invariant_of-self-2
Node::edit-invariant_of-self-2 g t c =
    stays c.args.edit c.self.inside c.args.self.now c.self.view_is c.self.invariant c.args.path.now c.in-Some.field-0-0.now c.in-Some.rest.now
    c.in-Some.ensures.cases.0 c.requires.ready c.requires.there
    c.in_ok-lost.lost c.in_ok-lost.ensures.totals c.edit_beneath.new.self c.in_ok-lost.ensures.after c.book_dropped.new.row c.book_dropped.ensures
    (room c.args.edit c.self.inside c.args.self.now c.self.view_is c.self.invariant c.args.path.now c.in-Some.field-0-0.now c.in-Some.rest.now
    c.in-Some.ensures.cases.0 c.requires.ready c.requires.there
    c.in_ok-lost.lost c.in_ok-lost.ensures.totals (omega (arith, c.self.ranges, c.fit.ensures.packets, c.fit.ensures.bytes)) (omega (arith, c.self.ranges, c.fit.ensures.packets, c.fit.ensures.bytes)))

pub Node::edit-returns-clause-after : goal.Node::edit-returns-clause-after
Node::edit-returns-clause-after g t c =
    after c.args.edit c.self.inside c.args.self.now c.self.view_is c.self.invariant c.args.path.now c.in-Some.field-0-0.now c.in-Some.rest.now
    c.in-Some.ensures.cases.0 c.requires.ready c.requires.there
    c.in_ok-lost.lost c.in_ok-lost.ensures.totals c.edit_beneath.new.self c.in_ok-lost.ensures.after c.book_dropped.new.row c.book_dropped.ensures

pub Node::edit-returns-clause-totals : goal.Node::edit-returns-clause-totals
Node::edit-returns-clause-totals g t c =
    of-child c.args.edit c.self.inside c.args.self.now c.self.view_is c.self.invariant c.args.path.now c.in-Some.field-0-0.now c.in-Some.rest.now
    c.in-Some.ensures.cases.0 c.requires.ready c.requires.there
    (λ ps. IsAnswer c.in_ok-lost.lost (totals_in ps)) c.in_ok-lost.ensures.totals

pub Node::edit-returns-clause-told : goal.Node::edit-returns-clause-told
Node::edit-returns-clause-told g t c =
    of-child c.args.edit c.self.inside c.args.self.now c.self.view_is c.self.invariant c.args.path.now c.in-Some.field-0-0.now c.in-Some.rest.now
    c.in-Some.ensures.cases.0 c.requires.ready c.requires.there
    (λ ps. IsTold (purged ps) (g.S.Sink.state c.args.sink.now) (g.S.Sink.state c.edit_beneath.new.sink)) c.in_ok-lost.ensures.told
