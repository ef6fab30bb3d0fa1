use Rattle.std.proofs.Common.{ℕ, List, [], ◌∙◌, Option, length, sym, ap, subst, arith}
use Rattle.std.specs.List.{remove}
use Rattle.std.specs.Option.{option_map_or}
use Rattle.std.proofs.lemmas.Option.{slice_get_past}
use Rattle.q_drr.specs.Schedule as schedule
use Rattle.q_drr.specs.Schedule.{place_of}
use Rattle.q_model.specs.Beneath.{beneath, totals_in}
use Rattle.q_model.specs.Node as spec
use Rattle.q_model.specs.Node.{Node}
use Rattle.q_packet.specs.Descriptor.{Descriptor}
use Rattle.q_codel.specs.Losses.{IsTold}
use Rattle.q_codel.proofs.SinkLemmas.{told_nothing}
use Rattle.q_tree.specs.commands.DisciplineChanges.{rescheduled}
use Rattle.q_tree.specs.commands.Purging.{purged}
use Rattle.q_tree.specs.Kept.{Kept}
use Rattle.q_tree.specs.Seen.{children_seen, discipline_seen, places_seen}
use Rattle.q_tree.proofs.commands.ClassLemmas.{class-is-there, found-class, past-class}
use Rattle.q_tree.proofs.node.Discipline.remove_class.Goals as goal

-- what is lost with the child that was found
abbrev gone : Option (ℕ × Node Kept) → List Descriptor
gone o = option_map_or (λ (x : ℕ × Node Kept). beneath x.1) o []

pub returns-then-place-len-clause-told : goal.returns-then-place-len-clause-told
returns-then-place-len-clause-told g c =
    let place = c.in-Some.ensures.value ∙ ap (λ n. place_of n c.in-Drr.active.classes) c.number.ensures.value in
    let none =
    past-class c.args.class (discipline_seen c.args.self.now) c.in-Drr.active (children_seen c.args.self.now) c.in-Drr.classes.items
    (ap discipline_seen c.in-Drr.is) (ap children_seen c.in-Drr.is) c.in-Some.place place
    (slice_get_past c.in-Drr.classes.items c.in-Some.place (omega (arith, c.len.ensures, c.in-Drr.classes.ok, c.if-place-len.true))) in
    subst (λ o. IsTold (purged (gone o)) (g.S.Sink.state c.args.sink.now) (g.S.Sink.state c.args.sink.now)) (sym none) (told_nothing (g.S.Sink.state c.args.sink.now))

pub remove-requires : goal.remove-requires
remove-requires g c =
    class-is-there c.number-2.result c.in-Some.place c.in-Drr.active (c.in-Some.ensures.value ∙ ap (λ n. place_of n c.in-Drr.active.classes) (c.number.ensures.value ∙ sym c.number-2.ensures.value))

pub purge-requires : goal.purge-requires
purge-requires g c =
    let place = c.in-Some.ensures.value ∙ ap (λ n. place_of n c.in-Drr.active.classes) c.number.ensures.value in
    let found =
    found-class c.args.class (discipline_seen c.args.self.now) c.in-Drr.active (children_seen c.args.self.now) c.in-Drr.classes.items
    (ap discipline_seen c.in-Drr.is) (ap children_seen c.in-Drr.is) c.in-Some.place c.remove-child.result place
    (omega (arith, c.len.ensures, c.in-Drr.classes.ok, c.if-place-len.false)) c.remove-child.ensures.value in
    omega (arith, c.requires.sink, ap (λ o. length (gone o)) found)

pub returns-clause-after : goal.returns-clause-after
returns-clause-after g c =
    let place = c.in-Some.ensures.value ∙ ap (λ n. place_of n c.in-Drr.active.classes) c.number.ensures.value in
    let found =
    found-class c.args.class (discipline_seen c.args.self.now) c.in-Drr.active (children_seen c.args.self.now) c.in-Drr.classes.items
    (ap discipline_seen c.in-Drr.is) (ap children_seen c.in-Drr.is) c.in-Some.place c.remove-child.result place
    (omega (arith, c.len.ensures, c.in-Drr.classes.ok, c.if-place-len.false)) c.remove-child.ensures.value in
    record {
      discipline = ap spec.Drr (c.remove.ensures ∙ ap (λ n. schedule.removed n c.in-Drr.active) c.number-2.ensures.value)
          ∙ sym (ap (rescheduled (schedule.removed c.args.class)) (ap discipline_seen c.in-Drr.is))
          ∙ sym (ap (λ o. option_map_or (λ x. rescheduled (schedule.removed c.args.class) (discipline_seen c.args.self.now)) o (discipline_seen c.args.self.now)) found);
      children = c.remove-child.ensures.items
          ∙ sym (ap (λ xs. remove xs c.in-Some.place) (ap children_seen c.in-Drr.is))
          ∙ sym (ap (λ o. option_map_or (λ (x : ℕ × Node Kept). remove (children_seen c.args.self.now) x.0) o (children_seen c.args.self.now)) found);
      places = sym (ap places_seen c.in-Drr.is);
    }

pub returns-clause-totals : goal.returns-clause-totals
returns-clause-totals g c =
    let place = c.in-Some.ensures.value ∙ ap (λ n. place_of n c.in-Drr.active.classes) c.number.ensures.value in
    let found =
    found-class c.args.class (discipline_seen c.args.self.now) c.in-Drr.active (children_seen c.args.self.now) c.in-Drr.classes.items
    (ap discipline_seen c.in-Drr.is) (ap children_seen c.in-Drr.is) c.in-Some.place c.remove-child.result place
    (omega (arith, c.len.ensures, c.in-Drr.classes.ok, c.if-place-len.false)) c.remove-child.ensures.value in
    c.queued-lost.ensures ∙ sym (ap (λ o. totals_in (gone o)) found)

pub returns-clause-told : goal.returns-clause-told
returns-clause-told g c =
    let place = c.in-Some.ensures.value ∙ ap (λ n. place_of n c.in-Drr.active.classes) c.number.ensures.value in
    let found =
    found-class c.args.class (discipline_seen c.args.self.now) c.in-Drr.active (children_seen c.args.self.now) c.in-Drr.classes.items
    (ap discipline_seen c.in-Drr.is) (ap children_seen c.in-Drr.is) c.in-Some.place c.remove-child.result place
    (omega (arith, c.len.ensures, c.in-Drr.classes.ok, c.if-place-len.false)) c.remove-child.ensures.value in
    subst (λ o. IsTold (purged (gone o)) (g.S.Sink.state c.args.sink.now) (g.S.Sink.state c.purge.new.sink)) (sym found) c.purge.ensures.told
