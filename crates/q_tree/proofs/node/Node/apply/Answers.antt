use Rattle.std.proofs.Common.{◌∙◌, Ok, sym, ap, subst, arith}
use Rattle.q_codel.specs.Losses.{IsTold}
use Rattle.q_model.specs.Beneath.{totals_in}
use Rattle.q_tree.specs.commands.DisciplineChanges.{lost_with}
use Rattle.q_tree.specs.commands.Editing.{CanDrop, with_dropped}
use Rattle.q_tree.specs.commands.Purging.{purged}
use Rattle.q_tree.specs.Seen.{children_seen, discipline_seen}
use Rattle.q_tree.proofs.commands.EditLemmas.{can-lose, goes-is, goes-room, changed_by-effect, changed_by-kept, same-total}
use Rattle.q_tree.proofs.node.Node.apply.Goals as goal

pub change-requires-clause-few : goal.change-requires-clause-few
change-requires-clause-few g c =
    let a = c.self-in-DisciplineChange.inside in
    let can =
    can-lose c.in-DisciplineChange.change c.args.edit c.in-DisciplineChange.is a c.args.self.now c.self-in-DisciplineChange.view_is
    c.self-in-DisciplineChange.invariant c.requires.ready
    (omega (arith, c.self-in-DisciplineChange.ranges, c.fit.ensures.packets, c.fit.ensures.bytes))
    (omega (arith, c.self-in-DisciplineChange.ranges, c.fit.ensures.packets, c.fit.ensures.bytes)) in
    record {
      packets = omega (arith, can.packets, c.self-in-DisciplineChange.ranges, c.fit.ensures.packets, c.fit.ensures.bytes);
      bytes = omega
          (arith, can.bytes, c.self-in-DisciplineChange.ranges, c.fit.ensures.packets, c.fit.ensures.bytes);
    }

pub change-requires-clause-sink : goal.change-requires-clause-sink
change-requires-clause-sink g c =
    goes-room c.in-DisciplineChange.change c.args.edit c.in-DisciplineChange.is c.self-in-DisciplineChange.inside c.args.self.now
    c.self-in-DisciplineChange.view_is c.self-in-DisciplineChange.invariant c.requires.ready (g.S.Sink.state c.args.sink.now).room c.requires.sink

pub book_dropped-requires-clause-room : goal.book_dropped-requires-clause-room
book_dropped-requires-clause-room g c =
    let a = c.self-in-DisciplineChange.inside in
    let lost = totals_in (lost_with c.in-DisciplineChange.change (discipline_seen a.discipline) (children_seen a.discipline)) in
    subst (λ t. CanDrop t a.row) (sym (same-total c.in_ok-lost-in-DisciplineChange.lost lost c.in_ok-lost-in-DisciplineChange.ensures.totals))
    (can-lose c.in-DisciplineChange.change c.args.edit c.in-DisciplineChange.is a c.args.self.now c.self-in-DisciplineChange.view_is
    c.self-in-DisciplineChange.invariant c.requires.ready
    (omega (arith, c.self-in-DisciplineChange.ranges, c.fit.ensures.packets, c.fit.ensures.bytes))
    (omega (arith, c.self-in-DisciplineChange.ranges, c.fit.ensures.packets, c.fit.ensures.bytes)))

pub invariant_of-self-in-DisciplineChange : goal.invariant_of-self-in-DisciplineChange
invariant_of-self-in-DisciplineChange g c =
    let a = c.self-in-DisciplineChange.inside in
    let lost = totals_in (lost_with c.in-DisciplineChange.change (discipline_seen a.discipline) (children_seen a.discipline)) in
    let booked = c.book_dropped.ensures ∙ ap (λ t. with_dropped t a.row) (same-total c.in_ok-lost-in-DisciplineChange.lost lost c.in_ok-lost-in-DisciplineChange.ensures.totals) in
    changed_by-kept c.in-DisciplineChange.change c.args.edit c.in-DisciplineChange.is a c.args.self.now c.self-in-DisciplineChange.view_is
    c.self-in-DisciplineChange.invariant c.requires.ready c.change.new.self c.in_ok-lost-in-DisciplineChange.ensures.after c.book_dropped.new.row
    booked
    (can-lose c.in-DisciplineChange.change c.args.edit c.in-DisciplineChange.is a c.args.self.now c.self-in-DisciplineChange.view_is
    c.self-in-DisciplineChange.invariant c.requires.ready
    (omega (arith, c.self-in-DisciplineChange.ranges, c.fit.ensures.packets, c.fit.ensures.bytes))
    (omega (arith, c.self-in-DisciplineChange.ranges, c.fit.ensures.packets, c.fit.ensures.bytes)))

pub returns-in-DisciplineChange-clause-after : goal.returns-in-DisciplineChange-clause-after
returns-in-DisciplineChange-clause-after g c =
    let a = c.self-in-DisciplineChange.inside in
    let lost = totals_in (lost_with c.in-DisciplineChange.change (discipline_seen a.discipline) (children_seen a.discipline)) in
    let booked = c.book_dropped.ensures ∙ ap (λ t. with_dropped t a.row) (same-total c.in_ok-lost-in-DisciplineChange.lost lost c.in_ok-lost-in-DisciplineChange.ensures.totals) in
    changed_by-effect c.in-DisciplineChange.change c.args.edit c.in-DisciplineChange.is a c.args.self.now c.self-in-DisciplineChange.view_is
    c.self-in-DisciplineChange.invariant c.requires.ready c.change.new.self c.in_ok-lost-in-DisciplineChange.ensures.after c.book_dropped.new.row
    booked

pub returns-in-DisciplineChange-clause-totals : goal.returns-in-DisciplineChange-clause-totals
returns-in-DisciplineChange-clause-totals g c =
    c.in_ok-lost-in-DisciplineChange.ensures.totals
    ∙ ap (λ ps. Ok (totals_in ps)) (goes-is c.in-DisciplineChange.change c.args.edit c.in-DisciplineChange.is c.self-in-DisciplineChange.inside
    c.args.self.now c.self-in-DisciplineChange.view_is c.self-in-DisciplineChange.invariant c.requires.ready)

pub returns-in-DisciplineChange-clause-told : goal.returns-in-DisciplineChange-clause-told
returns-in-DisciplineChange-clause-told g c =
    subst (λ ps. IsTold (purged ps) (g.S.Sink.state c.args.sink.now) (g.S.Sink.state c.change.new.sink))
    (goes-is c.in-DisciplineChange.change c.args.edit c.in-DisciplineChange.is c.self-in-DisciplineChange.inside c.args.self.now
    c.self-in-DisciplineChange.view_is c.self-in-DisciplineChange.invariant c.requires.ready)
    c.in_ok-lost-in-DisciplineChange.ensures.told
