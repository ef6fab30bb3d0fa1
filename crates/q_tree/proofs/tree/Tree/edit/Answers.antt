use Rattle.std.proofs.Common.{◌≤◌, ◌^◌, ◌∙◌, sym, ap, ap₂, subst, arith}
use Rattle.q_model.specs.Step.{DeviceState}
use Rattle.q_tree.specs.commands.Commands.{IsPlanned, device_edited}
use Rattle.q_tree.specs.Kept.{Kept}
use Rattle.q_tree.specs.TreeSeen.{tree_seen}
use Rattle.q_tree.proofs.commands.Plans.{bounded}
use Rattle.q_tree.proofs.commands.TreeEdits.{room, after, stays}
use Rattle.q_tree.proofs.commands.TreeIndex.{apart, beside-index, fits, has-room, renewed-device}
use Rattle.q_tree.proofs.tree.Tree.edit.Goals as goal
use Rattle.q_tree.proofs.TreeLemmas.{top-row}

pub book_dropped-requires-clause-balanced : goal.book_dropped-requires-clause-balanced
book_dropped-requires-clause-balanced g c = (top-row c.self.inside c.self.invariant.device).balanced

pub book_dropped-requires-clause-room : goal.book_dropped-requires-clause-room
book_dropped-requires-clause-room g c =
    let later : c.self.inside.clock ≤ c.args.now = omega (arith, ap (λ (d : DeviceState Kept). d.clock) c.self.view_is, c.requires.order) in
    let low : c.args.now ≤ 2 ^ 62 = omega (arith, c.ns.ensures.in_range, c.ns.ensures.value) in
    let planned : IsPlanned c.args.planned.edit c.deref.result.now c.args.now (tree_seen c.self.inside).tree.device c.self.inside.root =
    subst (λ p. IsPlanned c.args.planned.edit p c.args.now (tree_seen c.self.inside).tree.device c.self.inside.root) (sym c.deref.ensures.0)
    (subst (λ (d : DeviceState Kept). IsPlanned c.args.planned.edit c.args.planned.path.items c.args.now d.tree.device d.tree.root) (sym c.self.view_is) c.requires.planned) in
    room c.self.inside c.self.invariant.device c.args.planned.edit c.deref.result.now c.args.now later low planned c.in-Ok-edit.lost
    c.in-Ok-edit.ensures.totals (omega (arith, c.self.ranges, c.fit.ensures.packets, c.fit.ensures.bytes))
    (omega (arith, c.self.ranges, c.fit.ensures.packets, c.fit.ensures.bytes))

pub renew-requires-clause-levels : goal.renew-requires-clause-levels
renew-requires-clause-levels g c =
    let later : c.self.inside.clock ≤ c.args.now = omega (arith, ap (λ (d : DeviceState Kept). d.clock) c.self.view_is, c.requires.order) in
    let low : c.args.now ≤ 2 ^ 62 = omega (arith, c.ns.ensures.in_range, c.ns.ensures.value) in
    let planned : IsPlanned c.args.planned.edit c.deref.result.now c.args.now (tree_seen c.self.inside).tree.device c.self.inside.root =
    subst (λ p. IsPlanned c.args.planned.edit p c.args.now (tree_seen c.self.inside).tree.device c.self.inside.root) (sym c.deref.ensures.0)
    (subst (λ (d : DeviceState Kept). IsPlanned c.args.planned.edit c.args.planned.path.items c.args.now d.tree.device d.tree.root) (sym c.self.view_is) c.requires.planned) in
    (bounded (record c.self.inside { clock = c.args.now; top = c.book_dropped.new.row; root = c.edit.new.self })
    (stays c.self.inside c.self.invariant.device c.args.planned.edit c.deref.result.now c.args.now later low planned c.in-Ok-edit.lost
    c.in-Ok-edit.ensures.totals c.book_dropped.new.row c.book_dropped.ensures c.edit.new.self c.in-Ok-edit.ensures.after)).levels

pub renew-requires-clause-apart : goal.renew-requires-clause-apart
renew-requires-clause-apart g c =
    let later : c.self.inside.clock ≤ c.args.now = omega (arith, ap (λ (d : DeviceState Kept). d.clock) c.self.view_is, c.requires.order) in
    let low : c.args.now ≤ 2 ^ 62 = omega (arith, c.ns.ensures.in_range, c.ns.ensures.value) in
    let planned : IsPlanned c.args.planned.edit c.deref.result.now c.args.now (tree_seen c.self.inside).tree.device c.self.inside.root =
    subst (λ p. IsPlanned c.args.planned.edit p c.args.now (tree_seen c.self.inside).tree.device c.self.inside.root) (sym c.deref.ensures.0)
    (subst (λ (d : DeviceState Kept). IsPlanned c.args.planned.edit c.args.planned.path.items c.args.now d.tree.device d.tree.root) (sym c.self.view_is) c.requires.planned) in
    apart (record c.self.inside { clock = c.args.now; top = c.book_dropped.new.row; root = c.edit.new.self })
    (stays c.self.inside c.self.invariant.device c.args.planned.edit c.deref.result.now c.args.now later low planned c.in-Ok-edit.lost
    c.in-Ok-edit.ensures.totals c.book_dropped.new.row c.book_dropped.ensures c.edit.new.self c.in-Ok-edit.ensures.after)

pub renew-requires-clause-room : goal.renew-requires-clause-room
renew-requires-clause-room g c =
    let later : c.self.inside.clock ≤ c.args.now = omega (arith, ap (λ (d : DeviceState Kept). d.clock) c.self.view_is, c.requires.order) in
    let low : c.args.now ≤ 2 ^ 62 = omega (arith, c.ns.ensures.in_range, c.ns.ensures.value) in
    let planned : IsPlanned c.args.planned.edit c.deref.result.now c.args.now (tree_seen c.self.inside).tree.device c.self.inside.root =
    subst (λ p. IsPlanned c.args.planned.edit p c.args.now (tree_seen c.self.inside).tree.device c.self.inside.root) (sym c.deref.ensures.0)
    (subst (λ (d : DeviceState Kept). IsPlanned c.args.planned.edit c.args.planned.path.items c.args.now d.tree.device d.tree.root) (sym c.self.view_is) c.requires.planned) in
    fits c.self.inside c.self.invariant c.args.planned.edit c.deref.result.now planned.there c.make_room_for.new.self c.make_room_for.ensures.more
    c.in-Ok.ensures.ok c.edit.new.self c.in-Ok-edit.ensures.after
    (bounded (record c.self.inside { clock = c.args.now; top = c.book_dropped.new.row; root = c.edit.new.self })
    (stays c.self.inside c.self.invariant.device c.args.planned.edit c.deref.result.now c.args.now later low planned c.in-Ok-edit.lost
    c.in-Ok-edit.ensures.totals c.book_dropped.new.row c.book_dropped.ensures c.edit.new.self c.in-Ok-edit.ensures.after)).nodes

pub invariant_of-self-2 : goal.invariant_of-self-2
invariant_of-self-2 g c =
    let later : c.self.inside.clock ≤ c.args.now = omega (arith, ap (λ (d : DeviceState Kept). d.clock) c.self.view_is, c.requires.order) in
    let low : c.args.now ≤ 2 ^ 62 = omega (arith, c.ns.ensures.in_range, c.ns.ensures.value) in
    let planned : IsPlanned c.args.planned.edit c.deref.result.now c.args.now (tree_seen c.self.inside).tree.device c.self.inside.root =
    subst (λ p. IsPlanned c.args.planned.edit p c.args.now (tree_seen c.self.inside).tree.device c.self.inside.root) (sym c.deref.ensures.0)
    (subst (λ (d : DeviceState Kept). IsPlanned c.args.planned.edit c.args.planned.path.items c.args.now d.tree.device d.tree.root) (sym c.self.view_is) c.requires.planned) in
    renewed-device (record c.self.inside { clock = c.args.now; top = c.book_dropped.new.row; root = c.edit.new.self; handles = c.make_room_for.new.self }) c.renew.new.self
    (has-room c.self.inside c.self.invariant c.args.planned.edit c.deref.result.now planned.there c.make_room_for.new.self
    c.make_room_for.ensures.more c.in-Ok.ensures.ok c.edit.new.self c.in-Ok-edit.ensures.after)
    (beside-index (record c.self.inside { clock = c.args.now; top = c.book_dropped.new.row; root = c.edit.new.self }) c.make_room_for.new.self
    (stays c.self.inside c.self.invariant.device c.args.planned.edit c.deref.result.now c.args.now later low planned c.in-Ok-edit.lost
    c.in-Ok-edit.ensures.totals c.book_dropped.new.row c.book_dropped.ensures c.edit.new.self c.in-Ok-edit.ensures.after))
    c.renew.ensures.same c.renew.ensures.room

pub returns-clause-after : goal.returns-clause-after
returns-clause-after g c =
    let later : c.self.inside.clock ≤ c.args.now = omega (arith, ap (λ (d : DeviceState Kept). d.clock) c.self.view_is, c.requires.order) in
    let low : c.args.now ≤ 2 ^ 62 = omega (arith, c.ns.ensures.in_range, c.ns.ensures.value) in
    let planned : IsPlanned c.args.planned.edit c.deref.result.now c.args.now (tree_seen c.self.inside).tree.device c.self.inside.root =
    subst (λ p. IsPlanned c.args.planned.edit p c.args.now (tree_seen c.self.inside).tree.device c.self.inside.root) (sym c.deref.ensures.0)
    (subst (λ (d : DeviceState Kept). IsPlanned c.args.planned.edit c.args.planned.path.items c.args.now d.tree.device d.tree.root) (sym c.self.view_is) c.requires.planned) in
    after c.self.inside c.self.invariant.device c.args.planned.edit c.deref.result.now c.args.now later low planned c.in-Ok-edit.lost
    c.in-Ok-edit.ensures.totals c.book_dropped.new.row c.book_dropped.ensures c.edit.new.self c.in-Ok-edit.ensures.after
    ∙ ap₂ (λ p (d : DeviceState Kept). device_edited c.args.planned.edit p c.args.now d) c.deref.ensures.0 c.self.view_is
