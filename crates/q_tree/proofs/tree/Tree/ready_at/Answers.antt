use Rattle.std.proofs.Common.{◌∙◌, ◌≡◌, ◌<◌, ◌≤◌, ◌^◌, ℕ, sym, ap, subst, arith, Option, None}
use Rattle.std.specs.Prelude.{true, IfNone, IsSome}
use Rattle.q_model.specs.Step.{DeviceState}
use Rattle.q_model.specs.TreeState.{given}
use Rattle.q_tree.specs.answers.ReadyAt.{is_sure}
use Rattle.q_tree.specs.Kept.{Kept}
use Rattle.q_tree.specs.declared.answers.ready_at.Outlook.{Outlook}
use Rattle.q_tree.proofs.answers.ReadyLemmas.{lawful-later, ready-from, ready-early, ready-some, ready-never}
use Rattle.q_tree.proofs.tree.Tree.ready_at.Goals as goal
use Rattle.q_tree.proofs.TreeLemmas.{least-mtu}

pub returns-in_err-at-clause-never : goal.returns-in_err-at-clause-never
returns-in_err-at-clause-never c =
    let past : c.self.inside.clock ≤ c.args.now = omega (arith, ap (λ (d : DeviceState Kept). d.clock) c.self.view_is, c.requires.order) in
    let present : c.args.now ≤ 2 ^ 62 = omega (arith, c.ns.ensures.in_range, c.ns.ensures.value) in
    subst (λ (o : Option ℕ). IfNone o ((t : ℕ) → c.args.now ≤ t → t ≤ 2 ^ 62 → given t c.args.self.now.tree ≡ None)) (sym c.from_residual.ensures)
    (subst (λ (d : DeviceState Kept). (t : ℕ) → c.args.now ≤ t → t ≤ 2 ^ 62 → given t d.tree ≡ None) c.self.view_is
    (ready-never c.self.inside.mtu c.args.now c.self.inside.root (least-mtu c.self.inside c.self.invariant.device) present (lawful-later c.self.inside c.self.invariant.device c.args.now past)
    (sym (ap (λ (o : Outlook). o.at) c.outlook.ensures) ∙ c.in_err-at.was)))

pub returns-clause-from : goal.returns-clause-from
returns-clause-from c =
    let past : c.self.inside.clock ≤ c.args.now = omega (arith, ap (λ (d : DeviceState Kept). d.clock) c.self.view_is, c.requires.order) in
    let present : c.args.now ≤ 2 ^ 62 = omega (arith, c.ns.ensures.in_range, c.ns.ensures.value) in
    ready-from c.self.inside.mtu c.args.now c.self.inside.root (least-mtu c.self.inside c.self.invariant.device) present
    (lawful-later c.self.inside c.self.invariant.device c.args.now past) c.in_ok-at.at
    (sym (ap (λ (o : Outlook). o.at) c.outlook.ensures) ∙ c.in_ok-at.was)

pub returns-clause-early : goal.returns-clause-early
returns-clause-early c =
    let past : c.self.inside.clock ≤ c.args.now = omega (arith, ap (λ (d : DeviceState Kept). d.clock) c.self.view_is, c.requires.order) in
    let present : c.args.now ≤ 2 ^ 62 = omega (arith, c.ns.ensures.in_range, c.ns.ensures.value) in
    let low : c.in_ok-at.at ≤ 2 ^ 62 = omega (arith, c.ns-2.ensures.in_range, c.ns-2.ensures.value) in
    subst (λ (d : DeviceState Kept). (t : ℕ) → c.args.now ≤ t → t < c.in_ok-at.at → given t d.tree ≡ None) c.self.view_is
    (ready-early c.self.inside.mtu c.args.now c.self.inside.root (least-mtu c.self.inside c.self.invariant.device) present
    (lawful-later c.self.inside c.self.invariant.device c.args.now past) c.in_ok-at.at
    (sym (ap (λ (o : Outlook). o.at) c.outlook.ensures) ∙ c.in_ok-at.was) low)

pub returns-clause-some : goal.returns-clause-some
returns-clause-some c =
    let past : c.self.inside.clock ≤ c.args.now = omega (arith, ap (λ (d : DeviceState Kept). d.clock) c.self.view_is, c.requires.order) in
    let present : c.args.now ≤ 2 ^ 62 = omega (arith, c.ns.ensures.in_range, c.ns.ensures.value) in
    let low : c.in_ok-at.at ≤ 2 ^ 62 = omega (arith, c.ns-2.ensures.in_range, c.ns-2.ensures.value) in
    subst (λ (d : DeviceState Kept). is_sure c.args.now d.tree.root ≡ true → IsSome (given c.in_ok-at.at d.tree)) c.self.view_is
    (ready-some c.self.inside.mtu c.args.now c.self.inside.root (least-mtu c.self.inside c.self.invariant.device) present
    (lawful-later c.self.inside c.self.invariant.device c.args.now past) c.in_ok-at.at
    (sym (ap (λ (o : Outlook). o.at) c.outlook.ensures) ∙ c.in_ok-at.was) low)
