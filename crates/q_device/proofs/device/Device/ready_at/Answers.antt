use Rattle.std.proofs.Common.{◌∙◌, ◌≡◌, ◌<◌, ◌≤◌, ◌^◌, ℕ, sym, ap, subst, Option, None}
use Rattle.std.specs.Prelude.{Bool, true, IfNone, IfSome, IsSome}
use Rattle.q_packet.specs.Descriptor.{Descriptor}
use Rattle.q_model.specs.TreeState.{given}
use Rattle.q_tree.specs.answers.ReadyAt.{is_sure, ready_at}
use Rattle.q_tree.specs.TreeSeen.{tree_numbers}
use Rattle.q_device.specs.device.DeviceSeen.{DeviceSeen}
use Rattle.q_device.proofs.device.Device.ready_at.Goals as goal
use Rattle.q_device.proofs.waiting.ReadyNumbers.{given-numbers, ready-numbers, sure-numbers}

pub returns-clause-value : goal.returns-clause-value
returns-clause-value c =
    c.ready_at.ensures.value ∙ sym (ready-numbers c.clock.result c.self.inside.tree.tree)
    ∙ ap (λ t. ready_at t (tree_numbers c.self.inside.tree.tree).root) c.clock.ensures
    ∙ ap (λ (d : DeviceSeen). ready_at d.device.clock d.device.tree.root) c.self.view_is

pub returns-clause-from : goal.returns-clause-from
returns-clause-from c =
    subst (λ (d : DeviceSeen). IfSome c.ready_at.result (λ at. d.device.clock ≤ at)) c.self.view_is
    (subst (λ t. IfSome c.ready_at.result (λ at. t ≤ at)) c.clock.ensures c.ready_at.ensures.from)

pub returns-clause-early : goal.returns-clause-early
returns-clause-early c =
    subst (λ (d : DeviceSeen). IfSome c.ready_at.result (λ at. (t : ℕ) → d.device.clock ≤ t → t < at → given t d.device.tree ≡ None)) c.self.view_is
    (subst (λ (g : ℕ → Option Descriptor). IfSome c.ready_at.result (λ at. (t : ℕ) → c.self.inside.tree.clock ≤ t → t < at → g t ≡ None))
    (λ i t. sym (given-numbers t c.self.inside.tree.tree) i)
    (subst (λ clock. IfSome c.ready_at.result (λ at. (t : ℕ) → clock ≤ t → t < at → given t c.self.inside.tree.tree ≡ None)) c.clock.ensures c.ready_at.ensures.early))

pub returns-clause-some : goal.returns-clause-some
returns-clause-some c =
    subst (λ (d : DeviceSeen). is_sure d.device.clock d.device.tree.root ≡ true → IfSome c.ready_at.result (λ at. IsSome (given at d.device.tree))) c.self.view_is
    (subst (λ (b : Bool). b ≡ true → IfSome c.ready_at.result (λ at. IsSome (given at (tree_numbers c.self.inside.tree.tree)))) (sym (sure-numbers c.self.inside.tree.clock c.self.inside.tree.tree))
    (subst (λ (g : ℕ → Option Descriptor). is_sure c.self.inside.tree.clock c.self.inside.tree.tree.root ≡ true → IfSome c.ready_at.result (λ at. IsSome (g at)))
    (λ i t. sym (given-numbers t c.self.inside.tree.tree) i)
    (subst (λ clock. is_sure clock c.self.inside.tree.tree.root ≡ true → IfSome c.ready_at.result (λ at. IsSome (given at c.self.inside.tree.tree))) c.clock.ensures c.ready_at.ensures.some)))

pub returns-clause-never : goal.returns-clause-never
returns-clause-never c =
    subst (λ (d : DeviceSeen). IfNone c.ready_at.result ((t : ℕ) → d.device.clock ≤ t → t ≤ 2 ^ 62 → given t d.device.tree ≡ None)) c.self.view_is
    (subst (λ (g : ℕ → Option Descriptor). IfNone c.ready_at.result ((t : ℕ) → c.self.inside.tree.clock ≤ t → t ≤ 2 ^ 62 → g t ≡ None))
    (λ i t. sym (given-numbers t c.self.inside.tree.tree) i)
    (subst (λ clock. IfNone c.ready_at.result ((t : ℕ) → clock ≤ t → t ≤ 2 ^ 62 → given t c.self.inside.tree.tree ≡ None)) c.clock.ensures c.ready_at.ensures.never))
