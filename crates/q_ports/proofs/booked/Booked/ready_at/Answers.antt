use Rattle.std.proofs.Common.{◌≡◌, ◌<◌, ◌≤◌, ◌^◌, ℕ, subst, None}
use Rattle.std.specs.Prelude.{IfNone, IfSome}
use Rattle.q_model.specs.TreeState.{given}
use Rattle.q_device.specs.device.DeviceSeen.{DeviceSeen}
use Rattle.q_ports.proofs.booked.Booked.ready_at.Goals as goal

pub returns-clause-early : goal.returns-clause-early
returns-clause-early g c =
    subst (λ (d : DeviceSeen). IfSome c.ready_at.result (λ at. (t : ℕ) → d.device.clock ≤ t → t < at → given t d.device.tree ≡ None)) c.self.view_is
    c.ready_at.ensures.early

pub returns-clause-never : goal.returns-clause-never
returns-clause-never g c =
    subst (λ (d : DeviceSeen). IfNone c.ready_at.result ((t : ℕ) → d.device.clock ≤ t → t ≤ 2 ^ 62 → given t d.device.tree ≡ None)) c.self.view_is
    c.ready_at.ensures.never
