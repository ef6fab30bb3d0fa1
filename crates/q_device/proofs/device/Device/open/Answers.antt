use Rattle.std.proofs.Common.{◌∙◌, refl, ap, subst, arith}
use Rattle.q_model.specs.Settings.{DeviceSettings, IsInRange}
use Rattle.q_model.specs.Step.{new_device}
use Rattle.q_model.specs.Tally.{totals}
use Rattle.q_device.proofs.device.Device.open.Goals as goal
use Rattle.q_device.proofs.device.KeptLemmas.{new-kept}

pub invariant_of-result : goal.invariant_of-result
invariant_of-result c =
    let tree = c.new.ensures ∙ ap (λ (s : DeviceSettings). new_device totals s) c.settings.view_is in
    new-kept _ (subst IsInRange c.settings.view_is c.settings.invariant)
    tree
    c.new-2.ensures refl c.in_ok-with_capacity.ensures.items refl refl
    (omega (arith, c.in_ok-with_capacity.ensures.capacity, ap (λ (s : DeviceSettings). s.recorder) c.settings.view_is))
