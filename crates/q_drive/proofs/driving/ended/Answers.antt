use Rattle.std.proofs.Common.{◌∙◌, sym, ap, subst}
use Rattle.q_device.specs.device.DeviceSeen.{DeviceSeen}
use Rattle.q_device.specs.DeviceLaws.{IsReplayed}
use Rattle.q_drive.specs.Drained.{IsDrainedIf}
use Rattle.q_drive.proofs.driving.ended.Goals as goal

pub returns-clause-arrived : goal.returns-clause-arrived
returns-clause-arrived g c =
    c.drain_if-drained.ensures.arrived
    ∙ (ap (λ (d : DeviceSeen). d.device.tree.top.arrived) c.into_device-device.ensures
    ∙ (ap (λ (d : DeviceSeen). d.device.tree.top.arrived) c.settled-settled.ensures.same.0
    ∙ (sym c.settled-settled.ensures.arrived ∙ c.settled-settled.ensures.share)))

pub returns-clause-left : goal.returns-clause-left
returns-clause-left g c = sym c.settled-settled.ensures.arrived ∙ c.settled-settled.ensures.share

pub returns-clause-left_replayed : goal.returns-clause-left_replayed
returns-clause-left_replayed g c = subst IsReplayed c.settled-settled.ensures.same.0 c.booked_is_replayed.ensures.all

pub returns-clause-drained : goal.returns-clause-drained
returns-clause-drained g c =
    subst (λ (d : DeviceSeen). IsDrainedIf c.args.until_idle d c.drain_if-drained.new.device c.drain_if-drained.result)
    (c.into_device-device.ensures ∙ c.settled-settled.ensures.same.0) c.drain_if-drained.ensures.drained
