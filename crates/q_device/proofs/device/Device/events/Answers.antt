use Rattle.std.proofs.Common.{ap, arith}
use Rattle.q_model.specs.declared.row.Row.{Row}
use Rattle.q_device.specs.device.DeviceSeen.{DeviceSeen}
use Rattle.q_device.proofs.device.Device.events.Goals as goal

pub returns : goal.returns
returns c =
    omega (
      arith,
      c.saturating_add.ensures,
      c.saturating_add-2.ensures,
      ap (λ (r : Row). r.arrived.packets) c.totals-row.ensures,
      ap (λ (r : Row). r.sent.packets) c.totals-row.ensures,
      ap (λ (d : DeviceSeen). d.device.tree.top.arrived.packets) c.self.view_is,
      ap (λ (d : DeviceSeen). d.device.tree.top.sent.packets) c.self.view_is,
      ap (λ (d : DeviceSeen). d.events) c.self.view_is,
    )
