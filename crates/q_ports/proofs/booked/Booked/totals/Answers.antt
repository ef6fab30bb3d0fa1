use Rattle.std.proofs.Common.{◌∙◌, ap}
use Rattle.q_model.specs.Beneath.{beneath, row_of}
use Rattle.q_device.specs.device.DeviceSeen.{DeviceSeen}
use Rattle.q_device.specs.Events.{device_row}
use Rattle.q_ports.proofs.booked.Booked.totals.Goals as goal

pub returns-clause-row : goal.returns-clause-row
unfolding device_row
returns-clause-row g c = c.totals.ensures ∙ ap (λ (d : DeviceSeen). row_of d.device.tree.top (beneath d.device.tree.root)) c.self.view_is
