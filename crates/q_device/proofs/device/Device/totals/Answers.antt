use Rattle.std.proofs.Common.{sym, ap, ◌∙◌}
use Rattle.q_model.specs.Beneath.{beneath, row_of}
use Rattle.q_device.specs.device.DeviceSeen.{DeviceSeen}
use Rattle.q_device.proofs.device.Device.totals.Goals as goal
use Rattle.q_device.proofs.device.EventLemmas.{waits-numbers}

pub returns : goal.returns
returns c =
    c.totals.ensures
    ∙ ap (row_of c.self.inside.tree.tree.top.counts) (sym (waits-numbers c.self.inside.tree))
    ∙ ap (λ (d : DeviceSeen). row_of d.device.tree.top (beneath d.device.tree.root)) c.self.view_is
