use Rattle.std.proofs.Common.{◌∙◌, sym, ap}
use Rattle.q_tree.specs.answers.Lanes.{lane_to}
use Rattle.q_device.specs.device.DeviceSeen.{DeviceSeen}
use Rattle.q_device.proofs.device.Device.lane_at.Goals as goal
use Rattle.q_device.proofs.promises.WorstStands.{lane-stands}

pub returns : goal.returns
returns c =
    c.lane_to.ensures ∙ sym (lane-stands c.args.place.now c.self.inside.tree.tree.root)
    ∙ ap (λ (d : DeviceSeen). lane_to c.args.place.now d.device.tree.root) c.self.view_is
