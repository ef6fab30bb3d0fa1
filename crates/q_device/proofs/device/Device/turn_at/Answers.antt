use Rattle.std.proofs.Common.{◌∙◌, sym, ap}
use Rattle.q_tree.specs.answers.Turns.{turn_to}
use Rattle.q_device.specs.device.DeviceSeen.{DeviceSeen}
use Rattle.q_device.proofs.device.Device.turn_at.Goals as goal
use Rattle.q_device.proofs.promises.WorstStands.{turn-stands}

pub returns-clause-value : goal.returns-clause-value
returns-clause-value c =
    c.turn_to.ensures.value ∙ sym (turn-stands c.args.place.now c.self.inside.tree.tree.root)
    ∙ ap (λ (d : DeviceSeen). turn_to c.args.place.now d.device.tree.root) c.self.view_is
