use Rattle.q_device.proofs.device.DeviceLaws.{lawful-device}
use Rattle.q_device.proofs.laws.device_is_lawful.Goals as goal

pub returns : goal.returns
returns c =
    let r = c.kept.ensures.replayed in
    lawful-device r.happened c.args.device.now r.replayed c.kept.ensures.settings r.events
