use Rattle.q_device.proofs.device.DeviceLaws.{tells-losses}
use Rattle.q_device.proofs.laws.device_tells_its_losses.Goals as goal

pub returns : goal.returns
returns c =
    let r = c.kept.ensures.replayed in
    tells-losses r.happened c.args.device.now r.replayed c.kept.ensures.settings r.events
