use Rattle.q_device.proofs.device.DeviceLaws.{of-recorded}
use Rattle.q_device.proofs.laws.device_is_replayed.Goals as goal

pub returns-clause-recorded : goal.returns-clause-recorded
returns-clause-recorded c =
    let r = c.kept.ensures.replayed in
    of-recorded r.happened c.args.device.now r.replayed c.kept.ensures.settings r.events
