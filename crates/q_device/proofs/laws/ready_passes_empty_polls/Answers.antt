use Rattle.q_device.proofs.waiting.WaitingLemmas.{empty-polls}
use Rattle.q_device.proofs.laws.ready_passes_empty_polls.Goals as goal

pub returns : goal.returns
returns c = empty-polls c.args.device.now c.kept.ensures.replayed c.kept.ensures.settings
