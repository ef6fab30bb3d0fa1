use Rattle.q_device.proofs.waiting.WaitingLemmas.{early-polls}
use Rattle.q_device.proofs.laws.early_polls_give_nothing.Goals as goal

pub returns : goal.returns
returns c = early-polls c.args.device.now c.kept.ensures.replayed c.kept.ensures.settings
