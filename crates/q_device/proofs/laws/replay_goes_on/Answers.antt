use Rattle.q_model.specs.Tally.{history, totals}
use Rattle.q_model.specs.Replay.{nothing_yet}
use Rattle.q_device.proofs.laws.ReplayLemmas.{replay_from-append}
use Rattle.q_device.proofs.laws.replay_goes_on.Goals as goal

pub returns : goal.returns
returns c = (λ settings events e. replay_from-append history (nothing_yet history settings) events e, λ settings events e. replay_from-append totals (nothing_yet totals settings) events e)
