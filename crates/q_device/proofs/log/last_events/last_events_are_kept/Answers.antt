use Rattle.std.proofs.Common.{◌∙◌, [], ap}
use Rattle.q_device.specs.log.LastNoted.{all_noted}
use Rattle.q_device.proofs.log.LastLemmas.{all-more, ring-new}
use Rattle.q_device.proofs.log.last_events.last_events_are_kept.Goals as goal

pub returns : goal.returns
returns c = λ places es. ap (all_noted es) (ring-new places) ∙ all-more places [] es
