use Rattle.q_device.proofs.device.BufferLemmas.{no-more-is-held}
use Rattle.q_device.proofs.buffers.no_more_is_held.Goals as goal

pub returns : goal.returns
returns c = no-more-is-held c.args.settings c.ranges-2.ensures
