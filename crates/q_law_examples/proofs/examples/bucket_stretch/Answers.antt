use Rattle.std.proofs.Common.{subst}
use Rattle.q_device.specs.Sharing.{BucketsAreBounded}
use Rattle.q_law_examples.proofs.RatesHold.{bounded-bucket}
use Rattle.q_law_examples.proofs.examples.bucket_stretch.Goals as goal

pub returns : goal.returns
returns c = record { bounded = bounded-bucket (subst BucketsAreBounded c.worked_settings.ensures c.bucket_stretch.ensures.bounded) }
