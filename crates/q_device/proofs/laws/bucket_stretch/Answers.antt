use Rattle.q_device.proofs.laws.BucketStretches.{buckets-bounded}
use Rattle.q_device.proofs.laws.bucket_stretch.Goals as goal

pub returns : goal.returns
returns c = record { bounded = buckets-bounded c.args.settings c.ranges-2.ensures }
