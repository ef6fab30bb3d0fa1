use Rattle.std.proofs.Common.{length}
use Rattle.q_device.proofs.promises.service.+part_along.Given as goal

abbrev pub decreases-part_along : goal.decreases-part_along
decreases-part_along l = length l.shares.now
