use Rattle.std.proofs.Common.{◌-◌, length}
use Rattle.qtree_c.proofs.rings.Offering.{IsOffering}
use Rattle.qtree_c.proofs.rings.offers.offer_many.Given as goal

abbrev pub invariant-loop-placed : goal.invariant-loop-placed
invariant-loop-placed l = IsOffering l.placed l.packets l.initial.port l.port

abbrev pub decreases-loop-placed : goal.decreases-loop-placed
decreases-loop-placed l = length l.packets - l.placed
