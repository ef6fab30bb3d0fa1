use Rattle.std.proofs.Common.{◌+◌, ◌-◌}
use Rattle.qtree_c.proofs.rings.Offering.{offering-more, offering-stops}
use Rattle.qtree_c.proofs.rings.offers.offer_many.Goals as goal

pub returns-then-code-ne-DONE-clause-offers : goal.returns-then-code-ne-DONE-clause-offers
returns-then-code-ne-DONE-clause-offers c =
    let at = c.loop-placed.placed in
    let one = c.offer_batch-count in
    offering-stops at (at + c.min-wanted.result - at) one.result.0 one.result.1 c.args.packets.now c.args.port.now c.loop-placed.port one.new.port
    c.loop-placed.invariant one.ensures.offers c.if-code-ne-DONE.true

pub loop-placed-preserved : goal.loop-placed-preserved
loop-placed-preserved c =
    let at = c.loop-placed.placed in
    let one = c.offer_batch-count in
    offering-more at (at + c.min-wanted.result - at) one.result.0 one.result.1 c.args.packets.now c.args.port.now c.loop-placed.port one.new.port c.loop-placed.invariant one.ensures.offers
