use Rattle.std.specs.Prelude.{take}
use Rattle.std.proofs.lemmas.List.{take_more}
use Rattle.qtree_c.proofs.events.NotingLemmas.{arrival-more}
use Rattle.qtree_c.proofs.events.noting.keep_arrivals.Goals as goal

pub loop-i-preserved : goal.loop-i-preserved
loop-i-preserved c =
    arrival-more c.args.device.now.device.clock (take c.loop-i.i c.args.packets.now) _ _ c.args.last.now c.loop-i.last c.keep_arrival.new.last c.loop-i.invariant
    (take_more c.args.packets.now c.loop-i.i _ c.loop-i-test.true) c.keep_arrival.ensures
