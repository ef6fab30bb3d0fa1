use Rattle.std.proofs.Common.{◌∙◌, ◌-◌, arith}
use Rattle.q_device.proofs.log.LastLemmas.{last-all, last-full}
use Rattle.q_device.proofs.log.last_events.make_way.Goals as goal

pub returns-then-len-places-clause-items : goal.returns-then-len-places-clause-items
returns-then-len-places-clause-items g c = c.pop_front.ensures.rest ∙ last-full c.args.places c.args.events.now.items c.requires.some (omega (arith, c.if-len-places.true))

pub returns-else-len-places-clause-items : goal.returns-else-len-places-clause-items
returns-else-len-places-clause-items g c = last-all (c.args.places - 1) c.args.events.now.items (omega (arith, c.requires.within, c.if-len-places.false))
