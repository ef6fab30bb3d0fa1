use Rattle.std.proofs.Common.{◌∙◌, ap, ℕ}
use Rattle.q_device.specs.log.LastNoted.{with_noted}
use Rattle.q_model.specs.declared.event.Event.TheVariants.{Poll}
use Rattle.qtree_c.proofs.events.NotingLemmas.{poll-more}
use Rattle.qtree_c.proofs.events.noting.keep_polls.Goals as goal

pub loop-i-preserved : goal.loop-i-preserved
loop-i-preserved c =
    poll-more c.loop-i.i (Poll c.args.device.now.device.clock) c.args.last.now c.loop-i.last c.note.new.self c.loop-i.invariant
    (c.note.ensures ∙ ap (λ (t : ℕ). with_noted (Poll t) c.loop-i.last) c.clock.ensures)
