use Rattle.std.proofs.Common.{◌∙◌, ap, ℕ}
use Rattle.q_device.specs.log.LastNoted.{with_noted}
use Rattle.q_model.specs.declared.event.Event.TheVariants.{Poll}
use Rattle.qtree_c.proofs.events.NotingLemmas.{poll-more}
use Rattle.qtree_c.proofs.events.noting.keep_polls_to_none.Goals as goal

pub returns : goal.returns
returns c =
    poll-more c.args.given (Poll c.args.device.now.device.clock) c.args.last.now c.keep_polls.new.last c.note.new.self c.keep_polls.ensures
    (c.note.ensures ∙ ap (λ (t : ℕ). with_noted (Poll t) c.keep_polls.new.last) c.clock.ensures)
