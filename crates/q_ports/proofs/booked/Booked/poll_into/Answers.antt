use Rattle.std.proofs.Common.{◌∙◌, ap}
use Rattle.q_model.specs.declared.event.Event.TheVariants as event
use Rattle.q_model.specs.Step.{step}
use Rattle.q_model.specs.Tally.{totals}
use Rattle.q_device.specs.device.DeviceSeen.{DeviceSeen, with_event}
use Rattle.q_device.specs.Events.{after_event, reply_to, with_memory}
use Rattle.q_ports.proofs.booked.Booked.poll_into.Goals as goal

pub returns-clause-event : goal.returns-clause-event
unfolding after_event
returns-clause-event g c =
    let e = event.Poll c.args.now in
    c.poll_into.ensures.event ∙ ap (λ (d : DeviceSeen). with_memory c.poll_into.new.self.memory (with_event e d)) c.self.view_is

pub returns-clause-reply : goal.returns-clause-reply
unfolding reply_to
returns-clause-reply g c =
    let e = event.Poll c.args.now in
    c.poll_into.ensures.reply ∙ ap (λ (d : DeviceSeen). (step totals d.device e).reply) c.self.view_is
