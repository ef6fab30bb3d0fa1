use Rattle.std.proofs.Common.{◌≡◌, Ok, OnOk, IfErr, subst}
use Rattle.q_model.specs.declared.event.Event.TheVariants as event
use Rattle.q_model.specs.declared.reply.Reply.TheVariants as reply
use Rattle.q_model.specs.Step.{step}
use Rattle.q_model.specs.Tally.{totals}
use Rattle.q_tree.specs.commands.Commanding.{MayTakeMemory}
use Rattle.q_device.specs.device.DeviceSeen.{DeviceSeen, with_event, IsRefusal}
use Rattle.q_device.specs.Events.{after_event, reply_to, with_memory}
use Rattle.q_ports.proofs.booked.Booked.command.Goals as goal

pub returns-clause-event : goal.returns-clause-event
unfolding after_event
returns-clause-event g c =
    let e = event.Command c.args.command c.args.now in
    subst (λ (d : DeviceSeen). OnOk c.command.result (c.command.new.self ≡ with_memory c.command.new.self.memory (with_event e d))) c.self.view_is c.command.ensures.event

pub returns-clause-reply : goal.returns-clause-reply
unfolding reply_to
returns-clause-reply g c =
    let e = event.Command c.args.command c.args.now in
    subst (λ (d : DeviceSeen). OnOk c.command.result (reply.Done (Ok (record {})) ≡ (step totals d.device e).reply)) c.self.view_is c.command.ensures.reply

pub returns-clause-refused : goal.returns-clause-refused
unfolding reply_to
returns-clause-refused g c =
    let e = event.Command c.args.command c.args.now in
    subst (λ (d : DeviceSeen). IfErr c.command.result (IsRefusal (MayTakeMemory c.args.command) (step totals d.device e).reply)) c.self.view_is c.command.ensures.refused
