use Rattle.std.proofs.Common.{◌∙◌, ◌+◌, ◌∷◌, [], List, drop, length, sym, ap, subst, arith}
use Rattle.std.proofs.lemmas.List.{drop_all, length-append}
use Rattle.q_model.specs.declared.event.Event.{Event}
use Rattle.q_model.specs.declared.reply.Reply.{Reply}
use Rattle.q_model.specs.Replay.{Replay, replay_from}
use Rattle.q_model.specs.Step.{step}
use Rattle.q_model.specs.Tally.{Counts, totals}
use Rattle.q_device.specs.device.DeviceSeen.{DeviceSeen}
use Rattle.q_device.proofs.laws.ShrinkLemmas.{replay-shrunk}
use Rattle.q_device.proofs.log.PlayLemmas.{IsStep, played-on}
use Rattle.q_device.proofs.log.playing.play.Goals as goal
use Rattle.q_device.proofs.log.playing.play.Goals.{in-Arrive+in_ok-arrive-in-Arrive, in-Poll, in-Command+in_ok-command_done-in-Command}

pub loop-event-preserved : goal.loop-event-preserved
loop-event-preserved c =
    let e = c.event-item.result in
    let d = c.loop-event.device in
    let new = c.match-event.device in
    let items = c.push_reserved.ensures.items in
    let h : IsStep (step totals d.device e) d.waiting new.device c.match-event.reply new.waiting = elim c.match-event.branch [
      | in-Arrive+in_ok-arrive-in-Arrive w ↦
          let told = w.in_ok-arrive-in-Arrive.ensures in
          subst (λ (x : Event). IsStep (step totals d.device x) d.waiting new.device c.match-event.reply new.waiting) (sym w.in-Arrive.is) (record {
            device_is = ap (λ (x : DeviceSeen). x.device) w.device-is ∙ told.device;
            reply_is = w.reply-is ∙ told.reply;
            losses_is = ap (λ (x : DeviceSeen). x.waiting) w.device-is ∙ told.losses;
          })
      | in-Poll w ↦
          let is = w.device-is ∙ w.poll.ensures.event in
          subst (λ (x : Event). IsStep (step totals d.device x) d.waiting new.device c.match-event.reply new.waiting) (sym w.in-Poll.is) (record {
            device_is = ap (λ (x : DeviceSeen). x.device) is;
            reply_is = w.reply-is ∙ w.poll.ensures.reply;
            losses_is = ap (λ (x : DeviceSeen). x.waiting) is;
          })
      | in-Command+in_ok-command_done-in-Command w ↦
          let told = w.in_ok-command_done-in-Command.ensures in
          subst (λ (x : Event). IsStep (step totals d.device x) d.waiting new.device c.match-event.reply new.waiting) (sym w.in-Command.is) (record {
            device_is = ap (λ (x : DeviceSeen). x.device) w.device-is ∙ told.device;
            reply_is = w.reply-is ∙ told.reply;
            losses_is = ap (λ (x : DeviceSeen). x.waiting) w.device-is ∙ told.losses;
          })
    ] in
    record {
      so_far =
          ap (λ (rs : List Reply). replay_from totals (record { device = new.device; replies = rs; losses = new.waiting }) (drop (c.loop-event.event-index + 1) c.args.events.now)) items
          ∙ played-on (record { device = d.device; replies = c.loop-event.replies.items; losses = d.waiting }) c.args.events.now
          c.loop-event.event-index e c.loop-event-test.true c.event-item.is _ c.loop-event.invariant.so_far new.device c.match-event.reply
          new.waiting h;
      each = omega (arith, ap (λ (rs : List Reply). length rs) items, length-append c.loop-event.replies.items (c.match-event.reply ∷ []), c.loop-event.invariant.each);
      room = omega (arith, c.push_reserved.ensures.capacity, c.loop-event.invariant.room);
    }

pub returns-clause-histories : goal.returns-clause-histories
returns-clause-histories c =
    let events = c.args.events.now in
    let all = ap (λ (es : List Event). (replay_from totals (record { device = c.loop-event.device.device; replies = c.loop-event.replies.items; losses = c.loop-event.device.waiting }) es).replies)
    (sym (drop_all c.loop-event.event-index events (omega (arith, c.loop-event-test.false)))) in
    all ∙ ap (λ (r : Replay Counts). r.replies) c.loop-event.invariant.so_far ∙ sym (replay-shrunk c.args.settings events).replies
