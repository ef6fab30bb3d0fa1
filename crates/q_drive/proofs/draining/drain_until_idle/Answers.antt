use Rattle.std.proofs.Common.{◌≡◌, ◌∙◌, Some, [], ◌∷◌, ◌++◌, arith, sym, subst}
use Rattle.q_device.specs.device.DeviceSeen.{DeviceSeen}
use Rattle.q_device.specs.Waiting.{ready}
use Rattle.q_drive.specs.Drained.{IsPolledWhenReady}
use Rattle.q_drive.proofs.DrainLemmas.{polls-more}
use Rattle.q_drive.proofs.draining.drain_until_idle.Goals as goal

pub loop-at-preserved : goal.loop-at-preserved
loop-at-preserved c =
    let first = c.args.device.now in
    let d = c.loop-at.device in
    let at = c.in-Some.at in
    let so_far = c.loop-at.invariant in
    let poll = c.poll_when_ready.ensures in
    let moments = so_far.polls.0 in
    let is : ready d.device ≡ Some at = sym c.ready_at.ensures.value ∙ c.in-Some.is in
    record {
      polls = (moments ++ at ∷ [], subst (λ (x : DeviceSeen). IsPolledWhenReady (moments ++ at ∷ []) first x) (sym poll.polled) (polls-more moments first d at so_far.polls.1 is));
      arrived = poll.arrived ∙ so_far.arrived;
      packets = omega (arith, so_far.packets, poll.counters.sent.packets);
      bytes = omega (arith, so_far.bytes, poll.counters.sent.bytes);
    }
