use Rattle.std.proofs.Common.{◌∙◌, Some, ap, subst, sym}
use Rattle.q_device.specs.device.DeviceSeen.{DeviceSeen}
use Rattle.q_device.specs.device.Turning.{IsSent}
use Rattle.q_device.specs.Waiting.{ready}
use Rattle.q_device.proofs.device.Device.send_due.Goals as goal
use Rattle.q_device.proofs.device.TurnLemmas.{sent-due, sent-early}

pub returns-then-is_early-clause-sends : goal.returns-then-is_early-clause-sends
returns-then-is_early-clause-sends g c =
    sent-early g.T.Told.told c.args.now c.clock.result c.ready_again-ready.result c.args.sent.now c.args.self.now c.ready_again-ready.new.self
    c.ready_again-ready.ensures.again c.ready_again-ready.ensures.same c.clock.ensures (sym c.if-is_early.true ∙ c.is_early.ensures)

pub returns-then-is_early-clause-again : goal.returns-then-is_early-clause-again
returns-then-is_early-clause-again g c =
    c.ready_again-ready.ensures.again ∙ ap (λ (x : DeviceSeen). ready x.device) (sym c.ready_again-ready.ensures.same)

pub returns-clause-sends : goal.returns-clause-sends
returns-clause-sends g c =
    subst (λ (x : DeviceSeen). IsSent g.T.Told.told c.args.now (Some c.poll_many-count.result.1) c.poll_many-count.result.0 c.args.sent.now c.poll_many-count.new.places c.args.self.now x)
    (sym c.ready_again-again.ensures.same)
    (sent-due g.T.Told.told c.args.now c.clock.result c.ready_again-ready.result c.poll_many-count.result.1 c.poll_many-count.result.0 c.args.sent.now
    c.poll_many-count.new.places c.args.self.now c.ready_again-ready.new.self c.poll_many-count.new.self
    c.ready_again-ready.ensures.again c.ready_again-ready.ensures.same c.clock.ensures (sym c.if-is_early.false ∙ c.is_early.ensures) c.poll_many-count.ensures)

pub returns-clause-again : goal.returns-clause-again
returns-clause-again g c =
    c.ready_again-again.ensures.again ∙ ap (λ (x : DeviceSeen). ready x.device) (sym c.ready_again-again.ensures.same)
