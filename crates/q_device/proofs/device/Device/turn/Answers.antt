use Rattle.q_device.proofs.device.Device.turn.Goals as goal
use Rattle.q_device.proofs.device.TurnLemmas.{turn-is}

pub returns : goal.returns
returns g c =
    turn-is g.T.Told.told g.L.ToldLoss.told c.args.now c.send_due-polled.result.sent c.reap_many-reaped.result c.send_due-polled.result.answer c.send_due-polled.result.again
    c.args.sent.now c.send_due-polled.new.sent c.args.lost.now c.reap_many-reaped.new.places c.args.self.now c.send_due-polled.new.self c.reap_many-reaped.new.self
    c.send_due-polled.ensures.sends c.send_due-polled.ensures.again c.reap_many-reaped.ensures
