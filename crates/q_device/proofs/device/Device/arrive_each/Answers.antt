use Rattle.std.proofs.Common.{◌≡◌, ℕ, None, length, subst, arith}
use Rattle.std.proofs.lemmas.List.{take_more}
use Rattle.q_device.specs.device.Bursts.{IsArrivals}
use Rattle.q_device.proofs.device.Arriving.{arriving-ends, arriving-more, arriving-stops}
use Rattle.q_device.proofs.device.Device.arrive_each.Goals as goal

pub returns-in-Err : goal.returns-in-Err
returns-in-Err g c before d room so_far =
    arriving-stops g.A.Answer.answer c.loop-i.i c.args.now c.in-Err.why c.args.packets.now before c.loop-i.fates d c.loop-i.self c.arrive_next.new.self _
    (c.loop-i.invariant before d room so_far) c.loop-i-test.true c.in-Err.ensures.stops c.arrive_next.ensures.places

pub loop-i-preserved : goal.loop-i-preserved
loop-i-preserved g c before d room so_far =
    arriving-more g.A.Answer.answer c.loop-i.i c.args.now c.args.packets.now before c.loop-i.fates d c.loop-i.self
    c.arrive_next.new.self _ c.in-Ok.fate c.of.result
    (c.loop-i.invariant before d room so_far) c.loop-i-test.true room (take_more c.args.packets.now c.loop-i.i _ c.loop-i-test.true) c.in-Ok.ensures.event c.in-Ok.ensures.fate
    c.in-Ok.ensures.in_range c.arrive_next.ensures.places c.of.ensures

pub returns : goal.returns
returns g c before d room so_far =
    let end : c.loop-i.i ≡ length c.args.packets.now = omega (arith, c.loop-i-test.false, c.loop-i.auto.i-end) in
    subst (λ (k : ℕ). IsArrivals g.A.Answer.answer c.args.now c.args.packets.now None k before c.loop-i.fates d c.loop-i.self) end
    (arriving-ends g.A.Answer.answer c.loop-i.i c.args.now c.args.packets.now before c.loop-i.fates d c.loop-i.self (c.loop-i.invariant before d room so_far) end)
