use Rattle.std.proofs.Common.{◌+◌, ◌-◌, ◌<◌, ℕ, length, subst, arith}
use Rattle.std.proofs.lemmas.List.{take_more}
use borrow.Rule.Slice.PartMut.{put_mid}
use Rattle.q_device.specs.device.Bursts.{IsArriving}
use Rattle.q_device.proofs.device.Arriving.{arriving-ends, arriving-more, arriving-part, arriving-starts, arriving-stops, part-within}
use Rattle.q_device.proofs.device.Device.arrive_many.Goals as goal

pub loop-done-init : goal.loop-done-init
loop-done-init g c = (arriving-starts g.A.Answer.answer c.args.now c.args.packets.now c.args.fates.now c.args.self.now, omega arith)

-- none came at once
pub returns-then-kept-eq0 : goal.returns-then-kept-eq0
returns-then-kept-eq0 g c =
    c.arrive_each.ensures c.args.fates.now c.args.self.now c.requires
    (subst (λ (i : ℕ). IsArriving g.A.Answer.answer i c.args.now c.args.packets.now c.args.fates.now (put_mid c.loop-done.done (length c.loop-done.fates - c.loop-done.done) c.loop-done.fates c.all_kept.new.fates) c.args.self.now
    c.arrive_burst-kept.new.self) (omega (arith, c.if-kept-eq0.true))
    (arriving-part g.A.Answer.answer c.loop-done.done c.arrive_burst-kept.result c.args.now c.args.packets.now c.args.fates.now c.loop-done.fates c.all_kept.new.fates
    c.args.self.now c.loop-done.self c.arrive_burst-kept.new.self c.loop-done.invariant.0 c.loop-done.invariant.1 c.arrive_burst-kept.ensures.arrived
    c.arrive_burst-kept.ensures.fates c.all_kept.ensures c.arrive_burst-kept.ensures.in_range c.arrive_burst-kept.ensures.places c.arrive_burst-kept.ensures.none))

-- all came at once
pub returns-then-done-packets : goal.returns-then-done-packets
returns-then-done-packets g c =
    arriving-ends g.A.Answer.answer (c.loop-done.done + c.arrive_burst-kept.result) c.args.now c.args.packets.now c.args.fates.now
    (put_mid c.loop-done.done (length c.loop-done.fates - c.loop-done.done) c.loop-done.fates c.all_kept.new.fates) c.args.self.now c.arrive_burst-kept.new.self
    (arriving-part g.A.Answer.answer c.loop-done.done c.arrive_burst-kept.result c.args.now c.args.packets.now c.args.fates.now c.loop-done.fates c.all_kept.new.fates
    c.args.self.now c.loop-done.self c.arrive_burst-kept.new.self c.loop-done.invariant.0 c.loop-done.invariant.1 c.arrive_burst-kept.ensures.arrived
    c.arrive_burst-kept.ensures.fates c.all_kept.ensures c.arrive_burst-kept.ensures.in_range c.arrive_burst-kept.ensures.places c.arrive_burst-kept.ensures.none)
    (omega (arith, c.if-done-packets.true))

-- the next one did not arrive
pub returns-in-Err : goal.returns-in-Err
returns-in-Err g c =
    arriving-stops g.A.Answer.answer (c.loop-done.done + c.arrive_burst-kept.result) c.args.now c.in-Err.why c.args.packets.now c.args.fates.now
    (put_mid c.loop-done.done (length c.loop-done.fates - c.loop-done.done) c.loop-done.fates c.all_kept.new.fates) c.args.self.now c.arrive_burst-kept.new.self c.arrive_next.new.self _
    (arriving-part g.A.Answer.answer c.loop-done.done c.arrive_burst-kept.result c.args.now c.args.packets.now c.args.fates.now c.loop-done.fates c.all_kept.new.fates
    c.args.self.now c.loop-done.self c.arrive_burst-kept.new.self c.loop-done.invariant.0 c.loop-done.invariant.1 c.arrive_burst-kept.ensures.arrived
    c.arrive_burst-kept.ensures.fates c.all_kept.ensures c.arrive_burst-kept.ensures.in_range c.arrive_burst-kept.ensures.places c.arrive_burst-kept.ensures.none)
    (omega (arith, c.if-done-packets.false, part-within c.loop-done.done c.arrive_burst-kept.result c.args.packets.now c.arrive_burst-kept.ensures.most c.loop-done.invariant.1))
    c.in-Err.ensures.stops c.arrive_next.ensures.places

-- it did
pub loop-done-preserved : goal.loop-done-preserved
loop-done-preserved g c =
    let i : ℕ = c.loop-done.done + c.arrive_burst-kept.result in
    let lt : i < length c.args.packets.now = omega (arith, c.if-done-packets.false, part-within c.loop-done.done c.arrive_burst-kept.result c.args.packets.now c.arrive_burst-kept.ensures.most c.loop-done.invariant.1) in (
      arriving-more g.A.Answer.answer i c.args.now c.args.packets.now c.args.fates.now
          (put_mid c.loop-done.done (length c.loop-done.fates - c.loop-done.done) c.loop-done.fates c.all_kept.new.fates) c.args.self.now c.arrive_burst-kept.new.self c.arrive_next.new.self _ c.in-Ok.fate c.of.result
          (arriving-part g.A.Answer.answer c.loop-done.done c.arrive_burst-kept.result c.args.now c.args.packets.now c.args.fates.now c.loop-done.fates c.all_kept.new.fates
          c.args.self.now c.loop-done.self c.arrive_burst-kept.new.self c.loop-done.invariant.0 c.loop-done.invariant.1 c.arrive_burst-kept.ensures.arrived
          c.arrive_burst-kept.ensures.fates c.all_kept.ensures c.arrive_burst-kept.ensures.in_range c.arrive_burst-kept.ensures.places c.arrive_burst-kept.ensures.none)
          lt c.requires (take_more c.args.packets.now i _ lt) c.in-Ok.ensures.event c.in-Ok.ensures.fate c.in-Ok.ensures.in_range c.arrive_next.ensures.places c.of.ensures,
      omega (arith, lt),
    )
