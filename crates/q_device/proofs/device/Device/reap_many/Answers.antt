use Rattle.std.proofs.Common.{◌≡◌, ◌∙◌, ℕ, ◌+◌, arith, length, slice_set, subst, sym}
use Rattle.q_device.specs.device.Reaps.{IsReaps}
use Rattle.q_device.proofs.device.Device.reap_many.Goals as goal
use Rattle.q_device.proofs.device.HandedOut.{IsReaping, reaping-begins, reaping-ends, reaping-more, reaping-stops}

pub loop-i-init : goal.loop-i-init
loop-i-init g c = reaping-begins g.L.ToldLoss.told c.args.places.now c.args.self.now

pub returns-in-None : goal.returns-in-None
returns-in-None g c =
    reaping-stops g.L.ToldLoss.told c.loop-i.i c.args.places.now c.loop-i.places c.args.self.now c.loop-i.self c.reap.new.self
    c.loop-i.invariant c.loop-i-test.true (sym c.in-None.is ∙ c.reap.ensures.oldest) c.reap.ensures.rest

pub loop-i-preserved : goal.loop-i-preserved
loop-i-preserved g c =
    subst (λ x. IsReaping g.L.ToldLoss.told (c.loop-i.i + 1) c.args.places.now (slice_set c.loop-i.places c.loop-i.i x) c.args.self.now c.reap.new.self) (sym c.tell.ensures)
    (reaping-more g.L.ToldLoss.told c.loop-i.i c.args.places.now c.loop-i.places c.args.self.now c.loop-i.self c.reap.new.self c.in-Some.lost
    c.loop-i.invariant c.loop-i-test.true (sym c.in-Some.is ∙ c.reap.ensures.oldest) c.reap.ensures.rest)

pub returns : goal.returns
returns g c =
    let end : c.loop-i.i ≡ length c.args.places.now = omega (arith, c.loop-i-test.false, c.loop-i.auto.i-end) in
    let all : c.loop-i.i ≡ length c.loop-i.places = omega (arith, end, c.loop-i.auto.places) in
    subst (λ (k : ℕ). IsReaps g.L.ToldLoss.told k c.args.places.now c.loop-i.places c.args.self.now c.loop-i.self) all
    (reaping-ends g.L.ToldLoss.told c.loop-i.i c.args.places.now c.loop-i.places c.args.self.now c.loop-i.self c.loop-i.invariant end)
