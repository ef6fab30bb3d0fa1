use Rattle.std.proofs.Common.{◌≡◌, ◌∙◌, ℕ, ap, arith, length, refl, set, subst, sym}
use Rattle.std.proofs.lemmas.List.{set-get_or}
use Rattle.q_device.specs.device.Bursts.{IsPolls}
use Rattle.q_device.specs.declared.given.Given.TheVariants as given
use Rattle.q_device.proofs.device.Device.poll_each.Goals as goal
use Rattle.q_device.proofs.device.Polling.{idle-gives_none, later-gives_none, polling-ends, polling-more, polling-stops}

pub loop-i-preserved : goal.loop-i-preserved
loop-i-preserved g c before d same so_far =
    polling-more g.T.Told.told c.loop-i.i (length before) c.args.now before c.loop-i.places d c.loop-i.self c.poll_next.new.self c.poll_next.new.place
    (c.loop-i.invariant before d same so_far) (omega (arith, same, c.loop-i-test.true, c.loop-i.auto.places)) refl (c.in-Packet.ensures.given refl) c.poll_next.ensures.polled

pub returns-in-Idle : goal.returns-in-Idle
returns-in-Idle g c before d same so_far =
    let none = c.in-Idle.ensures.none idle-gives_none in
    let back = ap (λ x. set c.loop-i.places c.loop-i.i x) none.1 ∙ set-get_or c.loop-i.places c.loop-i.i _ in
    subst (λ ps. IsPolls g.T.Told.told c.args.now given.Idle c.loop-i.i before ps d c.poll_next.new.self) (sym back)
    (polling-stops g.T.Told.told c.loop-i.i (length before) c.args.now given.Idle before c.loop-i.places d c.loop-i.self c.poll_next.new.self
    (c.loop-i.invariant before d same so_far) (omega (arith, same, c.loop-i-test.true, c.loop-i.auto.places)) refl none.0 c.poll_next.ensures.polled c.in-Idle.ensures.answer)

pub returns-in-Later : goal.returns-in-Later
returns-in-Later g c before d same so_far =
    let none = c.in-Later.ensures.none later-gives_none in
    let back = ap (λ x. set c.loop-i.places c.loop-i.i x) none.1 ∙ set-get_or c.loop-i.places c.loop-i.i _ in
    subst (λ ps. IsPolls g.T.Told.told c.args.now given.Later c.loop-i.i before ps d c.poll_next.new.self) (sym back)
    (polling-stops g.T.Told.told c.loop-i.i (length before) c.args.now given.Later before c.loop-i.places d c.loop-i.self c.poll_next.new.self
    (c.loop-i.invariant before d same so_far) (omega (arith, same, c.loop-i-test.true, c.loop-i.auto.places)) refl none.0 c.poll_next.ensures.polled c.in-Later.ensures.answer)

pub returns : goal.returns
returns g c before d same so_far =
    let all : c.loop-i.i ≡ length c.loop-i.places = omega (arith, c.loop-i-test.false, c.loop-i.auto.i-end, c.loop-i.auto.places) in
    subst (λ (k : ℕ). IsPolls g.T.Told.told c.args.now given.Packet k before c.loop-i.places d c.loop-i.self) all
    (polling-ends g.T.Told.told c.loop-i.i (length before) c.args.now before c.loop-i.places d c.loop-i.self (c.loop-i.invariant before d same so_far)
    (omega (arith, same, all, c.loop-i.auto.places)) refl)
