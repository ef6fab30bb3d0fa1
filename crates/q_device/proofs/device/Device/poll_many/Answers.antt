use Rattle.std.proofs.Common.{◌+◌, ◌-◌, ◌<◌, ◌≤◌, ◌∙◌, ℕ, ap, arith, length, length-set, refl, set, subst, sym}
use Rattle.std.proofs.lemmas.List.{set-get_or}
use borrow.Rule.Slice.PartMut.{put_mid}
use Rattle.q_device.specs.device.Bursts.{IsPolling, IsPolls}
use Rattle.q_device.specs.declared.given.Given.TheVariants as given
use Rattle.q_device.proofs.device.Arriving.{part-within}
use Rattle.q_device.proofs.device.Device.poll_many.Goals as goal
use Rattle.q_device.proofs.device.Polling.{idle-gives_none, later-gives_none, polling-ends, polling-long, polling-more, polling-part, polling-starts, polling-stops}

pub loop-done-init : goal.loop-done-init
loop-done-init g c = (polling-starts g.T.Told.told (length c.args.places.now) c.args.now c.args.places.now c.args.self.now, omega arith, refl)

pub returns-then-done-places : goal.returns-then-done-places
returns-then-done-places g c =
    let i : ℕ = c.loop-done.done + c.poll_burst-given.result in
    let n : ℕ = length c.args.places.now in
    let few : i ≤ n = omega (arith, part-within c.loop-done.done c.poll_burst-given.result c.loop-done.places c.poll_burst-given.ensures.most (omega (arith, c.loop-done.invariant.1, c.loop-done.invariant.2)), c.loop-done.invariant.2) in
    let after = put_mid c.loop-done.done (length c.loop-done.places - c.loop-done.done) c.loop-done.places c.poll_burst-given.new.places in
    let so_far : IsPolling g.T.Told.told i n c.args.now c.args.places.now after c.args.self.now c.poll_burst-given.new.self =
    polling-part g.T.Told.told c.loop-done.done c.poll_burst-given.result n c.args.now c.args.places.now c.loop-done.places c.poll_burst-given.new.places
    c.args.self.now c.loop-done.self c.poll_burst-given.new.self c.loop-done.invariant.0 c.poll_burst-given.ensures.given few c.loop-done.invariant.2 in
    let long = polling-long g.T.Told.told i n c.args.now c.args.places.now after c.args.self.now c.poll_burst-given.new.self so_far refl few in
    polling-ends g.T.Told.told i n c.args.now c.args.places.now after c.args.self.now c.poll_burst-given.new.self so_far (omega (arith, long, c.if-done-places.true)) refl

pub loop-done-preserved : goal.loop-done-preserved
loop-done-preserved g c =
    let i : ℕ = c.loop-done.done + c.poll_burst-given.result in
    let n : ℕ = length c.args.places.now in
    let few : i ≤ n = omega (arith, part-within c.loop-done.done c.poll_burst-given.result c.loop-done.places c.poll_burst-given.ensures.most (omega (arith, c.loop-done.invariant.1, c.loop-done.invariant.2)), c.loop-done.invariant.2) in
    let after = put_mid c.loop-done.done (length c.loop-done.places - c.loop-done.done) c.loop-done.places c.poll_burst-given.new.places in
    let so_far : IsPolling g.T.Told.told i n c.args.now c.args.places.now after c.args.self.now c.poll_burst-given.new.self =
    polling-part g.T.Told.told c.loop-done.done c.poll_burst-given.result n c.args.now c.args.places.now c.loop-done.places c.poll_burst-given.new.places
    c.args.self.now c.loop-done.self c.poll_burst-given.new.self c.loop-done.invariant.0 c.poll_burst-given.ensures.given few c.loop-done.invariant.2 in
    let long = polling-long g.T.Told.told i n c.args.now c.args.places.now after c.args.self.now c.poll_burst-given.new.self so_far refl few in
    let lt : i < n = omega (arith, few, long, c.if-done-places.false) in (
      polling-more g.T.Told.told i n c.args.now c.args.places.now after c.args.self.now c.poll_burst-given.new.self c.poll_next.new.self c.poll_next.new.place
          so_far lt refl (c.in-Packet.ensures.given refl) c.poll_next.ensures.polled,
      omega (arith, lt),
      length-set after i c.poll_next.new.place ∙ long,
    )

pub returns-in-Idle : goal.returns-in-Idle
returns-in-Idle g c =
    let i : ℕ = c.loop-done.done + c.poll_burst-given.result in
    let n : ℕ = length c.args.places.now in
    let few : i ≤ n = omega (arith, part-within c.loop-done.done c.poll_burst-given.result c.loop-done.places c.poll_burst-given.ensures.most (omega (arith, c.loop-done.invariant.1, c.loop-done.invariant.2)), c.loop-done.invariant.2) in
    let after = put_mid c.loop-done.done (length c.loop-done.places - c.loop-done.done) c.loop-done.places c.poll_burst-given.new.places in
    let so_far : IsPolling g.T.Told.told i n c.args.now c.args.places.now after c.args.self.now c.poll_burst-given.new.self =
    polling-part g.T.Told.told c.loop-done.done c.poll_burst-given.result n c.args.now c.args.places.now c.loop-done.places c.poll_burst-given.new.places
    c.args.self.now c.loop-done.self c.poll_burst-given.new.self c.loop-done.invariant.0 c.poll_burst-given.ensures.given few c.loop-done.invariant.2 in
    let long = polling-long g.T.Told.told i n c.args.now c.args.places.now after c.args.self.now c.poll_burst-given.new.self so_far refl few in
    let none = c.in-Idle.ensures.none idle-gives_none in
    let back = ap (λ x. set after i x) none.1 ∙ set-get_or after i _ in
    subst (λ ps. IsPolls g.T.Told.told c.args.now given.Idle i c.args.places.now ps c.args.self.now c.poll_next.new.self) (sym back)
    (polling-stops g.T.Told.told i n c.args.now given.Idle c.args.places.now after c.args.self.now c.poll_burst-given.new.self c.poll_next.new.self
    so_far (omega (arith, few, long, c.if-done-places.false)) refl none.0 c.poll_next.ensures.polled c.in-Idle.ensures.answer)

pub returns-in-Later : goal.returns-in-Later
returns-in-Later g c =
    let i : ℕ = c.loop-done.done + c.poll_burst-given.result in
    let n : ℕ = length c.args.places.now in
    let few : i ≤ n = omega (arith, part-within c.loop-done.done c.poll_burst-given.result c.loop-done.places c.poll_burst-given.ensures.most (omega (arith, c.loop-done.invariant.1, c.loop-done.invariant.2)), c.loop-done.invariant.2) in
    let after = put_mid c.loop-done.done (length c.loop-done.places - c.loop-done.done) c.loop-done.places c.poll_burst-given.new.places in
    let so_far : IsPolling g.T.Told.told i n c.args.now c.args.places.now after c.args.self.now c.poll_burst-given.new.self =
    polling-part g.T.Told.told c.loop-done.done c.poll_burst-given.result n c.args.now c.args.places.now c.loop-done.places c.poll_burst-given.new.places
    c.args.self.now c.loop-done.self c.poll_burst-given.new.self c.loop-done.invariant.0 c.poll_burst-given.ensures.given few c.loop-done.invariant.2 in
    let long = polling-long g.T.Told.told i n c.args.now c.args.places.now after c.args.self.now c.poll_burst-given.new.self so_far refl few in
    let none = c.in-Later.ensures.none later-gives_none in
    let back = ap (λ x. set after i x) none.1 ∙ set-get_or after i _ in
    subst (λ ps. IsPolls g.T.Told.told c.args.now given.Later i c.args.places.now ps c.args.self.now c.poll_next.new.self) (sym back)
    (polling-stops g.T.Told.told i n c.args.now given.Later c.args.places.now after c.args.self.now c.poll_burst-given.new.self c.poll_next.new.self
    so_far (omega (arith, few, long, c.if-done-places.false)) refl none.0 c.poll_next.ensures.polled c.in-Later.ensures.answer)
