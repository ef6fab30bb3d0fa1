use Rattle.std.proofs.Common.{◌≡◌, ◌∙◌, ℕ, length, sym, ap, ap₂, subst, arith}
use Rattle.std.proofs.lemmas.Bool.{ltb-false}
use Rattle.q_model.specs.Step.{DeviceState}
use Rattle.q_tree.specs.Bursts.{polled_each}
use Rattle.q_tree.specs.Kept as code
use Rattle.q_tree.specs.Kept.{kept}
use Rattle.q_device.specs.declared.device.Device.TheInside.{Inside}
use Rattle.q_device.specs.device.Bursts.{AreGivenAt, after_polls}
use Rattle.q_device.specs.device.DeviceSeen.{DeviceSeen}
use Rattle.q_device.proofs.device.BurstEvents.{PollHere, poll-here}
use Rattle.q_device.proofs.device.Device.poll_burst.Given.{Over}
use Rattle.q_device.proofs.device.Device.poll_burst.Goals as goal
use Rattle.q_device.proofs.device.Device.poll_burst.Goals.{After-send_burst}

abbrev after : (g : Over) → After-send_burst g → Inside
after g c = record c.self.inside { tree = c.send_burst.new.self }

here : (g : Over) (c : After-send_burst g) → PollHere c.args.now c.send_burst.ensures.given.packets c.self.inside (after g c)
here g c =
    let a : Inside = c.self.inside in
    let gave = c.send_burst.ensures.given in
    let is : c.send_burst.new.self ≡ polled_each kept c.later-at.result (length gave.packets) a.tree = gave.polled ∙ ap (λ (n : ℕ). polled_each kept c.later-at.result n a.tree) (sym gave.counted) in
    subst (λ (x : DeviceState code.Kept). PollHere c.args.now gave.packets a (record a { tree = x })) (sym is)
    (poll-here c.args.now c.later-at.result gave.packets a c.self.invariant c.later-at.ensures c.moment_range.ensures
    (omega (arith, ltb-false (length a.recorded.items) a.settings.recorder (sym c.has_room.ensures ∙ c.if-has_room.false))) gave.given)

pub invariant_of-self : goal.invariant_of-self
invariant_of-self g c = (here g (goal.at.invariant_of-self g c).After-send_burst).keeps

pub returns-clause-given : goal.returns-clause-given
returns-clause-given g c =
    let d = (goal.at.returns-clause-given g c).After-send_burst in
    let gave = c.send_burst.ensures.given in
    record {
      packets = gave.packets;
      counted = gave.counted;
      places = gave.places;
      given = subst (λ (x : DeviceSeen). AreGivenAt c.args.now gave.packets x) c.self.view_is (here g d).given;
      polled = (here g d).seen ∙ ap₂ (λ (n : ℕ) (x : DeviceSeen). after_polls c.args.now n x) gave.counted c.self.view_is;
    }
