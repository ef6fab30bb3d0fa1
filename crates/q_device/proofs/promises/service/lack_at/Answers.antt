use Rattle.std.proofs.Common.{◌≡◌, ◌+◌, ◌*◌, ◌<◌, ◌≤◌, ℕ, rules, subst, sym, arith}
use Rattle.std.proofs.lemmas.Grind.{div_ceil_times}
use Rattle.q_device.specs.promises.Promise.{lacks_of_bytes, lack_at}
use Rattle.q_device.proofs.promises.LackNumbers.{lack-bound}
use Rattle.q_device.proofs.promises.service.lack_at.Goals as goal

pub returns-clause-bound : goal.returns-clause-bound
returns-clause-bound c =
    let s = c.args.share.now in
    let r = c.requires.share in
    let x : ℕ = c.args.lack * s.quantum + lacks_of_bytes s.classes s.quantum s.quanta c.args.mtu in
    let some : 1 ≤ s.quanta = omega (arith, r.positive, r.part) in
    let value : c.div_ceil.result ≡ lack_at c.args.mtu c.args.lack s = search rules in
    let most : c.div_ceil.result * s.quanta < x + s.quanta = subst (λ y. y * s.quanta < x + s.quanta) (sym value) (div_ceil_times x s.quanta some).1 in
    lack-bound c.args.lack s.quantum s.quanta c.args.mtu s.classes c.div_ceil.result r.part (omega (arith, c.fits-share)) r.few (omega (arith, c.ranges.mtu.fits)) some most
