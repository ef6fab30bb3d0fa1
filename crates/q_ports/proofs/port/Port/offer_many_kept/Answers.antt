use Rattle.std.proofs.Common.{◌≡◌, ◌∙◌, ◌+◌, ◌-◌, length, take, drop, arith}
use Rattle.std.proofs.lemmas.List.{length-drop, length-take-le}
use Rattle.q_ports.proofs.BatchLemmas.{full-there, placed-more}
use Rattle.q_ports.proofs.port.Port.offer_many_kept.Goals as goal

pub returns-then-count-wanted-clause-placed : goal.returns-then-count-wanted-clause-placed
returns-then-count-wanted-clause-placed c =
    let a = c.loop-placed.placed in
    let one = c.place_batch-count in
    placed-more c.args.self.now c.loop-placed.self one.new.self c.args.packets.now a (a + c.min-wanted.result - a) one.result c.loop-placed.invariant.placed one.ensures.few one.ensures.placed

pub returns-then-count-wanted-clause-full : goal.returns-then-count-wanted-clause-full
returns-then-count-wanted-clause-full c h d =
    let a = c.loop-placed.placed in
    let w = c.min-wanted.result in
    let one = c.place_batch-count in
    let packets = c.args.packets.now in
    let rest = length-drop a packets in
    let long : length (take (a + w - a) (drop a packets)) ≡ w = length-take-le (a + w - a) (drop a packets) (omega (arith, rest, c.min-wanted.ensures)) ∙ omega arith in
    full-there one.new.self packets a (a + w - a) one.result d (omega (arith, c.if-count-wanted.true)) (one.ensures.full (omega (arith, long, c.if-count-wanted.true)) d)

pub loop-placed-preserved : goal.loop-placed-preserved
loop-placed-preserved c =
    let a = c.loop-placed.placed in
    let w = c.min-wanted.result in
    let one = c.place_batch-count in
    let packets = c.args.packets.now in
    let long : length (take (a + w - a) (drop a packets)) ≡ w = length-take-le (a + w - a) (drop a packets) (omega (arith, length-drop a packets, c.min-wanted.ensures)) ∙ omega arith in
    record {
      few = omega (arith, long, one.ensures.few, c.min-wanted.ensures);
      placed = placed-more c.args.self.now c.loop-placed.self one.new.self packets a (a + w - a) one.result c.loop-placed.invariant.placed one.ensures.few one.ensures.placed;
    }
