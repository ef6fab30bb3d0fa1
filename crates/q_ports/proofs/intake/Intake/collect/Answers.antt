use Rattle.std.proofs.Common.{◌∙◌, refl, arith, map}
use Rattle.std.proofs.lemmas.List.{length-map}
use Rattle.q_ports.specs.Collected.{take}
use Rattle.q_ports.specs.Rings.{received_from}
use Rattle.q_ports.proofs.CollectLemmas.{collects-more, collects-none, stops-here}
use Rattle.q_ports.proofs.intake.Intake.collect.Goals as goal

pub loop-taken-init : goal.loop-taken-init
loop-taken-init g c = record { rings = refl; collected = collects-none c.args.now (map received_from c.args.self.now) c.args.booked.now; first = λ e. refl }

pub loop-taken-preserved : goal.loop-taken-preserved
loop-taken-preserved g c =
    let at = c.in-Ok-Some.field-0-0 in
    let before = c.loop-taken.self in
    let ring = rw c.in-Ok-Some.field-0-is at c.in-Ok-Some.ensures.tried.ring in
    let some = rw c.in-Ok-Some.field-0-is at c.in-Ok-Some.ensures.tried.some in
    record {
      rings = c.take_next.ensures.tried.rings ∙ c.loop-taken.invariant.rings;
      collected =
          collects-more c.args.now (map received_from c.args.self.now) (map received_from before) (map received_from c.take_next.new.self)
          c.args.booked.now c.loop-taken.booked c.take_next.new.booked c.loop-taken.taken (take at some.packet)
          c.loop-taken.invariant.collected (omega (arith, ring, length-map before received_from)) some.received some.arrived some.places;
      first = λ e. absurd (omega (arith, e));
    }

pub returns-in-Err-clause-stopped : goal.returns-in-Err-clause-stopped
returns-in-Err-clause-stopped g c h =
    let inv = c.loop-taken.invariant in
    stops-here c.args.now (map received_from c.args.self.now) c.loop-taken.self c.take_next.new.self c.args.booked.now c.loop-taken.booked c.take_next.new.booked c.loop-taken.taken
    inv.collected inv.first c.in-Err.ensures.tried.err c.in-Err.ensures.tried.refused c.in-Err.ensures.tried.err_device
