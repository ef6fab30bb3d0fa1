use Rattle.std.proofs.Common.{◌∙◌, refl, arith}
use Rattle.q_ports.proofs.RingLemmas.{ids-length, same-more, empty-more}
use Rattle.q_ports.proofs.intake.Intake.take_within.Goals as goal

pub loop-at-init : goal.loop-at-init
loop-at-init g c = record { rings = refl; others = λ k d h. refl; received = refl; empty = λ k d a b. absurd (omega arith); device = refl }

pub take_at-requires : goal.take_at-requires
take_at-requires g c = record { at = omega (arith, ids-length c.args.self.now c.loop-at.self c.loop-at.invariant.rings) }

pub loop-at-preserved : goal.loop-at-preserved
loop-at-preserved g c =
    let before = c.loop-at.invariant in
    let none = c.in_ok-is_taken.ensures.none c.if-is_taken.false in
    let empty = c.in_ok-is_taken.ensures.empty c.if-is_taken.false in
    let device = c.in_ok-is_taken.ensures.none_device c.if-is_taken.false in
    record {
      rings = c.take_at.ensures.rings ∙ before.rings;
      others = same-more c.args.to c.loop-at.at c.args.self.now c.loop-at.self c.take_at.new.self c.loop-at-test.true before.others c.take_at.ensures.others;
      received = none ∙ before.received;
      empty = empty-more c.args.from c.loop-at.at c.loop-at.self c.take_at.new.self before.empty c.take_at.ensures.others empty;
      device = device ∙ before.device;
    }
