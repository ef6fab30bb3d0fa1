use Rattle.std.proofs.Common.{◌≡◌, ◌∙◌, ◌<◌, refl, ap, arith, length, map, List}
use Rattle.std.proofs.lemmas.List.{length-map}
use Rattle.q_packet.specs.Descriptor.{Descriptor}
use Rattle.q_ports.specs.Collected.{take}
use Rattle.q_ports.specs.Rings.{RingSeen, received_from}
use Rattle.q_tree.proofs.Arriving.{on-err}
use Rattle.q_ports.proofs.CollectLemmas.{collects-more, collects-none, stops-here}
use Rattle.q_ports.proofs.RingLemmas.{ids-length, receives-all, receives-ids, receives-known, receives-others, receives-received}
use Rattle.q_ports.proofs.intake.Intake.empty_at.Goals as goal

pub loop-left-init : goal.loop-left-init
loop-left-init g c = record {
  rings = refl;
  all = refl;
  others = λ k d other. refl;
  left = λ d. omega arith;
  collected = collects-none c.args.now (map received_from c.args.self.now) c.args.booked.now;
  same = λ e. refl;
}

pub take_known-requires : goal.take_known-requires
take_known-requires g c = record {
  at = omega (arith, ids-length c.args.self.now c.loop-left.self c.loop-left.invariant.rings, c.requires);
  known = λ d. let left = c.loop-left.invariant.left d in let all = c.known-left-end.ensures d in omega (arith, left, all, c.loop-left-test.true);
}

pub loop-left-preserved : goal.loop-left-preserved
loop-left-preserved g c =
    let before = c.loop-left.self in
    let after = c.take_known.new.self in
    let p = c.in_ok-take_known.ensures.taken.packet in
    let taken = c.in_ok-take_known.ensures.taken.receives in
    let inv = c.loop-left.invariant in
    let here : c.args.at < length before = omega (arith, ids-length c.args.self.now before inv.rings, c.requires) in
    record {
      rings = receives-ids c.args.at before after p taken ∙ inv.rings;
      all = receives-all c.args.at before after p taken ∙ inv.all;
      others = λ k d other. receives-others c.args.at before after p taken k d other ∙ inv.others k d other;
      left = λ d. let one = ap (λ (ks : List Descriptor). length ks) (receives-known c.args.at before after p taken here d) in omega (arith, one, inv.left d);
      collected =
          collects-more c.args.now (map received_from c.args.self.now) (map received_from before) (map received_from after) c.args.booked.now
          c.loop-left.booked c.take_known.new.booked c.loop-left._left (take c.args.at p)
          inv.collected (omega (arith, here, length-map before received_from)) (receives-received c.args.at before after p taken here)
          c.in_ok-take_known.ensures.taken.arrived c.in_ok-take_known.ensures.taken.places;
      same = λ e. absurd (omega (arith, e));
    }

pub returns-in_err-take_known-clause-stopped : goal.returns-in_err-take_known-clause-stopped
returns-in_err-take_known-clause-stopped g c =
    let inv = c.loop-left.invariant in
    let same : map received_from c.take_known.new.self ≡ map received_from c.loop-left.self = ap (λ (xs : List RingSeen). map received_from xs) c.in_err-take_known.ensures.same in
    on-err c.from_residual.result (
      c.loop-left._left,
      stops-here c.args.now (map received_from c.args.self.now) c.loop-left.self c.take_known.new.self c.args.booked.now c.loop-left.booked c.take_known.new.booked c.loop-left._left
          inv.collected inv.same same c.in_err-take_known.ensures.refused c.in_err-take_known.ensures.same_device,
    )
