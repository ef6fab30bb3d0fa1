use Rattle.std.proofs.Common.{◌∙◌, ◌+◌, refl, arith, map}
use Rattle.q_ports.specs.Rings.{received_from}
use Rattle.q_tree.proofs.Arriving.{on-err}
use Rattle.q_ports.proofs.CollectLemmas.{collects-none, collects-then, stops-then}
use Rattle.q_ports.proofs.RingLemmas.{empty-more, ids-length}
use Rattle.q_ports.proofs.intake.Intake.empty_all.Goals as goal

pub loop-at-init : goal.loop-at-init
loop-at-init g c = record {
  rings = refl;
  all = refl;
  collected = (0, collects-none c.args.now (map received_from c.args.self.now) c.args.booked.now, λ e. refl);
  empty = λ k d a b. absurd (omega arith);
}

pub empty_at-requires : goal.empty_at-requires
empty_at-requires g c = omega (arith, ids-length c.args.self.now c.loop-at.self c.loop-at.invariant.rings, c.count-at-end.ensures.count, c.loop-at-test.true)

pub loop-at-preserved : goal.loop-at-preserved
loop-at-preserved g c =
    let inv = c.loop-at.invariant in
    let more = c.in_ok-empty_at.ensures.only in
    record {
      rings = c.empty_at.ensures.rings ∙ inv.rings;
      all = c.empty_at.ensures.all ∙ inv.all;
      collected = (
        inv.collected.0 + more.0,
        collects-then c.args.now (map received_from c.args.self.now) (map received_from c.loop-at.self) (map received_from c.empty_at.new.self)
            c.args.booked.now c.loop-at.booked c.empty_at.new.booked inv.collected.0 more.0 inv.collected.1 more.1,
        λ e. more.2 (omega (arith, e)) ∙ inv.collected.2 (omega (arith, e)),
      );
      empty = empty-more 0 c.loop-at.at c.loop-at.self c.empty_at.new.self inv.empty c.empty_at.ensures.others c.in_ok-empty_at.ensures.empty;
    }

pub returns-in_err-empty_at-clause-collected : goal.returns-in_err-empty_at-clause-collected
returns-in_err-empty_at-clause-collected g c =
    let inv = c.loop-at.invariant in
    let more = c.empty_at.ensures.collected in (
      inv.collected.0 + more.0,
      collects-then c.args.now (map received_from c.args.self.now) (map received_from c.loop-at.self) (map received_from c.empty_at.new.self)
          c.args.booked.now c.loop-at.booked c.empty_at.new.booked inv.collected.0 more.0 inv.collected.1 more.1,
    )

pub returns-in_err-empty_at-clause-stopped : goal.returns-in_err-empty_at-clause-stopped
returns-in_err-empty_at-clause-stopped g c =
    let inv = c.loop-at.invariant in
    let more = c.in_err-empty_at.ensures.stopped in
    on-err c.from_residual.result (
      inv.collected.0 + more.0,
      stops-then c.args.now (map received_from c.args.self.now) (map received_from c.loop-at.self) c.empty_at.new.self c.args.booked.now
          c.loop-at.booked c.empty_at.new.booked inv.collected.0 more.0 inv.collected.1 inv.collected.2 more.1,
    )

pub returns-clause-collected : goal.returns-clause-collected
returns-clause-collected g c = (c.loop-at.invariant.collected.0, c.loop-at.invariant.collected.1)
