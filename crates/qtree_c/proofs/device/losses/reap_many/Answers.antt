use Rattle.std.proofs.Common.{◌≡◌, ◌∙◌, ℕ, ◌+◌, arith, length, refl, slice_set, subst, sym}
use Rattle.qtree_c.specs.device.Folds.{IsReaps}
use Rattle.qtree_c.specs.declared.abi.c_loss.CLoss.{CLoss}
use Rattle.qtree_c.proofs.device.Reaping.{IsReaping, reaping-begins, reaping-ends, reaping-more, reaping-stops}
use Rattle.qtree_c.proofs.device.losses.reap_many.Goals as goal

pub loop-i-init : goal.loop-i-init
loop-i-init c = reaping-begins c.args.losses.now c.args.device.now

pub returns-in-None-clause-reaps : goal.returns-in-None-clause-reaps
returns-in-None-clause-reaps c =
    reaping-stops c.loop-i.i c.args.losses.now c.loop-i.losses c.args.device.now c.loop-i.device c.reap.new.self
    c.loop-i.invariant c.loop-i-test.true (sym c.in-None.is ∙ c.reap.ensures.oldest) c.reap.ensures.rest

pub loop-i-preserved : goal.loop-i-preserved
loop-i-preserved c =
    subst (λ (x : CLoss). IsReaping (c.loop-i.i + 1) c.args.losses.now (slice_set c.loop-i.losses c.loop-i.i x) c.args.device.now c.reap.new.self) (sym c.of.ensures)
    (reaping-more c.loop-i.i c.args.losses.now c.loop-i.losses c.args.device.now c.loop-i.device c.reap.new.self c.in-Some.oldest
    c.loop-i.invariant c.loop-i-test.true (sym c.in-Some.is ∙ c.reap.ensures.oldest) c.reap.ensures.rest)

pub returns-clause-reaps : goal.returns-clause-reaps
returns-clause-reaps c =
    let end : c.loop-i.i ≡ length c.args.losses.now = omega (arith, c.loop-i-test.false, c.loop-i.auto.i-end) in
    let all : c.loop-i.i ≡ length c.loop-i.losses = omega (arith, end, c.loop-i.auto.losses) in
    subst (λ (k : ℕ). IsReaps 0 k c.args.losses.now c.loop-i.losses c.args.device.now c.loop-i.device) all
    (reaping-ends c.loop-i.i (length c.args.losses.now) c.args.losses.now c.loop-i.losses c.args.device.now c.loop-i.device c.loop-i.invariant end refl)
