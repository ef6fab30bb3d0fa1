use Rattle.std.proofs.Common.{◌∙◌, set, ap, arith}
use Rattle.q_model.specs.declared.fate.Fate.TheVariants.{Kept}
use Rattle.q_device.proofs.device.PlaceLemmas.{same-more}
use Rattle.q_device.proofs.bursts.all_kept.Goals as goal

pub loop-i-preserved : goal.loop-i-preserved
loop-i-preserved g c =
    ap (λ xs. set xs c.loop-i.i c.of.result) c.loop-i.invariant
    ∙ same-more c.loop-i.i (g.A.Answer.answer Kept) c.of.result c.args.fates.now (omega (arith, c.loop-i-test.true, c.requires)) c.of.ensures
