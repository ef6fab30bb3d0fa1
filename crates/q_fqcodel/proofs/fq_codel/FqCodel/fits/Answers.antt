use Rattle.std.proofs.Common.{length, ap, arith}
use Rattle.std.proofs.lemmas.Bool.{ltb-true}
use Rattle.q_fqcodel.specs.FqState.{FqSettings, FqView, packets_of}
use Rattle.q_fqcodel.proofs.PutLemmas.{none_lost_within, stays_within}
use Rattle.q_fqcodel.proofs.fq_codel.FqCodel.fits.Goals as goal

pub returns-clause-none_lost : goal.returns-clause-none_lost
returns-clause-none_lost c h packet now =
    let below = ltb-true _ _ h in
    none_lost_within c.args.self.now.state packet now
    (omega (
      arith,
      below,
      c.count.ensures,
      ap (λ (v : FqView). packets_of v.state.flows) c.self.view_is,
      ap (λ (v : FqView). v.state.settings.limit)
          c.self.view_is,
      ap (λ (x : FqSettings). x.limit) c.settings.view_is,
    ))

pub returns-clause-stays : goal.returns-clause-stays
returns-clause-stays c h packet now =
    let below = ltb-true _ _ h in
    stays_within c.args.self.now.state packet now
    (omega (
      arith,
      below,
      c.count.ensures,
      ap (λ (v : FqView). packets_of v.state.flows) c.self.view_is,
      ap (λ (v : FqView). v.state.settings.limit)
          c.self.view_is,
      ap (λ (x : FqSettings). x.limit) c.settings.view_is,
    ))
    (omega (
      arith,
      c.settings.invariant.flows_low,
      c.self.invariant.0.each_flow,
      ap (λ (v : FqView). length v.state.flows) c.self.view_is,
      ap
          (λ (v : FqView). v.state.settings.flows) c.self.view_is,
      ap (λ (x : FqSettings). x.flows) c.settings.view_is,
    ))
