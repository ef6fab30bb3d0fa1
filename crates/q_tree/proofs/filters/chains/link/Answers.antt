use Rattle.std.proofs.Common.{rules, ◌≡◌, ◌∙◌, ◌-◌, suc, ap, arith, length, refl, slice_get, slice_index_or, Some, subst, sym, ◌<◌}
use Rattle.std.proofs.lemmas.Option.{slice_get-get_or}
use Rattle.q_tree.specs.filters.ChainsSeen.{AreFirsts, AreNexts}
use Rattle.q_tree.proofs.filters.ChainsLemmas.{firsts-more, firsts-none, nexts-more, nexts-none}
use Rattle.q_tree.proofs.filters.chains.link.Goals as goal

pub loop-place-init : goal.loop-place-init
loop-place-init c = record {
  within = omega arith;
  firsts = firsts-none c.args.homes.now c.args.firsts.now (length c.args.firsts.now) c.requires.nobody;
  nexts = nexts-none c.args.homes.now c.args.nexts.now;
  same_firsts = refl;
  same_nexts = refl;
}

pub loop-place-preserved : goal.loop-place-preserved
loop-place-preserved c =
    let homes = c.args.homes.now in
    let k = c.loop-place.place in
    let kept = c.loop-place.invariant in
    let positive : 0 < k = c.loop-place-test.true in
    let here : k ≡ suc (k - 1) = omega (arith, positive) in
    let inside : k - 1 < length homes = omega (arith, positive, kept.within) in
    let is : slice_get homes (k - 1) ≡ Some c.from-home.result = slice_get-get_or homes (k - 1) 0 inside ∙ ap Some (sym c.from-home.ensures) in
    let front : AreFirsts homes (suc (k - 1)) c.loop-place.firsts = subst (λ n. AreFirsts homes n c.loop-place.firsts) here kept.firsts in
    let behind : AreNexts homes (suc (k - 1)) c.loop-place.nexts = subst (λ n. AreNexts homes n c.loop-place.nexts) here kept.nexts in
    let known : c.from-home.result < length c.loop-place.firsts = omega (arith, c.requires.known (k - 1) c.from-home.result is, kept.same_firsts) in
    record {
      within = omega (arith, kept.within);
      firsts = firsts-more homes c.loop-place.firsts (k - 1) c.from-home.result is front;
      nexts = nexts-more homes c.loop-place.firsts c.loop-place.nexts (k - 1) c.from-home.result (slice_index_or c.loop-place.firsts c.from-home.result 0) is
          (slice_get-get_or c.loop-place.firsts c.from-home.result 0 known) front behind;
      same_firsts = search rules;
      same_nexts = search rules;
    }

pub returns-clause-firsts : goal.returns-clause-firsts
returns-clause-firsts c = subst (λ n. AreFirsts c.args.homes.now n c.loop-place.firsts) (omega (arith, c.loop-place-test.false)) c.loop-place.invariant.firsts

pub returns-clause-nexts : goal.returns-clause-nexts
returns-clause-nexts c = subst (λ n. AreNexts c.args.homes.now n c.loop-place.nexts) (omega (arith, c.loop-place-test.false)) c.loop-place.invariant.nexts
