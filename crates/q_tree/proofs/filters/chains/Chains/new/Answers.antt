use Rattle.std.proofs.Common.{◌≡◌, ◌∙◌, ap, arith, length, subst, sym, ◌<◌}
use Rattle.std.proofs.lemmas.List.{with_items_is}
use Rattle.std.specs.Vec.{with_items}
use Rattle.q_tree.specs.filters.ChainsSeen.{AreFirsts, AreNexts}
use Rattle.q_tree.proofs.filters.chains.Chains.new.Goals as goal

pub invariant_of-result : goal.invariant_of-result
invariant_of-result c =
    let firsts : (with_items c.in_ok-firsts.firsts c.link.new.firsts).items ≡ c.link.new.firsts =
    with_items_is c.in_ok-firsts.firsts c.link.new.firsts (c.link.ensures.same_firsts ∙ c.deref_mut.ensures.len) in
    let nexts : (with_items c.in_ok-nexts.nexts c.link.new.nexts).items ≡ c.link.new.nexts =
    with_items_is c.in_ok-nexts.nexts c.link.new.nexts (c.link.ensures.same_nexts ∙ c.deref_mut-2.ensures.len) in
    let same : c.deref.result.now ≡ c.args.homes.items = c.deref.ensures.value in
    record {
      firsts_are = subst (λ xs. AreFirsts c.args.homes.items 0 xs) (sym firsts) (subst (λ hs. AreFirsts hs 0 c.link.new.firsts) same c.link.ensures.firsts);
      nexts_are = subst (λ xs. AreNexts c.args.homes.items 0 xs) (sym nexts) (subst (λ hs. AreNexts hs 0 c.link.new.nexts) same c.link.ensures.nexts);
      long = ap length nexts ∙ omega (arith, c.link.ensures.same_nexts, c.deref_mut-2.ensures.len, c.in_ok-nexts.ensures.len, c.len.ensures, c.args.homes.ok.0);
      known = λ j home is. subst (λ n. home < n) (sym (ap length firsts)) (omega (arith, c.link.ensures.same_firsts, c.deref_mut.ensures.len, c.in_ok-firsts.ensures.len, c.requires.known j home is));
    }
