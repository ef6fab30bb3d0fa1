use Rattle.std.proofs.Common.{◌≡◌, ◌∙◌, ap, arith, length, slice_get, Some, subst, sym, ◌≤◌}
use Rattle.std.proofs.lemmas.Option.{slice_get_read}
use Rattle.q_tree.specs.filters.Chains.{IsNext}
use Rattle.q_tree.proofs.filters.ChainsLemmas.{nobody-past}
use Rattle.q_tree.proofs.filters.chains.Chains.first.Goals as goal

pub returns : goal.returns
returns c =
    let firsts = c.self.inside.firsts.items in
    let there : slice_get firsts c.args.home ≡ Some c.from.result =
    slice_get_read firsts c.len.result c.args.home c.index.result.now (c.len.ensures ∙ c.self.inside.firsts.ok.0) c.if-home-len.false c.index.ensures ∙ ap Some (sym c.from.ensures) in
    subst (λ hs. IsNext hs c.args.home 0 c.from.result) c.self.view_is (c.self.invariant.firsts_are c.args.home c.from.result there)

pub returns-then-home-len : goal.returns-then-home-len
returns-then-home-len c =
    let homes = c.self.inside.homes.items in
    let past : length c.self.inside.firsts.items ≤ c.args.home = omega (arith, c.if-home-len.true, c.len.ensures, c.self.inside.firsts.ok.0) in
    let end : length homes ≡ c.len-then-home-len.result = sym (c.len-then-home-len.ensures ∙ c.self.inside.homes.ok.0) in
    subst (λ hs. IsNext hs c.args.home 0 c.len-then-home-len.result) c.self.view_is
    (subst (λ n. IsNext homes c.args.home 0 n) end (nobody-past homes (length c.self.inside.firsts.items) c.args.home c.self.invariant.known past))
