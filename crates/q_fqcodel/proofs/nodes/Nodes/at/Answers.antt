use Rattle.std.proofs.Common.{IsSome, sym, ap, ◌∙◌, subst}
use Rattle.q_fqcodel.specs.Nodes.{NodesState, used}
use Rattle.q_fqcodel.proofs.NodesLemmas.{in_slab, used_as}
use Rattle.q_fqcodel.proofs.nodes.Nodes.at.Goals as goal

pub index-requires : goal.index-requires
index-requires c =
    let p = c.self.inside in
    in_slab (record { slab = p.slab; spare = p.spare; count = p.count }) c.args.key (subst (λ (s : NodesState). IsSome (used s c.args.key)) (sym c.self.view_is) c.requires)

pub returns : goal.returns
returns c =
    let p = c.self.inside in
    ap (λ (s : NodesState). used s c.args.key) (sym c.self.view_is)
    ∙ used_as (record { slab = p.slab; spare = p.spare; count = p.count }) c.args.key c.index.result.now
    (subst (λ (s : NodesState). IsSome (used s c.args.key)) (sym c.self.view_is) c.requires)
    c.index.ensures
