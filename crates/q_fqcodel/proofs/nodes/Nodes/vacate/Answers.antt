use Rattle.std.proofs.Common.{IsSome, refl, sym, ap, ◌∙◌, arith, subst}
use Rattle.q_fqcodel.specs.Chain.{led_to}
use Rattle.q_fqcodel.specs.Nodes.{NodesState, used}
use Rattle.q_fqcodel.specs.declared.node.Node.{Node}
use Rattle.q_fqcodel.proofs.NodesLemmas.{in_slab, vacate_nodes, vacate_same}
use Rattle.q_fqcodel.proofs.nodes.Nodes.vacate.Goals as goal
use Rattle.q_fqcodel.proofs.nodes.Nodes.vacate.Goals.{After-index_mut}

pub index_mut-requires : goal.index_mut-requires
index_mut-requires c =
    let p = c.self.inside in
    in_slab (record { slab = p.slab; spare = p.spare; count = p.count }) c.args.key (subst (λ (s : NodesState). IsSome (used s c.args.key)) (sym c.self.view_is) c.requires.there)

abbrev state : After-index_mut → NodesState
state c = record { slab = c.self.inside.slab; spare = c.self.inside.spare; count = c.self.inside.count }

abbrev written : After-index_mut → Node
written c = led_to c.self.inside.spare c.index_mut.result.now

there : (c : After-index_mut) → IsSome (used (state c) c.args.key)
there c = subst (λ (s : NodesState). IsSome (used s c.args.key)) (sym c.self.view_is) c.requires.there

pub invariant_of-self : goal.invariant_of-self
invariant_of-self c =
    let d = (goal.at.invariant_of-self c).After-index_mut in
    vacate_nodes (state d) c.self.invariant c.args.key c.index_mut.result.now (written d) (there d) c.index_mut.ensures.value refl
    (omega (arith, c.requires.some, ap (λ (s : NodesState). s.count) c.self.view_is))

pub returns-clause-same : goal.returns-clause-same
returns-clause-same c j ne =
    let d = (goal.at.returns-clause-same c).After-index_mut in
    vacate_same (state d) c.self.invariant c.args.key c.index_mut.result.now (written d) (there d) c.index_mut.ensures.value refl
    (omega (arith, c.requires.some, ap (λ (s : NodesState). s.count) c.self.view_is)) j ne
    ∙ ap (λ (s : NodesState). used s j) c.self.view_is
