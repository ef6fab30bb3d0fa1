use Rattle.std.proofs.Common.{◌≡◌, Some, IsSome, sym, ap, ◌∙◌, subst}
use Rattle.q_fqcodel.specs.Chain.{led_to}
use Rattle.q_fqcodel.specs.Nodes.{NodesState, used}
use Rattle.q_fqcodel.specs.declared.node.Node.{Node}
use Rattle.q_fqcodel.proofs.NodesLemmas.{in_slab, used_as, link_nodes, link_led, link_same}
use Rattle.q_fqcodel.proofs.nodes.Nodes.link.Goals as goal
use Rattle.q_fqcodel.proofs.nodes.Nodes.link.Goals.{After-index_mut}

pub index_mut-requires : goal.index_mut-requires
index_mut-requires c =
    let p = c.self.inside in
    in_slab (record { slab = p.slab; spare = p.spare; count = p.count }) c.args.key (subst (λ (s : NodesState). IsSome (used s c.args.key)) (sym c.self.view_is) c.requires)

abbrev state : After-index_mut → NodesState
state c = record { slab = c.self.inside.slab; spare = c.self.inside.spare; count = c.self.inside.count }

abbrev written : After-index_mut → Node
written c = led_to c.args.next c.index_mut.result.now

there : (c : After-index_mut) → IsSome (used (state c) c.args.key)
there c = subst (λ (s : NodesState). IsSome (used s c.args.key)) (sym c.self.view_is) c.requires

pub invariant_of-self : goal.invariant_of-self
invariant_of-self c =
    let d = (goal.at.invariant_of-self c).After-index_mut in
    link_nodes (state d) c.self.invariant c.args.key c.index_mut.result.now (written d) (there d) c.index_mut.ensures.value

pub returns-clause-led : goal.returns-clause-led
returns-clause-led c x seen =
    let d = (goal.at.returns-clause-led c).After-index_mut in
    let y : Node = c.index_mut.result.now in
    let own : used (state d) c.args.key ≡ Some y = used_as (state d) c.args.key y (there d) c.index_mut.ensures.value in
    let same : Some y ≡ Some x = sym own ∙ ap (λ (s : NodesState). used s c.args.key) c.self.view_is ∙ seen in
    let is : y ≡ x = cc in
    link_led (state d) c.self.invariant c.args.key y (written d) (there d) c.index_mut.ensures.value ∙ ap (λ (v : Node). Some (led_to c.args.next v)) is

pub returns-clause-same : goal.returns-clause-same
returns-clause-same c j ne =
    let d = (goal.at.returns-clause-same c).After-index_mut in
    link_same (state d) c.self.invariant c.args.key c.index_mut.result.now (written d) (there d) c.index_mut.ensures.value j ne
    ∙ ap (λ (s : NodesState). used s j) c.self.view_is
