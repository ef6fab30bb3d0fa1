use Rattle.std.proofs.Common.{◌≡◌, Some, IsSome, refl, sym, ap, ◌∙◌, arith, subst}
use Rattle.q_fqcodel.specs.Chain.{led_to}
use Rattle.q_fqcodel.specs.Nodes.{NodesState, used}
use Rattle.q_fqcodel.specs.declared.node.Node.{Node}
use Rattle.q_fqcodel.proofs.NodesLemmas.{in_slab, used_as, vacate_nodes, vacate_same}
use Rattle.q_fqcodel.proofs.nodes.Nodes.release_into.Goals as goal
use Rattle.q_fqcodel.proofs.nodes.Nodes.release_into.Goals.{After-index_mut-node}

pub index_mut-node-requires : goal.index_mut-node-requires
index_mut-node-requires c =
    let p = c.self.inside in
    in_slab (record { slab = p.slab; spare = p.spare; count = p.count }) c.args.key (subst (λ (s : NodesState). IsSome (used s c.args.key)) (sym c.self.view_is) c.requires.there)

abbrev state : After-index_mut-node → NodesState
state c = record { slab = c.self.inside.slab; spare = c.self.inside.spare; count = c.self.inside.count }

abbrev written : After-index_mut-node → Node
written c = led_to c.self.inside.spare c.index_mut-node.result.now

there : (c : After-index_mut-node) → IsSome (used (state c) c.args.key)
there c = subst (λ (s : NodesState). IsSome (used s c.args.key)) (sym c.self.view_is) c.requires.there

pub invariant_of-self : goal.invariant_of-self
invariant_of-self c =
    let d = (goal.at.invariant_of-self c).After-index_mut-node in
    vacate_nodes (state d) c.self.invariant c.args.key c.index_mut-node.result.now (written d) (there d) c.index_mut-node.ensures.value refl
    (omega (arith, c.requires.some, ap (λ (s : NodesState). s.count) c.self.view_is))

pub returns-clause-same : goal.returns-clause-same
returns-clause-same c j ne =
    let d = (goal.at.returns-clause-same c).After-index_mut-node in
    vacate_same (state d) c.self.invariant c.args.key c.index_mut-node.result.now (written d) (there d) c.index_mut-node.ensures.value refl
    (omega (arith, c.requires.some, ap (λ (s : NodesState). s.count) c.self.view_is)) j ne
    ∙ ap (λ (s : NodesState). used s j) c.self.view_is

-- the node that was there is the one that was read
read : (c : After-index_mut-node) (x : Node) → used c.args.self.now c.args.key ≡ Some x → c.index_mut-node.result.now ≡ x
read c x seen =
    let y : Node = c.index_mut-node.result.now in
    let own : used (state c) c.args.key ≡ Some y = used_as (state c) c.args.key y (there c) c.index_mut-node.ensures.value in
    let same : Some y ≡ Some x = sym own ∙ ap (λ (s : NodesState). used s c.args.key) c.self.view_is ∙ seen in
    cc

pub returns-clause-given : goal.returns-clause-given
returns-clause-given c x seen =
    let d = (goal.at.returns-clause-given c).After-index_mut-node in
    c.packet.view_is ∙ ap (λ (v : Node). v.packet) (read d x seen)

pub returns-clause-next : goal.returns-clause-next
returns-clause-next c x seen =
    let d = (goal.at.returns-clause-next c).After-index_mut-node in
    ap (λ (v : Node). v.next) (read d x seen)
