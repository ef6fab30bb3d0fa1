use Rattle.std.proofs.Common.{◌≡◌, ℕ, ◌<◌, Option, IsSome, IfSome, refl, sym, ap, ◌∙◌, arith, subst}
use Rattle.slab.specs.Slab.{Slab, slab_len}
use Rattle.q_fqcodel.specs.Chain.{stamped_of}
use Rattle.q_fqcodel.specs.Nodes.{NodesState, used}
use Rattle.q_fqcodel.specs.declared.node.Node.{Node}
use Rattle.q_fqcodel.proofs.NodesLemmas.{used_all, all_nodes, spare_there, claim_nodes, claim_vacant, claim_stored, claim_same}
use Rattle.q_fqcodel.proofs.nodes.Nodes.claim.Goals as goal
use Rattle.q_fqcodel.proofs.nodes.Nodes.claim.Goals.{After-index_mut-node}

-- the nodes with these fields
abbrev state : Slab Node → ℕ → ℕ → NodesState
state slab spare count = record { slab = slab; spare = spare; count = count }

-- ---- in a new node

pub invariant_of-self : goal.invariant_of-self
invariant_of-self c = all_nodes (state c.insert-key.new.slab c.self.inside.spare c.len-self-inside.result) (sym c.len-self-inside.ensures)

pub returns-then-self-len-clause-vacant : goal.returns-then-self-len-clause-vacant
returns-then-self-len-clause-vacant c =
    let p = c.self.inside in
    ap (λ (s : NodesState). used s c.insert-key.result) (sym c.self.view_is)
    ∙ used_all (state p.slab p.spare p.count) (omega (arith, c.if-self-len.true, c.len.ensures)) c.insert-key.result
    ∙ c.insert-key.ensures.vacant

pub returns-then-self-len-clause-stored : goal.returns-then-self-len-clause-stored
returns-then-self-len-clause-stored c =
    let all = used_all (state c.insert-key.new.slab c.self.inside.spare c.len-self-inside.result) (omega (arith, c.len-self-inside.ensures)) c.insert-key.result in
    subst (λ (o : Option Node). IfSome o (λ x. stamped_of x ≡ record { packet = c.args.packet.now; at = c.args.now })) (sym all) c.insert-key.ensures.stored

pub returns-then-self-len-clause-there : goal.returns-then-self-len-clause-there
returns-then-self-len-clause-there c =
    let all = used_all (state c.insert-key.new.slab c.self.inside.spare c.len-self-inside.result) (omega (arith, c.len-self-inside.ensures)) c.insert-key.result in
    subst (λ (o : Option Node). IsSome o) (sym all) c.insert-key.ensures.there

pub returns-then-self-len-clause-same : goal.returns-then-self-len-clause-same
returns-then-self-len-clause-same c j ne =
    let p = c.self.inside in
    used_all (state c.insert-key.new.slab p.spare c.len-self-inside.result) (omega (arith, c.len-self-inside.ensures)) j
    ∙ c.insert-key.ensures.same j ne
    ∙ sym (used_all (state p.slab p.spare p.count) (omega (arith, c.if-self-len.true, c.len.ensures)) j)
    ∙ ap (λ (s : NodesState). used s j) c.self.view_is

-- ---- in a spare one

pub index_mut-node-requires : goal.index_mut-node-requires
index_mut-node-requires c =
    let p = c.self.inside in
    spare_there (state p.slab p.spare p.count) c.self.invariant (omega (arith, c.if-self-len.false, c.len.ensures, c.self.invariant.fewer))

some : (c : After-index_mut-node) → c.self.inside.count < slab_len c.self.inside.slab
some c = omega (arith, c.if-self-len.false, c.len.ensures, c.self.invariant.fewer)

abbrev filled : After-index_mut-node → Node
filled c = record { packet = c.args.packet.now; at = c.args.now; next = c.index_mut-node.result.now.next }

pub invariant_of-self-2 : goal.invariant_of-self-2
invariant_of-self-2 c =
    let p = c.self.inside in
    let d = (goal.at.invariant_of-self-2 c).After-index_mut-node in
    claim_nodes (state p.slab p.spare p.count) c.self.invariant (some d) c.index_mut-node.result.now (filled d) c.index_mut-node.ensures.value

pub returns-clause-vacant : goal.returns-clause-vacant
returns-clause-vacant c =
    let p = c.self.inside in
    let d = (goal.at.returns-clause-vacant c).After-index_mut-node in
    ap (λ (s : NodesState). used s p.spare) (sym c.self.view_is)
    ∙ claim_vacant (state p.slab p.spare p.count) c.self.invariant (some d) c.index_mut-node.result.now (filled d) c.index_mut-node.ensures.value

pub returns-clause-stored : goal.returns-clause-stored
returns-clause-stored c =
    let p = c.self.inside in
    let d = (goal.at.returns-clause-stored c).After-index_mut-node in
    subst (λ (o : Option Node). IfSome o (λ x. stamped_of x ≡ record { packet = c.args.packet.now; at = c.args.now }))
    (sym (claim_stored (state p.slab p.spare p.count) c.self.invariant (some d) c.index_mut-node.result.now (filled d) c.index_mut-node.ensures.value)) refl

pub returns-clause-there : goal.returns-clause-there
returns-clause-there c =
    let p = c.self.inside in
    let d = (goal.at.returns-clause-there c).After-index_mut-node in
    subst (λ (o : Option Node). IsSome o)
    (sym (claim_stored (state p.slab p.spare p.count) c.self.invariant (some d) c.index_mut-node.result.now (filled d) c.index_mut-node.ensures.value)) refl

pub returns-clause-same : goal.returns-clause-same
returns-clause-same c j ne =
    let p = c.self.inside in
    let d = (goal.at.returns-clause-same c).After-index_mut-node in
    claim_same (state p.slab p.spare p.count) c.self.invariant (some d) c.index_mut-node.result.now (filled d) c.index_mut-node.ensures.value j ne
    ∙ ap (λ (s : NodesState). used s j) c.self.view_is
