use Rattle.std.proofs.Common.{rules, ℕ, ◌∙◌, List, ◌++◌, ap, arith, length}
use Rattle.std.specs.List.{flat_map}
use Rattle.q_model.specs.declared.place.Place.{Place}
use Rattle.q_model.specs.Node.{Node}
use Rattle.q_model.specs.Views.{node_view}
use Rattle.q_script_semantics.specs.Text.{qdisc_text}
use Rattle.q_tree.specs.Kept.{Kept, kept}
use Rattle.q_session.proofs.ShownNodes.{text-views}
use Rattle.q_session.proofs.Writing.{writing-end, writing-fails, writing-next, writing-start}
use Rattle.q_session.proofs.showing.put_qdiscs.Goals as goal

pub loop-node-init : goal.loop-node-init
loop-node-init g c = writing-start c.requires.going (text-views c.args.tree.now.tree c.nodes-nodes.result (qdisc_text c.args.counters) c.nodes-nodes.ensures.views)

pub returns-in_err-make_room : goal.returns-in_err-make_room
returns-in_err-make_room g c = writing-fails c.loop-node.invariant c.from_residual.result (search rules) (search rules)

pub loop-node-smaller : goal.loop-node-smaller
loop-node-smaller g c = omega (arith, ap length c.in-Some.ensures.found)

pub loop-node-preserved : goal.loop-node-preserved
loop-node-preserved g c =
    let text = qdisc_text c.args.counters in
    let shown : Place × Node Kept → List ℕ = λ x. text (node_view kept x.0 x.1) in
    let put = c.put.ensures.text ∙ ap (λ l. c.make_room.new.self ++ l) (c.as_bytes.ensures.bytes ∙ c.qdisc_text.ensures ∙ ap text c.view.ensures) in
    writing-next c.loop-node.invariant (shown c.in-Some.node) (flat_map shown c.next.new.self) (search rules) (ap (λ xs. flat_map shown xs) c.in-Some.ensures.found) put

pub returns : goal.returns
returns g c =
    let shown : Place × Node Kept → List ℕ = λ x. qdisc_text c.args.counters (node_view kept x.0 x.1) in
    writing-end c.loop-node.invariant (ap (λ xs. flat_map shown xs) c.in_default.ensures.found)
