use Rattle.std.proofs.Common.{rules, ℕ, List, ap, arith, length, subst}
use Rattle.std.specs.List.{AllByRecursion, flat_map}
use Rattle.q_model.specs.declared.place.Place.{Place}
use Rattle.q_model.specs.Node.{Node}
use Rattle.q_tree.specs.Kept.{Kept}
use Rattle.q_session.specs.Shown.{IsOfLawful, counted}
use Rattle.q_session.proofs.ShownNodes.{all-lawful, text-listed}
use Rattle.q_session.proofs.Writing.{writing-end, writing-part, writing-part-fails, writing-start}
use Rattle.q_session.proofs.showing.put_listed.Goals as goal

pub loop-node-init : goal.loop-node-init
loop-node-init g c =
    let s = c.args.tree.now.tree in
    record {
      text = writing-start c.requires.going (text-listed s c.nodes-nodes.result c.nodes-nodes.ensures.every g.L.Listed.line g.L.Listed.of_node);
      lawful = all-lawful s c.nodes-nodes.result c.nodes-nodes.ensures.every c.requires.lawful;
    }

pub put_listed_at-requires-clause-lawful : goal.put_listed_at-requires-clause-lawful
put_listed_at-requires-clause-lawful g c = (subst (AllByRecursion (λ x. IsOfLawful x.1)) c.in-Some.ensures.found c.loop-node.invariant.lawful).0

pub returns-in_err-put_listed_at : goal.returns-in_err-put_listed_at
returns-in_err-put_listed_at g c =
    let text : Place × Node Kept → List ℕ = λ x. flat_map g.L.Listed.line (g.L.Listed.of_node (counted x.1)) in
    writing-part-fails c.loop-node.invariant.text c.from_residual.result (text c.in-Some.node) (flat_map text c.next.new.self)
    (search rules) (ap (λ xs. flat_map text xs) c.in-Some.ensures.found) (search rules)

pub loop-node-smaller : goal.loop-node-smaller
loop-node-smaller g c = omega (arith, ap length c.in-Some.ensures.found)

pub loop-node-preserved : goal.loop-node-preserved
loop-node-preserved g c =
    let text : Place × Node Kept → List ℕ = λ x. flat_map g.L.Listed.line (g.L.Listed.of_node (counted x.1)) in
    record {
      text = writing-part c.loop-node.invariant.text (text c.in-Some.node) (flat_map text c.next.new.self) (search rules) (ap (λ xs. flat_map text xs) c.in-Some.ensures.found);
      lawful = (subst (AllByRecursion (λ x. IsOfLawful x.1)) c.in-Some.ensures.found c.loop-node.invariant.lawful).1;
    }

pub returns : goal.returns
returns g c =
    let text : Place × Node Kept → List ℕ = λ x. flat_map g.L.Listed.line (g.L.Listed.of_node (counted x.1)) in
    writing-end c.loop-node.invariant.text (ap (λ xs. flat_map text xs) c.in_default.ensures.found)
