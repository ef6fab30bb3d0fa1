use Rattle.std.proofs.Common.{◌∙◌, ◌+◌, map, drop, refl, sym, ap, ap₂, arith, Option}
use Rattle.std.proofs.Common.{ℕ}
use Rattle.q_fqcodel.specs.Oldest.{earlier, earliest, first_arrivals}
use Rattle.q_fqcodel.specs.FqState.{FqView}
use Rattle.q_model.specs.Beneath.{beneath}
use Rattle.q_model.specs.Node.{Node}
use Rattle.q_model.specs.Oldest.{oldest}
use Rattle.q_tree.specs.answers.Oldest.{oldest_of}
use Rattle.q_tree.specs.Kept.{Kept}
use Rattle.q_tree.specs.Seen.{children_seen, discipline_seen}
use Rattle.q_tree.proofs.answers.OldestLemmas.{each-order, fifo-oldest, fq-oldest, held-arrival, inside-order, node-oldest, oldest-end, oldest-next, sooner-earlier}
use Rattle.q_tree.proofs.disciplines.AtHandLemmas.{there-at}
use Rattle.q_tree.proofs.route.RouteLemmas.{child-size, children-size}
use Rattle.q_tree.proofs.+oldest.Goals as goal

-- nodes side by side
pub answers::oldest::oldest_of-loop-node-init : goal.answers::oldest::oldest_of-loop-node-init
answers::oldest::oldest_of-loop-node-init t c = refl

pub answers::oldest::oldest_of-oldest-requires : goal.answers::oldest::oldest_of-oldest-requires
answers::oldest::oldest_of-oldest-requires t c =
    let at = there-at c.args.nodes.now c.loop-node.node-index c.node-item.result c.loop-node-test.true c.node-item.is in
    (omega (arith, child-size c.args.nodes.now c.loop-node.node-index c.node-item.result at, c.decreases), each-order c.args.nodes.now c.loop-node.node-index c.node-item.result at c.requires)

pub answers::oldest::oldest_of-loop-node-preserved : goal.answers::oldest::oldest_of-loop-node-preserved
answers::oldest::oldest_of-loop-node-preserved t c =
    ap (λ (o : Option ℕ). earlier o (oldest_of (map oldest (drop (c.loop-node.node-index + 1) c.args.nodes.now))))
    (c.sooner-first.ensures ∙ sooner-earlier c.loop-node.first c.oldest.result ∙ ap (earlier c.loop-node.first) c.oldest.ensures)
    ∙ sym (oldest-next c.args.nodes.now c.loop-node.node-index c.node-item.result c.loop-node.first c.loop-node-test.true c.node-item.is)
    ∙ c.loop-node.invariant

pub answers::oldest::oldest_of-returns : goal.answers::oldest::oldest_of-returns
answers::oldest::oldest_of-returns t c = sym (oldest-end c.args.nodes.now c.loop-node.node-index c.loop-node.first c.loop-node-test.false) ∙ c.loop-node.invariant

-- a discipline
pub node::Discipline::oldest-returns-in-Fifo : goal.node::Discipline::oldest-returns-in-Fifo
node::Discipline::oldest-returns-in-Fifo t c =
    c.first_arrival.ensures
    ∙ fifo-oldest c.args.self.now c.in-Fifo.fifo.limit c.in-Fifo.fifo.packets c.requires.mtu c.requires.clock
    (map beneath (children_seen c.args.self.now)) (ap discipline_seen c.in-Fifo.is) (ap children_seen c.in-Fifo.is) c.requires.own

pub node::Discipline::oldest-returns-in-FqCodel : goal.node::Discipline::oldest-returns-in-FqCodel
node::Discipline::oldest-returns-in-FqCodel t c =
    c.oldest-in-FqCodel.ensures
    ∙ ap (λ (q : FqView). earliest (first_arrivals q.state.flows)) c.deref-in-FqCodel.ensures
    ∙ fq-oldest c.args.self.now c.in-FqCodel.queue.value.state c.requires.mtu c.requires.clock (map beneath (children_seen c.args.self.now))
    (ap discipline_seen c.in-FqCodel.is) (ap children_seen c.in-FqCodel.is) c.requires.own

-- a node
pub node::Node::oldest-oldest-requires : goal.node::Node::oldest-oldest-requires
node::Node::oldest-oldest-requires t c = (
  omega (arith, children-size c.self.inside c.args.self.now (children_seen c.self.inside.discipline) c.self.view_is refl, c.decreases),
  inside-order c.self.inside c.args.self.now c.self.view_is c.requires,
)

pub node::Node::oldest-returns : goal.node::Node::oldest-returns
node::Node::oldest-returns t c =
    c.sooner.ensures
    ∙ sooner-earlier c.arrival.result c.oldest.result
    ∙ ap₂ earlier (c.arrival.ensures ∙ held-arrival c.self.inside) c.oldest.ensures
    ∙ sym (node-oldest c.self.inside)
    ∙ ap (λ (n : Node Kept). oldest n) c.self.view_is
