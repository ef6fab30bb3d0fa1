use Rattle.std.proofs.Common.{◌≡◌, ◌∙◌, ◌∷◌, ◌++◌, length, sym, ap, append-nil, arith}
use Rattle.std.specs.Option.{option_to_list}
use Rattle.std.specs.Vec.Iter.{into_iter_items}
use Rattle.q_model.specs.Beneath.{packets_in, packets_of}
use Rattle.q_model.specs.Node.{FqCodel, side_by_side}
use Rattle.q_fqcodel.specs.FqState.{FqView, all_packets}
use Rattle.q_tree.specs.arrival.PutSteps.{packets_beneath}
use Rattle.q_tree.specs.NodeCode.{forest_size}
use Rattle.q_tree.specs.Seen.{children_seen, discipline_seen}
use Rattle.q_tree.proofs.commands.PurgeLemmas.{own-count, own-size, flows-count, room-taken, queue-told, node-told, left-count, left-size}
use Rattle.q_tree.proofs.+purge.Goals as goal
use Rattle.q_tree.specs.departure.Holding.{packet_held}

pub node::Node::purge-returns-in-Fifo-clause-told : goal.node::Node::purge-returns-in-Fifo-clause-told
node::Node::purge-returns-in-Fifo-clause-told g t c =
    node-told c.self.inside c.args.self c.self.view_is (packets_of c.in-Fifo.fifo.packets)
    (ap (λ d. packets_in (discipline_seen d) ++ packets_beneath (children_seen d)) c.in-Fifo.is ∙ append-nil (packets_of c.in-Fifo.fifo.packets))
    (g.S.Sink.state c.args.sink.now) (g.S.Sink.state c.purge_held.new.sink) (g.S.Sink.state c.purge.new.sink)
    c.purge_held.ensures.told (queue-told c.in-Fifo.fifo.packets (g.S.Sink.state c.purge_held.new.sink) (g.S.Sink.state c.purge.new.sink) c.purge.ensures.lost)

pub node::Node::purge-purge-requires-in-FqCodel : goal.node::Node::purge-purge-requires-in-FqCodel
node::Node::purge-purge-requires-in-FqCodel g t c =
    omega (
      arith,
      c.requires,
      room-taken (option_to_list (packet_held c.self.inside.held)) (g.S.Sink.state c.args.sink.now) (g.S.Sink.state c.purge_held.new.sink) c.purge_held.ensures.told,
      own-count c.self.inside c.args.self c.self.view_is,
      ap (λ d. length (packets_in (discipline_seen d))) c.in-FqCodel.is,
      ap (λ (q : FqView). length (packets_in (FqCodel q.state))) c.deref_mut.ensures.value,
      flows-count c.deref_mut.result.now.state.flows,
    )

pub node::Node::purge-returns-in-FqCodel-clause-told : goal.node::Node::purge-returns-in-FqCodel-clause-told
node::Node::purge-returns-in-FqCodel-clause-told g t c =
    let flows = c.deref_mut.result.now.state.flows in
    let own =
    ap (λ d. packets_in (discipline_seen d) ++ packets_beneath (children_seen d)) c.in-FqCodel.is
    ∙ append-nil (packets_of (all_packets c.in-FqCodel.queue.value.state.flows))
    ∙ ap (λ (q : FqView). packets_of (all_packets q.state.flows)) (sym c.deref_mut.ensures.value) in
    node-told c.self.inside c.args.self c.self.view_is (packets_of (all_packets flows)) own (g.S.Sink.state c.args.sink.now)
    (g.S.Sink.state c.purge_held.new.sink) (g.S.Sink.state c.purge-in-FqCodel.new.sink)
    c.purge_held.ensures.told (queue-told (all_packets flows) (g.S.Sink.state c.purge_held.new.sink) (g.S.Sink.state c.purge-in-FqCodel.new.sink) c.purge-in-FqCodel.ensures.lost)

pub node::Node::purge-purge_each-requires : goal.node::Node::purge-purge_each-requires
node::Node::purge-purge_each-requires g t c κs within = (
  omega (arith, own-size c.self.inside c.args.self c.self.view_is, ap (λ d. forest_size (side_by_side (children_seen d))) c.in-Prio.is, c.decreases),
  (
    within,
    omega (
      arith,
      c.requires,
      room-taken (option_to_list (packet_held c.self.inside.held)) (g.S.Sink.state c.args.sink.now)
          (g.S.Sink.state c.purge_held.new.sink) c.purge_held.ensures.told,
      own-count c.self.inside c.args.self c.self.view_is,
      ap
          (λ d. length (packets_beneath (children_seen d))) c.in-Prio.is,
    ),
  ),
)

pub node::Node::purge-returns-in-Prio-clause-told : goal.node::Node::purge-returns-in-Prio-clause-told
node::Node::purge-returns-in-Prio-clause-told g t c =
    node-told c.self.inside c.args.self c.self.view_is (packets_beneath c.in-Prio.bands.items)
    (ap (λ d. packets_in (discipline_seen d) ++ packets_beneath (children_seen d)) c.in-Prio.is) (g.S.Sink.state c.args.sink.now)
    (g.S.Sink.state c.purge_held.new.sink) (g.S.Sink.state c.purge_each.new.sink) c.purge_held.ensures.told c.purge_each.ensures.told

pub node::Node::purge-purge_each-requires-in-Drr :
    goal.node::Node::purge-purge_each-requires-in-Drr
node::Node::purge-purge_each-requires-in-Drr g t c κs within = (
  omega (arith, own-size c.self.inside c.args.self c.self.view_is, ap (λ d. forest_size (side_by_side (children_seen d))) c.in-Drr.is, c.decreases),
  (
    within,
    omega (
      arith,
      c.requires,
      room-taken (option_to_list (packet_held c.self.inside.held)) (g.S.Sink.state c.args.sink.now)
          (g.S.Sink.state c.purge_held.new.sink) c.purge_held.ensures.told,
      own-count c.self.inside c.args.self c.self.view_is,
      ap
          (λ d. length (packets_beneath (children_seen d))) c.in-Drr.is,
    ),
  ),
)

pub node::Node::purge-returns-clause-told : goal.node::Node::purge-returns-clause-told
node::Node::purge-returns-clause-told g t c =
    node-told c.self.inside c.args.self c.self.view_is (packets_beneath c.in-Drr.classes.items)
    (ap (λ d. packets_in (discipline_seen d) ++ packets_beneath (children_seen d)) c.in-Drr.is) (g.S.Sink.state c.args.sink.now)
    (g.S.Sink.state c.purge_held.new.sink) (g.S.Sink.state c.purge_each-in-Drr.new.sink) c.purge_held.ensures.told
    c.purge_each-in-Drr.ensures.told

pub commands::purge::purge_each-purge-requires : goal.commands::purge::purge_each-purge-requires
commands::purge::purge_each-purge-requires g t c κs within =
    let at = c.loop-node in
    let rest = into_iter_items c.next.new.self in
    let all : at.yielded ++ c.in-Some.node ∷ rest ≡ c.args.nodes.items =
    ap (λ ns. at.yielded ++ ns) (sym c.in-Some.ensures.steps.0) ∙ at.invariant.0 ∙ c.into_iter-node-iterator.ensures.into_iter_gives.0 in (
      omega (arith, left-size at.yielded c.in-Some.node rest, ap (λ ns. forest_size (side_by_side ns)) all, c.decreases),
      (
        within,
        omega (
          arith,
          left-count at.yielded c.in-Some.node rest,
          ap (λ ns. length (packets_beneath ns)) all,
          room-taken
              (packets_beneath at.yielded) (g.S.Sink.state c.args.sink.now) (g.S.Sink.state at.sink) at.invariant.2,
          c.requires,
        ),
      ),
    )
