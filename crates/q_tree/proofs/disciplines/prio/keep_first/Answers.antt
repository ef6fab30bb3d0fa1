use Rattle.std.proofs.Common.{◌∙◌, length, sym, ap, subst, arith}
use Rattle.std.specs.Prelude.{◌<◌}
use Rattle.q_tree.specs.arrival.Arrivals.{plus}
use Rattle.q_tree.proofs.disciplines.BandsLemmas.{IsGoing, one-goes}
use Rattle.q_tree.proofs.disciplines.prio.keep_first.Goals as goal

pub loop-nodes-preserved : goal.loop-nodes-preserved
loop-nodes-preserved g c =
    let lt : c.args.count < length c.loop-nodes.nodes.items = omega (arith, c.len.ensures, c.loop-nodes.nodes.ok, c.loop-nodes-test.true) in (
      subst (λ ns. IsGoing c.args.count c.args.nodes.now.items ns c.sum-lost.result (g.S.Sink.state c.args.sink.now) (g.S.Sink.state c.purge.new.sink)) (sym c.remove-node.ensures.items)
          (one-goes c.args.count c.args.nodes.now.items c.loop-nodes.nodes.items c.loop-nodes.lost (g.S.Sink.state c.args.sink.now) (g.S.Sink.state c.loop-nodes.sink)
          c.loop-nodes.invariant.0 c.remove-node.result lt c.remove-node.ensures.value c.sum-lost.result
          (c.sum-lost.ensures ∙ ap (plus c.loop-nodes.lost) c.queued.ensures) (g.S.Sink.state c.purge.new.sink) c.purge.ensures.told),
      g.met.S.Sink.keeps_on c.args.sink.now c.loop-nodes.sink c.purge.new.sink c.loop-nodes.invariant.1 c.purge.ensures.kept,
    )
