use Rattle.q_tree.proofs.disciplines.BandsLemmas.{IsGoing}
use Rattle.q_tree.proofs.disciplines.prio.keep_first.Given as goal

abbrev pub invariant-loop-nodes : goal.invariant-loop-nodes
invariant-loop-nodes g l =
    IsGoing l.count l.initial.nodes.items l.nodes.items l.lost (g.S.Sink.state l.initial.sink) (g.S.Sink.state l.sink)
    × g.S.Sink.keeps l.initial.sink l.sink

abbrev pub decreases-loop-nodes : goal.decreases-loop-nodes
decreases-loop-nodes g l = goal.left-loop-nodes g l
