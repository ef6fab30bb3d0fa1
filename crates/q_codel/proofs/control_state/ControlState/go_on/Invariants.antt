use Rattle.std.proofs.Common.{◌≡◌, ◌≤◌, ◌∷◌, ℕ, List, take}
use Rattle.q_packet.specs.Totals.{count}
use Rattle.q_packet.specs.declared.cause.Cause.TheVariants.{CoDel}
use Rattle.q_packet.specs.declared.stamped.Stamped.{Stamped}
use Rattle.q_codel.specs.Losses.{AreLost}
use Rattle.q_codel.specs.Codel.{joined}
use Rattle.q_codel.specs.Front.{front_of}
use Rattle.q_codel.proofs.Law.{OnTheWay}
use Rattle.q_codel.proofs.control_state.ControlState.go_on.Given as goal

abbrev pub invariant-loop-self : goal.invariant-loop-self
invariant-loop-self g l = (j : ℕ) × (head : Stamped) × (rest : List Stamped) × record {
  packets : g.Q.Queue.packets l.queue ≡ head ∷ rest;
  front : l.front ≡ front_of head;
  way : OnTheWay (joined l.parameters l.initial.self) l.now (g.Q.Queue.packets l.initial.queue) j (joined l.parameters l.self) head rest;
  lost : AreLost CoDel (take j (g.Q.Queue.packets l.initial.queue)) (g.S.Sink.state l.initial.sink) (g.S.Sink.state l.sink);
  enough : count (g.Q.Queue.packets l.queue) ≤ (g.S.Sink.state l.sink).room;
  kept : g.Q.Queue.keeps l.initial.queue l.queue;
  sink_kept : g.S.Sink.keeps l.initial.sink l.sink;
}

abbrev pub decreases-loop-self : goal.decreases-loop-self
decreases-loop-self g l = count (g.Q.Queue.packets l.queue)
