use Rattle.std.proofs.Common.{◌≡◌, List, [], ◌∷◌, drop, None, refl, sym, ap, ◌∙◌, subst, arith, length-drop}
use Rattle.std.specs.Prelude.{slice_get}
use Rattle.q_packet.specs.Totals.{count}
use Rattle.q_packet.specs.declared.cause.Cause.TheVariants.{Purged}
use Rattle.q_packet.specs.declared.stamped.Stamped.{Stamped}
use Rattle.q_codel.specs.FifoState.{FifoState}
use Rattle.q_codel.specs.Losses.{AreLost, SinkState}
use Rattle.q_codel.proofs.SinkLemmas.{lost_rest, told_nothing}
use Rattle.q_codel.proofs.fifo.Fifo.purge.Goals as goal

pub loop-stamped-preserved : goal.loop-stamped-preserved
loop-stamped-preserved g c =
    let queue : List Stamped = c.loop-stamped.self.packets in
    let now : SinkState = g.S.Sink.state c.loop-stamped.sink in
    let new : SinkState = g.S.Sink.state c.lost.new.self in
    record {
      same =
          c.take.ensures.rest
          ∙ ap (λ (f : FifoState). record f { packets = drop 1 queue }) c.loop-stamped.invariant.same
          ∙ ap (λ (q : List Stamped). record c.args.self.now { packets = q }) (sym (ap (λ (f : FifoState). f.packets) c.take.ensures.rest));
      lost = λ s rest.
          c.loop-stamped.invariant.lost s
          (lost_rest Purged queue c.in-Some.stamped now new s (sym c.in-Some.ensures.front) c.lost.ensures.told
          (subst (λ (f : FifoState). AreLost Purged f.packets new s) c.take.ensures.rest rest));
      enough = omega (arith, ap (λ (f : FifoState). count f.packets) c.take.ensures.rest, length-drop 1 queue, c.loop-stamped.invariant.enough, c.lost.ensures.told.room);
      kept = g.met.S.Sink.keeps_on c.args.sink.now c.loop-stamped.sink c.lost.new.self c.loop-stamped.invariant.kept c.lost.ensures.kept;
    }

none_left : (queue : List Stamped) → None ≡ slice_get queue 0 → [] ≡ queue
none_left [] e = refl
none_left (s ∷ queue) e = absurd cc

pub returns-clause-lost : goal.returns-clause-lost
returns-clause-lost g c =
    let now : SinkState = g.S.Sink.state c.loop-stamped.sink in
    c.loop-stamped.invariant.lost now (subst (λ (q : List Stamped). AreLost Purged q now now) (none_left c.loop-stamped.self.packets c.in_default.ensures.front) (told_nothing now))
