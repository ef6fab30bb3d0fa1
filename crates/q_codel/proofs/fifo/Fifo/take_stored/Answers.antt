use Rattle.std.proofs.Common.{ap, arith, ◌∙◌}
use Rattle.q_packet.specs.declared.stamped.Stamped.{Stamped}
use Rattle.q_codel.specs.Ring.{RingState}
use Rattle.q_codel.proofs.Counted.{IsCounted_dropped}
use Rattle.q_codel.proofs.fifo.Fifo.take_stored.Goals as goal

pub invariant_of-self : goal.invariant_of-self
invariant_of-self c =
    record {
      counted = IsCounted_dropped _ _ c.in-Some.front.now _ c.len-len.result c.self.invariant.counted c.in-Some.ensures (ap (λ (r : RingState). r.packets) c.pop.ensures.rest)
          (c.len-len.ensures.value ∙ ap (λ (s : Stamped). s.packet.len) c.front-2.view_is);
      usable = omega (arith, c.self.invariant.usable, ap (λ (r : RingState). r.places) c.pop.ensures.rest);
    }
