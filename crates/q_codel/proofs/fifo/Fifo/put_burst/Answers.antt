use Rattle.std.proofs.Common.{◌+◌, List, length, ap, arith}
use Rattle.std.specs.Prelude.{take}
use Rattle.std.proofs.lemmas.List.{length-take}
use Rattle.q_packet.specs.declared.stored_packet.StoredPacket.{StoredPacket}
use Rattle.q_codel.specs.FifoState.{FifoState, IsKept}
use Rattle.q_codel.proofs.BurstLemmas.{get-first, kept-fits, kept-more}
use Rattle.q_codel.proofs.fifo.Fifo.put_burst.Goals.{After-push_burst-taken}
use Rattle.q_codel.proofs.fifo.Fifo.put_burst.Goals as goal

pub push_burst-taken-requires-clause-places : goal.push_burst-taken-requires-clause-places
push_burst-taken-requires-clause-places c =
    omega (
      arith,
      c.room.ensures.within,
      c.min-most.ensures,
      length-take c.min-most.result c.args.packets.now,
      ap
          (λ (f : FifoState). length f.packets) c.self.view_is,
      ap (λ (f : FifoState). f.places) c.self.view_is,
    )

more : (c : After-push_burst-taken) → IsKept (c.self.inside.bytes + c.push_burst-taken.result.1) c.push_burst-taken.new.ring.packets c.push_burst-taken.new.ring.places
more c =
    let firsts : List StoredPacket = take c.push_burst-taken.result.0 (take c.min-most.result c.args.packets.now) in
    kept-more c.self.inside.bytes c.push_burst-taken.result.1 c.args.now c.self.inside.packets c.push_burst-taken.new.ring firsts c.self.invariant c.push_burst-taken.ensures.after
    c.push_burst-taken.ensures.widths c.push_burst-taken.ensures.bytes
    (omega (
      arith,
      c.room.ensures.within,
      c.min-most.ensures,
      c.push_burst-taken.ensures.most,
      length-take c.push_burst-taken.result.0 (take c.min-most.result c.args.packets.now),
      length-take c.min-most.result c.args.packets.now,
      ap (λ (f : FifoState). length f.packets) c.self.view_is,
      ap (λ (f : FifoState). f.places) c.self.view_is,
    ))

pub overflow_add-self : goal.overflow_add-self
overflow_add-self c = omega (arith, kept-fits _ _ _ (more c))

pub invariant_of-self : goal.invariant_of-self
invariant_of-self c = more (goal.at.invariant_of-self c).After-push_burst-taken

pub returns-clause-next : goal.returns-clause-next
returns-clause-next c =
    λ lt. get-first _ c.min-most.result c.push_burst-taken.result.0 c.room.result c.args.packets.now c.min-most.ensures
    c.push_burst-taken.ensures.next (omega (arith, lt, c.room.ensures.value))
