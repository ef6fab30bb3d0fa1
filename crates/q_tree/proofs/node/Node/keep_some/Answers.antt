use Rattle.std.proofs.Common.{refl, ap, arith}
use Rattle.std.specs.Prelude.{slice_get, take}
use Rattle.std.proofs.lemmas.List.{length-take}
use Rattle.q_packet.specs.Stored.{descriptor}
use Rattle.q_packet.specs.declared.stored_packet.StoredPacket.{StoredPacket}
use Rattle.q_codel.specs.Bursts.{IsShort}
use Rattle.q_model.specs.declared.totals.Totals.{Totals}
use Rattle.q_model.specs.Node.{Node}
use Rattle.q_tree.specs.arrival.KeepSteps.{CanBeKeptBelow, CanBeKeptIn}
use Rattle.q_tree.specs.Kept.{Kept}
use Rattle.q_tree.specs.Seen.{seen}
use Rattle.q_tree.specs.declared.node.Node.TheInside.{Inside}
use Rattle.q_tree.proofs.arrival.BurstArrivals.{bytes-bound}
use Rattle.q_tree.proofs.arrival.KeepingComes.{below-can, next-weaker}
use Rattle.q_tree.proofs.node.Node.keep_some.Goals as goal

pub book_arrivals-requires-clause-bytes : goal.book_arrivals-requires-clause-bytes
book_arrivals-requires-clause-bytes c =
    let n = c.keep_each-kept.result.packets in
    omega (
      arith,
      c.requires.ready.bytes,
      ap (λ (m : Node Kept). m.memory.counts.arrived.bytes) c.self.view_is,
      ap (λ (t : Totals). t.bytes) c.keep_each-kept.ensures.totals,
      bytes-bound (take n c.args.packets.now) c.keep_each-kept.ensures.widths,
      length-take n c.args.packets.now,
    )

pub returns-clause-below : goal.returns-clause-below
returns-clause-below c =
    let a : Inside = record c.self.inside { row = c.book_arrivals.new.row; discipline = c.keep_each-kept.new.discipline } in
    next-weaker (λ (x : StoredPacket). IsShort c.args.mtu x → CanBeKeptIn (descriptor x) c.self.inside.filters c.keep_each-kept.new.discipline → ⊥)
    (λ (x : StoredPacket). IsShort c.args.mtu x → CanBeKeptBelow (descriptor x) (seen a) → ⊥) (slice_get c.args.packets.now c.keep_each-kept.result.packets)
    (λ x h short can. h short (below-can (descriptor x) a (seen a) refl c.self.inside.filters refl can)) c.keep_each-kept.ensures.below
