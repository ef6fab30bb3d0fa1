use Rattle.std.proofs.Common.{ap, arith}
use Rattle.std.specs.Prelude.{take}
use Rattle.std.proofs.lemmas.List.{length-take}
use Rattle.q_model.specs.Node.{Node}
use Rattle.q_tree.specs.Kept.{Kept}
use Rattle.q_tree.proofs.arrival.BurstArrivals.{bytes-bound}
use Rattle.q_tree.proofs.node.Node.keep_burst.Goals as goal

pub book_arrivals-requires-clause-bytes : goal.book_arrivals-requires-clause-bytes
book_arrivals-requires-clause-bytes c =
    let n = c.put_burst-count.result.0 in
    omega (
      arith,
      c.requires.bytes,
      ap (λ (m : Node Kept). m.memory.counts.arrived.bytes) c.self.view_is,
      c.put_burst-count.ensures.bytes,
      bytes-bound (take n c.args.packets.now) c.put_burst-count.ensures.widths,
      length-take n c.args.packets.now,
    )
