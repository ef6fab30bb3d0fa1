use Rattle.std.proofs.Common.{take, arith}
use Rattle.qtree_c.proofs.rings.Offering.{IsRead, batch-is-full, read-length}
use Rattle.qtree_c.proofs.rings.offers.offer_batch.Goals as goal

pub returns-then-placed-read-clause-offers : goal.returns-then-placed-read-clause-offers
returns-then-placed-read-clause-offers c =
    let read = c.read_packets-read in
    let one = c.offer_many_kept-placed in
    let packets = c.args.packets.now in
    let batch = take read.result read.new.batch in
    let is : IsRead read.result packets batch = record { most = read.ensures.most; read_as = read.ensures.read; in_range = read.ensures.in_range } in
    batch-is-full read.result one.result packets batch c.args.port.now one.new.self is c.if-placed-read.true one.ensures.placed
    (one.ensures.full (omega (arith, read-length read.result packets batch is, c.if-placed-read.true)))
