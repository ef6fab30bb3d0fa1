use Rattle.std.proofs.Common.{◌∙◌, arith, rules}
use Rattle.std.proofs.lemmas.List.{length-set}
use Rattle.qtree_c.proofs.rings.Offering.{in-range-more, read-more}
use Rattle.qtree_c.proofs.rings.offers.read_packets.Goals as goal

pub loop-at-preserved : goal.loop-at-preserved
loop-at-preserved c =
    let at = c.loop-at.at in
    let packets = c.args.packets.now in
    record {
      long = length-set c.loop-at.batch at c.kept.result ∙ c.loop-at.invariant.long;
      read = read-more at packets c.loop-at.batch c.kept.result c.loop-at.invariant.read c.loop-at-test.true (omega (arith, c.requires, c.loop-at.invariant.long)) c.kept.ensures;
      in_range = in-range-more at packets c.loop-at.invariant.in_range c.loop-at-test.true (c.is_packet.ensures.value.0 (search rules));
    }
