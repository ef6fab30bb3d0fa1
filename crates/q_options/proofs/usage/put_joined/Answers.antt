use Rattle.std.proofs.Common.{refl, slice_index_or}
use Rattle.q_options.proofs.Joined.{joins_step}
use Rattle.q_options.proofs.usage.put_joined.Goals as goal

pub loop-i-preserved : goal.loop-i-preserved
loop-i-preserved c = record {
  gained = joins_step c.args.text.now c.args.line.now c.loop-i.line c.put_byte-begins.new.line c.loop-i.begins c.put_byte-begins.result c.loop-i.i
      (slice_index_or c.args.text.now c.loop-i.i 0) 0 c.loop-i-test.true refl c.put_byte-begins.ensures.text c.put_byte-begins.ensures.plain c.loop-i.invariant.gained;
  end = refl;
}
