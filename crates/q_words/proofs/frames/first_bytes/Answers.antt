use Rattle.std.proofs.Common.{◌∙◌, arith, length-set}
use Rattle.q_words.proofs.FrameLemmas.{decode_more, decoded, digits_more, filled}
use Rattle.q_words.proofs.frames.first_bytes.Goals as goal

pub loop-rest-preserved : goal.loop-rest-preserved
loop-rest-preserved c = record {
  so_far = decode_more c.args.digits.now c.loop-rest.bytes c.loop-rest.rest.now c.loop-rest.count c.byte.result c.loop-rest.invariant.so_far
      (omega (arith, c.loop-rest.invariant.size)) (omega arith) c.byte.ensures;
  few = omega arith;
  size = length-set c.loop-rest.bytes c.loop-rest.count c.byte.result ∙ c.loop-rest.invariant.size;
  digits = digits_more c.loop-rest.rest.now c.loop-rest.invariant.digits (omega arith);
}

pub returns-in_default-clause-bytes : goal.returns-in_default-clause-bytes
returns-in_default-clause-bytes c =
    decoded c.args.digits.now c.loop-rest.bytes c.loop-rest.rest.now c.loop-rest.count c.loop-rest.invariant.so_far c.loop-rest.invariant.few (omega arith)

pub returns-then-count-eq-HEAD_BYTES-clause-bytes : goal.returns-then-count-eq-HEAD_BYTES-clause-bytes
returns-then-count-eq-HEAD_BYTES-clause-bytes c =
    filled c.args.digits.now c.loop-rest.bytes c.loop-rest.rest.now c.loop-rest.count c.loop-rest.invariant.so_far (omega arith) c.loop-rest.invariant.size
