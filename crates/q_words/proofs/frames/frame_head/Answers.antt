use Rattle.std.proofs.Common.{◌∙◌, ◌^◌, ◌-◌, min, not, ap, arith}
use Rattle.std.specs.Str.Parse.{digits_value}
use Rattle.q_words.specs.Values.{is_digits}
use Rattle.q_words.proofs.FrameLemmas.{bytes_there, digits_there, frame_is}
use Rattle.q_words.proofs.frames.frame_head.Goals as goal

pub returns : goal.returns
returns c =
    let w = c.args.word.now in
    let digits = digits_there (is_digits 16 w) (min (digits_value 16 w) (2 ^ 64 - 1)) c.digits_value.result c.digits_value.ensures (c.is_none.ensures ∙ ap not c.if-is_none.false) in
    rw c.read_head.ensures.value (frame_is w _ (bytes_there w c.is_empty.result c.is_empty.ensures c.if-is_empty.false) (omega arith) digits c.first_bytes-count.ensures.bytes)
