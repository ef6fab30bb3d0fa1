use Rattle.std.proofs.Common.{sym, arith}
use Rattle.q_words.proofs.GroupLemmas.{group_value}
use Rattle.q_words.proofs.classes.class.Goals as goal

pub overflow_cast-below : goal.overflow_cast-below
overflow_cast-below c =
    let v = group_value c.cut_at_colon.result.1.now c.in-Some-digits_value.below (sym c.in-Some-digits_value.ensures) (omega arith) in
    omega (arith, v.small)

pub unwrap-requires-2 : goal.unwrap-requires-2
unwrap-requires-2 c =
    let v = group_value c.cut_at_colon.result.1.now c.in-Some-digits_value.below (sym c.in-Some-digits_value.ensures) (omega arith) in
    let small = v.small in
    c.new-2.ensures.in_range.1 (omega arith, omega arith)
