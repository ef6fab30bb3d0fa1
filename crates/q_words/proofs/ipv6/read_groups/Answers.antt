use Rattle.std.proofs.Common.{arith}
use Rattle.q_words.proofs.GroupLemmas.{group_fits}
use Rattle.q_words.proofs.ipv6.read_groups.Goals as goal

pub overflow_mul-read : goal.overflow_mul-read
overflow_mul-read c =
    let r = c.loop-part.read in
    let h = group_fits r.count r.value 0 (omega arith) c.loop-part.invariant.short.value (omega arith) in
    omega arith

pub overflow_add-read-in-Some : goal.overflow_add-read-in-Some
overflow_add-read-in-Some c =
    let r = c.loop-part.read in
    let h = group_fits r.count r.value c.from-value.result (omega arith) c.loop-part.invariant.short.value (omega arith) in
    omega arith
