use Rattle.std.proofs.Common.{◌-◌, arith}
use Rattle.q_words.proofs.GroupLemmas.{fits_seven, fits_128, joined_fits}
use Rattle.q_words.proofs.ipv6.joined.Goals as goal
use Rattle.q_words.proofs.ipv6.joined.Goals.{then-high-eq0, else-high-eq0}

pub pow-requires : goal.pow-requires
pow-requires c = fits_seven (8 - c.args.high.count) (omega arith)

pub overflow_mul-address : goal.overflow_mul-address
overflow_mul-address c =
    let h = joined_fits c.args.high.count c.args.low.count c.args.high.value c.args.low.value (omega arith) c.requires.high.value c.requires.low.value in
    rw c.pow.ensures (omega arith)

pub overflow_add-address : goal.overflow_add-address
overflow_add-address c =
    let h = joined_fits c.args.high.count c.args.low.count c.args.high.value c.args.low.value (omega arith) c.requires.high.value c.requires.low.value in
    rw c.pow.ensures (omega arith)

pub invariant_of-result : goal.invariant_of-result
invariant_of-result c =
    let h = joined_fits c.args.high.count c.args.low.count c.args.high.value c.args.low.value (omega arith) c.requires.high.value c.requires.low.value in
    elim c.if-high-eq0.branch [
      | then-high-eq0 w ↦ rw w.address-is (fits_128 c.args.low.count c.args.low.value c.requires.low.few c.requires.low.value)
      | else-high-eq0 w ↦ rw (w.address-is, w.pow.ensures) h
    ]
