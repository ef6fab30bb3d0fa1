use Rattle.std.proofs.Common.{rules}
use Rattle.q_line.proofs.BandLemmas.{default_bands, no_bad, few_bands}
use Rattle.q_line.proofs.prio_made.prio_made.Goals as goal

pub invariant_of-qdisc_made : goal.invariant_of-qdisc_made
invariant_of-qdisc_made c =
    let b = c.unwrap_or-bands.ensures in
    record {
      few = rw b (few_bands c.args.bands c.requires.bands);
      each = search rules;
      there = default_bands c.unwrap_or-bands.result c.if-bands-lt-DEFAULT_BANDS.false;
    }

pub invariant_of-qdisc_made-2 : goal.invariant_of-qdisc_made-2
invariant_of-qdisc_made-2 c =
    let m = c.numbers-priomap.ensures in
    let b = c.unwrap_or-bands.ensures in
    let whole = rw c.in-Some.is at c.requires.map in
    record {
      few = rw b (few_bands c.args.bands c.requires.bands);
      each = rw m whole;
      there = rw m (no_bad c.unwrap_or-bands.result c.in-Some.map.from c.in-Some.map.numbers c.in_default-first_bad.ensures);
    }
