-- A row in which it is booked what asking a node came to has what the model counts of it.
use Rattle.std.proofs.Common.{◌≡◌, List, ◌++◌, ap, arith}
use Rattle.std.specs.List.{fold}
use Rattle.q_model.specs.declared.row.Row.{Row}
use Rattle.q_model.specs.declared.totals.Totals.{Totals}
use Rattle.q_model.specs.Tally.{Note, Counts, counted, no_counts, counts_in, noted, totals}
use Rattle.q_invariants.specs.Weights.{dropped, marked}
use Rattle.q_invariants.proofs.ask.Answer.{one, IsSilent}
use Rattle.q_invariants.proofs.sums.Counted.{bytes, lost-parts, all-more}
use Rattle.q_invariants.proofs.sums.Weights.{dropped-append, marked-append, lost-append, arrived-append, sent-append, IsQuiet}
use Rattle.q_tree.specs.arrival.Arrivals.{plus}
use Rattle.q_tree.specs.departure.AskSteps.{with_shown}
use Rattle.q_tree.specs.departure.Shown.{Shown}
use Rattle.q_tree.proofs.counters.Rows.{counts_in_row, same-totals, same-counts}

-- what is counted of notes, packet by packet
pub record IsCountOf (notes : List Note) (s : Shown) : Type 0 where
  pub dropped_packets : s.dropped.packets ≡ dropped one notes
  pub dropped_bytes : s.dropped.bytes ≡ dropped bytes notes
  pub marked_packets : s.marked.packets ≡ marked one notes
  pub marked_bytes : s.marked.bytes ≡ marked bytes notes

pub counts-of : (notes : List Note) (s : Shown) → s.dropped ≡ (counts_in notes).dropped → s.marked ≡ (counts_in notes).marked → IsCountOf notes s
counts-of notes s d m =
    let z = all-more no_counts notes in
    record {
      dropped_packets = omega (arith, z.dropped_packets, ap (λ (t : Totals). t.packets) d);
      dropped_bytes = omega (arith, z.dropped_bytes, ap (λ (t : Totals). t.bytes) d);
      marked_packets = omega (arith, z.marked_packets, ap (λ (t : Totals). t.packets) m);
      marked_bytes = omega (arith, z.marked_bytes, ap (λ (t : Totals). t.bytes) m);
    }

-- counts of notes and of more notes
pub dropped-both : (ms ns : List Note) → plus (counts_in ms).dropped (counts_in ns).dropped ≡ (counts_in (ms ++ ns)).dropped
dropped-both ms ns =
    let a = all-more no_counts ms in
    let b = all-more no_counts ns in
    let c = all-more no_counts (ms ++ ns) in
    same-totals (plus (counts_in ms).dropped (counts_in ns).dropped) (counts_in (ms ++ ns)).dropped
    (omega (arith, a.dropped_packets, b.dropped_packets, c.dropped_packets, dropped-append one ms ns))
    (omega (arith, a.dropped_bytes, b.dropped_bytes, c.dropped_bytes, dropped-append bytes ms ns))

pub marked-both : (ms ns : List Note) → plus (counts_in ms).marked (counts_in ns).marked ≡ (counts_in (ms ++ ns)).marked
marked-both ms ns =
    let a = all-more no_counts ms in
    let b = all-more no_counts ns in
    let c = all-more no_counts (ms ++ ns) in
    same-totals (plus (counts_in ms).marked (counts_in ns).marked) (counts_in (ms ++ ns)).marked
    (omega (arith, a.marked_packets, b.marked_packets, c.marked_packets, marked-append one ms ns))
    (omega (arith, a.marked_bytes, b.marked_bytes, c.marked_bytes, marked-append bytes ms ns))

-- the row of a node that was asked, where it noted `mine` for itself besides
pub counted-shown : (rises mine : List Note) (s : Shown) (r : Row) → IsQuiet rises → IsSilent mine → s.dropped ≡ (counts_in rises).dropped → s.marked ≡ (counts_in rises).marked
    → counts_in_row (with_shown s r) ≡ noted totals (counts_in_row r) (rises ++ mine)
counted-shown rises mine s r quiet silent d k =
    let c : Counts = counts_in_row r in
    let m = all-more c (rises ++ mine) in
    let z = counts-of rises s d k in
    let e : Counts = fold counted c (rises ++ mine) in
    let lost_one = lost-parts one (rises ++ mine) in
    let lost_bytes = lost-parts bytes (rises ++ mine) in
    same-counts (counts_in_row (with_shown s r)) e
    (same-totals r.arrived e.arrived
    (omega (arith, m.arrived_packets, arrived-append one rises mine, quiet.no_arrival one, silent.no_arrival one))
    (omega (arith, m.arrived_bytes, arrived-append bytes rises mine, quiet.no_arrival bytes, silent.no_arrival bytes)))
    (same-totals r.sent e.sent
    (omega (arith, m.sent_packets, sent-append one rises mine, quiet.nothing_sent one, silent.nothing_sent one))
    (omega (arith, m.sent_bytes, sent-append bytes rises mine, quiet.nothing_sent bytes, silent.nothing_sent bytes)))
    (same-totals r.refused e.refused
    (omega (arith, m.refused_packets, lost_one, lost-append one rises mine, dropped-append one rises mine, quiet.all_dropped one, silent.nothing_lost one, silent.nothing_dropped one))
    (omega (arith, m.refused_bytes, lost_bytes, lost-append bytes rises mine, dropped-append bytes rises mine, quiet.all_dropped bytes, silent.nothing_lost bytes, silent.nothing_dropped bytes)))
    (same-totals (plus r.dropped s.dropped) e.dropped
    (omega (arith, m.dropped_packets, z.dropped_packets, dropped-append one rises mine, silent.nothing_dropped one))
    (omega (arith, m.dropped_bytes, z.dropped_bytes, dropped-append bytes rises mine, silent.nothing_dropped bytes)))
    (same-totals (plus r.marked s.marked) e.marked
    (omega (arith, m.marked_packets, z.marked_packets, marked-append one rises mine, silent.nothing_marked one))
    (omega (arith, m.marked_bytes, z.marked_bytes, marked-append bytes rises mine, silent.nothing_marked bytes)))
