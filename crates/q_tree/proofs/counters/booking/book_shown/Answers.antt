use Rattle.std.proofs.Common.{◌∙◌, ap, arith}
use Rattle.q_tree.specs.declared.departure.signals.Signals.{Signals}
use Rattle.q_tree.proofs.counters.Quiet.{booked-signals, shown-nothing}
use Rattle.q_tree.proofs.counters.booking.book_shown.Goals as goal

pub book_signals-requires-clause-packets : goal.book_signals-requires-clause-packets
book_signals-requires-clause-packets c = omega (arith, c.requires.room.packets, ap (λ (t : Signals). t.dropped.packets) c.requires.told)

pub book_signals-requires-clause-bytes : goal.book_signals-requires-clause-bytes
book_signals-requires-clause-bytes c = omega (arith, c.requires.room.bytes, ap (λ (t : Signals). t.dropped.bytes) c.requires.told)

pub book_signals-requires-clause-marked_packets : goal.book_signals-requires-clause-marked_packets
book_signals-requires-clause-marked_packets c = omega (arith, c.requires.room.marked_packets, ap (λ (t : Signals). t.marked.packets) c.requires.told)

pub book_signals-requires-clause-marked_bytes : goal.book_signals-requires-clause-marked_bytes
book_signals-requires-clause-marked_bytes c = omega (arith, c.requires.room.marked_bytes, ap (λ (t : Signals). t.marked.bytes) c.requires.told)

pub book_signals-requires-clause-dropped_packets : goal.book_signals-requires-clause-dropped_packets
book_signals-requires-clause-dropped_packets c =
    omega (
      arith,
      c.requires.balanced.packets,
      c.requires.room.packets,
      c.requires.room.arrived_packets,
      ap (λ (t : Signals). t.dropped.packets)
          c.requires.told,
    )

pub book_signals-requires-clause-dropped_bytes : goal.book_signals-requires-clause-dropped_bytes
book_signals-requires-clause-dropped_bytes c = omega (arith, c.requires.balanced.bytes, c.requires.room.bytes, c.requires.room.arrived_bytes, ap (λ (t : Signals). t.dropped.bytes) c.requires.told)

pub returns-then-is_quiet : goal.returns-then-is_quiet
returns-then-is_quiet c =
    let quiet = c.is_quiet.ensures.means c.if-is_quiet.true in
    shown-nothing c.args.shown.now c.args.row.now (ap (λ (t : Signals). t.dropped) quiet) (ap (λ (t : Signals). t.marked) quiet)

pub returns : goal.returns
returns c = c.book_signals.ensures ∙ booked-signals c.args.signals.now c.args.shown.now c.args.row.now c.requires.told
