use Rattle.std.proofs.Common.{◌≡◌}
use Rattle.std.specs.Prelude.{All}
use Rattle.std.specs.Vec.Iter.{into_iter_items}
use Rattle.q_ports.specs.Rows.{new_gauge, shown_on, GaugeSeen}
use Rattle.q_threads_tests.proofs.ports.read_each.Given as goal

abbrev pub invariant-loop-gauge : goal.invariant-loop-gauge
invariant-loop-gauge g l = record {
  book : l.drain.board.book ≡ l.initial.drain.board.book;
  gauges : All (λ (s : GaugeSeen). s ≡ new_gauge (shown_on l.initial.drain.board)) (into_iter_items l.gauge-iterator);
}
