use Rattle.std.proofs.Common.{◌≡◌}
use Rattle.std.specs.Prelude.{All, vec_len, vec_capacity}
use Rattle.q_ports.specs.Rows.{gauge_seen, GaugeSeen}
use Rattle.q_ports.proofs.board_writer.BoardWriter.gauges.Given as goal

abbrev pub invariant-loop-gauge : goal.invariant-loop-gauge
invariant-loop-gauge l = record {
  count : vec_len l.all ≡ l._gauge;
  room : vec_capacity l.all ≡ l.count;
  same : l.self ≡ l.initial.self;
  gauges : All (λ (f : GaugeSeen). f ≡ gauge_seen l.initial.self.shown l.note.rows 0) l.all.items;
}
