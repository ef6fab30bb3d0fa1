use Rattle.std.proofs.Common.{ap, arith}
use Rattle.q_model.specs.declared.row.Row.{Row}
use Rattle.q_tree.proofs.counters.booking.book_dropped.Goals as goal

pub overflow_add-row : goal.overflow_add-row
overflow_add-row c =
    omega (
      arith,
      c.requires.room.packets,
      c.requires.room.arrived_packets,
      c.row.invariant.packets,
      ap (λ (r : Row). r.queued.packets)
          c.row.view_is,
      ap (λ (r : Row). r.arrived.packets) c.row.view_is,
    )

pub overflow_add-row-2 : goal.overflow_add-row-2
overflow_add-row-2 c =
    omega (
      arith,
      c.requires.room.bytes,
      c.requires.room.arrived_bytes,
      c.row.invariant.bytes,
      ap (λ (r : Row). r.queued.bytes) c.row.view_is,
      ap
          (λ (r : Row). r.arrived.bytes) c.row.view_is,
    )
