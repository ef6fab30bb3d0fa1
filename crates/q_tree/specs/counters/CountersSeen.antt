-- What a contract sees of the counters of a node: its row, as it is stored.
-- The counters are those of `tc -s qdisc show` (tc(8)).
use Rattle.std.specs.Prelude.{◌≡◌, ◌<◌, ◌^◌, ◌+◌}
use Rattle.q_model.specs.declared.row.Row.{Row}
use Rattle.q_model.specs.Tally.{no_totals}
use Rattle.q_tree.specs.declared.counters.Counters.TheInside.{Inside}

abbrev pub counters_seen : Inside → Row
counters_seen c = record {
  arrived = record { packets = c.arrived_packets; bytes = c.arrived_bytes };
  sent = record { packets = c.sent_packets; bytes = c.sent_bytes };
  refused = record { packets = c.refused_packets; bytes = c.refused_bytes };
  dropped = record { packets = c.dropped_packets; bytes = c.dropped_bytes };
  queued = record { packets = c.queued_packets; bytes = c.queued_bytes };
  marked = record { packets = c.marked_packets; bytes = c.marked_bytes };
}

-- what arrived was sent, was refused, was dropped, or is queued
pub record AddsUp (c : Inside) : Type 0 where
  pub packets : c.arrived_packets ≡ c.sent_packets + c.refused_packets + c.dropped_packets + c.queued_packets
  pub bytes : c.arrived_bytes ≡ c.sent_bytes + c.refused_bytes + c.dropped_bytes + c.queued_bytes

-- nothing was counted yet
abbrev pub no_row : Row
no_row = record { arrived = no_totals; sent = no_totals; refused = no_totals; dropped = no_totals; queued = no_totals; marked = no_totals }

-- what is counted of arrivals fits 64 bits
pub record HasArrivals (r : Row) : Type 0 where
  pub packets : r.arrived.packets < 2 ^ 64
  pub bytes : r.arrived.bytes < 2 ^ 64
