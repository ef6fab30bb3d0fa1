-- By when the last packet of a fifo has left, as it is reported to C.
-- The numbers are those of q_device's specs/promises/Latest.antt; that the greatest number stands for no time is this project's own.
use Rattle.std.specs.Prelude.{◌≡◌, ℕ, ◌-◌, ◌^◌, Option, Some, None, unwrap_or}
use Rattle.q_device.specs.device.DeviceSeen.{DeviceSeen}
use Rattle.q_device.specs.promises.Latest.{latest_of}
use Rattle.q_device.specs.declared.promises.latest.Latest.{Latest}
use Rattle.q_model.specs.declared.place.Place.{Place}
use Rattle.q_model.specs.Tally.{totals}
use Rattle.qtree_c.specs.device.Calls.{found_number}
use Rattle.qtree_c.specs.declared.abi.c_departure.CDeparture.{CDeparture}

-- Without a tbf at the root no time is known, and polls may come at any time.
abbrev pub departure_told : Latest → CDeparture
departure_told w = record { bytes = w.bytes; at = unwrap_or w.at (2 ^ 64 - 1); late = unwrap_or w.late (2 ^ 64 - 1) }

abbrev pub departure_or : CDeparture → Option Latest → CDeparture
departure_or before None = before
departure_or before (Some w) = departure_told w

-- by when a packet of this length has left that comes next to the fifo in this place, one in line or in a class of a drr, or with 0 the one that
-- was queued there last (0); or nothing is promised to it (32), and what was there stays
pub record IsDeparture (place : Place) (len code : ℕ) (before after : CDeparture) (d n : DeviceSeen) : Type 0 where
  pub same : n ≡ d
  pub answer : code ≡ found_number (latest_of totals place len d.settings.mtu d.device)
  pub departure : after ≡ departure_or before (latest_of totals place len d.settings.mtu d.device)
