-- How long a packet of a fifo waits at most, as it is reported to C.
-- The numbers are those of q_device's specs/promises/Worst.antt; that the greatest number stands for no time is this project's own.
use Rattle.std.specs.Prelude.{◌≡◌, ℕ, ◌-◌, ◌^◌, Option, Some, None, unwrap_or}
use Rattle.q_device.specs.device.DeviceSeen.{DeviceSeen}
use Rattle.q_device.specs.promises.Worst.{worst_of}
use Rattle.q_device.specs.declared.promises.worst.Worst.{Worst}
use Rattle.q_model.specs.declared.place.Place.{Place}
use Rattle.qtree_c.specs.device.Calls.{found_number}
use Rattle.qtree_c.specs.declared.abi.c_delay.CDelay.{CDelay}

-- Without a tbf at the root no time is known, and polls may come at any time.
abbrev pub delay_told : Worst → CDelay
delay_told w = record { bytes = w.bytes; ns = unwrap_or w.ns (2 ^ 64 - 1); late = unwrap_or w.late (2 ^ 64 - 1) }

abbrev pub delay_or : CDelay → Option Worst → CDelay
delay_or before None = before
delay_or before (Some w) = delay_told w

-- how long a packet of the fifo in this place waits at most (0); or nothing is promised to it (32), and what was there stays
pub record IsDelay (place : Place) (code : ℕ) (before after : CDelay) (d n : DeviceSeen) : Type 0 where
  pub same : n ≡ d
  pub answer : code ≡ found_number (worst_of place d.settings.mtu d.device.tree.root)
  pub delay : after ≡ delay_or before (worst_of place d.settings.mtu d.device.tree.root)
