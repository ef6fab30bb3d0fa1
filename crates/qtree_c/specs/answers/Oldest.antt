-- Since when packets wait in a place, as it is reported to C.
-- The time is that of q_model's specs/Oldest.antt, and the numbers this project's own.
use Rattle.std.specs.Prelude.{◌≡◌, ℕ, unwrap_or}
use Rattle.q_device.specs.device.DeviceSeen.{DeviceSeen}
use Rattle.q_model.specs.declared.place.Place.{Place}
use Rattle.q_model.specs.Oldest.{oldest_at}
use Rattle.qtree_c.specs.device.Calls.{found_number}

-- when the packet arrived that has been queued longest in this place (0); or none is queued there, or nothing stands there (32), and what
-- was there stays
pub record IsOldest (place : Place) (code before after : ℕ) (d n : DeviceSeen) : Type 0 where
  pub same : n ≡ d
  pub answer : code ≡ found_number (oldest_at place d.device.tree)
  pub moment : after ≡ unwrap_or (oldest_at place d.device.tree) before
