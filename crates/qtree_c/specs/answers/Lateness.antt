-- How late polls may be while a class's promise holds, as it is reported to C.
-- The number is that of q_device's specs/promises/Promise.antt; that the greatest number stands for no bound is this project's own.
use Rattle.std.specs.Prelude.{◌≡◌, ℕ, ◌-◌, ◌^◌, Option, Some, None, unwrap_or}
use Rattle.q_device.specs.device.DeviceSeen.{DeviceSeen}
use Rattle.q_device.specs.promises.Promise.{Promise, promise_of}
use Rattle.q_model.specs.declared.place.Place.{Place}
use Rattle.qtree_c.specs.device.Calls.{found_number}

-- in nanoseconds, from the time that ready_at answers; without a tbf at the root polls may come at any time
abbrev pub lateness_of : Promise → ℕ
lateness_of p = unwrap_or p.late (2 ^ 64 - 1)

abbrev pub lateness_or : ℕ → Option Promise → ℕ
lateness_or before None = before
lateness_or before (Some p) = lateness_of p

-- how late polls may be for the class in this place (0); or nothing is promised to it (32), and what was there stays
pub record IsLateness (place : Place) (code before after : ℕ) (d n : DeviceSeen) : Type 0 where
  pub same : n ≡ d
  pub answer : code ≡ found_number (promise_of place d.settings.mtu d.device.tree.root)
  pub late : after ≡ lateness_or before (promise_of place d.settings.mtu d.device.tree.root)
