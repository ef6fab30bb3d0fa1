-- What a class is promised, as it is reported to C.
-- The numbers are those of q_device's specs/promises/Promise.antt, and their layout this project's own.
use Rattle.std.specs.Prelude.{◌≡◌, ℕ, Option, Some, None, option_map, unwrap_or}
use Rattle.q_device.specs.device.DeviceSeen.{DeviceSeen}
use Rattle.q_device.specs.promises.Promise.{Promise, part_of, promise_of}
use Rattle.q_model.specs.declared.place.Place.{Place}
use Rattle.qtree_c.specs.device.Calls.{found_number}
use Rattle.qtree_c.specs.declared.abi.c_promise.CPromise.{CPromise}

-- The rate of the tbf at the root and the class's part of it, in bits a second, or 0 where a drr is at the root; its part of a billion
-- bytes; and the bytes that it may lack.
abbrev pub told_of : Promise → CPromise
told_of p = record {
  link = unwrap_or p.link 0;
  rate = unwrap_or (option_map (part_of p.shares) p.link) 0;
  part = part_of p.shares 1000000000;
  slack = p.slack;
}

abbrev pub told_or : CPromise → Option Promise → CPromise
told_or before None = before
told_or before (Some p) = told_of p

-- what the class in this place is promised (0); or nothing is (32), and what was there stays
pub record IsPromised (place : Place) (code : ℕ) (before after : CPromise) (d n : DeviceSeen) : Type 0 where
  pub same : n ≡ d
  pub answer : code ≡ found_number (promise_of place d.settings.mtu d.device.tree.root)
  pub promise : after ≡ told_or before (promise_of place d.settings.mtu d.device.tree.root)
