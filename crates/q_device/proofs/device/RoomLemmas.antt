-- Places that stay.
use Rattle.std.proofs.Common.{◌∙◌, refl, arith}
use Rattle.q_device.specs.device.DeviceSeen.{DeviceSeen}
use Rattle.q_device.specs.device.Room.{KeepsPlaces}

pub keeps-same : (d : DeviceSeen) → KeepsPlaces d d
keeps-same d = record { queues = λ path. omega arith; losses = omega arith; events = refl }

pub keeps-then : (d d1 d2 : DeviceSeen) → KeepsPlaces d d1 → KeepsPlaces d1 d2 → KeepsPlaces d d2
keeps-then d d1 d2 a b = record {
  queues = λ path. let x = a.queues path in let y = b.queues path in omega (arith, x, y);
  losses = omega (arith, a.losses, b.losses);
  events = b.events ∙ a.events;
}
