use Rattle.std.specs.Prelude.{◌≡◌, map, take}
use Rattle.q_model.specs.declared.event.Event.TheVariants.{Arrive}
use Rattle.q_packet.specs.Descriptor.{Descriptor}
use Rattle.q_packet.specs.Stored.{descriptor}
use Rattle.q_device.specs.log.LastNoted.{all_noted}
use Rattle.qtree_c.proofs.events.noting.keep_arrivals.Given as goal

abbrev pub invariant-loop-i : goal.invariant-loop-i
invariant-loop-i l = l.last ≡ all_noted (map (λ (p : Descriptor). Arrive p l.device.device.clock) (map descriptor (take l.i l.packets))) l.initial.last
