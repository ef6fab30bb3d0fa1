use Rattle.std.specs.Prelude.{◌≡◌, replicate}
use Rattle.q_model.specs.declared.event.Event.TheVariants.{Poll}
use Rattle.q_device.specs.log.LastNoted.{all_noted}
use Rattle.qtree_c.proofs.events.noting.keep_polls.Given as goal

abbrev pub invariant-loop-i : goal.invariant-loop-i
invariant-loop-i l = l.last ≡ all_noted (replicate l.i (Poll l.device.device.clock)) l.initial.last
