use Rattle.std.proofs.Common.{◌≡◌, map}
use Rattle.q_ports.specs.Rings.{ring_id, received_from, AreEmptyWithin, AreSameFrom}
use Rattle.q_ports.proofs.intake.Intake.take_within.Given as goal

abbrev pub invariant-loop-at : goal.invariant-loop-at
invariant-loop-at g l = record {
  rings : map ring_id l.self ≡ map ring_id l.initial.self;
  others : AreSameFrom l.to l.initial.self l.self;
  received : map received_from l.self ≡ map received_from l.initial.self;
  empty : AreEmptyWithin l.from l.at l.self;
  device : l.booked ≡ l.initial.booked;
}
