use Rattle.std.proofs.Common.{◌≡◌, map}
use Rattle.q_ports.specs.Collected.{CollectsOnly}
use Rattle.q_ports.specs.Rings.{AreEmptyWithin, all_of, ring_id, received_from}
use Rattle.q_ports.proofs.intake.Intake.empty_all.Given as goal

abbrev pub invariant-loop-at : goal.invariant-loop-at
invariant-loop-at g l = record {
  rings : map ring_id l.self ≡ map ring_id l.initial.self;
  all : map all_of l.self ≡ map all_of l.initial.self;
  collected : CollectsOnly l.now (map received_from l.initial.self) (map received_from l.self) l.initial.booked l.booked;
  empty : AreEmptyWithin 0 l.at l.self;
}
