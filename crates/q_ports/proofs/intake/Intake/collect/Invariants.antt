use Rattle.std.proofs.Common.{◌≡◌, map}
use Rattle.q_ports.specs.Collected.{Collects}
use Rattle.q_ports.specs.Rings.{ring_id, received_from}
use Rattle.q_ports.proofs.intake.Intake.collect.Given as goal

abbrev pub invariant-loop-taken : goal.invariant-loop-taken
invariant-loop-taken g l = record {
  rings : map ring_id l.self ≡ map ring_id l.initial.self;
  collected : Collects l.now (map received_from l.initial.self) (map received_from l.self) l.initial.booked l.booked l.taken;
  first : l.taken ≡ 0 → l.booked ≡ l.initial.booked;
}
