use Rattle.std.proofs.Common.{◌≡◌, map, take}
use Rattle.q_ports.specs.Placed.{placed_by}
use Rattle.q_ports.specs.Rings.{all_of, ring_id, received_from}
use Rattle.q_ports.proofs.intake.Intake.look_all.Given as goal

abbrev pub invariant-loop-at : goal.invariant-loop-at
invariant-loop-at g l = record {
  rings : map ring_id l.self ≡ map ring_id l.initial.self;
  received : map received_from l.self ≡ map received_from l.initial.self;
  ports : l.ports.items ≡ l.initial.ports.items;
  all : take l.at (map all_of l.self) ≡ take l.at (map placed_by l.initial.ports.items);
}
