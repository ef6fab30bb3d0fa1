use Rattle.std.proofs.Common.{◌≡◌, ℕ, ◌-◌, ◌^◌, map, min}
use Rattle.q_ports.specs.DriveTurns.{TurnsBelow}
use Rattle.q_ports.specs.Rings.{ring_id}
use Rattle.q_ports.proofs.driving.take_turns.Given as goal

abbrev pub invariant-loop-turn : goal.invariant-loop-turn
invariant-loop-turn g l = record {
  rings : map ring_id l.drain.rings ≡ map ring_id l.initial.drain.rings;
  book : l.drain.board.book ≡ l.initial.drain.board.book;
  turned : (count : ℕ) × (l.nth ≡ min count (2 ^ 64 - 1)) × TurnsBelow l.start l.step count l.initial.drain l.drain;
}
