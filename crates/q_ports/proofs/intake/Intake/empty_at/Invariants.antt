use Rattle.std.proofs.Common.{◌≡◌, ◌≢◌, ◌+◌, ℕ, length, get_or, map}
use Rattle.q_ports.specs.Collected.{Collects}
use Rattle.q_ports.specs.Rings.{RingSeen, all_of, ring_id, received_from}
use Rattle.q_ports.proofs.intake.Intake.empty_at.Given as goal

abbrev pub invariant-loop-left : goal.invariant-loop-left
invariant-loop-left g l = record {
  rings : map ring_id l.self ≡ map ring_id l.initial.self;
  all : map all_of l.self ≡ map all_of l.initial.self;
  others : (k : ℕ) (d : RingSeen) → k ≢ l.at → get_or l.self k d ≡ get_or l.initial.self k d;
  left : (d : RingSeen) → length (get_or l.self l.at d).known + l._left ≡ length (get_or l.initial.self l.at d).known;
  collected : Collects l.now (map received_from l.initial.self) (map received_from l.self) l.initial.booked l.booked l._left;
  same : l._left ≡ 0 → l.booked ≡ l.initial.booked;
}
