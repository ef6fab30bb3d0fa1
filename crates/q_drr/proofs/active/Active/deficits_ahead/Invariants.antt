use Rattle.std.proofs.Common.{◌≡◌, ◌≤◌, ◌<◌, ◌+◌, ◌*◌, ◌^◌, map, drop, length, Some}
use Rattle.std.specs.Prelude.{slice_get}
use Rattle.q_drr.specs.States.{class_in, entry_in, names_in}
use Rattle.q_drr.specs.Waiting.{left_along}
use Rattle.q_drr.proofs.AheadSteps.{left_of}
use Rattle.q_drr.proofs.active.Active.deficits_ahead.Given as goal

-- the place that comes next, and what is counted with what is left
abbrev pub invariant-loop-passed : goal.invariant-loop-passed
invariant-loop-passed l =
    let states = l.self-inside.table in
    let active = map (entry_in states) (names_in states l.self-inside.ring.order) in
    (l._passed < length l.self-inside.ring.order → slice_get l.self-inside.ring.order l._passed ≡ Some l.place)
    × (l.bytes + left_of l.is_behind l.class (map class_in states) (drop l._passed active) ≡ left_along l.class (map class_in states) active)
    × (l.bytes ≤ l._passed * 2 ^ 64)
