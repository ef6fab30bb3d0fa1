-- Worked examples of the definitions, by computation.
use Rattle.std.proofs.Common.{◌≡◌, [], ◌∷◌, Some, None, refl}
use Rattle.std.specs.Prelude.{◌-◌, ◌^◌}
use Rattle.q_drr.specs.declared.active.Turn.TheVariants.{Send, Granted}
use Rattle.q_drr.specs.Schedule.{Schedule, no_classes, place_of, name_at, added, woken, asleep, removed, with_quantum, turned, turn_answer, deficit_of, granted_of}
use Rattle.q_drr.specs.Take.{grants_for, served, met, head_at}
use Rattle.q_drr.specs.Stretch.{after_turns, grants, sent}

-- two classes with a quantum of 1000 bytes, both awake
abbrev two : Schedule
two = woken 2 (woken 1 (added 2 1000 (added 1 1000 (no_classes 1514))))

in_order_of_adding : (place_of 2 two.classes ≡ Some 1) × (name_at 0 two.classes ≡ Some 1)
in_order_of_adding = (refl, refl)

first_turn : turn_answer 1500 two.active ≡ Granted
first_turn = refl

granted_first : deficit_of 1 (turned 1500 two).active ≡ 2000
granted_first = refl

then_sends : turn_answer 500 (turned 1500 two).active ≡ Send
then_sends = refl

five_turns : after_turns (1500 ∷ 500 ∷ 500 ∷ 500 ∷ 1500 ∷ []) two ≡ record (record two { turns = 5 }) {
  active = record { class = 1; deficit = 500; granted = 1000 } ∷ record { class = 2; deficit = 1000; granted = 1000 } ∷ [];
}
five_turns = refl

five_turns_sent : sent 1 (1500 ∷ 500 ∷ 500 ∷ 500 ∷ 1500 ∷ []) two ≡ 1500
five_turns_sent = refl

five_turns_granted : grants 2 (1500 ∷ 500 ∷ 500 ∷ 500 ∷ 1500 ∷ []) two ≡ 1
five_turns_granted = refl

cut_by_a_quantum : deficit_of 1 (with_quantum 1 100 (turned 1500 two)).active ≡ 1613
cut_by_a_quantum = refl

-- quanta of 10 bytes, and heads of 25 and 14 bytes: the second class is met after two grants of the first and one of its own
abbrev small : Schedule
small = woken 2 (woken 1 (added 2 10 (added 1 10 (no_classes 100))))

met_second : met (head_at (None ∷ Some 25 ∷ Some 14 ∷ [])) small ≡ Some (record { class = 2; head = Some 14 })
unfolding grants_for
met_second = refl

served_second : served (head_at (None ∷ Some 25 ∷ Some 14 ∷ [])) small ≡ record (record small { turns = 4 }) {
  active = record { class = 2; deficit = 6; granted = 10 } ∷ record { class = 1; deficit = 30; granted = 20 } ∷ [];
}
unfolding grants_for
served_second = refl

-- a class that shows nothing is met with no grant, once it is in front
met_nothing : served (head_at (None ∷ Some 25 ∷ None ∷ [])) small ≡ record (record small { turns = 1 }) {
  active = record { class = 2; deficit = 10; granted = 0 } ∷ record { class = 1; deficit = 20; granted = 10 } ∷ [];
}
unfolding grants_for
met_nothing = refl

-- waking an active class changes nothing, and one that wakes again begins anew: behind the others, with one quantum
wakes_once : woken 1 two ≡ two
wakes_once = refl

begins_anew : (woken 1 (asleep 1 (turned 1500 two))).active ≡
    record { class = 2; deficit = 1000; granted = 0 } ∷ record { class = 1; deficit = 1000; granted = 0 } ∷ []
begins_anew = refl

-- a class that sleeps has no deficit and no grants, and the others keep theirs
sleeps : (let s = asleep 1 (turned 1500 two) in (deficit_of 1 s.active ≡ 0) × (granted_of 1 s.active ≡ 0) × (deficit_of 2 s.active ≡ 1000))
sleeps = (refl, refl, refl)

-- three classes, the second of which is active in the middle
abbrev three : Schedule
three = woken 3 (woken 2 (woken 1 (added 3 30 (added 2 20 (added 1 10 (no_classes 100))))))

removed_in_the_middle : removed 2 three ≡ woken 3 (woken 1 (added 3 30 (added 1 10 (no_classes 100))))
removed_in_the_middle = refl

-- a new quantum is that of its class alone, and cuts the deficit of that class alone
cut_behind_the_front : (let s = with_quantum 2 5 (turned 100 (turned 100 (turned 100 three))) in
    (deficit_of 1 s.active ≡ 20) × (deficit_of 2 s.active ≡ 40) × (deficit_of 3 s.active ≡ 60))
cut_behind_the_front = (refl, refl, refl)

cut_to_the_bound : (let s = with_quantum 2 1 (woken 2 (added 2 500 (woken 1 (added 1 500 (no_classes 100))))) in
    (deficit_of 1 s.active ≡ 500) × (deficit_of 2 s.active ≡ 100))
cut_to_the_bound = (refl, refl)

cut_in_front : (let s = with_quantum 1 1 (woken 2 (added 2 500 (woken 1 (added 1 500 (no_classes 100))))) in
    (deficit_of 1 s.active ≡ 100) × (deficit_of 2 s.active ≡ 500))
cut_in_front = (refl, refl)

-- the number of turns stays at 2^64 - 1
turns_end : ((turned 100 (record two { turns = 2 ^ 64 - 2 })).turns ≡ 2 ^ 64 - 1) × ((turned 100 (record two { turns = 2 ^ 64 - 1 })).turns ≡ 2 ^ 64 - 1)
turns_end = (refl, refl)
