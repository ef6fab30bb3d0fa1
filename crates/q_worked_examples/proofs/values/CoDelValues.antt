-- Worked examples. The gaps are at their full size; the takes are computed, at an interval that is short enough for it.
use Rattle.std.proofs.Common.{◌≡◌, ℕ, Bool, true, false, List, [], ◌∷◌, Option, Some, None, take, sym, refl, lit<, lit≤}
use Rattle.std.specs.Prelude.{option_map, map, ◌++◌, if◌then◌else◌}
use Rattle.q_packet.specs.Key.{zero_key}
use Rattle.q_packet.specs.declared.ecn.Ecn.{Ecn}
use Rattle.q_packet.specs.declared.ecn.Ecn.TheVariants.{NotEct, Ect1, Ect0, Ce}
use Rattle.q_packet.specs.declared.stamped.Stamped.{Stamped}
use Rattle.q_codel.specs.declared.codel.Taken.{Taken}
use Rattle.q_codel.specs.Gap.{gap_of}
use Rattle.q_codel.specs.Codel.{CodelState, at_first, rested, is_capable, drops, marks, taken, left, after}
use Rattle.q_codel.proofs.Root.{gap_of_is}

gap-1 : gap_of 100000000 1 ≡ 100000000
gap-1 = sym (gap_of_is 100000000 1 100000000 (record { holds = lit≤ tt; next_fails = lit< tt }) (lit≤ tt))

gap-2 : gap_of 100000000 2 ≡ 70710678
gap-2 = sym (gap_of_is 100000000 2 70710678 (record { holds = lit≤ tt; next_fails = lit< tt }) (lit≤ tt))

gap-5 : gap_of 100000000 5 ≡ 44721359
gap-5 = sym (gap_of_is 100000000 5 44721359 (record { holds = lit≤ tt; next_fails = lit< tt }) (lit≤ tt))

gap-most : gap_of 1000000000000 4294967295 ≡ 15258789
gap-most = sym (gap_of_is 1000000000000 4294967295 15258789 (record { holds = lit≤ tt; next_fails = lit< tt }) (lit≤ tt))

gap-none : gap_of 1000 1000001 ≡ 0
gap-none = sym (gap_of_is 1000 1000001 0 (record { holds = lit≤ tt; next_fails = lit< tt }) (lit≤ tt))

-- a packet of 1000 bytes, put at moment 0
put : Ecn → ℕ → Stamped
put ecn n = record { packet = record { port = 0; number = n; buf = 0; len = 1000; key = zero_key; hash = 0; prio = 0; ecn = ecn }; at = 0 }

-- what each take gave, by number and mark
sent_by : CodelState → List Stamped → List ℕ → List (Option (ℕ × Bool))
sent_by s queue [] = []
sent_by s queue (now ∷ later) =
    option_map (λ (t : Taken). (t.packet.number, t.marked)) (taken s now queue) ∷ sent_by (after s now queue) (left s now queue) later

-- the numbers of the packets that were dropped
lost_by : CodelState → List Stamped → List ℕ → List ℕ
lost_by s queue [] = []
lost_by s queue (now ∷ later) =
    map (λ (p : Stamped). p.packet.number) (take (drops s now queue) queue) ++ lost_by (after s now queue) (left s now queue) later

ten : Ecn → List Stamped
ten ecn = map (put ecn) (1 ∷ 2 ∷ 3 ∷ 4 ∷ 5 ∷ 6 ∷ 7 ∷ 8 ∷ 9 ∷ 10 ∷ [])

moments : List ℕ
moments = 5 ∷ 15 ∷ 25 ∷ 31 ∷ 32 ∷ 37 ∷ 37 ∷ 37 ∷ []

-- a target of 5 and an interval of 10: the gaps are 10, 7 and 5
drops-sent : sent_by (at_first 5 10 1514 false) (ten NotEct) moments ≡ Some (1, false) ∷ Some (3, false) ∷ Some (5, false) ∷ Some (6, false)
    ∷ Some (8, false) ∷ Some (9, false) ∷ Some (10, false) ∷ None ∷ []
unfolding sent_by ten put moments gap_of
drops-sent = refl

drops-lost : lost_by (at_first 5 10 1514 false) (ten NotEct) moments ≡ 2 ∷ 4 ∷ 7 ∷ []
unfolding lost_by ten put moments gap_of
drops-lost = refl

marks-sent : sent_by (at_first 5 10 1514 true) (ten Ect0) moments ≡ Some (1, false) ∷ Some (2, true) ∷ Some (3, true) ∷ Some (4, false)
    ∷ Some (5, true) ∷ Some (6, true) ∷ Some (7, false) ∷ Some (8, false) ∷ []
unfolding sent_by ten put moments gap_of
marks-sent = refl

marks-lost : lost_by (at_first 5 10 1514 true) (ten Ect0) moments ≡ []
unfolding lost_by ten put moments gap_of
marks-lost = refl

-- count, last count, moment of the next drop, moment above the target, and 1 while dropping, after takes at these moments
-- from these queues
seen : CodelState → List (ℕ × List Stamped) → List (List ℕ)
seen s [] = []
seen s (step ∷ steps) =
    let t = after s step.0 step.1 in
    (t.count ∷ t.lastcount ∷ t.drop_next ∷ t.first_above_time ∷ (if t.dropping then 1 else 0) ∷ []) ∷ seen t steps

-- a queue that stood since moment 0, and one that came just now
old : List Stamped
old = map (put NotEct) (1 ∷ 2 ∷ 3 ∷ 4 ∷ 5 ∷ 6 ∷ [])

young : ℕ → List Stamped
young now = map (λ (s : Stamped). record s { at = now }) old

-- Three times dropping. The second begins within 16 intervals of the next drop of the first, with the two drops that the
-- first made after it had begun; the third finds that the second made one alone, and begins with 1.
three_times : seen (at_first 5 10 1514 false) (
    (5, old) ∷ (15, old) ∷ (25, old) ∷ (32, old) ∷ (33, young 33) ∷
    (40, old) ∷ (50, old) ∷ (57, old) ∷ (58, young 58) ∷
    (60, old) ∷ (70, old) ∷ []) ≡
    (0 ∷ 0 ∷ 0 ∷ 15 ∷ 0 ∷ []) ∷ (1 ∷ 1 ∷ 25 ∷ 15 ∷ 1 ∷ []) ∷ (2 ∷ 1 ∷ 32 ∷ 15 ∷ 1 ∷ []) ∷ (3 ∷ 1 ∷ 37 ∷ 15 ∷ 1 ∷ []) ∷ (3 ∷ 1 ∷ 37 ∷ 0 ∷ 0 ∷ []) ∷
    (3 ∷ 1 ∷ 37 ∷ 50 ∷ 0 ∷ []) ∷ (2 ∷ 2 ∷ 57 ∷ 50 ∷ 1 ∷ []) ∷ (3 ∷ 2 ∷ 62 ∷ 50 ∷ 1 ∷ []) ∷ (3 ∷ 2 ∷ 62 ∷ 0 ∷ 0 ∷ []) ∷
    (3 ∷ 2 ∷ 62 ∷ 70 ∷ 0 ∷ []) ∷ (1 ∷ 1 ∷ 80 ∷ 70 ∷ 1 ∷ []) ∷ []
unfolding seen old young put gap_of
three_times = refl

-- a state that dropped three times since it began, and whose next drop was set for moment 100
dropped_thrice : CodelState
dropped_thrice = record (at_first 5 10 1514 false) { first_above_time = 50; drop_next = 100; count = 4; lastcount = 1 }

-- 16 intervals after that moment the count begins with 1, and a nanosecond before it goes on with 3
sixteen_intervals : seen dropped_thrice ((259, old) ∷ []) ++ seen dropped_thrice ((260, old) ∷ []) ≡
    (3 ∷ 3 ∷ 264 ∷ 50 ∷ 1 ∷ []) ∷ (1 ∷ 1 ∷ 270 ∷ 50 ∷ 1 ∷ []) ∷ []
unfolding seen dropped_thrice old put gap_of
sixteen_intervals = refl

-- while dropping, a head behind the one that is dropped has waited too short a time: dropping ends, and the next moment
-- stays the one that was due
ends_behind_a_drop : (
    let s = record (at_first 5 10 1514 false) { first_above_time = 10; drop_next = 20; count = 1; lastcount = 1; dropping = true } in
    let queue = map (put NotEct) (1 ∷ []) ++ young 18 in
    (drops s 20 queue ≡ 1) × (seen s ((20, queue) ∷ []) ≡ (2 ∷ 1 ∷ 20 ∷ 0 ∷ 0 ∷ []) ∷ []))
unfolding seen young old put gap_of
ends_behind_a_drop = (refl, refl)

-- the moment above the target is that of the head which is sent: the one behind the drop has only one packet behind it
above_by_the_sent_head : (
    let s = record (at_first 5 10 1514 false) { first_above_time = 10 } in
    let queue = map (put NotEct) (1 ∷ 2 ∷ 3 ∷ []) in
    (drops s 20 queue ≡ 1) × (seen s ((20, queue) ∷ []) ≡ (1 ∷ 1 ∷ 30 ∷ 0 ∷ 1 ∷ []) ∷ []))
unfolding seen put gap_of
above_by_the_sent_head = (refl, refl)

-- a standing queue is late at its moment, and not a nanosecond before it
late_at_its_moment : seen (at_first 5 10 1514 false) ((5, old) ∷ (14, old) ∷ (15, old) ∷ []) ≡
    (0 ∷ 0 ∷ 0 ∷ 15 ∷ 0 ∷ []) ∷ (0 ∷ 0 ∷ 0 ∷ 15 ∷ 0 ∷ []) ∷ (1 ∷ 1 ∷ 25 ∷ 15 ∷ 1 ∷ []) ∷ []
unfolding seen old put gap_of
late_at_its_moment = refl

-- a queue stands with a byte more than one mtu behind its head, and does not with one mtu
stands_beyond_an_mtu : (
    let queue = map (put NotEct) (1 ∷ 2 ∷ []) in
    (seen (at_first 5 10 999 false) ((5, queue) ∷ []) ≡ (0 ∷ 0 ∷ 0 ∷ 15 ∷ 0 ∷ []) ∷ [])
    × (seen (at_first 5 10 1000 false) ((5, queue) ∷ []) ≡ (0 ∷ 0 ∷ 0 ∷ 0 ∷ 0 ∷ []) ∷ []))
unfolding seen put gap_of
stands_beyond_an_mtu = (refl, refl)

-- an empty queue ends dropping, and keeps the rest
empty_queue : after dropped_thrice 300 [] ≡ rested dropped_thrice
unfolding dropped_thrice
empty_queue = refl

capable : map is_capable (NotEct ∷ Ect1 ∷ Ect0 ∷ Ce ∷ []) ≡ false ∷ true ∷ true ∷ true ∷ []
capable = refl

-- a head that is marked already counts as marked again, and is not dropped
marked_already : (
    let s = record (at_first 5 10 1514 true) { first_above_time = 10 } in
    let queue = map (put Ce) (1 ∷ 2 ∷ 3 ∷ 4 ∷ []) in
    (drops s 20 queue ≡ 0) × (marks s 20 queue ≡ true))
unfolding put
marked_already = (refl, refl)

-- a mark while dropping counts as one drop, and the next moment is a gap of that count away
mark_counts_once : (
    let s = record (at_first 5 10 1514 true) { first_above_time = 10; drop_next = 20; count = 1; lastcount = 1; dropping = true } in
    seen s ((20, map (put Ect0) (1 ∷ 2 ∷ 3 ∷ [])) ∷ []) ≡ (2 ∷ 1 ∷ 27 ∷ 10 ∷ 1 ∷ []) ∷ [])
unfolding seen put gap_of
mark_counts_once = refl

-- the count stays at its end, where the gaps are 0
ceiling : (
    let s = record (at_first 5 10 1514 false) { first_above_time = 1; drop_next = 20; count = 4294967295; lastcount = 5; dropping = true } in
    let queue = map (put NotEct) (1 ∷ 2 ∷ 3 ∷ 4 ∷ []) in
    (drops s 20 queue ≡ 2) × (seen s ((20, queue) ∷ []) ≡ (4294967295 ∷ 5 ∷ 20 ∷ 0 ∷ 0 ∷ []) ∷ []))
unfolding seen put gap_of
ceiling = (refl, refl)
