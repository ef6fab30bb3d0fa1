-- What a device answers of the packet that was queued last in a class of a drr, or that comes there next, computed from the definitions in worked
-- states.
use Rattle.std.proofs.Common.{◌≡◌, ℕ, List, [], ◌∷◌, refl}
use Rattle.q_drr.specs.Schedule.{Class, Entry, Schedule}
use Rattle.q_drr.specs.Waiting.{turn_now}

class : ℕ → ℕ → Class
class name quantum = record { name = name; quantum = quantum }

entry : ℕ → ℕ → Entry
entry class deficit = record { class = class; deficit = deficit; granted = 0 }

state : List Entry → Schedule
state active = record { max_len = 1514; classes = class 1 3000 ∷ class 2 1500 ∷ class 3 500 ∷ []; active = active; turns = 0 }

-- nobody else is active: two grants for 3900 bytes, in each of which the others may come to be active and send their quanta
alone : turn_now 1 4000 (state (entry 1 100 ∷ [])) ≡ 8000
unfolding state class entry
alone = refl

-- of 4000 bytes 3500 need two grants; all of the deficit of the class before it, and of the one behind it what is above its quantum
between : turn_now 1 4000 (state (entry 2 700 ∷ entry 1 500 ∷ entry 3 900 ∷ [])) ≡ 9100
unfolding state class entry
between = refl

-- a byte more needs another grant
one_grant : turn_now 1 3500 (state (entry 2 700 ∷ entry 1 500 ∷ entry 3 900 ∷ [])) ≡ 6600
unfolding state class entry
one_grant = refl

two_grants : turn_now 1 3501 (state (entry 2 700 ∷ entry 1 500 ∷ entry 3 900 ∷ [])) ≡ 8601
unfolding state class entry
two_grants = refl

no_grant : turn_now 1 500 (state (entry 2 700 ∷ entry 1 500 ∷ entry 3 900 ∷ [])) ≡ 1600
unfolding state class entry
no_grant = refl

-- a packet of 100 bytes wakes the class, which has a deficit of 3000 then
woken_by_it : turn_now 1 100 (state (entry 2 700 ∷ [])) ≡ 800
unfolding state class entry
woken_by_it = refl

-- as once it has come
once_it_came : turn_now 1 100 (state (entry 2 700 ∷ entry 1 3000 ∷ [])) ≡ 800
unfolding state class entry
once_it_came = refl

-- a class in front waits for no deficit below a quantum
in_front : turn_now 1 100 (state (entry 1 100 ∷ entry 2 1500 ∷ entry 3 500 ∷ [])) ≡ 100
unfolding state class entry
in_front = refl
