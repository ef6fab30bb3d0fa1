-- What the classes of a drr send before a packet of one of them, from the deficits and the active list of the moment. M. Shreedhar and G.
-- Varghese, "Efficient Fair Queuing Using Deficit Round-Robin" (1995), and tc-drr(8); how it grows with the bytes is the staircase of S. M.
-- Tabatabaee and J.-Y. Le Boudec, "Deficit Round-Robin: A Second Network Calculus Analysis" (2022).
use Rattle.std.specs.Prelude.{ℕ, ◌+◌, ◌-◌, ◌*◌, ◌==◌, if◌then◌else◌, List, [], ◌∷◌, sum_by}
use Rattle.std.specs.Int.{div_ceil}
use Rattle.q_drr.specs.Schedule.{Class, Entry, Schedule, deficit_of, quantum_of, woken}
use Rattle.q_drr.specs.Stretch.{stands_first}

-- what another class may send of its deficit: all of it where it is before class i in the active list, else only what is above a quantum
abbrev pub deficit_ahead : ℕ → List Entry → Class → ℕ
deficit_ahead i active c = if stands_first c.name i active then deficit_of c.name active else deficit_of c.name active - c.quantum

abbrev pub deficits_ahead : ℕ → List Entry → List Class → ℕ
deficits_ahead i active classes = sum_by (λ (c : Class). if i == c.name then 0 else deficit_ahead i active c) classes

-- All that is sent until a packet of class i has left that ends within so many bytes of it: those, for each grant that class i may need the
-- quanta of the others, and their deficits.
abbrev pub bytes_of_turn : ℕ → ℕ → List Class → List Entry → ℕ → ℕ
bytes_of_turn i quantum classes active bytes =
    bytes + div_ceil (bytes - deficit_of i active) quantum * (sum_by (λ (c : Class). c.quantum) classes - quantum) + deficits_ahead i active classes

-- A turn for so many bytes of class i, with the deficits and the active list as they are. A class that is inactive is last in the list, with a
-- deficit of its quantum, once a packet comes there.
abbrev pub turn_now : ℕ → ℕ → Schedule → ℕ
turn_now i bytes s = bytes_of_turn i (quantum_of i s.classes) s.classes (woken i s).active bytes

-- ---- along the active list

-- what the classes behind class i may send of their deficits
abbrev pub left_behind : List Class → List Entry → ℕ
left_behind classes active = sum_by (λ (e : Entry). e.deficit - quantum_of e.class classes) active

-- the same sum from the front on
abbrev pub left_along : ℕ → List Class → List Entry → ℕ
left_along i classes [] = 0
left_along i classes (e ∷ active) = if i == e.class then left_behind classes active else e.deficit + left_along i classes active
