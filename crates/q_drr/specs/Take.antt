-- A whole take of deficit round robin, said at once: which class is met, how many grants each gets until then, and the
-- list after. After M. Shreedhar and G. Varghese, "Efficient Fair Queuing Using Deficit Round-Robin" (1995), tc-drr(8).
use Rattle.std.specs.Prelude.{ℕ, suc, ◌+◌, ◌-◌, ◌*◌, nat_le, List, [], ◌∷◌, ◌++◌, map, length, take, drop, slice_index_or, Option, Some, None}
use Rattle.q_packet.specs.Choice.{Choice, choose}
use Rattle.q_packet.specs.Least.{least}
use Rattle.q_drr.specs.Schedule.{Entry, Schedule, quantum_of, after_grants, counted}
use Rattle.q_drr.specs.declared.take.Met.{Met}

-- how often a class is granted before its deficit covers its head; never where it shows nothing
unfoldable pub grants_for : ℕ → ℕ → Option ℕ → ℕ
grants_for quantum deficit None = 0
grants_for quantum deficit (Some len) = least (λ k. nat_le len (deficit + k * quantum)) len

abbrev pub need : (ℕ → ℕ) → (ℕ → Option ℕ) → Entry → ℕ
need quantum heads e = grants_for (quantum e.class) e.deficit (heads e.class)

abbrev pub needs : (ℕ → ℕ) → (ℕ → Option ℕ) → List Entry → List (Option ℕ)
needs quantum heads active = map (λ (e : Entry). Some (need quantum heads e)) active

-- the class that is met: the one with the least need, and of equals the first
abbrev pub choice_of : (ℕ → Option ℕ) → Schedule → Option Choice
choice_of heads s = choose (needs (λ (n : ℕ). quantum_of n s.classes) heads s.active)

-- those before the chosen one are granted once more than it and those after it, and are behind them
abbrev pub granted : (ℕ → ℕ) → ℕ → List Entry → List Entry
granted quantum k active = map (λ (e : Entry). after_grants (quantum e.class) k e) active

abbrev pub brought_up : (ℕ → ℕ) → Option Choice → List Entry → List Entry
brought_up quantum None active = active
brought_up quantum (Some c) active = granted quantum c.rounds (drop c.place active) ++ granted quantum (suc c.rounds) (take c.place active)

abbrev pub turns_until : Option Choice → ℕ → ℕ
turns_until None n = 0
turns_until (Some c) n = c.rounds * n + c.place

-- the class that is met brought to the front
abbrev pub prepared : (ℕ → Option ℕ) → Schedule → Schedule
prepared heads s =
    let quantum = λ (n : ℕ). quantum_of n s.classes in
    let choice = choice_of heads s in
    record s { active = brought_up quantum choice s.active; turns = counted (s.turns + turns_until choice (length s.active)) }

-- where it shows a head, the head is sent
abbrev pub sent_by : Option ℕ → Entry → List Entry → Schedule → Schedule
sent_by None e active s = s
sent_by (Some len) e active s = record s { active = record e { deficit = e.deficit - len } ∷ active; turns = counted (s.turns + 1) }

abbrev pub sent_in : (ℕ → Option ℕ) → List Entry → Schedule → Schedule
sent_in heads [] s = s
sent_in heads (e ∷ active) s = sent_by (heads e.class) e active s

abbrev pub served : (ℕ → Option ℕ) → Schedule → Schedule
served heads s = let ready = prepared heads s in sent_in heads ready.active ready

abbrev pub met_in : (ℕ → Option ℕ) → List Entry → Option Met
met_in heads [] = None
met_in heads (e ∷ active) = Some (record { class = e.class; head = heads e.class })

abbrev pub met : (ℕ → Option ℕ) → Schedule → Option Met
met heads s = met_in heads (prepared heads s).active

-- heads by class name
abbrev pub head_at : List (Option ℕ) → ℕ → Option ℕ
head_at heads n = slice_index_or heads n None
