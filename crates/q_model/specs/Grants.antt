-- What a take asks of the classes of a drr: whose child is asked for its packet, and how many grants each class gets.
-- tc-drr(8), and M. Shreedhar and G. Varghese, "Efficient Fair Queuing Using Deficit Round-Robin" (1995).
use Rattle.std.specs.Prelude.{ℕ, suc, ◌==◌, if◌then◌else◌, List, [], ◌++◌, map, take, drop, Option, Some, None}
use Rattle.q_packet.specs.Choice.{Choice}
use Rattle.q_drr.specs.Schedule.{Entry}
use Rattle.q_model.specs.Tally.{Note, Granted}

-- those whose child is asked, in order: up to the class that is met, and all of them where it needs a grant
abbrev pub asked_entries : Option Choice → List Entry → List Entry
asked_entries None active = []
asked_entries (Some c) active = if c.rounds == 0 then take (suc c.place) active else active

-- so many grants for each of these; where they get none, nothing is noted
abbrev pub grant_notes : ℕ → List Entry → List Note
grant_notes k entries = if k == 0 then [] else map (λ (e : Entry). Granted e.class k) entries

-- those before the class that is met get one grant more than it and those behind it: the round that meets it passes them first
abbrev pub granted_notes : Option Choice → List Entry → List Note
granted_notes None active = []
granted_notes (Some c) active =
    grant_notes (suc c.rounds) (take c.place active) ++ grant_notes c.rounds (drop c.place active)
