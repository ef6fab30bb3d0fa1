-- How many quanta each listed flow is given until the flow that sends is in front: one a visit, as long as it needs one.
-- RFC 8290, section 4.2.
use Rattle.std.specs.Prelude.{ℕ, zero, suc, ◌+◌, min, Bool, nat_lt, if◌then◌else◌, ◌==◌, List, [], ◌∷◌, ◌++◌, map, filter, take, drop, sum_by, Option, Some, None}
use Rattle.q_packet.specs.Choice.{Choice}
use Rattle.q_fqcodel.specs.Entry.{Entry}
use Rattle.q_fqcodel.specs.Quanta.{need}
use Rattle.q_fqcodel.specs.Selection.{chosen, first_ready, moved}
use Rattle.q_fqcodel.specs.FqState.{FqState, is_idle}

-- a flow, and how many quanta it is given
pub record Grant : Type 0 where
  pub flow : ℕ
  pub quanta : ℕ

-- what flow n is given where each flow of a list is visited so often
unfoldable pub quanta_in : ℕ → ℕ → ℕ → List Entry → ℕ
quanta_in quantum n visits es = sum_by (λ (e : Entry). if e.flow == n then min visits (need quantum e) else 0) es

-- how often the flow at this place of the old list is visited: those in front of the chosen one once more than it and those
-- behind it
unfoldable pub visits : Choice → ℕ → ℕ
visits c place = if nat_lt place c.place then suc c.rounds else c.rounds

-- what flow n is given as the old list turns to the chosen flow; with none to choose, each is visited until it leaves
unfoldable pub quanta_turned : ℕ → ℕ → List Entry → Option Choice → ℕ
quanta_turned quantum n es None = sum_by (λ (e : Entry). if e.flow == n then need quantum e else 0) es
quanta_turned quantum n es (Some c) = quanta_in quantum n c.rounds (drop c.place es) + quanta_in quantum n (suc c.rounds) (take c.place es)

-- the new flows that are passed over, each with one visit, and the old list once they have gone there
unfoldable pub passed_over : FqState → List Entry
passed_over s = take (first_ready s.settings.quantum (is_idle s.flows) s.new_flows) s.new_flows

unfoldable pub old_list : FqState → List Entry
old_list s = s.old_flows ++ map (moved s.settings.quantum) (passed_over s)

-- the old list turns only where no new flow is left
unfoldable pub quanta_old : ℕ → (ℕ → Bool) → ℕ → List Entry → List Entry → ℕ
quanta_old quantum idle n [] old = quanta_turned quantum n old (chosen quantum idle old)
quanta_old quantum idle n (e ∷ es) old = zero

-- How many quanta flow n is given in all. A flow that leaves empty counts too: it was given as many as it needed.
unfoldable pub quanta_given : FqState → ℕ → ℕ
quanta_given s n =
    let p = first_ready s.settings.quantum (is_idle s.flows) s.new_flows in
    quanta_in s.settings.quantum n 1 (passed_over s) + quanta_old s.settings.quantum (is_idle s.flows) n (drop p s.new_flows) (old_list s)

-- the flows that are given a quantum at least, in the order of the new list and then of the old one
unfoldable pub grants : FqState → List Grant
grants s = filter (λ (g : Grant). nat_lt 0 g.quanta) (map (λ (e : Entry). record { flow = e.flow; quanta = quanta_given s e.flow }) (s.new_flows ++ s.old_flows))
