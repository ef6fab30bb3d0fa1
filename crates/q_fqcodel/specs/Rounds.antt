-- Rounds of the old list in which no flow sends, given at once: so a quantum that is small beside the packets takes no more time.
-- RFC 8290, section 4.2.
use Rattle.std.specs.Prelude.{◌≡◌, ℕ, ◌-◌, ◌≤◌, ◌^◌, min, Bool, false, if◌then◌else◌, List, [], ◌∷◌, ◌++◌, All, take, drop}
use Rattle.q_fqcodel.specs.Cleared.{clear}
use Rattle.q_fqcodel.specs.Entry.{Entry}
use Rattle.q_fqcodel.specs.FqState.{FqState, is_idle, rested_flow}
use Rattle.q_fqcodel.specs.Quanta.{need, stay, leave}

-- each flow of a list that has a packet needs so many quanta at least
abbrev pub AllNeed : ℕ → (ℕ → Bool) → ℕ → List Entry → Type 0
AllNeed quantum idle n es = All (λ (e : Entry). idle e.flow ≡ false → n ≤ need quantum e) es

-- The fewest quanta that a flow of a list needs that has a packet; 2^64 - 1 where none has one.
abbrev pub fewest : ℕ → (ℕ → Bool) → List Entry → ℕ
fewest quantum idle [] = 2 ^ 64 - 1
fewest quantum idle (e ∷ es) = if idle e.flow then fewest quantum idle es else min (need quantum e) (fewest quantum idle es)

-- so many old flows, from the front, visited n times each: they are behind the others then, or have left
abbrev pub visited : ℕ → ℕ → FqState → FqState
visited n flows s = record s {
  flows = clear rested_flow (leave s.settings.quantum n (take flows s.old_flows)) s.flows;
  old_flows = drop flows s.old_flows ++ stay s.settings.quantum n (take flows s.old_flows);
}

-- each old flow visited n times
abbrev pub rounds_given : ℕ → FqState → FqState
rounds_given n s = record s {
  flows = clear rested_flow (leave s.settings.quantum n s.old_flows) s.flows;
  old_flows = stay s.settings.quantum n s.old_flows;
}

-- the fewest quanta that an old flow needs that has a packet
abbrev pub fewest_old : FqState → ℕ
fewest_old s = fewest s.settings.quantum (is_idle s.flows) s.old_flows

-- Each old flow visited once, and then so often as each with a packet needs at least.
abbrev pub rounds_at_once : FqState → FqState
rounds_at_once s = rounds_given (fewest_old (rounds_given 1 s)) (rounds_given 1 s)

-- each old flow that has a packet needs so many quanta at least, and so does the one in front
abbrev pub OldNeed : ℕ → FqState → Type 0
OldNeed n s = AllNeed s.settings.quantum (is_idle s.flows) n s.old_flows

abbrev pub FrontNeeds : ℕ → FqState → Type 0
FrontNeeds n s = AllNeed s.settings.quantum (is_idle s.flows) n (take 1 s.old_flows)

-- and the flow in front, if it has a packet and stays as it is visited
abbrev pub front_needs_then : FqState → ℕ
front_needs_then s = fewest s.settings.quantum (is_idle s.flows) (stay s.settings.quantum 1 (take 1 s.old_flows))
