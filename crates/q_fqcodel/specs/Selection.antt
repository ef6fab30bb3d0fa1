-- Which flow sends next, and what the lists of new and old flows are then, by numbers of quanta and not by rounds.
-- RFC 8290, section 4.2. `idle n` says that flow n is empty; `gone` are the flows that left a list empty, with credits.
use Rattle.std.specs.Prelude.{ℕ, zero, suc, Bool, if◌then◌else◌, ◌==◌, List, [], ◌∷◌, ◌++◌, map, take, drop, Option, Some, None}
use Rattle.q_packet.specs.Choice.{Choice, choose}
use Rattle.q_fqcodel.specs.Quanta.{need, given, stay, leave}
use Rattle.q_fqcodel.specs.Entry.{Entry}

-- both lists, and the flows that left one empty
pub record Lists : Type 0 where
  pub new_flows : List Entry
  pub old_flows : List Entry
  pub gone : List ℕ

-- of the flows that are not empty, the one that needs fewest quanta, of equals the first
unfoldable pub chosen : ℕ → (ℕ → Bool) → List Entry → Option Choice
chosen quantum idle es = choose (map (λ (e : Entry). if idle e.flow then None else Some (need quantum e)) es)

-- The old list once the chosen flow is in front: those that were before it are visited once more than it and those
-- behind it, and go to the end. With none to choose, all leave.
unfoldable pub turned : ℕ → List Entry → Option Choice → Lists
turned quantum es None = record { new_flows = []; old_flows = []; gone = map (λ e. e.flow) es }
turned quantum es (Some c) = record {
  new_flows = [];
  old_flows = stay quantum c.rounds (drop c.place es) ++ stay quantum (suc c.rounds) (take c.place es);
  gone = leave quantum c.rounds (drop c.place es) ++ leave quantum (suc c.rounds) (take c.place es);
}

-- the place of the first flow that is not empty and needs no quantum, else the length
unfoldable pub first_ready : ℕ → (ℕ → Bool) → List Entry → ℕ
first_ready quantum idle [] = zero
first_ready quantum idle (e ∷ es) = if idle e.flow then suc (first_ready quantum idle es) else (if need quantum e == 0 then zero else suc (first_ready quantum idle es))

-- a new flow as it goes over to the old list: with one quantum, unless it has credits
unfoldable pub moved : ℕ → Entry → Entry
moved quantum e = if need quantum e == 0 then e else given quantum 1 e

-- the lists where the new one begins with its first ready flow, or is empty
unfoldable pub with_rest : ℕ → (ℕ → Bool) → List Entry → List Entry → Lists
with_rest quantum idle [] old_flows = turned quantum old_flows (chosen quantum idle old_flows)
with_rest quantum idle (e ∷ es) old_flows = record { new_flows = e ∷ es; old_flows = old_flows; gone = [] }

-- Both lists once the flow that sends is in front of the new one, or of the old one where the new one is empty; both
-- are empty where no flow has a packet.
unfoldable pub arranged : ℕ → (ℕ → Bool) → List Entry → List Entry → Lists
arranged quantum idle new_flows old_flows =
    let p = first_ready quantum idle new_flows in
    let rest = with_rest quantum idle (drop p new_flows) (old_flows ++ map (moved quantum) (take p new_flows)) in
    record rest { gone = leave quantum 1 (take p new_flows) ++ rest.gone }
