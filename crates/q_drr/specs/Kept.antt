-- What the fields of an active list show and keep of each other: a table of classes, and the circle of the active ones.
-- The bound on deficits is that of deficit round robin (tc-drr(8)): no deficit reaches a quantum and a longest packet.
use Rattle.std.specs.Prelude.{◌≡◌, ◌≢◌, ℕ, ◌+◌, ◌^◌, ◌<◌, ◌≤◌, true, List, length, map}
use Rattle.std.specs.List.{All, AllPairs}
use Rattle.q_drr.specs.Schedule.{Schedule}
use Rattle.q_drr.specs.States.{NamedState, has_state, names_in, class_in, entry_in}
use Rattle.q_drr.specs.Links.{Circle}

-- the classes, and the active ones by their names in order
abbrev pub shown : ℕ → ℕ → List NamedState → List ℕ → Schedule
shown max_len turns states order = record {
  max_len = max_len;
  classes = map class_in states;
  active = map (entry_in states) order;
  turns = turns;
}

-- what holds of each class
pub record IsState (max_len : ℕ) (c : NamedState) : Type 0 where
  pub small_name : c.name < 2 ^ 16
  pub at_least_one : 1 ≤ c.quantum
  pub bounded : c.deficit < c.quantum + max_len
  pub in_range : c.granted < 2 ^ 64

pub record IsKept (max_len : ℕ) (states : List NamedState) (order : List ℕ) : Type 0 where
  pub positive : 1 ≤ max_len
  pub each : All (IsState max_len) states
  pub states_differ : AllPairs (λ (a b : NamedState). a.name ≢ b.name) states
  pub known : All (λ n. has_state n states ≡ true) order
  pub order_differs : AllPairs (λ (m n : ℕ). m ≢ n) order

-- the circle has the places of the active classes, and room for that of each
pub record IsSound (max_len turns : ℕ) (states : List NamedState) (circle : Circle) : Type 0 where
  pub kept : IsKept max_len states (names_in states circle.order)
  pub placed : All (λ place. place < length states) circle.order
  pub room : length states ≤ circle.room
  pub counted_turns : turns < 2 ^ 64
