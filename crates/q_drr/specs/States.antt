-- A table of classes as a list of their states in order of adding, and what the active list of deficit round robin
-- (tc-drr(8)) shows of it.
use Rattle.std.specs.Prelude.{ℕ, Bool, not, ◌==◌, if◌then◌else◌, List, map, Option, slice_index_or, unwrap_or}
use Rattle.std.specs.List.{filter, find, list_any, position}
use Rattle.q_drr.specs.Schedule.{Class, Entry}
use Rattle.q_drr.specs.declared.class_table.ClassState.{ClassState}

-- a class's name, with what is kept of it
pub record NamedState : Type 0 where
  pub name : ℕ
  pub quantum : ℕ
  pub deficit : ℕ
  pub granted : ℕ

abbrev pub named : ℕ → ClassState → NamedState
named n c = record { name = n; quantum = c.quantum; deficit = c.deficit; granted = c.granted }

abbrev pub named_entry : ℕ × ClassState → NamedState
named_entry e = named e.0 e.1

abbrev pub kept_of : NamedState → ClassState
kept_of c = record { quantum = c.quantum; deficit = c.deficit; granted = c.granted }

abbrev pub no_state : NamedState
no_state = record { name = 0; quantum = 0; deficit = 0; granted = 0 }

abbrev pub has_state : ℕ → List NamedState → Bool
has_state n states = list_any (λ c. n == c.name) states

-- the place of a class in order of adding
abbrev pub place_of_state : ℕ → List NamedState → Option ℕ
place_of_state n states = position (λ c. n == c.name) states

-- the name of the class in a place that there is, and the names of those in these places
abbrev pub name_in : List NamedState → ℕ → ℕ
name_in states place = (slice_index_or states place no_state).name

abbrev pub names_in : List NamedState → List ℕ → List ℕ
names_in states places = map (name_in states) places

-- the state of a class that is there
abbrev pub state_of : ℕ → List NamedState → NamedState
state_of n states = unwrap_or (find (λ (c : NamedState). n == c.name) states) no_state

-- the same table with another state for one class
abbrev pub with_state : NamedState → List NamedState → List NamedState
with_state new states = map (λ (c : NamedState). if new.name == c.name then new else c) states

abbrev pub without_state : ℕ → List NamedState → List NamedState
without_state n states = filter (λ c. not (n == c.name)) states

abbrev pub class_in : NamedState → Class
class_in c = record { name = c.name; quantum = c.quantum }

abbrev pub entry_in : List NamedState → ℕ → Entry
entry_in states n = let c = state_of n states in record { class = n; deficit = c.deficit; granted = c.granted }
