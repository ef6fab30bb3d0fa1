-- The active list of deficit round robin: classes with their quanta and, for those active, place, deficit and grants.
-- After M. Shreedhar and G. Varghese, "Efficient Fair Queuing Using Deficit Round-Robin" (1995), and tc-drr(8).
use Rattle.std.specs.Prelude.{◌≡◌, ◌≢◌, ℕ, true, ◌+◌, ◌-◌, ◌*◌, ◌^◌, ◌<◌, ◌≤◌, min, Bool, not, ◌==◌, nat_le, if◌then◌else◌, List, [], ◌∷◌, ◌++◌, map, Option, option_map, slice_get}
use Rattle.std.specs.List.{filter, find, list_any, position, All, AllPairs}
use Rattle.std.specs.Option.{option_map_or}
use Rattle.q_drr.specs.declared.active.Turn.{Turn}
use Rattle.q_drr.specs.declared.active.Turn.TheVariants.{Send, Granted}

-- a class and the bytes of each of its grants
pub record Class : Type 0 where
  pub name : ℕ
  pub quantum : ℕ

-- an active class, the bytes it may send before its next grant, and the bytes granted since it became active
pub record Entry : Type 0 where
  pub class : ℕ
  pub deficit : ℕ
  pub granted : ℕ

-- the classes in order of adding, and the active ones, front first
pub record Schedule : Type 0 where
  pub max_len : ℕ
  pub classes : List Class
  pub active : List Entry
  pub turns : ℕ

abbrev pub has_class : ℕ → List Class → Bool
has_class n classes = list_any (λ c. n == c.name) classes

-- the place of a class in order of adding
abbrev pub place_of : ℕ → List Class → Option ℕ
place_of n classes = position (λ c. n == c.name) classes

-- the class in this place
abbrev pub name_at : ℕ → List Class → Option ℕ
name_at place classes = option_map (λ (c : Class). c.name) (slice_get classes place)

-- the quantum of a class that is there
abbrev pub quantum_of : ℕ → List Class → ℕ
quantum_of n classes = option_map_or (λ (c : Class). c.quantum) (find (λ (c : Class). n == c.name) classes) 0

abbrev pub is_active : ℕ → List Entry → Bool
is_active n active = list_any (λ e. n == e.class) active

-- the deficit and the grants of a class, 0 if it is inactive
abbrev pub deficit_of : ℕ → List Entry → ℕ
deficit_of n active = option_map_or (λ (e : Entry). e.deficit) (find (λ (e : Entry). n == e.class) active) 0

abbrev pub granted_of : ℕ → List Entry → ℕ
granted_of n active = option_map_or (λ (e : Entry). e.granted) (find (λ (e : Entry). n == e.class) active) 0

-- a counter of 64 bits stays at its end once it is there
abbrev pub counted : ℕ → ℕ
counted n = min n (2 ^ 64 - 1)

abbrev pub no_classes : ℕ → Schedule
no_classes max_len = record { max_len = max_len; classes = []; active = []; turns = 0 }

abbrev pub added : ℕ → ℕ → Schedule → Schedule
added n quantum s = record s { classes = s.classes ++ record { name = n; quantum = quantum } ∷ [] }

-- a class that becomes active goes to the end, with a deficit of one quantum; an active one stays as it is
abbrev pub woken : ℕ → Schedule → Schedule
woken n s = if is_active n s.active then s else record s {
  active = s.active ++ record { class = n; deficit = quantum_of n s.classes; granted = 0 } ∷ [];
}

-- the others keep their order
abbrev pub asleep : ℕ → Schedule → Schedule
asleep n s = record s { active = filter (λ e. not (n == e.class)) s.active }

abbrev pub removed : ℕ → Schedule → Schedule
removed n s = record (asleep n s) { classes = filter (λ c. not (n == c.name)) s.classes }

-- a quantum that falls takes the part of the deficit with it that no run of turns would have left
abbrev pub cut : ℕ → ℕ → ℕ → Entry → Entry
cut n quantum max_len e = if n == e.class then record e { deficit = min e.deficit (quantum + max_len - 1) } else e

abbrev pub with_quantum : ℕ → ℕ → Schedule → Schedule
with_quantum n quantum s = record s {
  classes = map (λ (c : Class). if n == c.name then record c { quantum = quantum } else c) s.classes;
  active = map (cut n quantum s.max_len) s.active;
}

abbrev pub front_of : Schedule → Option ℕ
front_of s = slice_get (map (λ e. e.class) s.active) 0

-- an entry after some grants of its quantum
abbrev pub after_grants : ℕ → ℕ → Entry → Entry
after_grants quantum k e = record e { deficit = e.deficit + k * quantum; granted = counted (e.granted + k * quantum) }

-- a turn of the class in front, whose head is so long: it sends where its deficit covers the head, and stays in front;
-- else it is granted its quantum and goes to the end
abbrev pub turn_answer : ℕ → List Entry → Turn
turn_answer len [] = Granted
turn_answer len (e ∷ active) = if nat_le len e.deficit then Send else Granted

abbrev pub active_after : ℕ → List Class → List Entry → List Entry
active_after len classes [] = []
active_after len classes (e ∷ active) =
    if nat_le len e.deficit then record e { deficit = e.deficit - len } ∷ active else active ++ after_grants (quantum_of e.class classes) 1 e ∷ []

abbrev pub turned : ℕ → Schedule → Schedule
turned len s = record s { active = active_after len s.classes s.active; turns = counted (s.turns + 1) }

-- what holds of each active entry
pub record IsEntry (max_len : ℕ) (classes : List Class) (e : Entry) : Type 0 where
  pub there : has_class e.class classes ≡ true
  pub bounded : e.deficit < quantum_of e.class classes + max_len
  pub in_range : e.granted < 2 ^ 64

-- what holds of every active list: no two classes have one name, and no class is twice among the active ones
pub record IsLawful (s : Schedule) : Type 0 where
  pub classes_differ : AllPairs (λ (a b : Class). a.name ≢ b.name) s.classes
  pub quanta : All (λ (c : Class). 1 ≤ c.quantum) s.classes
  pub entries_differ : AllPairs (λ (a b : Entry). a.class ≢ b.class) s.active
  pub entries : All (IsEntry s.max_len s.classes) s.active
  pub counted_turns : s.turns < 2 ^ 64
