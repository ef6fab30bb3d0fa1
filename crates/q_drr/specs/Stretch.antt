-- Any list of turns on a set of classes that all stay active: what each is granted and sends in deficit round robin.
-- After M. Shreedhar and G. Varghese, "Efficient Fair Queuing Using Deficit Round-Robin" (1995), and tc-drr(8).
use Rattle.std.specs.Prelude.{◌≡◌, ◌≢◌, ℕ, ◌+◌, ◌*◌, ◌<◌, ◌≤◌, Bool, true, false, ◌==◌, nat_le, if◌then◌else◌, List, [], ◌∷◌, length, All}
use Rattle.q_drr.specs.Schedule.{Entry, Schedule, turned, is_active, deficit_of, granted_of, quantum_of, counted, IsLawful}

-- after turns of classes whose heads have these lengths, in this order
abbrev pub after_turns : List ℕ → Schedule → Schedule
after_turns [] s = s
after_turns (len ∷ lens) s = after_turns lens (turned len s)

-- whether a turn grants to a class, and the bytes that it sends of it
abbrev pub grant_in : ℕ → ℕ → List Entry → ℕ
grant_in n len [] = 0
grant_in n len (e ∷ active) = if n == e.class then (if nat_le len e.deficit then 0 else 1) else 0

abbrev pub bytes_in : ℕ → ℕ → List Entry → ℕ
bytes_in n len [] = 0
bytes_in n len (e ∷ active) = if n == e.class then (if nat_le len e.deficit then len else 0) else 0

-- how often a class is granted over a list of turns, and the bytes that it sends
abbrev pub grants : ℕ → List ℕ → Schedule → ℕ
grants n [] s = 0
grants n (len ∷ lens) s = grant_in n len s.active + grants n lens (turned len s)

abbrev pub sent : ℕ → List ℕ → Schedule → ℕ
sent n [] s = 0
sent n (len ∷ lens) s = bytes_in n len s.active + sent n lens (turned len s)

-- whether i is before j
abbrev pub stands_first : ℕ → ℕ → List Entry → Bool
stands_first i j [] = false
stands_first i j (e ∷ active) = if i == e.class then true else (if j == e.class then false else stands_first i j active)

-- a class sends its grants and what it gave up of its deficit
abbrev pub EachSendsItsShare : Type 0
EachSendsItsShare =
    (s : Schedule) (lens : List ℕ) (n : ℕ) → IsLawful s → is_active n s.active ≡ true
    → sent n lens s + deficit_of n (after_turns lens s).active ≡ grants n lens s * quantum_of n s.classes + deficit_of n s.active

-- the bytes granted to a class grow by a quantum with each grant, and the count of turns by one with each turn
abbrev pub GrantsAreCounted : Type 0
GrantsAreCounted =
    (s : Schedule) (lens : List ℕ) (n : ℕ) → IsLawful s → is_active n s.active ≡ true
    → granted_of n (after_turns lens s).active ≡ counted (granted_of n s.active + grants n lens s * quantum_of n s.classes)

abbrev pub TurnsAreCounted : Type 0
TurnsAreCounted = (s : Schedule) (lens : List ℕ) → IsLawful s → (after_turns lens s).turns ≡ counted (s.turns + length lens)

-- two classes are granted equally often over turns that leave them in the order that they had, and one that was before
-- the other and then is behind it was granted once more
pub record AreEven (i j : ℕ) (lens : List ℕ) (s : Schedule) : Type 0 where
  pub same_order : stands_first i j (after_turns lens s).active ≡ stands_first i j s.active → grants i lens s ≡ grants j lens s
  pub changed_order : stands_first i j s.active ≡ true → stands_first i j (after_turns lens s).active ≡ false → grants i lens s ≡ grants j lens s + 1
  pub within_one : grants i lens s ≤ grants j lens s + 1

abbrev pub GrantsAreEven : Type 0
GrantsAreEven =
    (s : Schedule) (lens : List ℕ) (i j : ℕ) → IsLawful s → is_active i s.active ≡ true → is_active j s.active ≡ true → i ≢ j → AreEven i j lens s

-- The bytes that two classes send are to each other as their quanta, up to three grants of each and a longest packet:
-- what one sends times the other's quantum exceeds the same of the other by less than that.
abbrev pub SharesAreFair : Type 0
SharesAreFair =
    (s : Schedule) (lens : List ℕ) (i j : ℕ) → IsLawful s → All (λ len. len ≤ s.max_len) lens → is_active i s.active ≡ true → is_active j s.active ≡ true → i ≢ j
    → sent i lens s * quantum_of j s.classes
    < sent j lens s * quantum_of i s.classes + 3 * (quantum_of i s.classes * quantum_of j s.classes) + s.max_len * (quantum_of i s.classes + quantum_of j s.classes)
