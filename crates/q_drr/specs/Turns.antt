-- A whole take of deficit round robin as the turns that it is made of, and how often it grants to each class.
-- After M. Shreedhar and G. Varghese, "Efficient Fair Queuing Using Deficit Round-Robin" (1995), and tc-drr(8).
use Rattle.std.specs.Prelude.{◌≡◌, ℕ, suc, ◌+◌, ◌*◌, ◌<◌, ◌==◌, nat_lt, if◌then◌else◌, List, [], ◌∷◌, slice_get, Option, Some, None, MatchOption, IsSomeAnd, option_map, option_and_then, unwrap_or}
use Rattle.q_packet.specs.Choice.{Choice, IsChosen}
use Rattle.q_drr.specs.Changes.{HeadsFit}
use Rattle.q_drr.specs.Schedule.{Entry, Schedule, quantum_of, deficit_of, front_of, turned, IsLawful}
use Rattle.q_drr.specs.Stretch.{after_turns, grant_in, grants, sent}
use Rattle.q_drr.specs.Take.{needs, choice_of, served, met}

-- turns at each of which the class in front shows a head of this length
abbrev pub AreShown : (ℕ → Option ℕ) → List ℕ → Schedule → Type 0
AreShown heads [] s = Unit {0}
AreShown heads (len ∷ lens) s = (option_and_then heads (front_of s) ≡ Some len) × AreShown heads lens (turned len s)

-- how often the class at a place of the active list is granted: once more before the chosen place than from there on
abbrev pub grants_at : Option Choice → ℕ → ℕ
grants_at None i = 0
grants_at (Some c) i = if nat_lt i c.place then suc c.rounds else c.rounds

-- the bytes that the class at a place sends: the chosen one its head, where it shows one, and every other none
abbrev pub bytes_at : Option Choice → ℕ → Option ℕ → ℕ
bytes_at None i head = 0
bytes_at (Some c) i head = if i == c.place then unwrap_or head 0 else 0

-- turns that make up a take
pub record AreTurnsOf (heads : ℕ → Option ℕ) (s : Schedule) (lens : List ℕ) : Type 0 where
  pub shown : AreShown heads lens s
  pub after : after_turns lens s ≡ served heads s
  pub granted : (i : ℕ) (e : Entry) → slice_get s.active i ≡ Some e → grants e.class lens s ≡ grants_at (choice_of heads s) i
  pub bytes : (i : ℕ) (e : Entry) → slice_get s.active i ≡ Some e → sent e.class lens s ≡ bytes_at (choice_of heads s) i (heads e.class)

abbrev pub TakesAreTurns : Type 0
TakesAreTurns = (s : Schedule) (heads : ℕ → Option ℕ) → IsLawful s → HeadsFit heads s.max_len → (lens : List ℕ) × AreTurnsOf heads s lens

-- the class that is met needs no more grants than any other, and fewer than each that is before it
abbrev pub LeastNeedIsMet : Type 0
LeastNeedIsMet = (s : Schedule) (heads : ℕ → Option ℕ) → MatchOption (choice_of heads s) (s.active ≡ []) (IsChosen (needs (λ (n : ℕ). quantum_of n s.classes) heads s.active))

-- and it is at the chosen place; none is met where none is active
abbrev pub ChosenIsMet : Type 0
ChosenIsMet =
    (s : Schedule) (heads : ℕ → Option ℕ)
    → met heads s ≡ option_map (λ (e : Entry). record { class = e.class; head = heads e.class }) (option_and_then (λ (c : Choice). slice_get s.active c.place) (choice_of heads s))

-- a turn grants to a class whose deficit is below the head that it shows
abbrev pub TurnsGrantWhereShort : Type 0
TurnsGrantWhereShort = (s : Schedule) (len n : ℕ) → grant_in n len s.active ≡ 1 → deficit_of n s.active < len

-- and a take grants to a class so often only if with one grant less its deficit is below the head that it shows
abbrev pub TakesGrantWhereShort : Type 0
TakesGrantWhereShort =
    (s : Schedule) (heads : ℕ → Option ℕ) (i k : ℕ) (e : Entry) → slice_get s.active i ≡ Some e → grants_at (choice_of heads s) i ≡ suc k
    → IsSomeAnd (heads e.class) (λ len. e.deficit + k * quantum_of e.class s.classes < len)
