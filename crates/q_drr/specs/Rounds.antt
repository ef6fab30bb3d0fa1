-- Rounds of turns in which every class is granted, given at once: what deficit round robin does where the quanta are small beside the
-- packets. After M. Shreedhar and G. Varghese, "Efficient Fair Queuing Using Deficit Round-Robin" (1995), and tc-drr(8).
use Rattle.std.specs.Prelude.{◌≡◌, ℕ, ◌+◌, ◌*◌, ◌<◌, ◌≤◌, List, [], ◌∷◌, ◌++◌, All, length, take, drop, Option, Some, option_and_then}
use Rattle.q_drr.specs.Changes.{HeadsFit}
use Rattle.q_drr.specs.Schedule.{Entry, Class, Schedule, quantum_of, after_grants, counted, front_of, turned}
use Rattle.q_drr.specs.Take.{grants_for, need, granted}
use Rattle.q_drr.specs.declared.round.Round.{Round}

-- how many grants the class in front needs until its deficit covers a head of this length
abbrev pub need_in : ℕ → List Class → List Entry → ℕ
need_in len classes [] = 0
need_in len classes (e ∷ active) = grants_for (quantum_of e.class classes) e.deficit (Some len)

abbrev pub front_need : ℕ → Schedule → ℕ
front_need len s = need_in len s.classes s.active

-- every class granted so often
abbrev pub rounds_given : ℕ → Schedule → Schedule
rounds_given k s = record s {
  active = granted (λ (n : ℕ). quantum_of n s.classes) k s.active;
  turns = counted (s.turns + k * length s.active);
}

-- the class in front granted so often, and then at the end
abbrev pub passed : ℕ → List Class → List Entry → List Entry
passed k classes [] = []
passed k classes (e ∷ active) = active ++ after_grants (quantum_of e.class classes) k e ∷ []

abbrev pub front_given : ℕ → Schedule → Schedule
front_given k s = record s { active = passed k s.classes s.active; turns = counted (s.turns + k) }

-- so many grants leave a deficit that turns could leave
abbrev pub IsWithin : ℕ → ℕ → List Class → Entry → Type 0
IsWithin k max_len classes e = e.deficit + k * quantum_of e.class classes < quantum_of e.class classes + max_len

abbrev pub AreWithin : ℕ → Schedule → Type 0
AreWithin k s = All (IsWithin k s.max_len s.classes) s.active

-- so for the class in front
abbrev pub IsFrontWithin : ℕ → Schedule → Type 0
IsFrontWithin k s = All (IsWithin k s.max_len s.classes) (take 1 s.active)

-- those granted in this round need at least so many grants still
abbrev pub AllNeed : (ℕ → Option ℕ) → ℕ → List Class → List Entry → Type 0
AllNeed heads k classes es = All (λ (e : Entry). k ≤ need (λ (n : ℕ). quantum_of n classes) heads e) es

abbrev pub IsRound : (ℕ → Option ℕ) → Round → Schedule → Type 0
IsRound heads r s = AllNeed heads r.fewest s.classes (drop r.left s.active)

-- the class in front shows a head of this length, and the round is one of the heads that the classes show
pub record CanGo (len : ℕ) (r : Round) (s : Schedule) : Type 0 where
  pub heads : ℕ → Option ℕ
  pub fit : HeadsFit heads s.max_len
  pub shown : option_and_then heads (front_of s) ≡ Some len
  pub round : IsRound heads r s

-- the class in front was granted, and then each class so often as every one needs at least
pub record HasGone (heads : ℕ → Option ℕ) (len : ℕ) (s t : Schedule) (r : Round) : Type 0 where
  pub rounds : ℕ
  pub needed : AllNeed heads rounds s.classes (turned len s).active
  pub after : t ≡ rounds_given rounds (turned len s)
  pub round : IsRound heads r t
