-- Each change of a schedule keeps what holds of every one: names that differ, quanta of at least a byte, and deficits
-- below a quantum and a longest packet. Deficit round robin as in M. Shreedhar and G. Varghese, "Efficient Fair Queuing
-- Using Deficit Round-Robin" (1995), and tc-drr(8).
use Rattle.std.specs.Prelude.{◌≡◌, ℕ, ◌≤◌, true, false, Option, Some}
use Rattle.q_drr.specs.Schedule.{Schedule, no_classes, has_class, added, removed, woken, asleep, with_quantum, turned, IsLawful}
use Rattle.q_drr.specs.Take.{served}

-- no class shows a head that is longer than the longest packet
abbrev pub HeadsFit : (ℕ → Option ℕ) → ℕ → Type 0
HeadsFit heads max_len = (n len : ℕ) → heads n ≡ Some len → len ≤ max_len

abbrev pub EmptyIsLawful : Type 0
EmptyIsLawful = (max_len : ℕ) → IsLawful (no_classes max_len)

abbrev pub AddedIsLawful : Type 0
AddedIsLawful = (s : Schedule) (n quantum : ℕ) → IsLawful s → has_class n s.classes ≡ false → 1 ≤ quantum → IsLawful (added n quantum s)

abbrev pub RemovedIsLawful : Type 0
RemovedIsLawful = (s : Schedule) (n : ℕ) → IsLawful s → IsLawful (removed n s)

-- a class becomes active with one quantum, which stays below the bound where the longest packet has a byte
abbrev pub WokenIsLawful : Type 0
WokenIsLawful = (s : Schedule) (n : ℕ) → IsLawful s → 1 ≤ s.max_len → has_class n s.classes ≡ true → IsLawful (woken n s)

abbrev pub AsleepIsLawful : Type 0
AsleepIsLawful = (s : Schedule) (n : ℕ) → IsLawful s → IsLawful (asleep n s)

abbrev pub WithQuantumIsLawful : Type 0
WithQuantumIsLawful = (s : Schedule) (n quantum : ℕ) → IsLawful s → 1 ≤ quantum → IsLawful (with_quantum n quantum s)

abbrev pub TurnedIsLawful : Type 0
TurnedIsLawful = (s : Schedule) (len : ℕ) → IsLawful s → len ≤ s.max_len → IsLawful (turned len s)

abbrev pub ServedIsLawful : Type 0
ServedIsLawful = (s : Schedule) (heads : ℕ → Option ℕ) → IsLawful s → HeadsFit heads s.max_len → IsLawful (served heads s)
