-- Two flows with packets: which of them is first, and how many quanta each is given until a flow sends.
-- RFC 8290, section 4.2: the scheduler goes round the new list and then the old one, and a flow that gets a quantum goes to
-- the end of the old one.
use Rattle.std.specs.Prelude.{◌≡◌, ℕ, ◌+◌, Bool, true, false, ◌==◌, if◌then◌else◌, List, [], ◌∷◌, ◌++◌}
use Rattle.q_fqcodel.specs.Entry.{Entry}
use Rattle.q_fqcodel.specs.FqState.{FqState, is_idle}
use Rattle.q_fqcodel.specs.Lawful.{IsLawful}
use Rattle.q_fqcodel.specs.QuantaGiven.{quanta_given}
use Rattle.q_fqcodel.specs.Take.{selected}

-- whether flow i is before flow j
abbrev pub stands_first : ℕ → ℕ → List Entry → Bool
stands_first i j [] = false
stands_first i j (e ∷ es) = if e.flow == i then true else (if e.flow == j then false else stands_first i j es)

-- Where the selection leaves two flows in the order that they had in the new list followed by the old one, they are given
-- equally many quanta; else the one that was first is given one more.
pub record AreEven (i j : ℕ) (s : FqState) : Type 0 where
  pub same_order : stands_first i j ((selected s).new_flows ++ (selected s).old_flows) ≡ stands_first i j (s.new_flows ++ s.old_flows) → quanta_given s i ≡ quanta_given s j
  pub overtaken : stands_first i j (s.new_flows ++ s.old_flows) ≡ true → stands_first i j ((selected s).new_flows ++ (selected s).old_flows) ≡ false → quanta_given s i ≡ quanta_given s j + 1
  pub overtakes : stands_first i j (s.new_flows ++ s.old_flows) ≡ false → stands_first i j ((selected s).new_flows ++ (selected s).old_flows) ≡ true → quanta_given s j ≡ quanta_given s i + 1

abbrev pub QuantaAreEven : Type 0
QuantaAreEven = (s : FqState) (i j : ℕ) → IsLawful s → is_idle s.flows i ≡ false → is_idle s.flows j ≡ false → AreEven i j s
