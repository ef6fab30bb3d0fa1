-- A ring of cells, and the packets that are in it. They are numbered as they come, by counters of 64 bits that go round:
-- the packet of a number is in the cell of its remainder by the number of cells, a power of two.
use Rattle.std.specs.Prelude.{◌≡◌, ℕ, zero, suc, ◌+◌, ◌-◌, ◌%◌, ◌^◌, ◌≤◌, ◌⊎◌, List, [], ◌∷◌, length, get_or}
use Rattle.q_packet.specs.declared.ecn.Ecn.TheVariants.{NotEct}
use Rattle.q_packet.specs.declared.stamped.Stamped.{Stamped}

-- what is read past the last cell, where nothing is read
abbrev pub blank : Stamped
blank = record {
  packet = record {
    port = 0;
    number = 0;
    buf = 0;
    len = 1;
    key = record { family = 0; proto = 0; src = 0; dst = 0; sport = 0; dport = 0 };
    hash = 0;
    prio = 0;
    ecn = NotEct;
  };
  at = 0;
}

-- so many packets, from this number on
abbrev pub standing : List Stamped → ℕ → ℕ → List Stamped
standing cells number zero = []
standing cells number (suc n) = get_or cells (number % length cells) blank ∷ standing cells (number + 1) n

-- how many numbers there are from the first one up to the next one, which may have gone round
abbrev pub between : ℕ → ℕ → ℕ
between first next = (next + (2 ^ 64 - first)) % 2 ^ 64

-- a power of two that is not too great
pub record IsPower (n : ℕ) : Type 0 where
  pub exponent : ℕ
  pub small : exponent ≤ 47
  pub is : n ≡ 2 ^ exponent

-- there are no cells, or a power of two, and no more packets than cells
pub record IsRing (cells : List Stamped) (first next : ℕ) : Type 0 where
  pub sized : (length cells ≡ 0) ⊎ IsPower (length cells)
  pub fits : between first next ≤ length cells

-- what is seen of a ring: its packets, and how many it has places for
pub record RingState : Type 0 where
  pub packets : List Stamped
  pub places : ℕ
