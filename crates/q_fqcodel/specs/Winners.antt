-- A tournament tree over flows, by ranks: a flow's rank is the greater for more bytes, and of equals for the lower index.
-- Nodes are numbered from the root, 1: below node k are 2 k and 2 k + 1, and the n flows are the leaves n to 2 n - 1. Each
-- inner node has the greater of the two ranks below it.
-- This is how the crate keeps them; nothing public names it.
use Rattle.std.specs.Prelude.{◌≡◌, ◌≢◌, ℕ, ◌+◌, ◌-◌, ◌*◌, ◌/◌, ◌%◌, ◌^◌, ◌<◌, ◌≤◌, max, List, get_or, length, map, drop}

-- the rank of a flow below 65536 with so many bytes
abbrev pub rank : ℕ → ℕ → ℕ
rank flow bytes = bytes * 65536 + (65535 - flow)

-- what is before the root, above the rank of each flow
abbrev pub above : ℕ
above = 2 ^ 64 - 1

-- the rank at a node
abbrev pub rank_at : List ℕ → ℕ → ℕ
rank_at ranks k = get_or ranks k 0

-- the bytes of each flow, as the leaves have them
unfoldable pub bytes_in : List ℕ → List ℕ
bytes_in ranks = map (λ (r : ℕ). r / 65536) (drop (length ranks / 2) ranks)

-- the bytes of a flow
abbrev pub bytes_at : List ℕ → ℕ → ℕ
bytes_at bytes n = get_or bytes n 0

-- the first of the two has more bytes, or as many and the lower index
pub record Leads (b : ℕ → ℕ) (x y : ℕ) : Type 0 where
  pub most : b y ≤ b x
  pub first : b x ≤ b y → x ≤ y

-- each inner node but this one has the greater of the two ranks below it
abbrev pub IsRightBut : ℕ → List ℕ → Type 0
IsRightBut except ranks =
    (k : ℕ) → 1 ≤ k → k < length ranks / 2 → k ≢ except → rank_at ranks k ≡ max (rank_at ranks (2 * k)) (rank_at ranks (2 * k + 1))

-- the tree of the flows, each at its leaf
pub record IsTournament (ranks : List ℕ) : Type 0 where
  pub even : length ranks ≡ 2 * (length ranks / 2)
  pub leaf : (i : ℕ) → i < length ranks / 2 → rank_at ranks (length ranks / 2 + i) % 65536 ≡ 65535 - i
  pub below : (i : ℕ) → i < length ranks / 2 → rank_at ranks (length ranks / 2 + i) < above
  pub past : rank_at ranks 0 ≡ above
  pub each : IsRightBut 0 ranks

-- the ranks of a tournament, and one of its leaves
pub record AreRanks (ranks : List ℕ) (leaf : ℕ) : Type 0 where
  pub even : length ranks ≡ 2 * (length ranks / 2)
  pub few : length ranks ≤ 131072
  pub low : length ranks / 2 ≤ leaf
  pub high : leaf < length ranks
  pub past : rank_at ranks 0 ≡ above
  pub each : IsRightBut 0 ranks

-- the ranks, once those above the leaves are right again: the leaves are as they were written
pub record AreRight (written ranks : List ℕ) : Type 0 where
  pub len : length ranks ≡ length written
  pub leaves : drop (length written / 2) ranks ≡ drop (length written / 2) written
  pub past : rank_at ranks 0 ≡ above
  pub each : IsRightBut 0 ranks
