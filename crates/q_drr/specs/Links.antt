-- A circular list of numbers, kept by the links of each to the next and the one before.
-- It holds the places of the active classes of deficit round robin (tc-drr(8)), front first.
use Rattle.std.specs.Prelude.{◌≡◌, ◌≢◌, ℕ, zero, suc, ◌<◌, ◌≤◌, ◌^◌, Bool, false, not, ◌==◌, nat_eq, nat_lt, ◌-◌, List, [], ◌∷◌, length, slice_index_or, if◌then◌else◌}
use Rattle.std.specs.List.{list_any, filter, All, AllPairs}
use Rattle.q_drr.specs.declared.ring.Link.{Link}

-- the members in order, and the number below which each number may be a member
pub record Circle : Type 0 where
  pub order : List ℕ
  pub room : ℕ

abbrev pub is_among : ℕ → List ℕ → Bool
is_among n ns = list_any (nat_eq n) ns

abbrev pub without : ℕ → List ℕ → List ℕ
without n ns = filter (λ m. not (n == m)) ns

-- what a number becomes once the number of the gap is gone, and those above it have moved down by one
abbrev pub moved_down : ℕ → ℕ → ℕ
moved_down gap n = if nat_lt gap n then n - 1 else n

abbrev pub no_link : Link
no_link = record { next = 0; before = 0; here = false }

abbrev pub next_of : List Link → ℕ → ℕ
next_of links n = (slice_index_or links n no_link).next

abbrev pub before_of : List Link → ℕ → ℕ
before_of links n = (slice_index_or links n no_link).before

abbrev pub here_of : List Link → ℕ → Bool
here_of links n = (slice_index_or links n no_link).here

-- so many steps along the links from a number on
abbrev pub walk : (ℕ → ℕ) → ℕ → ℕ → List ℕ
walk next zero n = []
walk next (suc count) n = n ∷ walk next count (next n)

-- the links lead from a through the list to b, and back
abbrev pub IsPath : (ℕ → ℕ) → (ℕ → ℕ) → ℕ → List ℕ → ℕ → Type 0
IsPath next before a [] b = (next a ≡ b) × (before b ≡ a)
IsPath next before a (n ∷ ns) b = (next a ≡ n) × (before n ≡ a) × IsPath next before n ns b

-- the last leads on to the first
abbrev pub IsClosed : (ℕ → ℕ) → (ℕ → ℕ) → List ℕ → Type 0
IsClosed next before [] = Unit {0}
IsClosed next before (n ∷ ns) = IsPath next before n ns n

-- what holds of the links of a circle with these members
pub record IsCircle (links : List Link) (order : List ℕ) : Type 0 where
  pub room : length links ≤ 2 ^ 16
  pub differ : AllPairs (λ (m n : ℕ). m ≢ n) order
  pub inside : All (λ n. n < length links) order
  pub closed : IsClosed (next_of links) (before_of links) order
  pub members : (n : ℕ) → n < length links → here_of links n ≡ is_among n order

-- a leads to b and back, and nothing else has changed
pub record IsJoined (old new : List Link) (a b : ℕ) : Type 0 where
  pub len : length new ≡ length old
  pub next : (n : ℕ) → next_of new n ≡ (if n == a then b else next_of old n)
  pub before : (n : ℕ) → before_of new n ≡ (if n == b then a else before_of old n)
  pub here : (n : ℕ) → here_of new n ≡ here_of old n

-- whether a number is a member has changed for one number alone
pub record IsMarked (old new : List Link) (a : ℕ) (here : Bool) : Type 0 where
  pub len : length new ≡ length old
  pub next : (n : ℕ) → next_of new n ≡ next_of old n
  pub before : (n : ℕ) → before_of new n ≡ before_of old n
  pub changed : (n : ℕ) → here_of new n ≡ (if n == a then here else here_of old n)

-- each link leads to where its neighbours are once a gap is closed
pub record HaveMovedDown (gap : ℕ) (old new : List Link) : Type 0 where
  pub len : length new ≡ length old
  pub next : (n : ℕ) → n < length old → next_of new n ≡ moved_down gap (next_of old n)
  pub before : (n : ℕ) → n < length old → before_of new n ≡ moved_down gap (before_of old n)
  pub here : (n : ℕ) → n < length old → here_of new n ≡ here_of old n
