-- Which of the members of a list has its turn, by the grants that each needs until it may send: the one with the least
-- need, and of equals the first. drr (tc-drr(8)) and FQ-CoDel (RFC 8290, section 4.2) choose so among classes and flows.
use Rattle.std.specs.Prelude.{◌≡◌, ℕ, suc, ◌<◌, ◌≤◌, nat_le, if◌then◌else◌, List, [], ◌∷◌, length, slice_index_or, Option, Some, None}

-- how many grants the chosen one needs, and its place in the list
pub record Choice : Type 0 where
  pub rounds : ℕ
  pub place : ℕ

-- a choice from a list, once one more is in front that cannot be chosen
abbrev pub later : Option Choice → Option Choice
later None = None
later (Some c) = Some (record { rounds = c.rounds; place = suc c.place })

-- the one in front, which needs k grants, unless one behind it needs fewer
abbrev pub sooner : ℕ → Option Choice → Choice
sooner k None = record { rounds = k; place = 0 }
sooner k (Some c) = if nat_le k c.rounds then record { rounds = k; place = 0 } else record { rounds = c.rounds; place = suc c.place }

-- the choice by the need of each; `None` stands for one that cannot be chosen
abbrev pub choose : List (Option ℕ) → Option Choice
choose [] = None
choose (None ∷ needs) = later (choose needs)
choose (Some k ∷ needs) = Some (sooner k (choose needs))

-- what makes a place the chosen one: none needs less than it, and each before it needs more
pub record IsChosen (needs : List (Option ℕ)) (c : Choice) : Type 0 where
  pub inside : c.place < length needs
  pub needed : slice_index_or needs c.place None ≡ Some c.rounds
  pub least : (i k : ℕ) → slice_index_or needs i None ≡ Some k → c.rounds ≤ k
  pub first : (i k : ℕ) → i < c.place → slice_index_or needs i None ≡ Some k → c.rounds < k
