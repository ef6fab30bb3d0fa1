-- What a node of the code remembers: what it counted, and how many packets its own queue has places for.
-- The places are memory and mean nothing to the rules; without them a node is the model's node with totals.
use Rattle.std.specs.Prelude.{ℕ}
use Rattle.q_model.specs.Tally.{Tally, Counts, no_counts, counted}

pub record Kept : Type 0 where
  pub counts : Counts
  pub places : ℕ

abbrev pub kept : Tally Kept
kept = record { none = record { counts = no_counts; places = 0 }; more = λ k n. record k { counts = counted k.counts n }; counts_of = λ k. k.counts }
