use Rattle.std.proofs.Common.{◌≡◌, ℕ, ◌<◌, drop, false}
use Rattle.q_words.specs.Addresses.{begins_with_two}
use Rattle.q_words.proofs.ipv6.first_gap.Given as goal

abbrev pub invariant-loop-at : goal.invariant-loop-at
invariant-loop-at l = (k : ℕ) → k < l.at → begins_with_two (drop k l.word) ≡ false
