-- The definitions of `specs/` computed on worked examples.
use Rattle.std.proofs.Common.{◌≡◌, ◌*◌, ◌^◌, true, false, List, [], ◌∷◌, refl}
use Rattle.q_bucket.specs.Level.{TokenBucket, units_in_byte, full, level_at, allows, after_spend, after_change}
use Rattle.q_bucket.specs.Laws.{Spend, true_spends, bytes_within}

-- 3 bits a second and a burst of 2 bytes, both spent at the start
abbrev slow : TokenBucket
slow = after_spend (full 3 2 0) 0 2

pub empty_at_first : level_at slow 0 ≡ 0
empty_at_first = refl

pub a_byte_not_yet : allows slow 2666666666 1 ≡ false
a_byte_not_yet = refl

pub a_byte_now : allows slow 2666666667 1 ≡ true
a_byte_now = refl

pub one_unit_is_left : (after_spend slow 2666666667 1).level ≡ 1
one_unit_is_left = refl

pub no_more_than_the_burst : level_at slow (2 ^ 62) ≡ 2 * units_in_byte
no_more_than_the_burst = refl

-- 8000 bits a second are 1000 bytes a second
pub fills_then_cuts : (after_change (after_spend (full 8000 1500 0) 0 1500) 16000 500 1000000000).level ≡ 500 * units_in_byte
fills_then_cuts = refl

-- a change brings the bucket to its moment, at its new rate and burst, and does not fill it further
pub changed : after_change (after_spend (full 8000 1500 0) 0 1500) 16000 3000 7 ≡ record { rate = 16000; burst = 3000; level = 56000; last = 7 }
changed = refl

-- a packet that may not go leaves the moment, too
pub waits : after_spend slow 5 2 ≡ slow
waits = refl

-- what is left after a packet is counted from its moment on
pub spent : after_spend (full 8000 1500 3) 9 1000 ≡ record { rate = 8000; burst = 1500; level = 500 * units_in_byte; last = 9 }
spent = refl

-- of three packets of 1000 bytes the second comes a nanosecond too early, and the third goes
abbrev three : List Spend
three = record { at = 0; len = 1000 } ∷ record { at = 499999999; len = 1000 } ∷ record { at = 500000000; len = 1000 } ∷ []

pub two_of_three_go : bytes_within 0 500000000 (true_spends (full 8000 1500 0) three) ≡ 2000
two_of_three_go = refl
