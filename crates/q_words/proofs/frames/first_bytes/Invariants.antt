use Rattle.std.proofs.Common.{◌≡◌, ◌≤◌, ◌++◌, length, take, true}
use Rattle.q_words.specs.Values.{is_digits}
use Rattle.q_words.specs.Addresses.{bytes_from}
use Rattle.q_words.proofs.frames.first_bytes.Given as goal

-- the bytes so far, and those that the rest of the digits write, are all
abbrev pub invariant-loop-rest : goal.invariant-loop-rest
invariant-loop-rest l = record {
  so_far : bytes_from l.digits ≡ take l.count l.bytes ++ bytes_from l.rest;
  few : l.count ≤ 64;
  size : length l.bytes ≡ 64;
  digits : is_digits 16 l.rest ≡ true;
}

abbrev pub decreases-loop-rest : goal.decreases-loop-rest
decreases-loop-rest l = length l.rest
