use Rattle.std.proofs.Common.{◌≡◌, length}
use Rattle.q_words.specs.Addresses.{groups_in}
use Rattle.q_words.specs.Parts.{IsShort, parts_in, groups_behind, groups_of}
use Rattle.q_words.proofs.ipv6.read_groups.Given as goal

-- what is left to read gives what all of it gives
abbrev pub invariant-loop-part : goal.invariant-loop-part
invariant-loop-part l = record {
  same : groups_behind l.read (parts_in l.parts) ≡ groups_of (groups_in l.bytes);
  short : IsShort l.read;
}

abbrev pub decreases-loop-part : goal.decreases-loop-part
decreases-loop-part l = length (parts_in l.parts)
