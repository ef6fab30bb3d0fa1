use Rattle.std.proofs.Common.{◌≡◌, ◌^◌, ◌-◌, min, true, take}
use Rattle.std.specs.Str.Parse.{digits_value}
use Rattle.q_words.specs.Values.{is_digits}
use Rattle.q_words.proofs.values.digits_value.Given as goal

abbrev pub invariant-loop-byte : goal.invariant-loop-byte
invariant-loop-byte l = record {
  each : is_digits l.base (take l.byte-index l.bytes) ≡ true;
  so_far : l.value ≡ min (digits_value l.base (take l.byte-index l.bytes)) (2 ^ 64 - 1);
}
