use Rattle.std.proofs.Common.{◌≡◌, ◌^◌, ◌-◌, ◌∙◌, ◌<◌, ap, true, take, length, get_or, refl, arith}
use Rattle.std.specs.Char.{is_digit, digit_value}
use Rattle.std.proofs.lemmas.Bool.{lt-ltb}
use Rattle.std.specs.Str.Parse.{digits_value}
use Rattle.std.proofs.lemmas.Int.Digits.{digits_value_more}
use Rattle.std.proofs.lemmas.List.Folds.{list_all_more}
use Rattle.q_words.proofs.Both.{both}
use Rattle.q_words.proofs.Numbers.{capped_step}
use Rattle.q_words.proofs.values.digits_value.Goals as goal

pub loop-byte-preserved : goal.loop-byte-preserved
loop-byte-preserved c =
    let base = c.args.base in
    let bytes = c.args.bytes.now in
    let i = c.loop-byte.byte-index in
    let v = c.in_ok-digit.ensures.value in
    let within : i < length bytes = c.loop-byte-test.true in
    let more = digits_value_more base bytes i within in
    record {
      each = list_all_more (λ b. is_digit b base) bytes i 0 within ∙ both (c.loop-byte.invariant.each) (lt-ltb _ _ (rw (← c.from.ensures) v.0));
      so_far =
          let d : c.from-in-loop-byte-2.result ≡ digit_value (get_or bytes i 0) = c.from-in-loop-byte-2.ensures ∙ v.1 ∙ ap digit_value c.from.ensures in
          rw (c.saturating_add-value.ensures, c.saturating_mul.ensures, c.loop-byte.invariant.so_far, c.from-in-loop-byte.ensures, d, more)
          (capped_step (2 ^ 64 - 1) (digits_value base (take i bytes)) base (digit_value (get_or bytes i 0)) (omega arith));
    }
