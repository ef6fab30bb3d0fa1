use Rattle.std.proofs.Common.{◌≡◌, ◌∙◌, ◌<◌, ap, not, drop, sym, subst, length, false, List, ℕ, slice_index}
use Rattle.std.specs.List.{position_or_len}
use Rattle.std.specs.Str.{IsCharBoundary}
use Rattle.q_words.specs.Words.{words_in, is_blank}
use Rattle.q_words.proofs.Cuts.{skipped, begins_filled, past_blanks}
use Rattle.q_words.proofs.TextCuts.{behind_blanks, first_in}
use Rattle.q_words.proofs.text.skip_blanks.Goals as goal

start_is : (c : goal.After-unwrap_or-start) → c.unwrap_or-start.result ≡ position_or_len (λ byte. not (is_blank byte)) c.args.text.now
start_is c = first_in (λ byte. not (is_blank byte)) _ _ _ _ c.unwrap_or-start.ensures c.first_filled.ensures c.as_bytes-bytes.ensures.value

pub range_from-requires : goal.range_from-requires
range_from-requires c = λ some. subst (λ n. IsCharBoundary c.args.text.now n) (sym (start_is c)) (behind_blanks c.args.text.now c.utf8.text (subst (λ n. 0 < n) (start_is c) some))

left_is : (c : goal.After-range_from) → c.range_from.result.now ≡ past_blanks c.args.text.now
left_is c = c.range_from.ensures.value ∙ ap (λ n. drop n c.args.text.now)
    (first_in (λ byte. not (is_blank byte)) _ _ _ _ c.unwrap_or-start.ensures c.first_filled.ensures c.as_bytes-bytes.ensures.value)

pub returns-clause-words : goal.returns-clause-words
returns-clause-words c = ap words_in (left_is c) ∙ skipped c.args.text.now

pub returns-clause-first : goal.returns-clause-first
returns-clause-first c = let P : List ℕ → Type 0 = λ r. 0 < length r → is_blank (slice_index r 0) ≡ false in subst P (sym (left_is c)) (begins_filled c.args.text.now)
