use Rattle.std.proofs.Common.{◌≡◌, ◌∙◌, ◌<◌, ap, not, drop, sym, subst, length, false, List, ℕ, slice_index}
use Rattle.q_words.specs.Words.{words_in, is_blank}
use Rattle.q_words.proofs.Cuts.{skipped, begins_filled, past_blanks, first_or_length}
use Rattle.q_words.proofs.cutting.skip_blanks.Goals as goal

left_is : (c : goal.After-result-1) → c.split_at.result.1.now ≡ past_blanks c.args.bytes.now
left_is c = c.split_at.ensures.back ∙ ap (λ n. drop n c.args.bytes.now)
    (c.unwrap_or-start.ensures ∙ first_or_length (λ byte. not (is_blank byte)) c.args.bytes.now c.first_filled.result c.first_filled.ensures)

pub returns-clause-words : goal.returns-clause-words
returns-clause-words c = ap words_in (left_is c) ∙ skipped c.args.bytes.now

pub returns-clause-first : goal.returns-clause-first
returns-clause-first c = let P : List ℕ → Type 0 = λ r. 0 < length r → is_blank (slice_index r 0) ≡ false in subst P (sym (left_is c)) (begins_filled c.args.bytes.now)
