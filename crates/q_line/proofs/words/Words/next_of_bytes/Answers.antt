use Rattle.std.proofs.Common.{◌∙◌, ◌∷◌, ap, sym, add-one}
use Rattle.std.proofs.lemmas.Str.{is_utf8-from_IsUtf8}
use Rattle.q_line.proofs.Steps.{bad_utf8}
use Rattle.q_words.specs.Words.{words_in}
use Rattle.q_line.proofs.words.Words.next_of_bytes.Goals as goal

pub returns-in-Ok-clause-ok : goal.returns-in-Ok-clause-ok
returns-in-Ok-clause-ok c =
    let h = c.in-Ok.ensures.cases in
    let utf8 = rw (← h.0) at h.1 in (
      sym c.skip_blanks-rest.ensures.words ∙ c.cut_word.ensures.words ∙ ap (λ w. w ∷ words_in c.cut_word.result.1.now) (sym h.0),
      add-one _,
      is_utf8-from_IsUtf8 c.in-Ok.word.now utf8,
    )

pub returns-in-Err-clause-err : goal.returns-in-Err-clause-err
returns-in-Err-clause-err c = λ position.
    rw (← c.skip_blanks-rest.ensures.words, c.cut_word.ensures.words, add-one) (bad_utf8 position _ _ _ c.in-Err.ensures.cases.0)
