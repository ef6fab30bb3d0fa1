use Rattle.std.proofs.lemmas.Str.{is_utf8-from_IsUtf8}
use Rattle.q_words.proofs.TextCuts.{FirstBlank, first_blank_at, before_blank, behind_blank, cut_at_blank, cut_nowhere, less_none}
use Rattle.q_words.proofs.text.cut_word.Goals as goal

cut_at : (c : goal.In-Some) → FirstBlank c.args.text.now c.in-Some.end
cut_at c = first_blank_at _ _ _ _ c.in-Some.is c.first_blank.ensures c.as_bytes.ensures.value

pub range-requires-clause-end_boundary : goal.range-requires-clause-end_boundary
range-requires-clause-end_boundary c = before_blank _ _ (cut_at c)

pub range_from-requires : goal.range_from-requires
range_from-requires c = λ some. behind_blank _ _ c.utf8.text (first_blank_at _ _ _ _ c.in-Some.is c.first_blank.ensures c.as_bytes.ensures.value)

pub returns-in-Some-clause-words : goal.returns-in-Some-clause-words
returns-in-Some-clause-words c =
    let at = first_blank_at _ _ _ _ c.in-Some.is c.first_blank.ensures c.as_bytes.ensures.value in
    rw (c.range.ensures.value, c.range_from.ensures.value, less_none) (cut_at_blank c.args.text.now c.in-Some.end c.requires.some c.requires.first at)

pub returns-in-Some-clause-utf8 : goal.returns-in-Some-clause-utf8
returns-in-Some-clause-utf8 c = is_utf8-from_IsUtf8 c.range.result.now c.range.utf8

pub returns-in-None-clause-words : goal.returns-in-None-clause-words
returns-in-None-clause-words c = cut_nowhere _ _ _ c.in-None.is c.first_blank.ensures c.as_bytes.ensures.value c.requires.some c.requires.first

pub returns-in-None-clause-utf8 : goal.returns-in-None-clause-utf8
returns-in-None-clause-utf8 c = is_utf8-from_IsUtf8 c.args.text.now c.utf8.text
