use Rattle.std.proofs.Common.{◌∙◌}
use Rattle.q_words.specs.Words.{is_blank}
use Rattle.q_words.proofs.Cuts.{cut_word_is, first_or_length}
use Rattle.q_words.proofs.cutting.cut_word.Goals as goal

pub returns-clause-words : goal.returns-clause-words
returns-clause-words c = let e = c.unwrap_or-end.ensures ∙ first_or_length is_blank c.args.bytes.now c.first_blank.result c.first_blank.ensures in
    rw (c.split_at.ensures.front, c.split_at.ensures.back, e) (cut_word_is c.args.bytes.now c.requires.some c.requires.first)
