use Rattle.std.proofs.Common.{◌∙◌, ap, sym}
use Rattle.q_words.specs.Words.{is_blank_line}
use Rattle.q_line.proofs.Steps.{whole_line}
use Rattle.q_line.proofs.reading.read_line.Goals as goal

pub returns : goal.returns
returns c =
    c.first_word.ensures ∙ whole_line c.args.line.now _ _ c.new-words.ensures.all c.new-words.ensures.none_taken
    (ap is_blank_line (sym c.new-words.ensures.all) ∙ sym c.is_blank_line.ensures ∙ c.if-is_blank_line.false)
