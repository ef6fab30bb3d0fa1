use Rattle.std.proofs.Common.{◌∙◌, rules, sym, ◌≡◌, bytes_eq, codes, false}
use Rattle.q_line.specs.Grammar.{line_of}
use Rattle.q_words.specs.Words.{words_in}
use Rattle.q_drive.specs.SetUp.{narrowed_line}
use Rattle.q_drive.proofs.SetUpLemmas.{bad_word, other_word, said_word}
use Rattle.q_drive.proofs.set_up_line.read_set_up_line.Goals as goal

pub returns-in-Ok : goal.returns-in-Ok
returns-in-Ok c =
    let h = c.in-Ok.ensures.cases in
    let word = c.cut_word.result.0.now in
    let read = narrowed_line (line_of c.args.line.now) in
    let other : bytes_eq word (codes "tc") ≡ false = rw (← h.0) (search rules) in
    sym (other_word word read h.1 other)
    ∙ said_word c.args.line.now word (words_in c.cut_word.result.1.now) (sym c.skip_blanks-words.ensures.words ∙ c.cut_word.ensures.words) (sym c.starts_with.ensures.value ∙ c.if-starts_with.false)

pub returns-in-Err : goal.returns-in-Err
returns-in-Err c =
    let word = c.cut_word.result.0.now in
    let read = narrowed_line (line_of c.args.line.now) in
    sym (bad_word word read c.in-Err.ensures.cases.0)
    ∙ said_word c.args.line.now word (words_in c.cut_word.result.1.now) (sym c.skip_blanks-words.ensures.words ∙ c.cut_word.ensures.words) (sym c.starts_with.ensures.value ∙ c.if-starts_with.false)
