use Rattle.std.proofs.lemmas.Str.{is_utf8-from_IsUtf8}
use Rattle.q_line.proofs.words.Words.next_of_text.Goals as goal

pub returns-then-is_empty-clause-utf8 : goal.returns-then-is_empty-clause-utf8
returns-then-is_empty-clause-utf8 c = is_utf8-from_IsUtf8 c.skip_blanks-text.result.now c.skip_blanks-text.utf8
