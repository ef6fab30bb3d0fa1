use Rattle.std.proofs.Common.{rules, []}
use Rattle.q_options.proofs.telling.line_of.Goals as goal
use Rattle.q_options.proofs.telling.line_of.Goals.{in-Some, in_default}

pub returns : goal.returns
returns c = elim c.match-kind.branch [ in-Some w ↦ (w.put_words.ensures.text.0, search rules) | in_default w ↦ ([], search rules) ]
