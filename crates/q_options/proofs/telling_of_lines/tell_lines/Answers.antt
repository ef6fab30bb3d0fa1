use Rattle.std.proofs.Common.{subst}
use Rattle.q_options.specs.Answer.{IsCounted}
use Rattle.q_options.proofs.telling_of_lines.tell_lines.Goals as goal

pub returns-in-false-eq1-clause-counted : goal.returns-in-false-eq1-clause-counted
returns-in-false-eq1-clause-counted g c = λ unasked one.
    subst (λ lines. IsCounted lines (g.E.Write.contents c.args.errors.now) (g.E.Write.contents c.tell_count.new.errors)) c.not_done.ensures c.tell_count.ensures
