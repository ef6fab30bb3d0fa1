use Rattle.std.proofs.Common.{◌∙◌, ℕ, subst, sym}
use Rattle.qtree_c.specs.device.Lines.{IsCommand}
use Rattle.qtree_c.proofs.device.Commanding.{command-done, command-refused, not-done}
use Rattle.qtree_c.proofs.device.commands.do_command.Goals as goal

pub returns-in-Ok-clause-command : goal.returns-in-Ok-clause-command
returns-in-Ok-clause-command c = command-done c.args.command c.args.now c.args.opened.now.device c.command.new.opened.device c.in-Ok.ensures.event c.in-Ok.ensures.reply

pub returns-in-Err-clause-command : goal.returns-in-Err-clause-command
returns-in-Err-clause-command c =
    subst (λ (k : ℕ). IsCommand c.args.command c.args.now k c.args.opened.now.device c.command.new.opened.device) (sym c.number.ensures)
    (command-refused c.args.command c.args.now c.args.opened.now.device c.command.new.opened.device c.in-Err.refusal c.in-Err.ensures.refused c.in-Err.ensures.memory c.in-Err.ensures.same)

pub returns-in-Err-clause-noted : goal.returns-in-Err-clause-noted
returns-in-Err-clause-noted c done = absurd (not-done c.in-Err.refusal (sym c.number.ensures ∙ done))
