use Rattle.q_options.proofs.Explained.{told_lines}
use Rattle.q_options.proofs.driving.drive_of.Goals as goal

pub returns-clause-driven : goal.returns-clause-driven
returns-clause-driven g c =
    let lines = c.drive_noting-status.new.notes in (
      lines,
      told_lines c.args.explains lines c.drive_noting-status.ensures.driven c.drive_noting-status.ensures.silent c.tell_lines.ensures.fault c.tell_lines.ensures.clean c.tell_lines.ensures.counted,
    )
