use Rattle.q_options.proofs.Explained.{ended_so}
use Rattle.q_options.proofs.driving.drive_noting.Goals as goal

pub returns-in-Ok-clause-driven : goal.returns-in-Ok-clause-driven
returns-in-Ok-clause-driven g c =
    ended_so c.in-Ok.outcome c.status.result c.status.ensures.clean c.status.ensures.refused c.in-Ok.ensures.report c.in-Ok.ensures.ended
