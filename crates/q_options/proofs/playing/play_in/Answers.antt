use Rattle.q_options.proofs.Explained.{ended_so}
use Rattle.q_options.proofs.playing.play_in.Goals as goal

pub returns-in-Ok-clause-played : goal.returns-in-Ok-clause-played
returns-in-Ok-clause-played g c =
    ended_so c.in-Ok.outcome c.status.result c.status.ensures.clean c.status.ensures.refused c.in-Ok.ensures.report c.in-Ok.ensures.ended
