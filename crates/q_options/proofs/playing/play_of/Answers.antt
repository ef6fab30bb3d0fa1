use Rattle.q_options.proofs.Explained.{counted_as, told_lines}
use Rattle.q_options.proofs.playing.play_of.Goals as goal

pub returns-clause-played : goal.returns-clause-played
returns-clause-played g c =
    let lines = c.play_in-status.new.session.state.not_done in (
      lines,
      told_lines c.args.explains lines c.play_in-status.ensures.played c.play_in-status.ensures.silent c.tell_lines.ensures.fault c.tell_lines.ensures.clean
          (counted_as c.exchange_notes-2.new.notes lines c.exchange_notes-2.ensures.not_done c.tell_lines.ensures.counted),
    )
