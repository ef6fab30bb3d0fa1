use Rattle.q_session.proofs.Reported.{told-report}
use Rattle.q_session.proofs.running.run_between.Goals as goal

pub returns-clause-report : goal.returns-clause-report
returns-clause-report g c =
    told-report (g.R.Read.remaining c.args.source.now.reader.now) (g.W.Write.contents c.args.target.now.writer.now) (g.W.Write.contents c.run_session.new.target.writer.now)
    c.args.settings c.run_session.new.session.state.not_done c.run_session.result c.run_session.ensures.report
