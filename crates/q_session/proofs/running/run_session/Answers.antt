use Rattle.q_session.proofs.Reported.{told-partly, told-whole}
use Rattle.q_session.proofs.running.run_session.Goals as goal

pub returns-clause-report : goal.returns-clause-report
returns-clause-report g c =
    told-whole (g.R.Read.remaining c.args.source.now.reader.now) (g.W.Write.contents c.args.target.now.writer.now) (g.W.Write.contents c.run_between.new.target.writer.now)
    c.args.settings c.args.session.now c.run_between.new.session c.run_between.result c.requires.new c.run_between.ensures.report

pub returns-clause-partly : goal.returns-clause-partly
returns-clause-partly g c = λ kind told.
    told-partly (g.R.Read.remaining c.args.source.now.reader.now) (g.W.Write.contents c.args.target.now.writer.now) (g.W.Write.contents c.run_between.new.target.writer.now)
    c.args.settings c.args.session.now c.requires.new (c.run_between.ensures.partly kind told)
