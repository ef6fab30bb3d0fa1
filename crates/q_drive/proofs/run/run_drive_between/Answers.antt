use Rattle.q_drive.proofs.Reporting.{told-report}
use Rattle.q_drive.proofs.run.run_drive_between.Goals as goal

pub returns-clause-report : goal.returns-clause-report
returns-clause-report g c =
    told-report (g.R.Read.remaining c.args.source.now.reader.now) (g.W.Write.contents c.args.target.now.writer.now) (g.W.Write.contents c.run_drive_noting.new.target.writer.now)
    c.args.settings c.run_drive_noting.new.notes c.run_drive_noting.result c.run_drive_noting.ensures.report
