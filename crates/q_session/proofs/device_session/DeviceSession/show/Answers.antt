use Rattle.std.proofs.Common.{◌++◌, subst}
use Rattle.std.specs.Result.{OnErr}
use Rattle.q_model.specs.Tally.{Counts, totals}
use Rattle.q_model.specs.TreeState.{TreeState}
use Rattle.q_script_semantics.specs.Report.{show_text}
use Rattle.q_session.specs.Session.{SessionSeen}
use Rattle.q_show.specs.Written.{AppendsFront}
use Rattle.q_session.proofs.device_session.DeviceSession.show.Goals as goal

pub returns-clause-err : goal.returns-clause-err
returns-clause-err g c =
    let old = g.W.Write.contents c.args.target.now.writer.now in
    let new = g.W.Write.contents c.put_show.new.target.writer.now in
    let of_tree =
    subst (λ (t : TreeState Counts). OnErr c.put_show.result
    (AppendsFront old new (c.args.output.now ++ show_text totals c.args.show (record c.self.inside.device.device { tree = t }))))
    c.tree.ensures.numbers c.put_show.ensures.err in
    subst (λ (s : SessionSeen). OnErr c.put_show.result (AppendsFront old new (c.args.output.now ++ show_text totals c.args.show s.state.device))) c.self.view_is of_tree
