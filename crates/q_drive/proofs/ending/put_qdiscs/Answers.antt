use Rattle.std.proofs.Common.{rules, ◌++◌, true, subst}
use Rattle.std.specs.Prelude.{flat_map}
use Rattle.q_model.specs.Tally.{Counts, totals}
use Rattle.q_model.specs.TreeState.{TreeState}
use Rattle.q_model.specs.Views.{views}
use Rattle.q_script_semantics.specs.Text.{qdisc_text}
use Rattle.q_show.specs.Written.{HasPut}
use Rattle.q_drive.proofs.ending.put_qdiscs.Goals as goal

pub returns : goal.returns
returns g c =
    subst (λ (t : TreeState Counts). HasPut g.W.Write.contents c.args.target.now c.put_show.new.target c.put_show.new.output
    (c.args.output.now ++ flat_map (qdisc_text true) (views totals t)) c.put_show.result) c.tree.ensures.numbers (search rules)
