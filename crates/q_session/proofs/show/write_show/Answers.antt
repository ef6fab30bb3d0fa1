use Rattle.std.proofs.Common.{rules, ◌++◌, List, ℕ, Ok, subst}
use Rattle.q_model.specs.Tally.{totals}
use Rattle.q_script_semantics.specs.Report.{show_text}
use Rattle.q_show.specs.Written.{HasPut}
use Rattle.q_tree.specs.TreeSeen.{numbers}
use Rattle.q_session.proofs.Writing.{written-out}
use Rattle.q_session.proofs.show.write_show.Goals as goal

pub returns : goal.returns
returns g c =
    let text = show_text totals c.args.show (numbers c.args.tree.now) in
    let put = subst (λ (o : List ℕ). HasPut g.W.Write.contents c.args.target.now c.put_show.new.target c.put_show.new.output (o ++ text) (Ok tt)) c.requires.empty (search rules) in
    written-out c.flush.result put (search rules)
