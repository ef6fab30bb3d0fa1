use Rattle.std.proofs.Common.{sym, subst, ap, drop}
use Rattle.q_ports.specs.declared.board_view.BoardView.{BoardView}
use Rattle.q_ports.specs.Rows.{Continues}
use Rattle.q_ports.proofs.Boards.{last-continues, matched, turns}
use Rattle.q_ports.proofs.board_writer.show.Goals as goal

pub publish_as-requires : goal.publish_as-requires
publish_as-requires g c next is =
    let now = c.args.writer.desk.shown.value in
    turns _ _ now next (subst (Continues now.front) (sym is) (last-continues now.front (drop c.args.writer.behind c.args.writer.log.items) c.requires))

pub returns-clause-shown : goal.returns-clause-shown
returns-clause-shown g c =
    let values = matched c.publish_as.result.1 _ _ (c.publish_as.ensures.succeeds tt) c.publish_as.ensures.values in values.0

pub returns-clause-known : goal.returns-clause-known
returns-clause-known g c =
    let told = matched c.publish_as.result.1 _ _ (c.publish_as.ensures.succeeds tt) c.publish_as.ensures.rule in
    (ap (λ (v : BoardView). v.known) told.seen, ap (λ (v : BoardView). v.front) told.seen)
