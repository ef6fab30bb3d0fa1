use Rattle.std.proofs.Common.{◌≡◌, ◌∙◌, sym, ap, subst, drop}
use Rattle.left_right.specs.Sides.{view as view_of}
use Rattle.q_ports.specs.declared.board_view.BoardView.{BoardView}
use Rattle.q_ports.specs.Rows.{Continues, RowHistorySeen}
use Rattle.q_ports.specs.Views.{AreContinued, WriterSeen, newest}
use Rattle.q_ports.proofs.Boards.{pending-of}
use Rattle.q_ports.proofs.board_writer.BoardWriter.append.Goals as goal

pub invariant_of-self : goal.invariant_of-self
invariant_of-self c =
    let w = c.self.inside.writer in
    let new = c.append.new.self in
    let desk = c.append.ensures.desk in
    let seat : view_of new.desk.place ≡ view_of w.desk.place = ap (λ d. view_of d.place) desk in
    let shown : new.desk.shown.value.front ≡ w.desk.shown.value.front = ap (λ d. d.shown.value.front) desk in (
      ap (λ (v : BoardView). v.known) seat ∙ c.self.invariant.0,
      ap (λ (v : BoardView). v.front) seat ∙ (c.self.invariant.1 ∙ sym shown),
      subst (λ (f : RowHistorySeen). AreContinued f (drop new.behind new.log.items)) (sym shown)
          (pending-of w.desk.shown.value.front (drop w.behind w.log.items) (drop new.behind new.log.items) c.args.front c.append.result
          c.append.ensures.pending (subst (λ (s : WriterSeen). Continues (newest s) c.args.front) (sym c.self.view_is) c.requires)
          c.self.invariant.2),
    )
