use Rattle.std.proofs.Common.{◌∙◌, List, sym, ap, subst}
use Rattle.q_model.specs.declared.row.Row.{Row}
use Rattle.q_ports.specs.Rows.{opening, last_of, RowHistorySeen, IsLegal, MayFollow}
use Rattle.q_ports.proofs.Rising.{last-push, rising-push}
use Rattle.q_ports.proofs.row_history.RowHistory.add.Goals as goal

pub invariant_of-self : goal.invariant_of-self
invariant_of-self g c =
    let before = c.self.inside.note.rows in
    let may : MayFollow before c.args.row = subst (λ (f : RowHistorySeen). MayFollow f.rows c.args.row) (sym c.self.view_is) c.requires.follows in (
      sym (ap (λ (rows : List Row). last_of rows) c.add.ensures.rows ∙ last-push opening before c.args.row),
      subst IsLegal (sym c.add.ensures.rows) (rising-push opening before c.args.row c.self.invariant.1 may.0 may.1),
    )
