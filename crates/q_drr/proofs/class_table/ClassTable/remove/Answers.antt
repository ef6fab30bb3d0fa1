use Rattle.std.proofs.Common.{map, ap, ◌∙◌}
use Rattle.std.specs.List.{remove}
use Rattle.q_drr.specs.States.{named_entry}
use Rattle.q_drr.proofs.TableLemmas.{shifted}
use Rattle.q_drr.proofs.class_table.ClassTable.remove.Goals as goal

pub returns : goal.returns
returns c =
    ap (λ es. map named_entry es) c.shift_remove_index.ensures.entries ∙ shifted c.self.inside.states.entries c.args.place
    ∙ ap (λ states. remove states c.args.place) c.self.view_is
