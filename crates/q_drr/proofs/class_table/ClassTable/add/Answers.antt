use Rattle.std.proofs.Common.{◌≡◌, ◌++◌, ◌∷◌, [], map, false, ap, ◌∙◌}
use Rattle.q_drr.specs.States.{named, named_entry, has_state}
use Rattle.q_drr.proofs.TableLemmas.{inserted}
use Rattle.q_drr.proofs.class_table.ClassTable.add.Goals as goal

pub returns-clause-ok : goal.returns-clause-ok
returns-clause-ok c =
    let es = c.self.inside.states.entries in
    let absent : has_state c.args.name (map named_entry es) ≡ false = ap (has_state c.args.name) c.self.view_is ∙ c.requires in
    ap (λ all. map named_entry all) c.in-Ok.ensures.entries ∙ inserted c.args.name c.args.state es absent ∙ ap (λ states. states ++ named c.args.name c.args.state ∷ []) c.self.view_is
