use Rattle.std.proofs.Common.{Some, ◌∙◌, sym, ap}
use Rattle.q_tree.proofs.commands.ClassPlaces.{placed-by-name}
use Rattle.q_tree.proofs.disciplines.drr.place_of.Goals as goal

pub returns-then-name-class : goal.returns-then-name-class
returns-then-name-class c =
    sym (placed-by-name c.args.active.now.classes c.from-place.result c.args.class c.class_at-2.ensures.lawful.classes_differ
    (sym c.class_at-2.ensures.value ∙ c.in-Some-class_at.is ∙ ap Some c.if-name-class.true))
