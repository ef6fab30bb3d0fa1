use Rattle.std.proofs.Common.{subst, sym}
use Rattle.q_tree.specs.filters.FieldSets.{IsCutBy, IsFieldOf}
use Rattle.q_tree.proofs.filters.field_sets.FieldSets.mark.Goals as goal
use Rattle.q_tree.proofs.filters.FieldSetLemmas.{field-marked, pieces-marked}

pub invariant_of-self : goal.invariant_of-self
invariant_of-self c = pieces-marked c.self.inside.pieces.items c.mark_each.new.pieces.items c.args.place c.args.values c.self.invariant c.mark_each.ensures

pub returns : goal.returns
returns c = λ ranges field long.
    field-marked c.self.inside.pieces.items c.mark_each.new.pieces.items c.args.place c.args.values ranges c.self.invariant
    (subst (λ xs. IsCutBy xs c.args.values) (sym c.self.view_is) c.requires.cut) c.mark_each.ensures long
    (subst (λ xs. IsFieldOf xs ranges) (sym c.self.view_is) field)
