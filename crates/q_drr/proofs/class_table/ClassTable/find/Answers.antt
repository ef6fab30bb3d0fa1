use Rattle.std.proofs.Common.{is_some, sym, ap, ◌∙◌}
use Rattle.std.proofs.lemmas.Bool.{false≢true}
use Rattle.q_drr.proofs.StateLemmas.{has_place}
use Rattle.q_drr.proofs.class_table.ClassTable.find.Goals as goal

pub unreachable-requires : goal.unreachable-requires
unreachable-requires c = false≢true (ap is_some (sym c.in-None.is ∙ c.place_of.ensures) ∙ has_place c.args.name c.args.self.now ∙ c.requires)
