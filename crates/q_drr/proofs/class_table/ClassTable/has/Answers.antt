use Rattle.std.proofs.Common.{is_some, ap, ◌∙◌}
use Rattle.q_drr.proofs.StateLemmas.{has_place}
use Rattle.q_drr.proofs.class_table.ClassTable.has.Goals as goal

pub returns : goal.returns
returns c = c.is_some.ensures ∙ ap is_some c.place_of.ensures ∙ has_place c.args.name c.args.self.now
