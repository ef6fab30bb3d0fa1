use Rattle.std.proofs.Common.{ap, ◌∙◌}
use Rattle.q_drr.specs.States.{place_of_state}
use Rattle.q_drr.proofs.TableLemmas.{place_of_key}
use Rattle.q_drr.proofs.class_table.ClassTable.place_of.Goals as goal

pub returns : goal.returns
returns c = c.get_index_of.ensures.index ∙ place_of_key c.args.name c.self.inside.states.entries ∙ ap (place_of_state c.args.name) c.self.view_is
