use Rattle.std.proofs.Common.{ap, ◌∙◌}
use Rattle.std.specs.Prelude.{slice_index_or}
use Rattle.q_drr.specs.States.{no_state, kept_of}
use Rattle.q_drr.proofs.TableLemmas.{value_in}
use Rattle.q_drr.proofs.class_table.ClassTable.get.Goals as goal

pub returns : goal.returns
returns c =
    value_in c.self.inside.states.entries c.args.place _ c.index.ensures ∙ ap (λ states. kept_of (slice_index_or states c.args.place no_state)) c.self.view_is
