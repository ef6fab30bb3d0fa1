use Rattle.std.proofs.Common.{length, set, ap, ◌∙◌, arith}
use Rattle.std.proofs.lemmas.List.{length-map}
use Rattle.q_drr.specs.States.{named, named_entry, name_in}
use Rattle.q_drr.proofs.TableLemmas.{written}
use Rattle.q_drr.proofs.class_table.ClassTable.put.Goals as goal

pub returns : goal.returns
returns c =
    let es = c.self.inside.states.entries in
    written es c.args.place c.args.state (omega (arith, c.requires, ap length c.self.view_is, length-map es named_entry))
    ∙ ap (λ states. set states c.args.place (named (name_in states c.args.place) c.args.state)) c.self.view_is
