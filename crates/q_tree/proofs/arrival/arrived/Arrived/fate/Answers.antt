use Rattle.std.proofs.Common.{◌∙◌, sym, ap}
use Rattle.q_model.specs.Step.{fate_of}
use Rattle.q_tree.specs.declared.arrival.outcome.Outcome.{Outcome}
use Rattle.q_tree.proofs.arrival.arrived.Arrived.fate.Goals as goal

pub returns-then-is_kept : goal.returns-then-is_kept
returns-then-is_kept c = sym (ap (λ (o : Outcome). fate_of o.loss) (c.is_kept.ensures c.if-is_kept.true))

pub returns : goal.returns
returns c = c.fate_of.ensures ∙ ap (λ (o : Outcome). fate_of o.loss) c.requires.told
