use Rattle.std.proofs.Common.{◌∙◌, sym}
use Rattle.q_tree.proofs.answers.TurnNowLemmas.{deficit-woken}
use Rattle.q_tree.proofs.answers.turns.deficit_at_turn.Goals as goal

pub returns : goal.returns
returns c =
    c.from.ensures ∙ c.quantum.ensures
    ∙ sym (deficit-woken c.args.class c.args.active.now (sym c.is_active.ensures ∙ c.if-is_active.false))
