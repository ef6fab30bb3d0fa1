use Rattle.std.proofs.Common.{◌∙◌, ℕ, Option, ap}
use Rattle.std.specs.Prelude.{unwrap_or}
use Rattle.q_model.specs.Pop.{pop}
use Rattle.q_model.specs.Since.{at_hand_since}
use Rattle.q_tree.proofs.departure.HeldLemmas.{some-there, placed}
use Rattle.q_tree.proofs.departure.held.Held.hold.Goals as goal

pub returns-clause-held : goal.returns-clause-held
returns-clause-held c =
    let there = some-there (pop c.args.child.now).shown c.requires in
    placed (pop c.args.child.now).shown there.0 c.dequeue_at_hand.new.out _ c.unwrap_or-self-inside.result (unwrap_or (at_hand_since c.args.child.now) 0) there.1 c.dequeue_at_hand.ensures.packet
    (c.unwrap_or-self-inside.ensures ∙ ap (λ (o : Option ℕ). unwrap_or o c.zero.result) c.at_hand_since.ensures ∙ ap (unwrap_or (at_hand_since c.args.child.now)) c.zero.ensures)
