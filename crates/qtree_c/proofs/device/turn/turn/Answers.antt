use Rattle.std.proofs.Common.{◌∙◌, ap, subst, sym}
use Rattle.q_device.specs.device.DeviceSeen.{DeviceSeen}
use Rattle.qtree_c.specs.device.Turns.{IsTurn, polls_of_turn}
use Rattle.qtree_c.specs.events.Noting.{noting}
use Rattle.qtree_c.specs.declared.abi.c_turned.CTurned.{CTurned}
use Rattle.qtree_c.proofs.device.TurnLemmas.{turn-noted, turn-told}
use Rattle.qtree_c.proofs.device.turn.turn.Goals as goal

pub returns-clause-turn : goal.returns-clause-turn
returns-clause-turn c =
    subst (λ (x : CTurned). IsTurn c.args.now 0 x c.args.sent.now c.turn-turned.new.sent c.args.lost.now c.turn-turned.new.lost c.args.opened.now.device c.turn-turned.new.self) (sym c.of.ensures)
    (turn-told c.args.now c.turn-turned.result c.args.sent.now c.turn-turned.new.sent c.args.lost.now c.turn-turned.new.lost c.args.opened.now.device c.turn-turned.new.self c.turn-turned.ensures)

pub returns-clause-noted : goal.returns-clause-noted
returns-clause-noted c =
    let t = c.turn-turned.ensures in
    turn-noted c.args.now c.turn-turned.result.sent c.args.sent.now c.turn-turned.new.sent c.args.opened.now.device t.polled c.args.opened.now.last c.note_turn.new.last
    c.turn-turned.result.answer t.sends
    (c.note_turn.ensures ∙ ap (λ (x : DeviceSeen). noting (polls_of_turn x.device.clock c.turn-turned.result.answer c.turn-turned.result.sent) c.args.opened.now.last) t.reaps.rest)
