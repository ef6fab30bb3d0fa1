use Rattle.std.proofs.Common.{◌∙◌, ap, sym, Option}
use Rattle.q_device.specs.declared.given.Given.{Given}
use Rattle.qtree_c.specs.device.Turns.{polls_of_turn}
use Rattle.qtree_c.specs.events.Noting.{noting}
use Rattle.qtree_c.proofs.device.TurnLemmas.{noting-none}
use Rattle.qtree_c.proofs.device.turn.note_turn.Goals as goal

pub returns-in-None : goal.returns-in-None
returns-in-None c =
    noting-none c.args.last.now
    ∙ ap (λ (a : Option Given). noting (polls_of_turn c.args.device.now.device.clock a c.args.given) c.args.last.now) (sym c.in-None.is)
