use Rattle.q_model.specs.Replay.{replay}
use Rattle.q_model.specs.Tally.{history}
use Rattle.q_invariants.proofs.Replays.{replay-kept}
use Rattle.q_invariants.proofs.Sound.{kept-sound}
use Rattle.q_device.proofs.device.ToldLemmas.{replay-tells}
use Rattle.q_device.proofs.laws.LawfulLemmas.{replay-lawful}
use Rattle.q_device.proofs.laws.conserved.Goals as goal

pub returns-clause-histories : goal.returns-clause-histories
returns-clause-histories c = λ events all.
    let d = (replay history c.args.settings events).device in
    kept-sound d.clock d.tree (replay-kept c.args.settings events c.ranges-2.ensures all)

pub returns-clause-totals : goal.returns-clause-totals
returns-clause-totals c = λ events all. replay-lawful c.args.settings events c.ranges-2.ensures all

pub returns-clause-answers : goal.returns-clause-answers
returns-clause-answers c = λ events all. replay-tells c.args.settings events c.ranges-2.ensures all
