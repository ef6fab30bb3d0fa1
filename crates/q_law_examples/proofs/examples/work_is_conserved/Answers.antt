use Rattle.std.proofs.Common.{subst}
use Rattle.q_laws.specs.work.Work.{WorkIsConserved}
use Rattle.q_law_examples.proofs.BandsHold.{conserved-work}
use Rattle.q_law_examples.proofs.examples.work_is_conserved.Goals as goal

pub returns : goal.returns
returns c = conserved-work (subst WorkIsConserved c.worked_settings.ensures c.work_is_conserved.ensures)
