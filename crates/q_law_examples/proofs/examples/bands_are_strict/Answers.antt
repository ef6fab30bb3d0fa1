use Rattle.std.proofs.Common.{subst}
use Rattle.q_laws.specs.work.Work.{BandsAreStrict}
use Rattle.q_law_examples.proofs.BandsHold.{strict-bands}
use Rattle.q_law_examples.proofs.examples.bands_are_strict.Goals as goal

pub returns : goal.returns
returns c = strict-bands (subst BandsAreStrict c.worked_settings.ensures c.bands_are_strict.ensures)
