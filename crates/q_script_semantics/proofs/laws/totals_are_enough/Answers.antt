use Rattle.q_script_semantics.proofs.ReportLemmas.{replay-shrunk}
use Rattle.q_script_semantics.proofs.laws.totals_are_enough.Goals as goal

pub returns : goal.returns
returns c = replay-shrunk
