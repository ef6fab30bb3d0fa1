use Rattle.q_drr.proofs.StretchLemmas.{each_sends_its_share}
use Rattle.q_drr.proofs.laws.each_sends_its_share.Goals as goal

pub returns : goal.returns
returns c = each_sends_its_share
