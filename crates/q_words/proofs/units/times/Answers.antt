use Rattle.q_words.proofs.DecimalLemmas.{pow_some}
use Rattle.q_words.proofs.units.times.Goals as goal

pub nonzero_div-result : goal.nonzero_div-result
nonzero_div-result c = rw c.pow.ensures (pow_some c.args.decimal.places)
