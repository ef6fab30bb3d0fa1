use Rattle.std.proofs.Common.{◌∙◌, sym, ap}
use Rattle.q_words.specs.Units.{in_range}
use Rattle.q_words.proofs.DecimalLemmas.{read, answer_is}
use Rattle.q_words.proofs.units.in_units.Goals as goal

pub times-requires-clause-places : goal.times-requires-clause-places
times-requires-clause-places c = (read c.args.number.now c.in-Some.decimal c.in-Some.ensures).few

pub returns-clause-value : goal.returns-clause-value
returns-clause-value c =
    let is_factor = rw c.in-Some-factor.is at c.requires.factor in
    c.within.ensures.value ∙ ap (in_range c.args.low c.args.high) c.times.ensures
    ∙ sym (answer_is c.args.number.now c.in-Some.decimal c.in-Some-factor.factor c.args.low c.args.high c.args.factor c.in-Some.ensures c.in-Some-factor.is c.requires.small is_factor)
