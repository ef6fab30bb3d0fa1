use Rattle.std.proofs.Common.{◌∙◌, ap, drop}
use Rattle.q_words.proofs.DecimalLemmas.{number_end}
use Rattle.q_words.proofs.units.cut_number.Goals as goal

pub returns-clause-suffix : goal.returns-clause-suffix
returns-clause-suffix c =
    c.split_at.ensures.back ∙ ap (λ n. drop n c.args.word.now) (c.unwrap_or-end.ensures ∙ number_end c.args.word.now c.first_other.result c.first_other.ensures)
