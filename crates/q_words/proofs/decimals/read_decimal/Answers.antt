use Rattle.std.proofs.Common.{◌∙◌, ap, sym, if◌then◌else◌, Some, None, List, ℕ}
use Rattle.std.specs.Str.Parse.{digits_value}
use Rattle.q_words.specs.Decimals.{capped}
use Rattle.q_words.specs.Values.{is_numeral}
use Rattle.q_words.proofs.DecimalLemmas.{no_point}
use Rattle.q_words.proofs.decimals.read_decimal.Goals as goal

pub returns-then-not-has_point : goal.returns-then-not-has_point
returns-then-not-has_point c =
    no_point c.args.word.now c.in_ok-whole.whole (sym c.has_point.ensures ∙ c.if-not-has_point.true)
    (ap (λ (p : List ℕ). if is_numeral 10 p then Some (capped (digits_value 10 p)) else None) (sym c.cut_at_point.ensures.before) ∙ sym c.numeral.ensures ∙ c.in_ok-whole.was)
