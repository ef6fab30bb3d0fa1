use Rattle.std.proofs.Common.{eq-eqb, arith}
use Rattle.std.proofs.lemmas.Bool.{eqb-true}
use Rattle.q_script.proofs.LinesLemmas.{lines-cut, lines-whole}
use Rattle.q_script.proofs.lines.split_line.Goals as goal

pub returns-in-Some-clause-lines : goal.returns-in-Some-clause-lines
returns-in-Some-clause-lines c =
    let first = c.in-Some.ensures.0 in
    lines-cut c.in-Some.end c.args.text.now first.high (eqb-true _ 10 c.in-Some.ensures.1) (λ j h e. first.before j (omega arith) h (eq-eqb _ 10 e))

pub returns-in-None-clause-lines : goal.returns-in-None-clause-lines
returns-in-None-clause-lines c = lines-whole c.args.text.now c.requires (λ j h e. c.in-None.ensures j (omega arith) h (eq-eqb _ 10 e))
