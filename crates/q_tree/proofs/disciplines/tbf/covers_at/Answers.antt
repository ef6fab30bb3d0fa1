use Rattle.std.proofs.Common.{◌∙◌, arith}
use Rattle.q_tree.proofs.answers.Foreseeing.{covers-found, covers-none}
use Rattle.q_tree.proofs.disciplines.tbf.covers_at.Goals as goal

pub returns : goal.returns
returns c =
    let found = c.in_ok-at.ensures in
    covers-found c.args.bucket.now c.args.len c.in_ok-at.at c.rate.ensures.in_range found.from (omega (arith, c.ns.ensures.value, c.ns.ensures.in_range)) found.ready found.no_earlier

pub returns-in_err-at : goal.returns-in_err-at
returns-in_err-at c =
    let found = c.in_err-at.ensures in
    c.from_residual.ensures ∙ covers-none c.args.bucket.now c.args.len c.rate.ensures.in_range found.never
