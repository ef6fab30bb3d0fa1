use Rattle.std.proofs.Common.{◌+◌, ◌*◌, ◌^◌, ◌≤◌, sym, subst, arith}
use Rattle.q_tree.proofs.answers.TurnNowLemmas.{turn-fits}
use Rattle.q_tree.proofs.answers.turns.turn_now.Goals as goal

pub returns-clause-bound : goal.returns-clause-bound
returns-clause-bound c =
    let r = c.requires in
    let positive = r.share.positive in
    let part = r.share.part in
    let few = r.share.few in
    let bounded = r.share.bounded in
    let left = c.saturating_sub.ensures in
    let all = turn-fits c.args.bytes c.from-2.result c.from-others.result c.args.ahead (omega (arith, positive, c.from-2.ensures))
    (omega (arith, part, few, bounded, c.from-2.ensures)) r.bytes (omega (arith, few, bounded, c.from-others.ensures)) r.ahead c.saturating_sub.result
    (omega (arith, left)) in
    subst (λ g. c.args.bytes + g * c.from-others.result + c.args.ahead ≤ 2 ^ 115) (sym c.div_ceil-grants.ensures) all
