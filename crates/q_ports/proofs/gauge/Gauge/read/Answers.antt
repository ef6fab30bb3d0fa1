use Rattle.std.proofs.Common.{rules, sym, subst, List}
use mathlib.Core.List.{IsPrefix}
use Rattle.q_model.specs.declared.row.Row.{Row}
use Rattle.q_ports.specs.Rows.{opening, last_of, IsNotLower}
use Rattle.q_ports.proofs.Rising.{rising-prefix}
use Rattle.q_ports.proofs.gauge.Gauge.read.Goals as goal

pub returns-clause-not_lower : goal.returns-clause-not_lower
returns-clause-not_lower c =
    let now = c.in_ok-front.front.rows in
    let not_lower : (rows : List Row) → IsPrefix rows now → IsNotLower (last_of rows) c.last.result =
    λ rows begins. subst (λ (r : Row). IsNotLower (last_of rows) r) (sym c.last.ensures.last)
    (rising-prefix opening rows now begins c.last.ensures.legal) in
    let old : IsPrefix c.args.self.now.rows now = search rules in
    let learnt : IsPrefix c.args.self.now.learnt now = search rules in
    (not_lower c.args.self.now.rows old, not_lower c.args.self.now.learnt learnt)
