use Rattle.std.proofs.Common.{◌≤◌, ◌∙◌, ap, sym, subst, arith, length, List}
use mathlib.Core.List.{IsPrefix}
use Rattle.q_model.specs.declared.row.Row.{Row}
use Rattle.q_ports.specs.Rows.{RowHistorySeen}
use Rattle.q_ports.proofs.Prefixes.{prefix_same, prefix_shorter}
use Rattle.q_ports.proofs.note.Note.longer.Goals as goal

pub returns-then-self-other-clause-this : goal.returns-then-self-other-clause-this
returns-then-self-other-clause-this c =
    let both = c.learn.new.self.log in
    let mine = c.self.inside.seen.log in
    let theirs = c.other.inside.seen.log in
    let this : IsPrefix mine both = subst (λ (l : List Row). IsPrefix l both) (ap (λ s. s.log) c.again-both.ensures) c.learn.ensures.2 in
    let less : length mine ≤ length theirs = omega (arith, c.self.invariant, c.other.invariant) in
    prefix_same c.args.self.now.rows c.again.result.rows mine theirs (ap (λ (f : RowHistorySeen). f.rows) c.self.view_is)
    (ap (λ (f : RowHistorySeen). f.rows) c.other.view_is ∙ sym (ap (λ (f : RowHistorySeen). f.rows) c.again.ensures)) (prefix_shorter mine theirs both this c.learn.ensures.3 less)

pub returns-clause-that : goal.returns-clause-that
returns-clause-that c =
    let both = c.learn.new.self.log in
    let mine = c.self.inside.seen.log in
    let theirs = c.other.inside.seen.log in
    let this : IsPrefix mine both = subst (λ (l : List Row). IsPrefix l both) (ap (λ s. s.log) c.again-both.ensures) c.learn.ensures.2 in
    let less : length theirs ≤ length mine = omega (arith, c.self.invariant, c.other.invariant) in
    prefix_same c.args.other.now.rows c.again-else-self-other.result.rows theirs mine (ap (λ (f : RowHistorySeen). f.rows) c.other.view_is)
    (ap (λ (f : RowHistorySeen). f.rows) c.self.view_is ∙ sym (ap (λ (f : RowHistorySeen). f.rows) c.again-else-self-other.ensures)) (prefix_shorter theirs mine both c.learn.ensures.3 this less)
