use Rattle.std.proofs.Common.{◌≡◌, ◌∙◌, false, true, length, sym, ap, ap₂, arith}
use Rattle.std.proofs.lemmas.Bool.{eq-eqb, ne_eqb}
use Rattle.q_model.specs.Beneath.{beneath, is_empty}
use Rattle.q_model.specs.Node.{shape}
use Rattle.q_model.proofs.ShrinkLemmas.{is_empty-with_memory}
use Rattle.q_model.specs.declared.row.Row.{Row}
use Rattle.q_device.specs.device.Giving.{given_of}
use Rattle.q_device.proofs.device.given_of.Goals as goal

pub returns-then-totals-eq0 : goal.returns-then-totals-eq0
returns-then-totals-eq0 c =
    let root = c.args.tree.now.tree.root in
    let none : length (beneath root) ≡ 0 = omega (arith, c.if-totals-eq0.true, ap (λ (r : Row). r.queued.packets) c.totals.ensures) in
    let empty : is_empty (shape root) ≡ true = is_empty-with_memory (λ m. tt) root ∙ eq-eqb (length (beneath root)) 0 none in
    sym (ap₂ given_of c.if-sent.false empty)

pub returns : goal.returns
returns c =
    let root = c.args.tree.now.tree.root in
    let some : length (beneath root) ≡ 0 → ⊥ = λ none. c.if-totals-eq0.false (ap (λ (r : Row). r.queued.packets) c.totals.ensures ∙ none) in
    let waits : is_empty (shape root) ≡ false = is_empty-with_memory (λ m. tt) root ∙ ne_eqb (length (beneath root)) 0 some in
    sym (ap₂ given_of c.if-sent.false waits)
