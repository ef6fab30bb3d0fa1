use Rattle.std.proofs.Common.{◌∙◌, List, None, length, refl, sym, ap, subst, arith}
use Rattle.std.specs.Prelude.{All}
use Rattle.q_model.specs.declared.totals.Totals.{Totals}
use Rattle.q_model.specs.Node.{Node, children}
use Rattle.q_invariants.proofs.tree.Forests.{nodes-side}
use Rattle.q_tree.specs.departure.GiveSteps.{IsFreeFifo, IsQuick, IsQuickIn}
use Rattle.q_tree.specs.Kept.{Kept}
use Rattle.q_tree.specs.Seen.{children_seen, discipline_seen}
use Rattle.q_tree.proofs.departure.HeldLemmas.{none-kept}
use Rattle.q_tree.proofs.disciplines.ServingHeads.{quick-out}
use Rattle.q_tree.proofs.node.Node.has_fifo_classes.Goals as goal

pub returns-then-len-most-clause-comes : goal.returns-then-len-most-clause-comes
returns-then-len-most-clause-comes c h =
    let kids = ap (λ (n : Node Kept). children n) (sym c.self.view_is) ∙ nodes-side (children_seen c.self.inside.discipline) ∙ ap children_seen c.in-Drr.is in
    absurd (omega (arith, h.few, ap (λ (xs : List (Node Kept)). length xs) kids, c.if-len-most.true, c.len.ensures, c.in-Drr.classes.ok))

pub returns-then-len-queued-clause-comes : goal.returns-then-len-queued-clause-comes
returns-then-len-queued-clause-comes c h =
    let kids = ap (λ (n : Node Kept). children n) (sym c.self.view_is) ∙ nodes-side (children_seen c.self.inside.discipline) ∙ ap children_seen c.in-Drr.is in
    absurd (omega (arith, h.queued, ap (λ (t : Totals). t.packets) c.queued.ensures, ap (λ (xs : List (Node Kept)). length xs) kids, c.if-len-queued.true, c.len-2.ensures, c.in-Drr.classes.ok))

pub returns-clause-means : goal.returns-clause-means
returns-clause-means c so =
    subst IsQuick c.self.view_is (quick-out c.self.inside (none-kept c.self.inside.held c.if-is_some.ensures)
    (subst (λ d. IsQuickIn None (children_seen d) (discipline_seen d)) (sym c.in-Drr.is) (refl, subst (All IsFreeFifo) c.deref.ensures.value (c.are_free_fifos.ensures.means so))))

pub returns-clause-comes : goal.returns-clause-comes
returns-clause-comes c h =
    let kids = ap (λ (n : Node Kept). children n) (sym c.self.view_is) ∙ nodes-side (children_seen c.self.inside.discipline) ∙ ap children_seen c.in-Drr.is in
    c.are_free_fifos.ensures.comes (subst (All IsFreeFifo) (kids ∙ sym c.deref.ensures.value) h.fifos)
