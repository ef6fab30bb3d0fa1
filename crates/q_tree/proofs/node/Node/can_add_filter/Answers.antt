use Rattle.std.proofs.Common.{◌≡◌, ◌∙◌, List, length, sym, ap, arith}
use Rattle.std.specs.Prelude.{is_none, is_some, nat_le, not, true, false, ◌==◌}
use Rattle.std.proofs.lemmas.Bool.{le-leb, lt-leb}
use Rattle.q_model.specs.declared.filter.Filter.{Filter}
use Rattle.q_model.specs.Find.{class_place}
use Rattle.q_model.specs.Node.{Node, shape}
use Rattle.q_model.specs.Refusals.{has_filters}
use Rattle.q_tree.specs.Kept.{Kept}
use Rattle.q_tree.proofs.commands.Plans.{add_answer, none-is, some-is}
use Rattle.q_tree.proofs.commands.TargetLemmas.{class-shape}
use Rattle.q_tree.proofs.node.Node.can_add_filter.Goals as goal

pub returns-then-is_none : goal.returns-then-is_none
returns-then-is_none c =
    let D = not (c.args.major == c.args.parent) in
    let A = is_none (class_place c.args.filter.now.minor (shape c.args.self.now)) in
    let M = nat_le 256 (length c.args.self.now.own.filters) in
    let hf : has_filters c.args.self.now.own.discipline ≡ true = sym c.has_filters.ensures ∙ c.if-not-has_filters.false in
    let class_is = ap is_some c.class_place.ensures ∙ ap is_some (sym (class-shape c.args.filter.now.minor c.args.self.now)) in
    sym (ap (λ h. add_answer h D A M) hf ∙ ap (λ d. add_answer true d A M) (sym c.if-ne.ensures)
    ∙ ap (λ a. add_answer true false a M) (none-is (class_place c.args.filter.now.minor (shape c.args.self.now)) (sym class_is ∙ c.if-is_none.ensures)))

pub returns-then-all-ge-MOST_FILTERS : goal.returns-then-all-ge-MOST_FILTERS
returns-then-all-ge-MOST_FILTERS c =
    let D = not (c.args.major == c.args.parent) in
    let A = is_none (class_place c.args.filter.now.minor (shape c.args.self.now)) in
    let M = nat_le 256 (length c.args.self.now.own.filters) in
    let hf : has_filters c.args.self.now.own.discipline ≡ true = sym c.has_filters.ensures ∙ c.if-not-has_filters.false in
    let class_is = ap is_some c.class_place.ensures ∙ ap is_some (sym (class-shape c.args.filter.now.minor c.args.self.now)) in
    let many = ap (λ (n : Node Kept). length n.own.filters) (sym c.self.view_is) in
    sym (ap (λ h. add_answer h D A M) hf ∙ ap (λ d. add_answer true d A M) (sym c.if-ne.ensures)
    ∙ ap (λ a. add_answer true false a M) (some-is (class_place c.args.filter.now.minor (shape c.args.self.now)) (sym class_is ∙ c.if-is_none.ensures))
    ∙ ap (add_answer true false false) (le-leb 256 (length c.args.self.now.own.filters) (omega (arith, many, ap (λ (fs : List Filter). length fs) c.all.ensures, c.if-all-ge-MOST_FILTERS.true))))

pub returns : goal.returns
returns c =
    let D = not (c.args.major == c.args.parent) in
    let A = is_none (class_place c.args.filter.now.minor (shape c.args.self.now)) in
    let M = nat_le 256 (length c.args.self.now.own.filters) in
    let hf : has_filters c.args.self.now.own.discipline ≡ true = sym c.has_filters.ensures ∙ c.if-not-has_filters.false in
    let class_is = ap is_some c.class_place.ensures ∙ ap is_some (sym (class-shape c.args.filter.now.minor c.args.self.now)) in
    let many = ap (λ (n : Node Kept). length n.own.filters) (sym c.self.view_is) in
    sym (ap (λ h. add_answer h D A M) hf ∙ ap (λ d. add_answer true d A M) (sym c.if-ne.ensures)
    ∙ ap (λ a. add_answer true false a M) (some-is (class_place c.args.filter.now.minor (shape c.args.self.now)) (sym class_is ∙ c.if-is_none.ensures))
    ∙ ap (add_answer true false false) (lt-leb 256 (length c.args.self.now.own.filters) (omega (arith, many, ap (λ (fs : List Filter). length fs) c.all.ensures, c.if-all-ge-MOST_FILTERS.false))))
