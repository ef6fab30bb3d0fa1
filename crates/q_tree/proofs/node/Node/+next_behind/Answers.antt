use Rattle.std.proofs.Common.{◌∙◌, ◌∷◌, [], length, sym, ap, arith, option_copied}
use Rattle.std.specs.Prelude.{slice_get}
use Rattle.std.proofs.lemmas.List.{length-append}
use Rattle.std.proofs.lemmas.Option.{slice_get_within}
use Rattle.q_tree.specs.answers.Nodes.{behind}
use Rattle.q_tree.proofs.answers.NodesLemmas.{behind-none}
use Rattle.q_tree.proofs.answers.ShowLemmas.{beneath-depth, child-numbered}
use Rattle.q_tree.proofs.node.Node.+next_behind.Goals as goal

pub returns-in_err-child-clause-end : goal.returns-in_err-child-clause-end
returns-in_err-child-clause-end t c = λ _.
    let i = c.in-Some.field-0-0.now in
    ap (λ w. behind w c.args.self.now) c.in-Some.ensures.cases.0
    ∙ behind-none c.args.self.now i c.in-Some.rest.now
    (sym (ap (λ ns. slice_get ns i) c.children.ensures) ∙ sym c.child_at.ensures ∙ ap (λ o. option_copied o) c.in_err-child.was)

pub next_behind-requires : goal.next_behind-requires
next_behind-requires t c =
    let i = c.in-Some.field-0-0.now in
    let ns = c.children.result.now in
    let child = c.in_ok-child.child.now in
    let at = sym c.child_at.ensures ∙ ap (λ o. option_copied o) c.in_ok-child.was in (
      omega (arith, c.decreases, c.in-Some.ensures.cases.1),
      (
        child-numbered c.args.self.now ns i child c.requires.numbered c.children.ensures at,
        omega (arith, c.requires.levels, ap length c.push.ensures.items, length-append c.args.here.now.items (i ∷ []), beneath-depth c.args.self.now ns i child c.children.ensures at),
      ),
    )

pub overflow_add-i : goal.overflow_add-i
overflow_add-i t c =
    let within = slice_get_within c.children.result.now c.in-Some.field-0-0.now c.in_ok-child.child.now (sym c.child_at.ensures ∙ ap (λ o. option_copied o) c.in_ok-child.was) in
    omega (arith, within)
