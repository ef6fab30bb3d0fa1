use Rattle.std.proofs.Common.{[], ◌∷◌, sym, subst, arith}
use Rattle.std.specs.Prelude.{All}
use Rattle.std.proofs.lemmas.List.Elements.{All-nil, All-cons, All-append}
use Rattle.q_tree.specs.answers.Ways.{IsShare}
use Rattle.q_tree.proofs.node.Node.+shares.Goals as goal

pub shares-requires : goal.shares-requires
shares-requires t c = (
  omega (arith, c.decreases, c.in-Some.ensures.cases.1),
  (
    omega (arith, c.push.ensures.len, c.requires.short, c.in-Some.ensures.cases.1),
    subst (λ xs. All IsShare xs) (sym c.push.ensures.items)
        (All-append IsShare c.args.above.items (c.in_ok-share.share ∷ []) c.requires.above (All-cons IsShare c.in_ok-share.share [] c.in_ok-share.ensures.ranges (All-nil IsShare))),
  ),
)
