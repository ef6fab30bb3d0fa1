use Rattle.std.proofs.Common.{◌∙◌, [], ◌∷◌, ◌++◌, length, map, refl, sym, ap, arith}
use Rattle.std.specs.List.{fold}
use Rattle.std.proofs.lemmas.List.{length-append}
use Rattle.q_tree.specs.commands.Index.{added, listed, under}
use Rattle.q_tree.proofs.answers.FindLemmas.{stepped-back}
use Rattle.q_tree.proofs.answers.ShowLemmas.{beneath-depth, beneath-size}
use Rattle.q_tree.proofs.commands.IndexLemmas.{added-next, length-next, none-left}
use Rattle.q_tree.proofs.disciplines.AtHandLemmas.{there-at}
use Rattle.q_tree.proofs.commands.handles.+add_beneath.Goals as goal

pub add_beneath-requires : goal.add_beneath-requires
add_beneath-requires t c =
    let ns = c.children-child-items.result.now in
    let i = c.loop-place.place in
    let n = c.child-item.result in
    let at = there-at ns i n c.loop-place-test.true c.child-item.is in (
      omega (arith, beneath-size c.args.node.now ns i n c.children-child-items.ensures at, c.decreases),
      (
        omega (
          arith,
          c.requires.levels,
          ap length c.push.ensures.items,
          ap length c.loop-place.invariant.0,
          length-append c.loop-place.path.items (i ∷ []),
          beneath-depth c.args.node.now ns i n c.children-child-items.ensures at,
        ),
        omega (arith, c.loop-place.invariant.2, length-next ns i n c.loop-place-test.true c.child-item.is c.push.new.self.items, c.add_own.ensures.room),
      ),
    )

pub loop-place-preserved : goal.loop-place-preserved
loop-place-preserved t c =
    let ns = c.children-child-items.result.now in
    let i = c.loop-place.place in
    let n = c.child-item.result in
    let more = length-next ns i n c.loop-place-test.true c.child-item.is c.push.new.self.items in (
      stepped-back c.loop-place.path.items c.add_beneath.new.path.items i (length c.add_beneath.new.path.items) c.pop.new.self.items
          (c.add_beneath.ensures.way ∙ c.push.ensures.items) refl c.pop.ensures.rest ∙ c.loop-place.invariant.0,
      added-next ns i n c.loop-place-test.true c.child-item.is c.args.path.now.items c.push.new.self.items (listed c.loop-place.ways.entries)
          (listed c.add_own.new.ways.entries) (listed c.add_beneath.new.ways.entries)
          (c.push.ensures.items ∙ ap (λ p. p ++ i ∷ []) c.loop-place.invariant.0) c.add_own.ensures.added c.add_beneath.ensures.added
          ∙ c.loop-place.invariant.1,
      omega (arith, c.loop-place.invariant.2, more, c.add_own.ensures.room, c.add_beneath.ensures.room),
      omega (arith, c.loop-place.invariant.3, more, c.add_own.ensures.room, c.add_beneath.ensures.room),
    )

pub returns-clause-added : goal.returns-clause-added
returns-clause-added t c =
    ap (λ xs. fold added (listed c.loop-place.ways.entries) (map (under c.args.path.now.items) xs)) (sym (none-left c.children-child-items.result.now c.loop-place.place c.loop-place-test.false))
    ∙ c.loop-place.invariant.1
