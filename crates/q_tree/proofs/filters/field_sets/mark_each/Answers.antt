use Rattle.std.proofs.Common.{rules, ◌<◌, length, refl}
use Rattle.std.proofs.lemmas.Option.{slice_get_read}
use Rattle.q_tree.proofs.filters.FieldSetLemmas.{marked-more}
use Rattle.q_tree.proofs.filters.field_sets.mark_each.Goals as goal

pub loop-at-preserved : goal.loop-at-preserved
loop-at-preserved c =
    let items = c.loop-at.pieces.items in
    let low : c.loop-at.at < length items = search rules in
    marked-more c.args.pieces.now.items items c.args.place c.args.values c.loop-at.at c.index.result.now c.marked.result
    (slice_get_read items (length items) c.loop-at.at c.index.result.now refl low c.index.ensures) c.marked.ensures c.loop-at.invariant
