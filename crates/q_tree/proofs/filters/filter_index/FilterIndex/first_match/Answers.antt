use Rattle.std.proofs.Common.{◌≤◌, arith, length, subst}
use Rattle.q_packet.specs.Key.{IsKey}
use Rattle.q_model.specs.Filters.{matches}
use Rattle.q_tree.proofs.filters.IndexOfFilterLemmas.{find-place, none-before}
use Rattle.q_tree.proofs.filters.filter_index.FilterIndex.first_match.Goals as goal

pub returns : goal.returns
returns c =
    let p = c.args.packet.now in
    let index = c.args.self.now in
    let kept = c.loop-group.invariant in
    let key : IsKey p.key = subst IsKey c.key-key.ensures c.word_of-word.ensures.ranged in
    let all : length index.shapes.items ≤ c.loop-group.group = omega (arith, c.loop-group-test.false, c.len-group-end.ensures, index.shapes.ok.0) in
    find-place (matches p) c.args.filters.now c.loop-group.first kept.within kept.takes
    (none-before p index.shapes.items c.args.filters.now index.chains c.loop-group.first key c.requires.long c.requires.each
    (λ g j s f low shape before home is. kept.passed g j s f (omega (arith, low, all)) shape before home is))
