use Rattle.std.proofs.Common.{◌≡◌, ◌<◌, arith, length, refl, slice_get, Some, suc, sym}
use Rattle.std.proofs.lemmas.Option.{slice_get_read}
use Rattle.q_model.specs.Filters.{matches}
use Rattle.q_tree.specs.filters.Chains.{IsNext}
use Rattle.q_tree.proofs.filters.IndexOfFilterLemmas.{passed-more}
use Rattle.q_tree.proofs.filters.filter_index.first_of_home.Goals as goal

pub loop-place-preserved : goal.loop-place-preserved
loop-place-preserved c =
    let chains = c.args.chains.now in
    let filters = c.args.filters.now in
    let place = c.loop-place.place in
    let kept = c.loop-place.invariant in
    let inside : place < length chains = omega (arith, c.loop-place-test.true, c.requires.within, c.requires.long) in
    let here : slice_get filters place ≡ Some c.index-filters-place.result =
    slice_get_read filters (length filters) place c.index-filters-place.result refl (omega (arith, inside, c.requires.long))
    c.index-filters-place.is in
    let next : IsNext chains c.args.home (suc place) c.next-place.result = c.next-place.ensures c.args.home (kept.there inside) in
    record {
      within = next.within;
      there = next.there;
      passed = passed-more (matches c.args.packet.now) chains filters c.args.home place c.next-place.result c.index-filters-place.result here (sym c.if-matches.ensures) kept.passed next;
    }
