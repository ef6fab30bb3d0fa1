use Rattle.std.proofs.Common.{◌≡◌, ◌∙◌, ap, sym, option_map, length, ◌≤◌, true, Some, refl, subst}
use Rattle.std.proofs.lemmas.Option.{slice_get_read}
use Rattle.std.specs.Prelude.{slice_get}
use Rattle.q_packet.specs.Key.{Key}
use Rattle.q_model.specs.declared.filter.Filter.{Filter}
use Rattle.q_tree.specs.filters.Matching.{before_taker, takes_addresses}
use Rattle.q_tree.proofs.filters.MatchingLemmas.{first-takes, no-addresses, none-takes}
use Rattle.q_tree.proofs.filters.matching.named_class.Goals as goal

pub returns-then-first-filters : goal.returns-then-first-filters
returns-then-first-filters c =
    let fs = c.args.filters.now in
    let p = c.args.packet.now in
    let past : length fs ≤ before_taker p.key fs = subst (λ n. length fs ≤ n) (c.before_taker-first.ensures ∙ ap (λ (k : Key). before_taker k fs) c.key-key.ensures) c.if-first-filters.true in
    sym (ap (option_map (λ (f : Filter). f.minor)) (none-takes p fs past))

pub returns-then-is_none-2 : goal.returns-then-is_none-2
returns-then-is_none-2 c =
    let fs = c.args.filters.now in
    let p = c.args.packet.now in
    let f = c.filter-filter.result.now in
    let first : c.before_taker-first.result ≡ before_taker p.key fs = c.before_taker-first.ensures ∙ ap (λ (k : Key). before_taker k fs) c.key-key.ensures in
    let there : slice_get fs (before_taker p.key fs) ≡ Some f =
    subst (λ n. slice_get fs n ≡ Some f) first
    (slice_get_read fs (length fs) c.before_taker-first.result c.index-filters-first.result refl c.if-first-filters.false c.index-filters-first.is ∙ ap Some (sym c.filter-filter.ensures)) in
    let addresses : takes_addresses f.keys p.key ≡ true = no-addresses f.keys p.key c.if-is_none.ensures c.if-is_none-2.ensures in
    sym (ap (option_map (λ (f : Filter). f.minor)) (first-takes p fs f there addresses))
