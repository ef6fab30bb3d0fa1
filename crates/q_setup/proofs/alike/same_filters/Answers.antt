use Rattle.std.proofs.Common.{◌≡◌, ◌∙◌, None, rules, sym}
use Rattle.q_model.specs.Views.{filter_views}
use Rattle.q_setup.proofs.AlikeLemmas.{drop-past, same_from, within_if}
use Rattle.q_setup.proofs.alike.same_filters.Goals as goal

pub loop-j-preserved : goal.loop-j-preserved
loop-j-preserved c =
    let same = c.same_filter_if_any.ensures.alike c.if-not-same_filter_if_any.false in
    record {
      alike = λ rest. c.loop-j.invariant.alike (same_from (filter_views c.args.wanted.now.1) (filter_views c.args.node.now.1) c.loop-j.j
          (sym c.filter-wanted.ensures ∙ same ∙ c.filter-filter.ensures) rest);
      few = within_if (filter_views c.args.wanted.now.1) c.loop-j.j c.filter-wanted.result (sym c.filter-wanted.ensures) c.if-is_none.ensures;
    }

pub returns-then-is_none-clause-alike : goal.returns-then-is_none-clause-alike
returns-then-is_none-clause-alike c _ =
    let same = c.same_filter_if_any.ensures.alike c.if-not-same_filter_if_any.false in
    let none : c.filter-wanted.result ≡ None = search rules in
    c.loop-j.invariant.alike (drop-past (filter_views c.args.wanted.now.1) c.loop-j.j (sym c.filter-wanted.ensures ∙ none)
    ∙ sym (drop-past (filter_views c.args.node.now.1) c.loop-j.j (sym c.filter-filter.ensures ∙ sym same ∙ none)))
