use Rattle.std.proofs.Common.{◌≡◌, ◌∙◌, ◌+◌, ◌*◌, ap, arith, length, refl, Some, sym, slice_get, subst, ℕ, [], ◌∷◌, ◌++◌, get_or}
use Rattle.std.proofs.lemmas.Option.{slice_get_read}
use Rattle.std.proofs.lemmas.List.{length-append}
use Rattle.q_model.specs.declared.filter.Filter.{Filter}
use Rattle.q_tree.specs.filters.IndexOfFilters.{AreHomes}
use Rattle.q_tree.proofs.filters.IndexOfFilterLemmas.{homes-more, shapes-more}
use Rattle.q_tree.proofs.filters.filter_index.homes_of.Goals as goal

pub loop-filter-preserved : goal.loop-filter-preserved
loop-filter-preserved c =
    let kept = c.loop-filter.invariant in
    let home : ℕ = c.in_ok-group.group * 256 + c.bucket_of.result in
    let pushed : c.push.new.self.items ≡ c.loop-filter.homes.items ++ home ∷ [] = c.in_ok-push.ensures.items in
    let f : Filter = c.filter-item.result in
    let there : slice_get c.args.filters.now (length c.loop-filter.homes.items) ≡ Some f =
    slice_get_read c.args.filters.now (length c.args.filters.now) (length c.loop-filter.homes.items) f refl (omega (arith, kept.long, c.loop-filter-test.true))
    (c.filter-item.is ∙ ap (λ n. get_or c.args.filters.now n f) (sym kept.long)) in
    record {
      long = omega (arith, ap length pushed, length-append c.loop-filter.homes.items (home ∷ []), kept.long);
      groups = omega (arith, kept.groups, c.in_ok-group.ensures.few);
      each = subst (λ hs. AreHomes c.group_of.new.shapes.items c.args.filters.now hs) (sym pushed)
          (homes-more c.loop-filter.shapes.items c.group_of.new.shapes.items c.args.filters.now c.loop-filter.homes.items f home c.in_ok-group.ensures.kept kept.each there
          record {
            group = c.in_ok-group.group;
            shape = c.in_ok-group.ensures.there ∙ ap Some c.of.ensures.shape;
            is = ap
                (λ n. c.in_ok-group.group * 256 + n) c.bucket_of.ensures.value;
            range = c.of.ensures.range;
          });
      distinct = c.in_ok-group.ensures.distinct kept.distinct;
      shapes = shapes-more c.args.filters.now c.loop-filter.shapes.items c.group_of.new.shapes.items (length c.loop-filter.homes.items) f c.of.result there c.of.ensures.shape
          c.in_ok-group.ensures.added kept.shapes;
    }
