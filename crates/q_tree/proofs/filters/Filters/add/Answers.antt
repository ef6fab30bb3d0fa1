use Rattle.std.proofs.Common.{◌≡◌, ◌∙◌, ◌≤◌, ap, arith, length, subst, sym}
use Rattle.std.specs.Prelude.{nat_le}
use Rattle.std.specs.List.{insert, remove, take_while}
use Rattle.std.specs.Option.{IfSome}
use Rattle.q_model.specs.Filters.{with_filter}
use Rattle.q_model.specs.declared.filter.Filter.{Filter}
use Rattle.q_tree.specs.filters.SomeIndex.{IsSomeIndexOf}
use Rattle.q_tree.proofs.commands.EditLemmas.{filter-placed}
use Rattle.q_tree.proofs.filters.FieldIndexLemmas.{remove-insert, taken-within}
use Rattle.q_tree.proofs.filters.Filters.add.Goals as goal

pub returns-in-Ok-clause-ok : goal.returns-in-Ok-clause-ok
returns-in-Ok-clause-ok c =
    let old = c.self.inside.list.items in
    c.in_ok-insert.ensures.items
    ∙ ap (λ (f : Filter). insert old c.place_behind-place.result f) c.new.ensures
    ∙ ap (λ k. insert old k c.args.filter) (c.place_behind-place.ensures
    ∙ ap (λ prio. length (take_while (λ (f : Filter). nat_le f.prio prio) c.deref.result.now)) c.number.ensures.value
    ∙ ap (λ fs. length (take_while (λ (f : Filter). nat_le f.prio c.args.filter.prio) fs)) c.deref.ensures.value)
    ∙ filter-placed c.args.filter old
    ∙ ap (with_filter c.args.filter) c.self.view_is

pub renew-requires-clause-others : goal.renew-requires-clause-others
renew-requires-clause-others c =
    let old = c.self.inside.list.items in
    let place = c.place_behind-place.result in
    let within : place ≤ length old = omega (
      arith,
      c.place_behind-place.ensures,
      taken-within (λ (f : Filter). nat_le f.prio c.number.result) c.deref.result.now,
      ap length c.deref.ensures.value,
    ) in
    let is : remove c.deref-2.result.now place ≡ old =
    ap (λ fs. remove fs place) (c.deref-2.ensures.value ∙ c.in_ok-insert.ensures.items) ∙ remove-insert old place c.new.result within in
    subst (λ fs. IfSome c.self.inside.index (λ index. IsSomeIndexOf index.value fs)) (sym is) c.self.invariant
