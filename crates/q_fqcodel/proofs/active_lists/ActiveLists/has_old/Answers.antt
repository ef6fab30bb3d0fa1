use Rattle.std.proofs.Common.{ℕ, not, ◌==◌, length, sym, ap, ◌∙◌}
use Rattle.q_fqcodel.specs.Links.{ListsState}
use Rattle.q_fqcodel.specs.declared.place.Place.TheVariants.{Old}
use Rattle.q_fqcodel.proofs.ListsLemmas.{counted}
use Rattle.q_fqcodel.proofs.active_lists.ActiveLists.has_old.Goals as goal

pub returns : goal.returns
returns c =
    ap (λ (n : ℕ). not (n == 0)) (sym (counted c.self.inside.links.items Old c.self.inside.old_flows c.self.invariant.old) ∙ ap (λ (v : ListsState). length v.old_flows) c.self.view_is)
