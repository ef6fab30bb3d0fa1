use Rattle.std.proofs.Common.{ℕ, not, ◌==◌, length, sym, ap, ◌∙◌}
use Rattle.q_fqcodel.specs.Links.{ListsState}
use Rattle.q_fqcodel.specs.declared.place.Place.TheVariants.{New}
use Rattle.q_fqcodel.proofs.ListsLemmas.{counted}
use Rattle.q_fqcodel.proofs.active_lists.ActiveLists.has_new.Goals as goal

pub returns : goal.returns
returns c =
    ap (λ (n : ℕ). not (n == 0)) (sym (counted c.self.inside.links.items New c.self.inside.new_flows c.self.invariant.new) ∙ ap (λ (v : ListsState). length v.new_flows) c.self.view_is)
