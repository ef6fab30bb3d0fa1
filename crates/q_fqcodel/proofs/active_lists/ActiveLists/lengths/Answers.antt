use Rattle.std.proofs.Common.{length, sym, ap, ◌∙◌}
use Rattle.q_fqcodel.specs.Links.{ListsState}
use Rattle.q_fqcodel.specs.declared.place.Place.TheVariants.{New, Old}
use Rattle.q_fqcodel.proofs.ListsLemmas.{counted}
use Rattle.q_fqcodel.proofs.active_lists.ActiveLists.lengths.Goals as goal

pub returns-clause-new : goal.returns-clause-new
returns-clause-new c = sym (counted c.self.inside.links.items New c.self.inside.new_flows c.self.invariant.new) ∙ ap (λ (v : ListsState). length v.new_flows) c.self.view_is

pub returns-clause-old : goal.returns-clause-old
returns-clause-old c = sym (counted c.self.inside.links.items Old c.self.inside.old_flows c.self.invariant.old) ∙ ap (λ (v : ListsState). length v.old_flows) c.self.view_is
