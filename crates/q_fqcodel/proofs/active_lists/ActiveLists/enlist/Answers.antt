use Rattle.std.proofs.Common.{length, sym, ap, ◌∙◌, arith}
use Rattle.q_fqcodel.specs.Links.{ListsState}
use Rattle.q_fqcodel.specs.declared.place.Place.TheVariants.{New}
use Rattle.q_fqcodel.proofs.ListsLemmas.{counted}
use Rattle.q_fqcodel.proofs.active_lists.ActiveLists.enlist.Goals as goal

pub append_flow-self-inside-requires-clause-few : goal.append_flow-self-inside-requires-clause-few
append_flow-self-inside-requires-clause-few c =
    let few = c.requires.few (sym c.is_listed.ensures ∙ c.if-is_listed.false) in
    omega (arith, few, ap (λ (v : ListsState). length v.new_flows) c.self.view_is, counted c.self.inside.links.items New c.self.inside.new_flows c.self.invariant.new)
