use Rattle.std.proofs.Common.{length, ap, arith}
use Rattle.q_fqcodel.specs.Links.{ListsState}
use Rattle.q_fqcodel.specs.declared.place.Place.TheVariants.{Old}
use Rattle.q_fqcodel.proofs.ListsLemmas.{counted}
use Rattle.q_fqcodel.proofs.active_lists.ActiveLists.remove_old.Goals as goal

pub remove_first-self-inside-requires-clause-some : goal.remove_first-self-inside-requires-clause-some
remove_first-self-inside-requires-clause-some c =
    omega (arith, c.requires, ap (λ (v : ListsState). length v.old_flows) c.self.view_is, counted c.self.inside.links.items Old c.self.inside.old_flows c.self.invariant.old)
