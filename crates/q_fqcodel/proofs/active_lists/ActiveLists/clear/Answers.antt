use Rattle.std.proofs.Common.{◌≡◌, ℕ, [], vec_len, replicate, arith, ap, ◌∙◌}
use Rattle.q_fqcodel.specs.Links.{ListsState, no_link}
use Rattle.q_fqcodel.specs.declared.link.Link.{Link}
use Rattle.q_fqcodel.proofs.ListsLemmas.{empty_lists, empty_state}
use Rattle.q_fqcodel.proofs.active_lists.ActiveLists.clear.Goals as goal
use Rattle.q_fqcodel.proofs.active_lists.ActiveLists.clear.Goals.{After-fill}

items : (c : After-fill) → c.fill.new.self.items ≡ replicate (vec_len c.self.inside.links) no_link
items c = c.fill.ensures.items (λ y h. h) ∙ ap (λ (x : Link). replicate (vec_len c.self.inside.links) x) c.unlisted.ensures

pub invariant_of-self : goal.invariant_of-self
invariant_of-self c =
    let d = (goal.at.invariant_of-self c).After-fill in
    empty_lists (vec_len c.self.inside.links) c.fill.new.self.items c.none-self-inside.result c.none-self-inside-2.result (items d)
    c.none-self-inside.ensures c.none-self-inside-2.ensures (omega (arith, c.self.invariant.room, c.self.inside.links.ok.0))

pub returns : goal.returns
returns c =
    let d = (goal.at.returns c).After-fill in
    empty_state (vec_len c.self.inside.links) c.fill.new.self.items c.none-self-inside.result c.none-self-inside-2.result (items d) c.none-self-inside.ensures c.none-self-inside-2.ensures
    ∙ ap (λ (n : ℕ). record { new_flows = []; old_flows = []; room = n }) c.self.inside.links.ok.0
    ∙ ap (λ (v : ListsState). record { new_flows = []; old_flows = []; room = v.room }) c.self.view_is
