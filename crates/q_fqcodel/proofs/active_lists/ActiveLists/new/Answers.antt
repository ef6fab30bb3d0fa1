use Rattle.std.proofs.Common.{◌≡◌, replicate, ap, ◌∙◌}
use Rattle.q_fqcodel.specs.Links.{no_link}
use Rattle.q_fqcodel.specs.declared.link.Link.{Link}
use Rattle.q_fqcodel.proofs.ListsLemmas.{empty_lists, empty_state}
use Rattle.q_fqcodel.proofs.active_lists.ActiveLists.new.Goals as goal
use Rattle.q_fqcodel.proofs.active_lists.ActiveLists.new.Goals.{After-none-2}

items : (c : After-none-2) → c.in_ok-links.links.items ≡ replicate c.args.flows no_link
items c = c.in_ok-links.ensures.items_if_clones_equal (λ y h. h) ∙ ap (λ (x : Link). replicate c.args.flows x) c.unlisted.ensures

pub invariant_of-result : goal.invariant_of-result
invariant_of-result c =
    let d = (goal.at.invariant_of-result c).After-none-2 in
    empty_lists c.args.flows c.in_ok-links.links.items c.none.result c.none-2.result (items d) c.none.ensures c.none-2.ensures c.requires

pub returns : goal.returns
returns c =
    let d = (goal.at.returns c).After-none-2 in
    empty_state c.args.flows c.in_ok-links.links.items c.none.result c.none-2.result (items d) c.none.ensures c.none-2.ensures
