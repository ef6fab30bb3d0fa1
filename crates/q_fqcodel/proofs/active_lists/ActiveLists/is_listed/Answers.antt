use Rattle.std.proofs.Common.{◌≡◌, ◌++◌, sym, ap, ◌∙◌, arith, ⊎_elim}
use Rattle.std.proofs.lemmas.List.{get_or_read}
use Rattle.q_fqcodel.specs.Links.{ListsState, no_link, link_of}
use Rattle.q_fqcodel.specs.Put.{is_listed}
use Rattle.q_fqcodel.specs.declared.link.Link.{Link}
use Rattle.q_fqcodel.specs.declared.place.Place.TheVariants.{New, Old}
use Rattle.q_fqcodel.proofs.ListsLemmas.{not_listed, listed_new, listed_old}
use Rattle.q_fqcodel.proofs.active_lists.ActiveLists.is_listed.Goals as goal
use Rattle.q_fqcodel.proofs.active_lists.ActiveLists.is_listed.Goals.{After-index}

-- the link that is read is that of the flow
read : (c : After-index) → c.index.result.now ≡ link_of c.self.inside.links.items c.args.flow
read c = get_or_read c.self.inside.links.items c.args.flow _ (omega (arith, c.requires, ap (λ (v : ListsState). v.room) c.self.view_is)) c.index.ensures no_link

pub returns-in-Unlisted : goal.returns-in-Unlisted
returns-in-Unlisted c =
    let d = (goal.at.returns-in-Unlisted c).After-index in
    not_listed c.self.inside.links.items c.self.inside.new_flows c.self.inside.old_flows c.self.invariant c.args.flow (ap (λ (x : Link). x.place) (sym (read d)) ∙ c.in-Unlisted.is)
    ∙ ap (λ (v : ListsState). is_listed c.args.flow (v.new_flows ++ v.old_flows)) c.self.view_is

pub returns-in-New : goal.returns-in-New
returns-in-New c =
    let d = (goal.at.returns-in-New c).After-index in
    ⊎_elim
    (λ (new : c.index.result.now.place ≡ New). listed_new c.self.inside.links.items c.self.inside.new_flows c.self.inside.old_flows c.self.invariant
    c.args.flow (ap (λ (x : Link). x.place) (sym (read d)) ∙ new))
    (λ (old : c.index.result.now.place ≡ Old). listed_old c.self.inside.links.items c.self.inside.new_flows c.self.inside.old_flows c.self.invariant
    c.args.flow (ap (λ (x : Link). x.place) (sym (read d)) ∙ old))
    c.in-New.is
    ∙ ap (λ (v : ListsState). is_listed c.args.flow (v.new_flows ++ v.old_flows)) c.self.view_is
