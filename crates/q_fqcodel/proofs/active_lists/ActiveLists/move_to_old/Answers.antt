use Rattle.std.proofs.Common.{ℤ, w64, ◌≡◌, ◌<◌, List, [], ◌∷◌, ◌++◌, length, drop, slice_get, IfSome, sym, ap, ap₂, ◌∙◌, arith, subst}
use Rattle.std.proofs.lemmas.Int.{to_z-of_z}
use Rattle.q_fqcodel.specs.Entry.{Entry}
use Rattle.q_fqcodel.specs.Links.{ListsState, link_at, entries_in}
use Rattle.q_fqcodel.specs.declared.place.Place.TheVariants.{New, Old}
use Rattle.q_fqcodel.proofs.LinkLemmas.{head_within}
use Rattle.q_fqcodel.proofs.ListsLemmas.{counted, front_flow, new_or_old}
use Rattle.q_fqcodel.proofs.active_lists.ActiveLists.move_to_old.Goals as goal
use Rattle.q_fqcodel.proofs.active_lists.ActiveLists.move_to_old.Goals.{After-remove_first-self-inside, After-entry, After-append_flow-self-inside}

some : (c : After-remove_first-self-inside) → 0 < c.self.inside.new_flows.count
some c =
    omega (arith, c.requires.some, ap (λ (v : ListsState). length v.new_flows) c.self.view_is, counted c.self.inside.links.items New c.self.inside.new_flows c.self.invariant.new)

pub remove_first-self-inside-requires-clause-some : goal.remove_first-self-inside-requires-clause-some
remove_first-self-inside-requires-clause-some c =
    omega (arith, c.requires.some, ap (λ (v : ListsState). length v.new_flows) c.self.view_is, counted c.self.inside.links.items New c.self.inside.new_flows c.self.invariant.new)

-- the flow that moves is the one in front
moves : (c : After-remove_first-self-inside) → c.self.inside.new_flows.head ≡ c.args.entry.flow
moves c =
    front_flow c.self.inside.links.items New c.self.inside.new_flows c.args.entry.flow c.self.invariant.new (some c)
    (subst (λ (v : ListsState). IfSome (slice_get v.new_flows 0) (λ e. e.flow ≡ c.args.entry.flow)) (sym c.self.view_is) c.requires.own)

pub append_flow-self-inside-requires-clause-within : goal.append_flow-self-inside-requires-clause-within
append_flow-self-inside-requires-clause-within c =
    let d = (goal.at.append_flow-self-inside-requires-clause-within c).After-remove_first-self-inside in
    omega (
      arith,
      ap (λ (e : Entry). e.flow) c.entry.view_is,
      moves d,
      head_within c.self.inside.links.items New c.self.inside.new_flows (some d) c.self.invariant.new,
      c.remove_first-self-inside.ensures.len,
    )

pub append_flow-self-inside-requires-clause-free : goal.append_flow-self-inside-requires-clause-free
append_flow-self-inside-requires-clause-free c =
    let d = (goal.at.append_flow-self-inside-requires-clause-free c).After-remove_first-self-inside in
    ap (link_at c.remove_first-self-inside.new.links.items) (ap (λ (e : Entry). e.flow) c.entry.view_is ∙ sym (moves d)) ∙ c.remove_first-self-inside.ensures.free

pub append_flow-self-inside-requires-clause-linked : goal.append_flow-self-inside-requires-clause-linked
append_flow-self-inside-requires-clause-linked c =
    (c.remove_first-self-inside.ensures.others New c.self.invariant.new).linked Old c.self.inside.old_flows (λ e. new_or_old (sym e)) c.self.invariant.old

pub append_flow-self-inside-requires-clause-few : goal.append_flow-self-inside-requires-clause-few
append_flow-self-inside-requires-clause-few c =
    omega (arith, c.requires.few, ap (λ (v : ListsState). length v.old_flows) c.self.view_is, counted c.self.inside.links.items Old c.self.inside.old_flows c.self.invariant.old)

pub invariant_of-self : goal.invariant_of-self
invariant_of-self c = record {
  room = omega (arith, c.self.invariant.room, c.remove_first-self-inside.ensures.len, c.append_flow-self-inside.ensures.len);
  new = c.append_flow-self-inside.ensures.others.linked New c.remove_first-self-inside.result new_or_old (c.remove_first-self-inside.ensures.linked New c.self.invariant.new);
  old = c.append_flow-self-inside.ensures.linked;
}

pub returns : goal.returns
returns c =
    let new : entries_in c.append_flow-self-inside.new.links.items c.remove_first-self-inside.result ≡ drop 1 c.args.self.now.new_flows =
    c.append_flow-self-inside.ensures.others.same New c.remove_first-self-inside.result new_or_old (c.remove_first-self-inside.ensures.linked New c.self.invariant.new)
    ∙ c.remove_first-self-inside.ensures.entries
    ∙ ap (λ (v : ListsState). drop 1 v.new_flows) c.self.view_is in
    let old : entries_in c.append_flow-self-inside.new.links.items c.append_flow-self-inside.result ≡ c.args.self.now.old_flows ++ c.args.entry ∷ [] =
    c.append_flow-self-inside.ensures.entries
    ∙ ap₂ (λ (l : List Entry) (e : Entry). l ++ e ∷ [])
    ((c.remove_first-self-inside.ensures.others New c.self.invariant.new).same Old c.self.inside.old_flows (λ e. new_or_old (sym e)) c.self.invariant.old
    ∙ ap (λ (v : ListsState). v.old_flows) c.self.view_is)
    (ap (λ (z : ℤ). record { flow = c.entry.inside.flow; credits = z })
    (to_z-of_z w64 c.entry.inside.credits (record { sfits = (goal.at.returns c).After-entry.type_inv.entry-inside.1.0.1 })) ∙ c.entry.view_is) in
    let room = c.append_flow-self-inside.ensures.len ∙ c.remove_first-self-inside.ensures.len ∙ ap (λ (v : ListsState). v.room) c.self.view_is in
    cc
