use Rattle.std.proofs.Common.{◌≡◌, ◌<◌, List, [], ◌∷◌, ◌++◌, length, set, drop, slice_get, IfSome, sym, ap, ◌∙◌, arith, subst}
use Rattle.std.proofs.lemmas.List.{length-set}
use Rattle.q_fqcodel.specs.Entry.{Entry}
use Rattle.q_fqcodel.specs.Links.{ListsState, link_of, entries_in}
use Rattle.q_fqcodel.specs.declared.link.Link.{Link}
use Rattle.q_fqcodel.specs.declared.place.Place.TheVariants.{New, Old}
use Rattle.q_fqcodel.proofs.ListsLemmas.{counted, front_flow, new_or_old, own_within, written_old_lists, written_old_entries, turned_alone}
use Rattle.q_fqcodel.proofs.active_lists.ActiveLists.rotate.Goals as goal

pub move_first_to_end-self-inside-requires-clause-several : goal.move_first_to_end-self-inside-requires-clause-several
move_first_to_end-self-inside-requires-clause-several c =
    omega (arith, c.if-self-eq1.false, c.requires.some, ap (λ (v : ListsState). length v.old_flows) c.self.view_is, counted c.self.inside.links.items Old c.self.inside.old_flows c.self.invariant.old)

-- the flow that moves is the one in front
pub move_first_to_end-self-inside-requires-clause-own : goal.move_first_to_end-self-inside-requires-clause-own
move_first_to_end-self-inside-requires-clause-own c =
    let some : 0 < c.self.inside.old_flows.count =
    omega (
      arith,
      c.requires.some,
      ap (λ (v : ListsState). length v.old_flows) c.self.view_is,
      counted c.self.inside.links.items Old
          c.self.inside.old_flows c.self.invariant.old,
    ) in
    front_flow c.self.inside.links.items Old c.self.inside.old_flows c.args.entry.flow c.self.invariant.old some
    (subst (λ (v : ListsState). IfSome (slice_get v.old_flows 0) (λ e. e.flow ≡ c.args.entry.flow)) (sym c.self.view_is) c.requires.own)

pub invariant_of-self-2 : goal.invariant_of-self-2
invariant_of-self-2 c = record {
  room = omega (arith, c.self.invariant.room, c.move_first_to_end-self-inside.ensures.len);
  new = (c.move_first_to_end-self-inside.ensures.others Old c.self.invariant.old).linked New c.self.inside.new_flows new_or_old c.self.invariant.new;
  old = c.move_first_to_end-self-inside.ensures.linked Old c.self.invariant.old;
}

pub returns : goal.returns
returns c =
    let new : entries_in c.move_first_to_end-self-inside.new.links.items c.self.inside.new_flows ≡ c.args.self.now.new_flows =
    (c.move_first_to_end-self-inside.ensures.others Old c.self.invariant.old).same New c.self.inside.new_flows new_or_old c.self.invariant.new
    ∙ ap (λ (v : ListsState). v.new_flows) c.self.view_is in
    let old : entries_in c.move_first_to_end-self-inside.new.links.items c.move_first_to_end-self-inside.result ≡ drop 1 c.args.self.now.old_flows ++ c.args.entry ∷ [] =
    c.move_first_to_end-self-inside.ensures.entries ∙ ap (λ (v : ListsState). drop 1 v.old_flows ++ c.args.entry ∷ []) c.self.view_is in
    let room = c.move_first_to_end-self-inside.ensures.len ∙ ap (λ (v : ListsState). v.room) c.self.view_is in
    cc

-- ---- it is alone

pub write_credits-requires : goal.write_credits-requires
write_credits-requires c =
    let p = c.self.inside in
    let some : 0 < p.old_flows.count = omega (arith, c.if-self-eq1.true) in
    own_within p.links.items Old p.old_flows some c.self.invariant.old c.args.entry
    (front_flow p.links.items Old p.old_flows c.args.entry.flow c.self.invariant.old some
    (subst (λ (v : ListsState). IfSome (slice_get v.old_flows 0) (λ e. e.flow ≡ c.args.entry.flow)) (sym c.self.view_is) c.requires.own))

pub invariant_of-self : goal.invariant_of-self
invariant_of-self c =
    let p = c.self.inside in
    let some : 0 < p.old_flows.count = omega (arith, c.if-self-eq1.true) in
    rw c.write_credits.ensures (written_old_lists p.links.items p.new_flows p.old_flows c.self.invariant c.args.entry some
    (front_flow p.links.items Old p.old_flows c.args.entry.flow c.self.invariant.old some
    (subst (λ (v : ListsState). IfSome (slice_get v.old_flows 0) (λ e. e.flow ≡ c.args.entry.flow)) (sym c.self.view_is) c.requires.own)))

pub returns-then-self-eq1 : goal.returns-then-self-eq1
returns-then-self-eq1 c =
    let p = c.self.inside in
    let s : ListsState = c.args.self.now in
    let e : Entry = c.args.entry in
    let some : 0 < p.old_flows.count = omega (arith, c.if-self-eq1.true) in
    let w = written_old_entries p.links.items p.new_flows p.old_flows c.self.invariant e some
    (front_flow p.links.items Old p.old_flows e.flow c.self.invariant.old some
    (subst (λ (v : ListsState). IfSome (slice_get v.old_flows 0) (λ f. f.flow ≡ e.flow)) (sym c.self.view_is) c.requires.own)) in
    let one : length s.old_flows ≡ 1 =
    ap (λ (v : ListsState). length v.old_flows) (sym c.self.view_is) ∙ counted p.links.items Old p.old_flows c.self.invariant.old ∙ c.if-self-eq1.true in
    let new : entries_in c.write_credits.new.links.items p.new_flows ≡ s.new_flows =
    ap (λ (l : List Link). entries_in l p.new_flows) c.write_credits.ensures ∙ w.0 ∙ ap (λ (v : ListsState). v.new_flows) c.self.view_is in
    let old : entries_in c.write_credits.new.links.items p.old_flows ≡ drop 1 s.old_flows ++ e ∷ [] =
    ap (λ (l : List Link). entries_in l p.old_flows) c.write_credits.ensures
    ∙ w.1
    ∙ ap (λ (v : ListsState). set v.old_flows 0 e) c.self.view_is
    ∙ turned_alone s.old_flows e one in
    let room : length c.write_credits.new.links.items ≡ s.room =
    ap length c.write_credits.ensures
    ∙ length-set p.links.items e.flow (record (link_of p.links.items e.flow) { credits = e.credits })
    ∙ ap (λ (v : ListsState). v.room) c.self.view_is in
    cc
