use Rattle.std.proofs.Common.{◌≡◌, true, false, [], ◌+◌, ◌<◌, ◌==◌, not, if◌then◌else◌, List, ◌++◌, length, set, slice_get, IfSome, sym, ap, ◌∙◌, arith, subst, ⊎_elim}
use Rattle.std.proofs.lemmas.Bool.{ne_eqb, eq-eqb}
use Rattle.std.proofs.lemmas.List.{nil_from_length, length-set}
use Rattle.q_fqcodel.specs.Entry.{Entry}
use Rattle.q_fqcodel.specs.Links.{ListsState, link_of, entries_in, IsLists}
use Rattle.q_fqcodel.specs.declared.ends.Ends.{Ends}
use Rattle.q_fqcodel.specs.declared.link.Link.{Link}
use Rattle.q_fqcodel.specs.declared.place.Place.TheVariants.{New, Old}
use Rattle.q_fqcodel.proofs.ListsLemmas.{counted, front_flow, front_flow_all, some_or_none, own_within, written_new_lists, written_new_entries, written_old_lists, written_old_entries, written_new, written_old}
use Rattle.q_fqcodel.proofs.active_lists.ActiveLists.write_front.Goals as goal

-- the front is that of the new list, or of the old one where the new one is empty
module _ (links : List Link) (new_flows old_flows : Ends) (lists : IsLists links new_flows old_flows) (seen : ListsState)
    (is : record { new_flows = entries_in links new_flows; old_flows = entries_in links old_flows; room = length links } ≡ seen) (e : Entry)
    (front : IfSome (slice_get (seen.new_flows ++ seen.old_flows) 0) (λ f. f.flow ≡ e.flow)) (any : 0 < length seen.new_flows + length seen.old_flows) where
  own : IfSome (slice_get (entries_in links new_flows ++ entries_in links old_flows) 0) (λ f. f.flow ≡ e.flow)
  own = subst (λ (v : ListsState). IfSome (slice_get (v.new_flows ++ v.old_flows) 0) (λ f. f.flow ≡ e.flow)) (sym is) front

  some : 0 < new_flows.count + old_flows.count
  some =
      omega (arith, any, ap (λ (v : ListsState). length v.new_flows + length v.old_flows) is, counted links New new_flows lists.new, counted links Old old_flows lists.old)

  own_new : 0 < new_flows.count → new_flows.head ≡ e.flow
  own_new h = front_flow_all links New new_flows (entries_in links old_flows) e.flow lists.new h own

  none : new_flows.count ≡ 0 → entries_in links new_flows ≡ []
  none h = nil_from_length (entries_in links new_flows) (counted links New new_flows lists.new ∙ h)

  own_old : new_flows.count ≡ 0 → old_flows.head ≡ e.flow
  own_old h =
      front_flow links Old old_flows e.flow lists.old (omega (arith, some, h))
      (subst (λ (l : List Entry). IfSome (slice_get (l ++ entries_in links old_flows) 0) (λ f. f.flow ≡ e.flow)) (none h) own)

  within : e.flow < length links
  within = ⊎_elim
      (λ (h : 0 < new_flows.count). own_within links New new_flows h lists.new e (own_new h))
      (λ (h : new_flows.count ≡ 0). own_within links Old old_flows (omega (arith, some, h)) lists.old e (own_old h))
      (some_or_none new_flows.count)

  abbrev paid : List Link
  paid = set links e.flow (record (link_of links e.flow) { credits = e.credits })

  right : IsLists paid new_flows old_flows
  right = ⊎_elim
      (λ (h : 0 < new_flows.count). written_new_lists links new_flows old_flows lists e h (own_new h))
      (λ (h : new_flows.count ≡ 0). written_old_lists links new_flows old_flows lists e (omega (arith, some, h)) (own_old h))
      (some_or_none new_flows.count)

  abbrev news : List Entry
  news = entries_in links new_flows

  abbrev olds : List Entry
  olds = entries_in links old_flows

  both : (entries_in paid new_flows ≡ set news 0 e) × (entries_in paid old_flows ≡ (if length news == 0 then set olds 0 e else olds))
  both = ⊎_elim
      (λ (h : 0 < new_flows.count).
      let w = written_new_entries links new_flows old_flows lists e h (own_new h) in
      let some_new : not (length news == 0) ≡ true = ap not (ne_eqb (length news) 0 (omega (arith, h, counted links New new_flows lists.new))) in
      (w.0, w.1 ∙ written_new news olds e some_new))
      (λ (h : new_flows.count ≡ 0).
      let w = written_old_entries links new_flows old_flows lists e (omega (arith, some, h)) (own_old h) in
      let no_new : not (length news == 0) ≡ false = ap not (eq-eqb (length news) 0 (counted links New new_flows lists.new ∙ h)) in
      let v = written_old news olds e no_new in
      (w.0 ∙ v.0, w.1 ∙ v.1))
      (some_or_none new_flows.count)

pub write_credits-requires : goal.write_credits-requires
write_credits-requires c = within _ _ _ c.self.invariant _ c.self.view_is c.args.entry c.requires.own c.requires.some

pub invariant_of-self : goal.invariant_of-self
invariant_of-self c = rw c.write_credits.ensures (right _ _ _ c.self.invariant _ c.self.view_is c.args.entry c.requires.own c.requires.some)

pub returns : goal.returns
returns c =
    let p = c.self.inside in
    let s : ListsState = c.args.self.now in
    let e : Entry = c.args.entry in
    let w = both p.links.items p.new_flows p.old_flows c.self.invariant s c.self.view_is e c.requires.own c.requires.some in
    let new : entries_in c.write_credits.new.links.items p.new_flows ≡ set s.new_flows 0 e =
    ap (λ (l : List Link). entries_in l p.new_flows) c.write_credits.ensures ∙ w.0 ∙ ap (λ (v : ListsState). set v.new_flows 0 e) c.self.view_is in
    let old : entries_in c.write_credits.new.links.items p.old_flows ≡ (if length s.new_flows == 0 then set s.old_flows 0 e else s.old_flows) =
    ap (λ (l : List Link). entries_in l p.old_flows) c.write_credits.ensures
    ∙ w.1
    ∙ ap (λ (v : ListsState). if length v.new_flows == 0 then set v.old_flows 0 e else v.old_flows) c.self.view_is in
    let room : length c.write_credits.new.links.items ≡ s.room =
    ap length c.write_credits.ensures
    ∙ length-set p.links.items e.flow (record (link_of p.links.items e.flow) { credits = e.credits })
    ∙ ap (λ (v : ListsState). v.room) c.self.view_is in
    cc
