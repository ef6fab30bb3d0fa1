-- A node with a filter more, or with fewer: they stay few, in order, and each names a class that is there.
use Rattle.std.proofs.Common.{◌≡◌, ℕ, zero, suc, ◌<◌, ◌≤◌, Bool, true, false, not, List, [], ◌∷◌, length, map, refl, sym, ap, subst, ◌∙◌, Ok, arith}
use Rattle.std.specs.Prelude.{is_some, is_none, nat_le, if◌then◌else◌, ◌==◌, ◌||◌}
use Rattle.std.specs.List.{All, AllPairs, filter}
use Rattle.std.proofs.lemmas.Bool.{leb-true, leb-false, or_parts, not-false}
use Rattle.std.proofs.lemmas.List.{length-map}
use Rattle.std.proofs.lemmas.List.Sums.{length-filter, count_by-le-length}
use Rattle.std.proofs.lemmas.List.Elements.{All-nil, All-cons, All-head, All-tail, All-filter}
use Rattle.std.proofs.lemmas.List.Kept.{AllPairs-cons, AllPairs-filter}
use Rattle.q_model.specs.declared.filter.Filter.{Filter}
use Rattle.q_model.specs.declared.refusal.Refusal.TheVariants.{NoQdisc, NotClassful, NoClass, TooMany}
use Rattle.q_model.specs.Refusals.{Check, refuse, has_filters, most_filters}
use Rattle.q_model.specs.Filters.{with_filter}
use Rattle.q_model.specs.Tally.{Note}
use Rattle.q_model.specs.Node.{Node, Shape, children, shape}
use Rattle.q_model.specs.Beneath.{beneath}
use Rattle.q_model.specs.Find.{path_of, class_in, class_place}
use Rattle.q_model.specs.Edit.{Edit}
use Rattle.q_model.specs.QdiscCommands.{all_kept}
use Rattle.q_model.specs.FilterCommands.{with_filters, filter_add_checks, filter_added, filter_add, has_prio, filter_del_checks, filters_removed, filter_del}
use Rattle.q_model.specs.Lawful.{IsLawfulOwn}
use Rattle.q_invariants.proofs.edit.EditHandles.{times}
use Rattle.q_invariants.proofs.edit.EditNodes.{AtNode, node_there}
use Rattle.q_invariants.proofs.edit.EditRetuned.{Planned, planned_remake, own_lawful, remakes_filters}
use Rattle.q_invariants.proofs.edit.EditSuits.{length-shape, done_is, check_passed}

abbrev in_order : Filter → Filter → Type 0
in_order f g = f.prio ≤ g.prio

module _ (f : Filter) where
  length-with_filter : (filters : List Filter) → length (with_filter f filters) ≡ suc (length filters)
  length-with_filter [] = refl
  length-with_filter (g ∷ filters) = go (nat_le g.prio f.prio) (length-with_filter filters)
    where
      go : (t : Bool) → length (with_filter f filters) ≡ suc (length filters) → length (if t then g ∷ with_filter f filters else f ∷ g ∷ filters) ≡ suc (suc (length filters))
      go true rec = ap suc rec
      go false rec = refl

  All-with_filter : (P : Filter → Type 0) (filters : List Filter) → P f → All P filters → All P (with_filter f filters)
  All-with_filter P [] here h = All-cons P f [] here (All-nil P)
  All-with_filter P (g ∷ filters) here h = go (nat_le g.prio f.prio) (All-with_filter P filters here (All-tail P g filters h))
    where
      go : (t : Bool) → All P (with_filter f filters) → All P (if t then g ∷ with_filter f filters else f ∷ g ∷ filters)
      go true rec = All-cons P g (with_filter f filters) (All-head P g filters h) rec
      go false rec = All-cons P f (g ∷ filters) here h

  order-with_filter : (filters : List Filter) → AllPairs in_order filters → AllPairs in_order (with_filter f filters)
  order-with_filter [] h = λ i j d lt within. absurd (omega arith)
  order-with_filter (g ∷ filters) h = go (nat_le g.prio f.prio) refl (order-with_filter filters (λ i j d lt within. h (suc i) (suc j) d (omega arith) (omega arith)))
    where
      behind : All (in_order g) filters
      behind = λ k d lt. h zero (suc k) d (omega arith) (omega arith)

      go : (t : Bool) → nat_le g.prio f.prio ≡ t → AllPairs in_order (with_filter f filters) → AllPairs in_order (if t then g ∷ with_filter f filters else f ∷ g ∷ filters)
      go true e rec = AllPairs-cons in_order g (with_filter f filters) (All-with_filter (in_order g) filters (leb-true g.prio f.prio e) behind) rec
      go false e rec =
          let less : f.prio < g.prio = leb-false g.prio f.prio e in
          AllPairs-cons in_order f (g ∷ filters) (All-cons (in_order f) g filters (omega arith) (λ k d lt. omega (arith, behind k d lt))) h

-- a class is there for a shape where it is there for the node
class_known_to : (minor : ℕ) (n : Node (List Note)) → class_place minor (shape n) ≡ class_in (length (map beneath (children n))) minor n.own.discipline
class_known_to minor n = ap (λ k. class_in k minor n.own.discipline) (length-shape n ∙ sym (length-map (children n) beneath))

module _ (mtu now : ℕ) (root : Node (List Note)) (once : (h : ℕ) → times h root ≤ 1) where
  pub planned_filter_add : (parent major : ℕ) (f : Filter) (edit : Edit) → filter_add parent major f (shape root) ≡ Ok edit → Planned mtu now root edit
  planned_filter_add parent major f edit e =
      let at : AtNode (filter_added parent major f) root edit = node_there NoQdisc (path_of parent (shape root)) (filter_added parent major f) root edit e in
      let old : Node (List Note) = at.node in
      let sh : Shape = shape old in
      let filters = with_filter f old.own.filters in
      let done = done_is (filter_add_checks parent major f sh) (with_filters at.path sh filters) edit at.edit_is in
      let many : Check = refuse TooMany (nat_le most_filters (length old.own.filters)) in
      let unnamed : Check = refuse NoClass (not (major == parent) || is_none (class_place f.minor sh)) in
      let first = check_passed (refuse NotClassful (not (has_filters old.own.discipline))) (unnamed ∷ many ∷ []) done.0 in
      let second = check_passed unnamed (many ∷ []) first.1 in
      let third = check_passed many [] second.1 in
      let there : is_some (class_place f.minor sh) ≡ true = not-false (is_some (class_place f.minor sh)) (or_parts (not (major == parent)) (is_none (class_place f.minor sh)) second.0).1 in
      let few : length old.own.filters < most_filters = leb-false most_filters (length old.own.filters) third.0 in
      subst (Planned mtu now root) done.1
      (planned_remake mtu now root at.path (record old.own { filters = filters }) (all_kept sh) old once at.node_is
      (λ lawful counted.
      let was : IsLawfulOwn mtu now old.own (map beneath (children old)) = own_lawful mtu now old lawful counted in
      remakes_filters mtu now old lawful counted filters (omega (arith, length-with_filter f old.own.filters, few)) (order-with_filter f old.own.filters was.in_order)
      (All-with_filter f (λ (g : Filter). is_some (class_in (length (map beneath (children old))) g.minor old.own.discipline) ≡ true) old.own.filters
      (ap is_some (sym (class_known_to f.minor old)) ∙ there) was.named)))

  pub planned_filter_del : (parent prio : ℕ) (edit : Edit) → filter_del parent prio (shape root) ≡ Ok edit → Planned mtu now root edit
  planned_filter_del parent prio edit e =
      let at : AtNode (filters_removed prio) root edit = node_there NoQdisc (path_of parent (shape root)) (filters_removed prio) root edit e in
      let old : Node (List Note) = at.node in
      let sh : Shape = shape old in
      let stays : Filter → Bool = λ f. not (has_prio prio f) in
      let filters = filter stays old.own.filters in
      let done = done_is (filter_del_checks prio sh) (with_filters at.path sh filters) edit at.edit_is in
      subst (Planned mtu now root) done.1
      (planned_remake mtu now root at.path (record old.own { filters = filters }) (all_kept sh) old once at.node_is
      (λ lawful counted.
      let was : IsLawfulOwn mtu now old.own (map beneath (children old)) = own_lawful mtu now old lawful counted in
      remakes_filters mtu now old lawful counted filters (omega (arith, length-filter stays old.own.filters, count_by-le-length stays old.own.filters, was.filters))
      (AllPairs-filter in_order stays old.own.filters was.in_order)
      (All-filter stays (λ (g : Filter). is_some (class_in (length (map beneath (children old))) g.minor old.own.discipline) ≡ true) old.own.filters was.named)))
