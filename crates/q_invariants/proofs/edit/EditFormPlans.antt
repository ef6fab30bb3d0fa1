-- The form of every edit that a command plans.
use Rattle.std.proofs.Common.{◌≡◌, ℕ, ◌-◌, ◌<◌, min, not, inl, inr, List, [], ◌∷◌, ◌++◌, length, map, take, replicate, refl, sym, ap₂, subst, ◌∙◌, Option, Some, None, Ok, eq-eqb, arith}
use Rattle.std.specs.Prelude.{Result, unwrap_or, ◌==◌}
use Rattle.std.specs.List.{remove, filter}
use Rattle.std.proofs.lemmas.Option.{same_Some}
use Rattle.std.proofs.lemmas.List.{append-nil}
use Rattle.std.proofs.lemmas.List.Quantifiers.{position-Some}
use Rattle.q_codel.specs.declared.limit.Limit.TheVariants.{Packets, Bytes}
use Rattle.q_fqcodel.specs.FqState as flows
use Rattle.q_bucket.specs.Level.{TokenBucket, after_change}
use Rattle.q_drr.specs.Schedule.{Class, Schedule, added, removed}
use Rattle.q_model.specs.declared.class_id.ClassId.{ClassId}
use Rattle.q_model.specs.declared.command.Command.{Command}
use Rattle.q_model.specs.declared.command.Command.TheVariants.{QdiscAdd, QdiscChange, QdiscDel, ClassAdd, ClassChange, ClassDel, FilterAdd, FilterDel}
use Rattle.q_model.specs.declared.filter.Filter.{Filter}
use Rattle.q_model.specs.declared.kind.Kind.{Kind}
use Rattle.q_model.specs.declared.kind.Kind.TheVariants as kind
use Rattle.q_model.specs.declared.refusal.Refusal.TheVariants.{NoQdisc, CannotChange}
use Rattle.q_model.specs.declared.refusal.Refusal.{Refusal}
use Rattle.q_model.specs.declared.place.Place.{Place}
use Rattle.q_model.specs.Filters.{with_filter}
use Rattle.q_model.specs.Tally.{Note, history}
use Rattle.q_model.specs.Node.{Discipline, Fifo, Prio, Tbf, Drr, FqCodel, Own, Node, Shape, side_by_side, children, shape, blank}
use Rattle.q_model.specs.Make.{Device, implicit_pfifo, limit_bytes, with_options}
use Rattle.q_model.specs.Find.{node_at, path_of, place_path}
use Rattle.q_model.specs.Edit.{Child, New, Edit, Graft, Remake, child_of}
use Rattle.q_model.specs.QdiscCommands.{qdisc_add_checks, new_qdisc, qdisc_add, target, all_kept, retuned, rebanded, leaf_of_tbf, reshaped, bands_check, burst_check, flows_check, change_of, qdisc_change, leaf_at, qdisc_del}
use Rattle.q_model.specs.ClassCommands.{of_schedule, class_add_checks, class_change_checks, with_class, class_added, class_add, with_new_quantum, class_changed, class_change, class_del}
use Rattle.q_model.specs.FilterCommands.{with_filters, filter_add_checks, filter_added, filter_add, has_prio, filter_del_checks, filters_removed, filter_del}
use Rattle.q_model.specs.TreeState.{edit_of}
use Rattle.q_invariants.proofs.ask.AskStages.{HasSoMany}
use Rattle.q_invariants.proofs.edit.EditChildren.{kids, kids_all, kids-append, kids_removed, kids_kept, kids_new, kept_from}
use Rattle.q_invariants.proofs.edit.EditClassPlans.{DeletedClass, deleted_class}
use Rattle.q_invariants.proofs.edit.EditForms.{Stay, Retuned_one, Added_one, Removed_one, IsForm, IsRemade, FormOf, keeps-all, keeps-front, keeps-more, keeps-removed, leaf-kept}
use Rattle.q_invariants.proofs.edit.EditFront.{front_and_new}
use Rattle.q_invariants.proofs.edit.EditNodes.{same_edit, AtNode, AtSchedule, node_there, drr_there, schedule_there}
use Rattle.q_invariants.proofs.edit.EditSuits.{length-shape, children-shape, refused_not_done, done_is}
use Rattle.q_invariants.proofs.tree.Forests.{side-nodes}
use Rattle.q_invariants.proofs.tree.Within.{Within, IsOf, HasHandle}

module _ (now : ℕ) (root : Node (List Note)) where
  formed : (path : List ℕ) (own : Own) (below : List Child) (old : Node (List Note)) → node_at path root ≡ Some old
      → (HasSoMany old.own.discipline (length (children old)) → IsRemade now old own (kids history (children old) below)) → FormOf now root (Remake path own below)
  formed path own below old at h =
      λ other e. subst (λ (n : Node (List Note)). HasSoMany n.own.discipline (length (children n))
      → IsRemade now n own (kids history (children n) below)) (same_Some old other (sym at ∙ e)) h

  all-kept : (path : List ℕ) (own : Own) (old : Node (List Note)) → node_at path root ≡ Some old → own.handle ≡ old.own.handle → own.held ≡ old.own.held
      → IsForm now old.own.discipline (children old) own.discipline (children old) → FormOf now root (Remake path own (all_kept (shape old)))
  all-kept path own old at handle held form =
      formed path own (all_kept (shape old)) old at
      (λ many. subst (IsRemade now old own) (sym (kids_all history (children old) (length (children (shape old))) (length-shape old)))
      (record { handle = handle; held = held; form = form; keeps = λ h. keeps-all h old.below }))

  -- the same discipline
  same-form : (d : Discipline) (cs : List (Node (List Note))) → IsForm now d cs d cs
  same-form (Fifo limit queue) cs = tt
  same-form (Prio priomap) cs = tt
  same-form (Tbf b limit) cs = inl refl
  same-form (Drr s) cs = (Stay, (refl, refl))
  same-form (FqCodel s) cs = inl refl

  filters-form : (path : List ℕ) (filters : List Filter) (old : Node (List Note)) → node_at path root ≡ Some old → FormOf now root (with_filters path (shape old) filters)
  filters-form path filters old at = all-kept path (record old.own { filters = filters }) old at refl refl (same-form old.own.discipline (children old))

  retuned-form : (path : List ℕ) (was d : Discipline) (old : Node (List Note)) → node_at path root ≡ Some old → old.own.discipline ≡ was → IsForm now was (children old) d (children old)
      → FormOf now root (retuned (shape old) path d)
  retuned-form path was d old at is form =
      all-kept path (record old.own { discipline = d }) old at refl refl (subst (λ (x : Discipline). IsForm now x (children old) d (children old)) (sym is) form)

  -- ---- filters

  filter-added : (parent major : ℕ) (f : Filter) (edit : Edit) → filter_add parent major f (shape root) ≡ Ok edit → FormOf now root edit
  filter-added parent major f edit e =
      let at : AtNode (filter_added parent major f) root edit = node_there NoQdisc (path_of parent (shape root)) (filter_added parent major f) root edit e in
      let sh : Shape = shape at.node in
      let done = done_is (filter_add_checks parent major f sh) (with_filters at.path sh (with_filter f at.node.own.filters)) edit at.edit_is in
      subst (FormOf now root) done.1 (filters-form at.path (with_filter f at.node.own.filters) at.node at.node_is)

  filter-deleted : (parent prio : ℕ) (edit : Edit) → filter_del parent prio (shape root) ≡ Ok edit → FormOf now root edit
  filter-deleted parent prio edit e =
      let at : AtNode (filters_removed prio) root edit = node_there NoQdisc (path_of parent (shape root)) (filters_removed prio) root edit e in
      let sh : Shape = shape at.node in
      let left = filter (λ f. not (has_prio prio f)) at.node.own.filters in
      let done = done_is (filter_del_checks prio sh) (with_filters at.path sh left) edit at.edit_is in
      subst (FormOf now root) done.1 (filters-form at.path left at.node at.node_is)

  -- ---- classes

  class-added : (d : Device) (parent : ℕ) (class : ClassId) (quantum : Option ℕ) (edit : Edit) → class_add d parent class quantum (shape root) ≡ Ok edit → FormOf now root edit
  class-added d parent class quantum edit e =
      let at : AtNode (λ path n. of_schedule (class_added d class quantum path n) n.own.discipline) root edit = drr_there (Some parent) class (class_added d class quantum) root edit e in
      let old : Node (List Note) = at.node in
      let sh : Shape = shape old in
      let on : AtSchedule (class_added d class quantum at.path sh) old.own.discipline edit = schedule_there (class_added d class quantum at.path sh) old.own.discipline edit at.edit_is in
      let q : ℕ = unwrap_or quantum d.mtu in
      let s : Schedule = on.schedule in
      let done = done_is (class_add_checks class sh) (with_class d at.path sh (added class.minor q s)) edit on.edit_is in
      let k : ℕ = length (children sh) in
      let leaf : Node (List Note) = blank history (implicit_pfifo d) in
      let own : Own = record old.own { discipline = Drr (added class.minor q s) } in
      let same : kids history (children old) (front_and_new k 1 (implicit_pfifo d)) ≡ children old ++ leaf ∷ [] =
      kids-append history (children old) (kept_from 0 k) (replicate 1 (New (implicit_pfifo d)))
      ∙ ap₂ (λ (a : List (Node (List Note))) (b : List (Node (List Note))). a ++ b) (kids_all history (children old) k (length-shape old)) (kids_new history (children old) (implicit_pfifo d) 1) in
      subst (FormOf now root) done.1
      (formed at.path own (front_and_new k 1 (implicit_pfifo d)) old at.node_is
      (λ many. subst (IsRemade now old own) (sym same) (record {
        handle = refl;
        held = refl;
        form =
            subst (λ (x : Discipline). IsForm now x (children old) (Drr (added class.minor q s)) (children old ++ leaf ∷ [])) (sym on.is)
            (Added_one class.minor q leaf, (refl, refl, eq-eqb 0 0 refl));
        keeps = λ h. keeps-more h d old.below;
      })))

  quantum-form : (class : ClassId) (quantum : Option ℕ) (s : Schedule) (cs : List (Node (List Note))) → IsForm now (Drr s) cs (Drr (with_new_quantum class quantum s)) cs
  quantum-form class None s cs = (Stay, (refl, refl))
  quantum-form class (Some q) s cs = (Retuned_one class.minor q, (refl, refl))

  class-changed : (parent : Option ℕ) (class : ClassId) (quantum : Option ℕ) (edit : Edit) → class_change parent class quantum (shape root) ≡ Ok edit → FormOf now root edit
  class-changed parent class quantum edit e =
      let at : AtNode (λ path n. of_schedule (class_changed class quantum path n) n.own.discipline) root edit = drr_there parent class (class_changed class quantum) root edit e in
      let old : Node (List Note) = at.node in
      let sh : Shape = shape old in
      let on : AtSchedule (class_changed class quantum at.path sh) old.own.discipline edit = schedule_there (class_changed class quantum at.path sh) old.own.discipline edit at.edit_is in
      let done = done_is (class_change_checks class sh) (retuned sh at.path (Drr (with_new_quantum class quantum on.schedule))) edit on.edit_is in
      subst (FormOf now root) done.1
      (retuned-form at.path (Drr on.schedule) (Drr (with_new_quantum class quantum on.schedule)) old at.node_is on.is (quantum-form class quantum on.schedule (children old)))

  class-deleted : (parent : Option ℕ) (class : ClassId) (edit : Edit) → class_del parent class (shape root) ≡ Ok edit → FormOf now root edit
  class-deleted parent class edit e =
      let at : DeletedClass class root edit = deleted_class parent class root edit e in
      let old : Node (List Note) = at.node in
      let sh : Shape = shape old in
      let i : ℕ = at.place in
      let s : Schedule = at.schedule in
      let own : Own = record old.own { discipline = Drr (removed class.minor s) } in
      subst (FormOf now root) at.edit_is
      (formed at.path own (remove (all_kept sh) i) old at.node_is
      (λ many.
      let size : length s.classes ≡ length (children old) = subst (λ (x : Discipline). HasSoMany x (length (children old))) at.is many in
      let within : i < length s.classes = (position-Some (λ (c : Class). class.minor == c.name) s.classes i (record { name = 0; quantum = 0 }) at.found).0 in
      let same : kids history (children old) (remove (all_kept sh) i) ≡ remove (children old) i =
      kids_removed history (children old) (length (children sh)) i (length-shape old) (omega (arith, within, size, length-shape old)) in
      subst (IsRemade now old own) (sym same) (record {
        handle = refl;
        held = refl;
        form = subst (λ (x : Discipline). IsForm now x (children old) (Drr (removed class.minor s)) (remove (children old) i)) (sym at.is) (Removed_one class.minor i, (refl, refl, at.found));
        keeps = λ h. keeps-removed h old.below i;
      })))

  -- ---- qdiscs

  qdisc-added : (d : Device) (place : Place) (handle : Option ℕ) (k : Kind) (edit : Edit) → qdisc_add d now place handle k (shape root) ≡ Ok edit → FormOf now root edit
  qdisc-added d place handle k edit e =
      let path : List ℕ = unwrap_or (place_path place (shape root)) [] in
      subst (FormOf now root) (done_is (qdisc_add_checks place handle path (shape root)) (Graft path (new_qdisc d now handle k (shape root))) edit e).1 tt

  qdisc-deleted : (d : Device) (place : Option Place) (handle : Option ℕ) (edit : Edit) → qdisc_del d place handle (shape root) ≡ Ok edit → FormOf now root edit
  qdisc-deleted d place handle edit e =
      let f : List ℕ → Shape → Result Edit Refusal = λ path n. Ok (Graft path (leaf_at d path (shape root))) in
      let at : AtNode f root edit = node_there NoQdisc (target place handle (shape root)) f root edit e in
      subst (FormOf now root) (same_edit (Graft at.path (leaf_at d at.path (shape root))) edit at.edit_is) tt

  module _ (d : Device) (path : List ℕ) (old : Node (List Note)) (there : node_at path root ≡ Some old) where
    bands-form : (bands : ℕ) (before priomap : List ℕ) → old.own.discipline ≡ Prio before → FormOf now root (rebanded d (shape old) path bands priomap)
    bands-form bands before priomap is =
        let n : ℕ = length (children (shape old)) in
        let m : ℕ = min n bands in
        let r : ℕ = bands - n in
        let leaf : Shape = implicit_pfifo d in
        let own : Own = record old.own { discipline = Prio priomap } in
        let same : kids history (children old) (front_and_new m r leaf) ≡ take m (children old) ++ replicate r (blank history leaf) =
        kids-append history (children old) (kept_from 0 m) (replicate r (New leaf))
        ∙ ap₂ (λ (a : List (Node (List Note))) (b : List (Node (List Note))). a ++ b) (kids_kept history (children old) 0 m) (kids_new history (children old) leaf r) in
        formed path own (front_and_new m r leaf) old there
        (λ many. subst (IsRemade now old own) (sym same) (record {
          handle = refl;
          held = refl;
          form = subst (λ (x : Discipline). IsForm now x (children old) (Prio priomap) (take m (children old) ++ replicate r (blank history leaf))) (sym is) tt;
          keeps = λ h. keeps-front h d old.below m r;
        }))

    bucket-form : (b : TokenBucket) (before rate burst bytes : ℕ) → old.own.discipline ≡ Tbf b before → FormOf now root (reshaped now (shape old) path b rate burst bytes)
    bucket-form b before rate burst bytes is =
        let own : Own = record old.own { discipline = Tbf (after_change b rate burst now) bytes } in
        let below : List Child = map (leaf_of_tbf bytes) (children (shape old)) in
        formed path own below old there
        (λ many. record {
          handle = refl;
          held = refl;
          form = subst (λ (x : Discipline). IsForm now x (children old) (Tbf (after_change b rate burst now) bytes) (kids history (children old) below)) (sym is) (inr (rate, burst, refl));
          keeps = λ h n w e. subst (Within n) (side-nodes old.below)
              (one h n e (children old) (subst (λ (x : Discipline). HasSoMany x (length (children old))) is many)
              (subst (λ (ss : List Shape). Within n (side_by_side (kids history (children old) (map (leaf_of_tbf bytes) ss)))) (children-shape old) w));
        })
      where
        one : (h : ℕ) (n : Node (List Note)) → HasHandle h n → (cs : List (Node (List Note))) → length cs ≡ 1
            → Within n (side_by_side (kids history cs (map (leaf_of_tbf bytes) (map shape cs)))) → Within n (side_by_side cs)
        one h n e [] size w = absurd (omega (arith, size))
        one h n e (c ∷ []) size w =
            by (leaf-kept bytes h (c ∷ []) n c refl e
            (subst (λ (xs : List (Node (List Note))). Within n (side_by_side xs))
            (append-nil (child_of history (c ∷ []) (leaf_of_tbf bytes (shape c)))) w))
          where
            by : IsOf n c → Within n (side_by_side (c ∷ []))
            by (inl is) = inl is
            by (inr b) = inr (inl b)
        one h n e (c ∷ k ∷ cs) size w = absurd (omega (arith, size))

    change-form : (was : Discipline) (k : Kind) (edit : Edit) → old.own.discipline ≡ was → change_of d now (shape old) path was k ≡ Ok edit → FormOf now root edit
    change-form (Fifo (Packets before) queue) (kind.Pfifo limit) edit is e =
        subst (FormOf now root) (same_edit (retuned (shape old) path (Fifo (Packets (unwrap_or limit before)) queue)) edit e)
        (retuned-form path (Fifo (Packets before) queue) (Fifo (Packets (unwrap_or limit before)) queue) old there is tt)
    change-form (Fifo (Bytes before) queue) (kind.Bfifo limit) edit is e =
        subst (FormOf now root) (same_edit (retuned (shape old) path (Fifo (Bytes (unwrap_or limit before)) queue)) edit e)
        (retuned-form path (Fifo (Bytes before) queue) (Fifo (Bytes (unwrap_or limit before)) queue) old there is tt)
    change-form (Prio before) (kind.Prio s) edit is e =
        subst (FormOf now root) (done_is (bands_check s.bands (shape old)) (rebanded d (shape old) path s.bands s.priomap) edit e).1 (bands-form s.bands before s.priomap is)
    change-form (Tbf b before) (kind.Tbf rate burst limit) edit is e =
        let bytes : ℕ = limit_bytes rate burst limit in
        subst (FormOf now root) (done_is (burst_check b.burst burst d.mtu) (reshaped now (shape old) path b rate burst bytes) edit e).1 (bucket-form b before rate burst bytes is)
    change-form (Drr s) kind.Drr edit is e =
        subst (FormOf now root) (same_edit (retuned (shape old) path (Drr s)) edit e) (retuned-form path (Drr s) (Drr s) old there is (Stay, (refl, refl)))
    change-form (FqCodel s) (kind.FqCodel o) edit is e =
        let t = flows.after_change s (with_options o s.settings) in
        subst (FormOf now root) (done_is (flows_check o.flows s.settings.flows) (retuned (shape old) path (FqCodel t)) edit e).1
        (retuned-form path (FqCodel s) (FqCodel t) old there is (inr (with_options o s.settings, refl)))
    change-form was k edit is e = absurd (refused_not_done CannotChange edit e)

  qdisc-changed : (d : Device) (place : Option Place) (handle : Option ℕ) (k : Kind) (edit : Edit) → qdisc_change d now place handle k (shape root) ≡ Ok edit → FormOf now root edit
  qdisc-changed d place handle k edit e =
      let f = λ (path : List ℕ) (n : Shape). change_of d now n path n.own.discipline k in
      let at : AtNode f root edit = node_there NoQdisc (target place handle (shape root)) f root edit e in
      change-form d at.path at.node at.node_is at.node.own.discipline k edit refl at.edit_is

  pub command-form : (d : Device) (c : Command) (edit : Edit) → edit_of d now c (shape root) ≡ Ok edit → FormOf now root edit
  command-form d (QdiscAdd place handle kind) edit e = qdisc-added d place handle kind edit e
  command-form d (QdiscChange place handle kind) edit e = qdisc-changed d place handle kind edit e
  command-form d (QdiscDel place handle) edit e = qdisc-deleted d place handle edit e
  command-form d (ClassAdd parent class quantum) edit e = class-added d parent class quantum edit e
  command-form d (ClassChange parent class quantum) edit e = class-changed parent class quantum edit e
  command-form d (ClassDel parent class) edit e = class-deleted parent class edit e
  command-form d (FilterAdd parent major filter) edit e = filter-added parent major filter edit e
  command-form d (FilterDel parent prio) edit e = filter-deleted parent prio edit e
