-- What `tc qdisc` plans suits the tree.
use Rattle.std.proofs.Common.{◌≡◌, ℕ, ◌+◌, ◌<◌, ◌≤◌, ◌^◌, min, Bool, false, eqb, not, List, [], ◌∷◌, length, map, get_or, ◌-◌, refl, sym, ap, subst, ◌∙◌, Option, Some, None, Ok, inl, inr, arith}
use Rattle.std.specs.Prelude.{Result, is_some, unwrap_or, nat_lt, if◌then◌else◌, ◌==◌}
use Rattle.std.specs.List.{list_any}
use Rattle.std.specs.Option.{option_map_or}
use Rattle.std.proofs.lemmas.Bool.{not-false, eqb-true, ltb-false, cases_Bool}
use Rattle.q_packet.specs.Descriptor.{Descriptor}
use Rattle.q_codel.specs.declared.limit.Limit.TheVariants.{Packets, Bytes}
use Rattle.q_fqcodel.specs.FqState.{FqState}
use Rattle.q_fqcodel.specs.FqState as flows
use Rattle.q_bucket.specs.Level.{after_change}
use Rattle.q_model.specs.declared.filter.Filter.{Filter}
use Rattle.q_model.specs.declared.kind.Kind.{Kind}
use Rattle.q_model.specs.declared.kind.Kind.TheVariants as kind
use Rattle.q_model.specs.declared.refusal.Refusal.TheVariants.{NoQdisc, Exists, HandleTaken, Busy, SmallBurst, CannotChange}
use Rattle.q_model.specs.declared.refusal.Refusal.{Refusal}
use Rattle.q_model.specs.declared.place.Place.{Place}
use Rattle.q_model.specs.Options.{FqOptions}
use Rattle.q_model.specs.Ranges.{IsKind}
use Rattle.q_model.specs.Refusals.{Check, refuse, is_so}
use Rattle.q_model.specs.Tally.{Note}
use Rattle.q_model.specs.Node.{Discipline, Fifo, Prio, Tbf, Drr, FqCodel, Node, Shape, children, shape}
use Rattle.q_model.specs.Beneath.{packets_in, beneath}
use Rattle.q_model.specs.Make.{Device, implicit_pfifo, implicit_beneath, limit_bytes, with_options}
use Rattle.q_model.specs.Find.{has_handle, free_handle, node_at, class_in, place_path, is_explicit}
use Rattle.q_model.specs.Edit.{Edit, Graft}
use Rattle.q_model.specs.QdiscCommands.{place_checks, qdisc_add_checks, new_qdisc, qdisc_add, target, all_kept, retuned, rebanded, leaf_of_tbf, reshaped, bands_check, burst_check, flows_check, change_of, qdisc_change, way_to_parent, leaf_at, qdisc_del}
use Rattle.q_model.specs.Lawful.{IsLawfulDiscipline, IsLawfulOwn, CanHold}
use Rattle.q_invariants.proofs.edit.EditBucket.{remakes_bucket}
use Rattle.q_invariants.proofs.edit.EditFront.{front_and_new, remakes_bands}
use Rattle.q_invariants.proofs.edit.EditHandles.{one, times_below, times, times-absent, free_handle-absent}
use Rattle.q_invariants.proofs.edit.EditMade.{new_leaf, new_implicit, new_made, options_in_range}
use Rattle.q_invariants.proofs.edit.EditNew.{IsNew, times-memory}
use Rattle.q_invariants.proofs.edit.EditNodes.{same_edit, AtNode, node_there, later_passed}
use Rattle.q_invariants.proofs.edit.EditRetuned.{Planned, planned_remake, own_lawful, remakes_retuned, changed_packets, changed_lawful}
use Rattle.q_invariants.proofs.edit.EditSuits.{refused_not_done, done_is, check_passed}

module _ (d : Device) (now : ℕ) (root : Node (List Note)) (once : (h : ℕ) → times h root ≤ 1) (positive : 1 ≤ d.mtu) (small : d.mtu < 2 ^ 16) where
  -- ---- add

  -- a handle that no qdisc has
  free_handles : (k : ℕ) → has_handle k (shape root) ≡ false → (h : ℕ) → times h root + one h (Some k) ≤ 1
  free_handles k absent h = elim (cases_Bool (eqb h k)) [
    | inl e ↦
        let same : h ≡ k = eqb-true h k e in
        let shaped : times_below k (shape root).below ≡ times_below k root.below = times-memory k (λ m. tt) root.below in
        let none : times k root ≡ 0 = omega (arith, shaped, times-absent k (shape root) absent) in
        let here : one h (Some k) ≡ 1 = ap (λ (t : Bool). if t then 1 else 0) e in
        omega (arith, here, none, ap (λ j. times j root) same)
    | inr e ↦
        let here : one h (Some k) ≡ 0 = ap (λ (t : Bool). if t then 1 else 0) e in
        omega (arith, here, once h)
  ]

  given_handle : (handle : Option ℕ) → is_so (λ h. has_handle h (shape root)) handle ≡ false → has_handle (unwrap_or handle (free_handle (shape root))) (shape root) ≡ false
  given_handle None e = free_handle-absent (shape root)
  given_handle (Some h) e = e

  pub planned_qdisc_add : (place : Place) (handle : Option ℕ) (kind : Kind) (edit : Edit) → IsKind kind → qdisc_add d now place handle kind (shape root) ≡ Ok edit → Planned d.mtu now root edit
  planned_qdisc_add place handle kind edit range e =
      let path : List ℕ = unwrap_or (place_path place (shape root)) [] in
      let k : ℕ = unwrap_or handle (free_handle (shape root)) in
      let done = done_is (qdisc_add_checks place handle path (shape root)) (Graft path (new_qdisc d now handle kind (shape root))) edit e in
      let taken : Check = refuse HandleTaken (is_so (λ h. has_handle h (shape root)) handle) in
      let there : Check = refuse Exists (is_explicit path (shape root)) in
      let later = later_passed (place_checks place (shape root)) (there ∷ taken ∷ []) done.0 in
      let first = check_passed there (taken ∷ []) later in
      let second = check_passed taken [] first.1 in
      subst (Planned d.mtu now root) done.1 (record {
        fresh = Some k;
        free = free_handles k (given_handle handle second.0);
        suits = new_made d now (Some k) kind positive small range;
      })

  -- ---- del

  leaf_is_new : (path : List ℕ) → IsNew d.mtu now None (leaf_at d path (shape root))
  leaf_is_new [] = new_leaf d.mtu now None (Packets d.txqueuelen)
  leaf_is_new (i ∷ path) = of_parent (node_at (way_to_parent (i ∷ path)) (shape root))
    where
      of_parent : (o : Option Shape) → IsNew d.mtu now None (option_map_or (λ (parent : Shape). implicit_beneath d parent.own.discipline) o (implicit_pfifo d))
      of_parent None = new_leaf d.mtu now None (Packets d.txqueuelen)
      of_parent (Some parent) = new_implicit d.mtu now d parent.own.discipline

  pub planned_qdisc_del : (place : Option Place) (handle : Option ℕ) (edit : Edit) → qdisc_del d place handle (shape root) ≡ Ok edit → Planned d.mtu now root edit
  planned_qdisc_del place handle edit e =
      let f : List ℕ → Shape → Result Edit Refusal = λ path n. Ok (Graft path (leaf_at d path (shape root))) in
      let at : AtNode f root edit = node_there NoQdisc (target place handle (shape root)) f root edit e in
      subst (Planned d.mtu now root) (same_edit (Graft at.path (leaf_at d at.path (shape root))) edit at.edit_is) (record {
        fresh = None;
        free = λ h. omega (arith, once h);
        suits = leaf_is_new at.path;
      })

  -- ---- change

  module _ (path : List ℕ) (old : Node (List Note)) (there : node_at path root ≡ Some old) where
    -- the same packets in other settings
    planned_retuned : (was new : Discipline) → old.own.discipline ≡ was → packets_in new ≡ packets_in was
        → ((below : List (List Descriptor)) → IsLawfulDiscipline d.mtu now below was → IsLawfulDiscipline d.mtu now below new) → (CanHold was → CanHold new)
        → ((k minor : ℕ) → class_in k minor new ≡ class_in k minor was) → Planned d.mtu now root (retuned (shape old) path new)
    planned_retuned was new is packets lawful_new can classes =
        planned_remake d.mtu now root path (record old.own { discipline = new }) (all_kept (shape old)) old once there
        (λ lawful counted.
        let below : List (List Descriptor) = map beneath (children old) in
        let had : IsLawfulOwn d.mtu now old.own below = own_lawful d.mtu now old lawful counted in
        remakes_retuned d.mtu now old lawful counted new (packets ∙ ap packets_in (sym is)) (lawful_new below (subst (IsLawfulDiscipline d.mtu now below) is had.discipline))
        (λ c. can (subst CanHold is c))
        (λ j f lt.
        let minor : ℕ = (get_or old.own.filters j f).minor in
        ap is_some (classes (length below) minor ∙ ap (class_in (length below) minor) (sym is)) ∙ had.named j f lt))

    planned_options : (s : FqState) (o : FqOptions) → old.own.discipline ≡ FqCodel s → IsKind (kind.FqCodel o) → unwrap_or o.flows s.settings.flows ≡ s.settings.flows
        → Planned d.mtu now root (retuned (shape old) path (FqCodel (flows.after_change s (with_options o s.settings))))
    planned_options s o is range same =
        planned_retuned (FqCodel s) (FqCodel (flows.after_change s (with_options o s.settings))) is (changed_packets s (with_options o s.settings))
        (λ below h. changed_lawful d.mtu now below s (with_options o s.settings) h (options_in_range o s.settings range h.settings) refl same) (λ c. c) (λ k minor. refl)

    pub planned_change : (was : Discipline) (k : Kind) (edit : Edit) → old.own.discipline ≡ was → IsKind k → change_of d now (shape old) path was k ≡ Ok edit → Planned d.mtu now root edit
    planned_change (Fifo (Packets before) queue) (kind.Pfifo limit) edit is range e =
        subst (Planned d.mtu now root) (same_edit (retuned (shape old) path (Fifo (Packets (unwrap_or limit before)) queue)) edit e)
        (planned_retuned (Fifo (Packets before) queue) (Fifo (Packets (unwrap_or limit before)) queue) is refl (λ below h. h) (λ c. c) (λ k minor. refl))
    planned_change (Fifo (Bytes before) queue) (kind.Bfifo limit) edit is range e =
        subst (Planned d.mtu now root) (same_edit (retuned (shape old) path (Fifo (Bytes (unwrap_or limit before)) queue)) edit e)
        (planned_retuned (Fifo (Bytes before) queue) (Fifo (Bytes (unwrap_or limit before)) queue) is refl (λ below h. h) (λ c. c) (λ k minor. refl))
    planned_change (Prio before) (kind.Prio s) edit is range e =
        let n : ℕ = length (children (shape old)) in
        let leaf : Shape = implicit_pfifo d in
        let done = done_is (bands_check s.bands (shape old)) (rebanded d (shape old) path s.bands s.priomap) edit e in
        let first = check_passed (refuse Busy (list_any (λ (f : Filter). nat_lt s.bands f.minor) old.own.filters)) [] done.0 in
        subst (Planned d.mtu now root) done.1
        (planned_remake d.mtu now root path (record old.own { discipline = Prio s.priomap }) (front_and_new (min n s.bands) (s.bands - n) leaf) old once there
        (λ lawful counted. remakes_bands d.mtu now leaf (new_leaf d.mtu now None (Packets d.txqueuelen)) old lawful counted before s is range first.0))
    planned_change (Tbf b before) (kind.Tbf rate burst limit) edit is range e =
        let bytes : ℕ = limit_bytes rate burst limit in
        let done = done_is (burst_check b.burst burst d.mtu) (reshaped now (shape old) path b rate burst bytes) edit e in
        let first = check_passed (refuse SmallBurst (nat_lt burst (min b.burst d.mtu))) [] done.0 in
        subst (Planned d.mtu now root) done.1
        (planned_remake d.mtu now root path (record old.own { discipline = Tbf (after_change b rate burst now) bytes }) (map (leaf_of_tbf bytes) (children (shape old))) old once there
        (λ lawful counted. remakes_bucket d.mtu now old lawful counted b before rate burst bytes limit is range (ltb-false burst (min b.burst d.mtu) first.0)))
    planned_change (Drr s) kind.Drr edit is range e =
        subst (Planned d.mtu now root) (same_edit (retuned (shape old) path (Drr s)) edit e)
        (planned_retuned (Drr s) (Drr s) is refl (λ below h. h) (λ c. c) (λ k minor. refl))
    planned_change (FqCodel s) (kind.FqCodel o) edit is range e =
        let done = done_is (flows_check o.flows s.settings.flows) (retuned (shape old) path (FqCodel (flows.after_change s (with_options o s.settings)))) edit e in
        let first = check_passed (refuse CannotChange (not (unwrap_or o.flows s.settings.flows == s.settings.flows))) [] done.0 in
        let same : unwrap_or o.flows s.settings.flows ≡ s.settings.flows =
        eqb-true (unwrap_or o.flows s.settings.flows) s.settings.flows (not-false (unwrap_or o.flows s.settings.flows == s.settings.flows) first.0) in
        subst (Planned d.mtu now root) done.1 (planned_options s o is range same)
    planned_change was k edit is range e = absurd (refused_not_done CannotChange edit e)

  pub planned_qdisc_change : (place : Option Place) (handle : Option ℕ) (k : Kind) (edit : Edit) → IsKind k → qdisc_change d now place handle k (shape root) ≡ Ok edit → Planned d.mtu now root edit
  planned_qdisc_change place handle k edit range e =
      let f = λ (path : List ℕ) (n : Shape). change_of d now n path n.own.discipline k in
      let at : AtNode f root edit = node_there NoQdisc (target place handle (shape root)) f root edit e in
      planned_change at.path at.node at.node_is at.node.own.discipline k edit refl range at.edit_is
