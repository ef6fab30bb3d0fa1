-- What a command makes of every fq_codel of a tree: a new one has all its flows at rest, and another one keeps them as they are.
use Rattle.std.proofs.Common.{◌≡◌, ℕ, zero, suc, ◌⊎◌, inl, inr, List, [], ◌∷◌, replicate, Option, Some, None, Ok, refl, sym, ap, subst, ◌∙◌}
use Rattle.std.specs.Prelude.{Result, slice_get, option_and_then, unwrap_or, not, filter}
use Rattle.std.specs.Option.{option_map_or}
use Rattle.std.proofs.lemmas.Option.{none-some, same_Some}
use Rattle.q_codel.specs.declared.limit.Limit.{Limit}
use Rattle.q_codel.specs.declared.limit.Limit.TheVariants.{Packets, Bytes}
use Rattle.q_fqcodel.specs.FqState.{FqSettings, first_flow}
use Rattle.q_fqcodel.specs.FqState as flows
use Rattle.q_drr.specs.Schedule.{added}
use Rattle.q_model.specs.declared.command.Command.{Command}
use Rattle.q_model.specs.declared.command.Command.TheVariants.{QdiscAdd, QdiscChange, QdiscDel, ClassAdd, ClassChange, ClassDel, FilterAdd, FilterDel}
use Rattle.q_model.specs.declared.filter.Filter.{Filter}
use Rattle.q_model.specs.declared.kind.Kind.{Kind}
use Rattle.q_model.specs.declared.kind.Kind.TheVariants as kind
use Rattle.q_model.specs.declared.refusal.Refusal.{Refusal}
use Rattle.q_model.specs.declared.refusal.Refusal.TheVariants.{NoQdisc, CannotChange}
use Rattle.q_model.specs.Filters.{with_filter}
use Rattle.q_model.specs.Tally.{Note, history}
use Rattle.q_model.specs.Node.{Discipline, Fifo, Prio, Tbf, Drr, FqCodel, Node, Shape, children, shape, blank}
use Rattle.q_model.specs.Beneath.{is_empty}
use Rattle.q_model.specs.Make.{Device, node_of, implicit_pfifo, implicit_beneath, limit_bytes, default_settings, with_options, made}
use Rattle.q_model.specs.Find.{free_handle, node_at, path_of, place_path}
use Rattle.q_model.specs.Edit.{Edit, Graft, Remake, above, edited_at}
use Rattle.q_model.specs.QdiscCommands.{qdisc_add_checks, new_qdisc, target, retuned, rebanded, reshaped, bands_check, burst_check, flows_check, change_of, way_to_parent, leaf_at}
use Rattle.q_model.specs.ClassCommands.{of_schedule, class_add_checks, class_change_checks, with_class, class_added, with_new_quantum, class_changed}
use Rattle.q_model.specs.FilterCommands.{with_filters, filter_add_checks, filter_added, has_prio, filter_del_checks, filters_removed}
use Rattle.q_model.specs.TreeState.{edit_of}
use Rattle.q_invariants.proofs.edit.EditClassPlans.{deleted_class}
use Rattle.q_invariants.proofs.edit.EditNodes.{same_edit, AtNode, AtSchedule, node_there, drr_there, schedule_there}
use Rattle.q_invariants.proofs.edit.EditSuits.{refused_not_done, done_is}
use Rattle.q_invariants.proofs.tree.Within.{Within, IsOf, child-within, within-set}
use Rattle.q_laws.specs.new_flow.Rest.{IsAtRest, FlowRests}
use Rattle.q_laws.proofs.new_flow.RestNodes.{Rests, AllRest, settled-rests}
use Rattle.q_laws.proofs.new_flow.RestSteps.{retuned-rests}

-- ---- a new qdisc

first-rests : (settings : FqSettings) (count j : ℕ) → FlowRests j (replicate count (first_flow settings))
first-rests settings zero j f e = absurd (none-some f e)
first-rests settings (suc count) zero f e = subst IsAtRest (same_Some (first_flow settings) f e) (record { not_above = refl; not_dropping = refl })
first-rests settings (suc count) (suc j) f e = first-rests settings count j f e

pub leaf-rests : (limit : Limit) → AllRest (blank history (node_of None (Fifo limit []) []))
leaf-rests limit h n (inl is) handle = subst (λ (k : Node (List Note)). Rests k.own.discipline) is tt
leaf-rests limit h n (inr w) handle = absurd w

blank-leaves : (limit : Limit) (count : ℕ) (n : Node (List Note)) → Within n (blank history (node_of None (Prio []) (replicate count (node_of None (Fifo limit []) [])))).below → Rests n.own.discipline
blank-leaves limit zero n w = absurd w
blank-leaves limit (suc count) n (inl is) = subst (λ (k : Node (List Note)). Rests k.own.discipline) is tt
blank-leaves limit (suc count) n (inr (inl w)) = absurd w
blank-leaves limit (suc count) n (inr (inr w)) = blank-leaves limit count n w

made-rests : (d : Device) (now : ℕ) (handle : Option ℕ) (k : Kind) → AllRest (blank history (made d now handle k))
made-rests d now handle (kind.Pfifo limit) h n (inl is) has = subst (λ (k : Node (List Note)). Rests k.own.discipline) is tt
made-rests d now handle (kind.Pfifo limit) h n (inr w) has = absurd w
made-rests d now handle (kind.Bfifo limit) h n (inl is) has = subst (λ (k : Node (List Note)). Rests k.own.discipline) is tt
made-rests d now handle (kind.Bfifo limit) h n (inr w) has = absurd w
made-rests d now handle (kind.Prio s) h n (inl is) has = subst (λ (k : Node (List Note)). Rests k.own.discipline) is tt
made-rests d now handle (kind.Prio s) h n (inr w) has = blank-leaves (Packets d.txqueuelen) s.bands n w
made-rests d now handle (kind.Tbf rate burst limit) h n (inl is) has = subst (λ (k : Node (List Note)). Rests k.own.discipline) is tt
made-rests d now handle (kind.Tbf rate burst limit) h n (inr w) has = blank-leaves (Bytes (limit_bytes rate burst limit)) 1 n w
made-rests d now handle kind.Drr h n (inl is) has = subst (λ (k : Node (List Note)). Rests k.own.discipline) is tt
made-rests d now handle kind.Drr h n (inr w) has = absurd w
made-rests d now handle (kind.FqCodel options) h n (inl is) has =
    let settings : FqSettings = with_options options (default_settings d) in
    subst (λ (k : Node (List Note)). Rests k.own.discipline) is (λ j. inr (first-rests settings settings.flows j))
made-rests d now handle (kind.FqCodel options) h n (inr w) has = absurd w

implicit-rests : (d : Device) (discipline : Discipline) → AllRest (blank history (implicit_beneath d discipline))
implicit-rests d (Fifo limit queue) = leaf-rests (Packets d.txqueuelen)
implicit-rests d (Prio priomap) = leaf-rests (Packets d.txqueuelen)
implicit-rests d (Tbf bucket limit) = leaf-rests (Bytes limit)
implicit-rests d (Drr s) = leaf-rests (Packets d.txqueuelen)
implicit-rests d (FqCodel s) = leaf-rests (Packets d.txqueuelen)

left-rests : (d : Device) (path : List ℕ) (root : Shape) → AllRest (blank history (leaf_at d path root))
left-rests d [] root = leaf-rests (Packets d.txqueuelen)
left-rests d (i ∷ path) root = by (node_at (way_to_parent (i ∷ path)) root)
  where
    by : (o : Option Shape) → AllRest (blank history (option_map_or (λ (parent : Shape). implicit_beneath d parent.own.discipline) o (implicit_pfifo d)))
    by None = leaf-rests (Packets d.txqueuelen)
    by (Some parent) = implicit-rests d parent.own.discipline

-- ---- what a command plans

-- a new node has its flows at rest, and one with other settings has them as they were
abbrev pub RestsBy : Node (List Note) → Edit → Type 0
RestsBy root (Graft path new) = AllRest (blank history new)
RestsBy root (Remake path own below) = (old : Node (List Note)) → node_at path root ≡ Some old → Rests old.own.discipline → Rests own.discipline

module _ (now : ℕ) (root : Node (List Note)) where
  filters-rest : (path : List ℕ) (filters : List Filter) (old : Node (List Note)) → node_at path root ≡ Some old → RestsBy root (with_filters path (shape old) filters)
  filters-rest path filters old at other e h = subst (λ (n : Node (List Note)). Rests n.own.discipline) (same_Some other old (sym e ∙ at)) h

  module _ (d : Device) (path : List ℕ) (old : Node (List Note)) (there : node_at path root ≡ Some old) where
    change-rests : (was : Discipline) (k : Kind) (edit : Edit) → old.own.discipline ≡ was → change_of d now (shape old) path was k ≡ Ok edit → RestsBy root edit
    change-rests (Fifo (Packets before) queue) (kind.Pfifo limit) edit is e =
        subst (RestsBy root) (same_edit (retuned (shape old) path (Fifo (Packets (unwrap_or limit before)) queue)) edit e) (λ other at h. tt)
    change-rests (Fifo (Bytes before) queue) (kind.Bfifo limit) edit is e =
        subst (RestsBy root) (same_edit (retuned (shape old) path (Fifo (Bytes (unwrap_or limit before)) queue)) edit e) (λ other at h. tt)
    change-rests (Prio before) (kind.Prio s) edit is e =
        subst (RestsBy root) (done_is (bands_check s.bands (shape old)) (rebanded d (shape old) path s.bands s.priomap) edit e).1 (λ other at h. tt)
    change-rests (Tbf b before) (kind.Tbf rate burst limit) edit is e =
        let bytes : ℕ = limit_bytes rate burst limit in
        subst (RestsBy root) (done_is (burst_check b.burst burst d.mtu) (reshaped now (shape old) path b rate burst bytes) edit e).1 (λ other at h. tt)
    change-rests (Drr s) kind.Drr edit is e = subst (RestsBy root) (same_edit (retuned (shape old) path (Drr s)) edit e) (λ other at h. tt)
    change-rests (FqCodel s) (kind.FqCodel o) edit is e =
        let settings : FqSettings = with_options o s.settings in
        let keeps : Rests (FqCodel s) → Rests (FqCodel (flows.after_change s settings)) =
        λ h j. elim (h j) [ inl listed ↦ inl listed | inr rest ↦ inr (retuned-rests settings.target settings.interval settings.ecn j s.flows rest) ] in
        subst (RestsBy root) (done_is (flows_check o.flows s.settings.flows) (retuned (shape old) path (FqCodel (flows.after_change s settings))) edit e).1
        (λ other at h. keeps (subst Rests (ap (λ (n : Node (List Note)). n.own.discipline) (same_Some other old (sym at ∙ there)) ∙ is) h))
    change-rests was k edit is e = absurd (refused_not_done CannotChange edit e)

  pub command-rests : (d : Device) (c : Command) (edit : Edit) → edit_of d now c (shape root) ≡ Ok edit → RestsBy root edit
  command-rests d (QdiscAdd place handle k) edit e =
      let path : List ℕ = unwrap_or (place_path place (shape root)) [] in
      subst (RestsBy root) (done_is (qdisc_add_checks place handle path (shape root)) (Graft path (new_qdisc d now handle k (shape root))) edit e).1
      (made-rests d now (Some (unwrap_or handle (free_handle (shape root)))) k)
  command-rests d (QdiscChange place handle k) edit e =
      let f = λ (path : List ℕ) (n : Shape). change_of d now n path n.own.discipline k in
      let at : AtNode f root edit = node_there NoQdisc (target place handle (shape root)) f root edit e in
      change-rests d at.path at.node at.node_is at.node.own.discipline k edit refl at.edit_is
  command-rests d (QdiscDel place handle) edit e =
      let f : List ℕ → Shape → Result Edit Refusal = λ path n. Ok (Graft path (leaf_at d path (shape root))) in
      let at : AtNode f root edit = node_there NoQdisc (target place handle (shape root)) f root edit e in
      subst (RestsBy root) (same_edit (Graft at.path (leaf_at d at.path (shape root))) edit at.edit_is) (left-rests d at.path (shape root))
  command-rests d (ClassAdd parent class quantum) edit e =
      let at : AtNode (λ path n. of_schedule (class_added d class quantum path n) n.own.discipline) root edit = drr_there (Some parent) class (class_added d class quantum) root edit e in
      let sh : Shape = shape at.node in
      let on : AtSchedule (class_added d class quantum at.path sh) at.node.own.discipline edit = schedule_there (class_added d class quantum at.path sh) at.node.own.discipline edit at.edit_is in
      subst (RestsBy root) (done_is (class_add_checks class sh) (with_class d at.path sh (added class.minor (unwrap_or quantum d.mtu) on.schedule)) edit on.edit_is).1 (λ other there h. tt)
  command-rests d (ClassChange parent class quantum) edit e =
      let at : AtNode (λ path n. of_schedule (class_changed class quantum path n) n.own.discipline) root edit = drr_there parent class (class_changed class quantum) root edit e in
      let sh : Shape = shape at.node in
      let on : AtSchedule (class_changed class quantum at.path sh) at.node.own.discipline edit = schedule_there (class_changed class quantum at.path sh) at.node.own.discipline edit at.edit_is in
      subst (RestsBy root) (done_is (class_change_checks class sh) (retuned sh at.path (Drr (with_new_quantum class quantum on.schedule))) edit on.edit_is).1 (λ other there h. tt)
  command-rests d (ClassDel parent class) edit e = subst (RestsBy root) (deleted_class parent class root edit e).edit_is (λ other there h. tt)
  command-rests d (FilterAdd parent major f) edit e =
      let at : AtNode (filter_added parent major f) root edit = node_there NoQdisc (path_of parent (shape root)) (filter_added parent major f) root edit e in
      let sh : Shape = shape at.node in
      let left = with_filter f at.node.own.filters in
      subst (RestsBy root) (done_is (filter_add_checks parent major f sh) (with_filters at.path sh left) edit at.edit_is).1 (filters-rest at.path left at.node at.node_is)
  command-rests d (FilterDel parent prio) edit e =
      let at : AtNode (filters_removed prio) root edit = node_there NoQdisc (path_of parent (shape root)) (filters_removed prio) root edit e in
      let sh : Shape = shape at.node in
      let left = filter (λ f. not (has_prio prio f)) at.node.own.filters in
      subst (RestsBy root) (done_is (filter_del_checks prio sh) (with_filters at.path sh left) edit at.edit_is).1 (filters-rest at.path left at.node at.node_is)

-- ---- the tree that is edited

module _ (notes : List Note) (f : Node (List Note) → Node (List Note)) where
  above-rests : (root c : Node (List Note)) (i : ℕ) (path : List ℕ) → slice_get (children root) i ≡ Some c → AllRest root → AllRest (edited_at history notes f path c)
      → AllRest (above history notes i (edited_at history notes f path c) root)
  above-rests root c i path at all new h n (inl is) has =
      subst (λ (k : Node (List Note)). Rests k.own.discipline) is
      (settled-rests i (is_empty (edited_at history notes f path c)) root.own.discipline (all h root (inl refl) (ap (λ (k : Node (List Note)). k.own.handle) is ∙ has)))
  above-rests root c i path at all new h n (inr w) has = by (within-set n (edited_at history notes f path c) c root.below i at w)
    where
      by : IsOf n (edited_at history notes f path c) ⊎ Within n root.below → Rests n.own.discipline
      by (inl a) = new h n a has
      by (inr b) = all h n (inr b) has

  pub edited-rests : (path : List ℕ) (root : Node (List Note)) → ((old : Node (List Note)) → node_at path root ≡ Some old → IsOf old root → AllRest old → AllRest (f old))
      → AllRest root → AllRest (edited_at history notes f path root)
  edited-rests [] root ends all = ends root refl (inl refl) all
  edited-rests (i ∷ path) root ends all = by (slice_get (children root) i) refl (edited-rests path)
    where
      by : (o : Option (Node (List Note))) → slice_get (children root) i ≡ o
          → ((c : Node (List Note)) → ((old : Node (List Note)) → node_at path c ≡ Some old → IsOf old c → AllRest old → AllRest (f old)) → AllRest c → AllRest (edited_at history notes f path c))
          → AllRest (option_map_or (λ child. above history notes i (edited_at history notes f path child) root) o root)
      by None e rec = all
      by (Some c) e rec =
          above-rests root c i path e all
          (rec c (λ old at there. ends old (ap (λ (o : Option (Node (List Note))). option_and_then (node_at path) o) e ∙ at) (inr (child-within old c root.below i e there)))
          (λ h n w has. all h n (inr (child-within n c root.below i e w)) has))
