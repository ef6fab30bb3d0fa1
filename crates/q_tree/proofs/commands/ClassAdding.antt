-- What the model plans of a class that is added or removed, and that the edit of the code is this plan.
use Rattle.std.proofs.Common.{◌≡◌, ℕ, suc, ◌+◌, ◌<◌, ◌∙◌, List, [], ◌∷◌, ◌++◌, length, sym, ap, subst, Option, Some, None, option_map, Result, Ok, Err, arith}
use Rattle.std.specs.Prelude.{false, not, slice_get, unwrap_or, ◌==◌}
use Rattle.std.specs.List.{list_any}
use Rattle.std.proofs.lemmas.Bool.{not-false}
use Rattle.std.proofs.lemmas.List.Quantifiers.{position-Some}
use Rattle.q_codel.specs.declared.limit.Limit.TheVariants.{Packets}
use Rattle.q_drr.specs.Schedule.{Class, Schedule, added, has_class, is_active, removed}
use Rattle.q_model.specs.declared.class_id.ClassId.{ClassId}
use Rattle.q_model.specs.declared.command.Command.TheVariants.{ClassAdd, ClassDel}
use Rattle.q_model.specs.declared.refusal.Refusal.{Refusal}
use Rattle.q_model.specs.declared.refusal.Refusal.TheVariants.{Busy, Exists, NoClass, NoQdisc}
use Rattle.q_model.specs.Beneath.{beneath_own}
use Rattle.q_model.specs.ClassCommands.{class_add_checks, class_del_checks, class_removed, is_there, of_schedule, with_class, without_class}
use Rattle.q_model.specs.Edit as model
use Rattle.q_model.specs.Filters.{names_class}
use Rattle.q_model.specs.Find.{class_in, class_place, count_nodes, node_at, path_of}
use Rattle.q_model.specs.Lawful.{IsLawfulDiscipline}
use Rattle.q_model.specs.Make.{Device, implicit_pfifo}
use Rattle.q_model.specs.Node.{Drr, Node, Own, Shape, children, each, shape}
use Rattle.q_model.specs.QdiscCommands.{at_target}
use Rattle.q_model.specs.Ranges.{IsCommand}
use Rattle.q_model.specs.Refusals.{Check, done_unless, is_so, refuse}
use Rattle.q_model.specs.TreeState.{plan}
use Rattle.q_invariants.specs.Kept.{IsLawfulRoot}
use Rattle.q_invariants.specs.Sizes.{sizes}
use Rattle.q_invariants.proofs.class.Exact.{exact-length}
use Rattle.q_invariants.proofs.edit.EditClasses.{member_at}
use Rattle.q_invariants.proofs.edit.EditClassPlans.{position_of}
use Rattle.q_invariants.proofs.edit.EditMade.{new_leaf}
use Rattle.q_invariants.proofs.edit.EditSuits.{length-shape, node_at-shape}
use Rattle.q_invariants.proofs.sizes.SizedChanges.{length-below, node-lawful}
use Rattle.q_invariants.proofs.sizes.SizedPlans.{plan-class_add, plan-class_del}
use Rattle.q_invariants.proofs.tree.Forests.{lawful-with_memory}
use Rattle.q_tree.specs.answers.Finding.{reached}
use Rattle.q_tree.specs.answers.Showing.{IsNumbered}
use Rattle.q_tree.specs.commands.Commands.{IsBounded, IsPlannedFor, class_add_sized, drr_answer, takes_memory, takes_none}
use Rattle.q_tree.specs.commands.DisciplineChanges.{discipline_after}
use Rattle.q_tree.specs.commands.Making.{IsNewNode}
use Rattle.q_tree.specs.Kept.{Kept}
use Rattle.q_tree.specs.declared.commands.edit.Edit.TheVariants.{DisciplineChange}
use Rattle.q_tree.specs.declared.commands.planned.Planned.{Planned}
use Rattle.q_tree.specs.declared.commands.discipline_change.DisciplineChange.TheVariants.{AddClass, RemoveClass}
use Rattle.q_tree.proofs.commands.ClassPlans.{IsPassed, at-class, drr-done, drr-passed, drr-refused, first-passed, kids-joined, kids-left, none-lost, one-lost, one_less, one_more, own-joined, own-left, sized-is, there-known}
use Rattle.q_tree.proofs.commands.MakingLemmas.{new-counts, nothing-beneath}
use Rattle.q_tree.proofs.commands.Plans.{few, remade-planned, change-does, shallow}
use Rattle.q_tree.proofs.commands.TargetLemmas.{reached-at, target-none, target-some}

-- ---- a class more

module _ (root : Node Kept) (bounded : IsBounded root) (d : Device) (parent : ℕ) (class : ClassId) (quantum : Option ℕ)
    (own_parent : is_so (λ major. not (major == class.major)) (Some parent) ≡ false) (now : ℕ) where
  abbrev add_checks : List ℕ → Shape → List Check
  add_checks path n = class_add_checks class n ++ sizes (length path + 2) (suc (count_nodes (shape root)))

  abbrev adds : List ℕ → Shape → Schedule → model.Edit
  adds path n s = with_class d path n (added class.minor (unwrap_or quantum d.mtu) s)

  abbrev add_at : List ℕ → Shape → Result model.Edit Refusal
  add_at path n = of_schedule (λ s. done_unless (add_checks path n) (adds path n s)) n.own.discipline

  add-plan : plan d now (ClassAdd parent class quantum) (shape root) ≡ at_target NoQdisc (path_of class.major (shape root)) add_at (shape root)
  add-plan =
      plan-class_add (shape root) (shallow root bounded) (few root bounded) d now parent class quantum
      ∙ at-class (Some parent) class (λ path n s. done_unless (add_checks path n) (adds path n s)) (shape root) own_parent

  pub add-nowhere : reached root (path_of class.major (shape root)) ≡ None → plan d now (ClassAdd parent class quantum) (shape root) ≡ Err NoQdisc
  add-nowhere e = add-plan ∙ target-none root (path_of class.major (shape root)) NoQdisc add_at e

  module _ (path : List ℕ) (n : Node Kept) (found : reached root (path_of class.major (shape root)) ≡ Some (path, n)) (steps : ℕ) (steps_is : steps ≡ length path) where
    here : plan d now (ClassAdd parent class quantum) (shape root) ≡ add_at path (shape n)
    here = add-plan ∙ target-some root (path_of class.major (shape root)) NoQdisc add_at path n found

    pub add-refused : (refusal : Refusal) → drr_answer (class_add_sized class steps (shape n) root) n.own.discipline ≡ Err refusal
        → plan d now (ClassAdd parent class quantum) (shape root) ≡ Err refusal
    add-refused refusal e =
        here ∙ drr-refused (add_checks path (shape n)) (adds path (shape n)) refusal n.own.discipline
        (sized-is class (length path) (shape n) root steps steps_is n.own.discipline ∙ e)

    module _ (passed : drr_answer (class_add_sized class steps (shape n) root) n.own.discipline ≡ Ok tt) (leaf : Node Kept)
        (new : IsNewNode leaf (implicit_pfifo d)) (q : ℕ) (q_is : q ≡ unwrap_or quantum d.mtu)
        (p : Planned) (way : p.path.items ≡ path) (ranges : IsCommand (ClassAdd parent class quantum)) where
      h : IsPassed (add_checks path (shape n)) n.own.discipline
      h = drr-passed (add_checks path (shape n)) n.own.discipline (sized-is class (length path) (shape n) root steps steps_is n.own.discipline ∙ passed)

      absent : has_class class.minor h.own.classes ≡ false
      absent = sym (there-known class n h.own h.is) ∙ first-passed (refuse Exists (is_there class (shape n))) (sizes (length path + 2) (suc (count_nodes (shape root)))) h.passed

      abbrev own : Own
      own = record n.own { discipline = Drr (added class.minor (unwrap_or quantum d.mtu) h.own) }

      own_is : ◌≡◌ {A = Own} (record n.own { discipline = discipline_after (AddClass class.minor q leaf) n.own.discipline (children n) }) own
      own_is = own-joined n h.own h.is class.minor q leaf d new absent ∙ ap (λ k. record n.own { discipline = Drr (added class.minor k h.own) }) q_is

      pub class-add-planned : IsPlannedFor takes_memory (ClassAdd parent class quantum) (record p { edit = DisciplineChange (AddClass class.minor q leaf) }) now d root
      class-add-planned =
          remade-planned d root (record p { edit = DisciplineChange (AddClass class.minor q leaf) })
          (record { counts = new-counts leaf (implicit_pfifo d) new; alone = nothing-beneath leaf (implicit_pfifo d) new d.mtu now None (new_leaf d.mtu now None (Packets d.txqueuelen)) })
          n (subst (λ x. node_at x root ≡ Some n) (sym way) (reached-at root (path_of class.major (shape root)) path n found).there) own (one_more n h.own h.is class.minor q leaf d new absent)
          (none-lost n h.own h.is class.minor q leaf d new absent)
          (change-does (AddClass class.minor q leaf) n own (one_more n h.own h.is class.minor q leaf d new absent) own_is (kids-joined n h.own h.is class.minor q leaf d new absent))
          (ClassAdd parent class quantum) ranges now
          (here ∙ drr-done (add_checks path (shape n)) (adds path (shape n)) n.own.discipline h ∙ ap (λ x. Ok (adds x (shape n) h.own)) (sym way)) takes_memory (λ t. tt)

-- ---- a class less

module _ (root : Node Kept) (bounded : IsBounded root) (d : Device) (parent : Option ℕ) (class : ClassId) (own_parent : is_so (λ major. not (major == class.major)) parent ≡ false) (now : ℕ) where
  abbrev remove_at : List ℕ → Shape → Result model.Edit Refusal
  remove_at path n = of_schedule (class_removed class path n) n.own.discipline

  del-plan : plan d now (ClassDel parent class) (shape root) ≡ at_target NoQdisc (path_of class.major (shape root)) remove_at (shape root)
  del-plan = plan-class_del (shape root) (shallow root bounded) (few root bounded) d now parent class ∙ at-class parent class (class_removed class) (shape root) own_parent

  pub del-nowhere : reached root (path_of class.major (shape root)) ≡ None → plan d now (ClassDel parent class) (shape root) ≡ Err NoQdisc
  del-nowhere e = del-plan ∙ target-none root (path_of class.major (shape root)) NoQdisc remove_at e

  module _ (path : List ℕ) (n : Node Kept) (found : reached root (path_of class.major (shape root)) ≡ Some (path, n)) where
    abbrev place : ℕ
    place = unwrap_or (class_place class.minor (shape n)) 0

    abbrev removes : Schedule → model.Edit
    removes s = without_class place path (shape n) (removed class.minor s)

    gets : plan d now (ClassDel parent class) (shape root) ≡ remove_at path (shape n)
    gets = del-plan ∙ target-some root (path_of class.major (shape root)) NoQdisc remove_at path n found

    pub del-refused : (refusal : Refusal) → drr_answer (class_del_checks class (shape n)) n.own.discipline ≡ Err refusal → plan d now (ClassDel parent class) (shape root) ≡ Err refusal
    del-refused refusal e = gets ∙ drr-refused (class_del_checks class (shape n)) removes refusal n.own.discipline e

    module _ (passed : drr_answer (class_del_checks class (shape n)) n.own.discipline ≡ Ok tt) (lawful : IsNumbered root) (p : Planned)
        (way : p.path.items ≡ path) (ranges : IsCommand (ClassDel parent class)) where
      g : IsPassed (class_del_checks class (shape n)) n.own.discipline
      g = drr-passed (class_del_checks class (shape n)) n.own.discipline passed

      at : node_at path root ≡ Some n
      at = (reached-at root (path_of class.major (shape root)) path n found).there

      place_is : class_place class.minor (shape n) ≡ Some place
      place_is =
          position_of (class_place class.minor (shape n))
          (not-false (is_there class (shape n)) (first-passed (refuse NoClass (not (is_there class (shape n)))) (refuse Busy (list_any (names_class class.minor) n.own.filters) ∷ []) g.passed))

      node_is : IsLawfulRoot lawful.mtu lawful.clock (shape n)
      node_is =
          node-lawful lawful.mtu lawful.clock path (shape root) (shape n) (lawful-with_memory lawful.mtu lawful.clock (λ m. tt) root lawful.lawful)
          (node_at-shape path root ∙ ap (option_map shape) at)

      many : length g.own.classes ≡ length (children (shape n))
      many =
          exact-length (λ m. is_active m g.own.active) g.own.classes (each beneath_own (shape n).below)
          (subst (IsLawfulDiscipline lawful.mtu lawful.clock (each beneath_own (shape n).below)) g.is node_is.0.discipline).exact
          ∙ length-below (shape n)

      within : place < length (children (shape n))
      within =
          let none : Class = record { name = 0; quantum = 0 } in
          omega (arith, many, (position-Some (λ (c : Class). class.minor == c.name) g.own.classes place none (sym (ap (class_in (length (children (shape n))) class.minor) g.is) ∙ place_is)).0)

      child : (c : Node Kept) × (slice_get (children n) place ≡ Some c)
      child = member_at (children n) place (omega (arith, within, length-shape n))

      abbrev left : Own
      left = record n.own { discipline = Drr (removed class.minor g.own) }

      pub class-del-planned : IsPlannedFor takes_none (ClassDel parent class) (record p { edit = DisciplineChange (RemoveClass class.minor) }) now d root
      class-del-planned =
          remade-planned d root (record p { edit = DisciplineChange (RemoveClass class.minor) }) tt n
          (subst (λ x. node_at x root ≡ Some n) (sym way) at) left (one_less n g.own g.is class.minor place child.0 place_is child.1 within)
          (one-lost n g.own g.is class.minor place child.0 place_is child.1 within)
          (change-does (RemoveClass class.minor) n left (one_less n g.own g.is class.minor place child.0 place_is child.1 within)
          (own-left n g.own g.is class.minor place child.0 place_is child.1 within) (kids-left n g.own g.is class.minor place child.0 place_is child.1 within))
          (ClassDel parent class) ranges now
          (gets ∙ drr-done (class_del_checks class (shape n)) removes n.own.discipline g ∙ ap (λ x. Ok (without_class place x (shape n) (removed class.minor g.own))) (sym way)) takes_none (λ t. t)
