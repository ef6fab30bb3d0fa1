-- What `tc class` plans suits the tree.
use Rattle.std.proofs.Common.{◌≡◌, ℕ, ◌≤◌, true, false, not, List, [], ◌∷◌, length, refl, sym, ap, subst, ◌∙◌, Option, Some, None, Ok}
use Rattle.std.specs.Prelude.{IfSome, is_some, unwrap_or, ◌==◌}
use Rattle.std.specs.List.{list_any, position, remove}
use Rattle.std.proofs.lemmas.Bool.{not-false, false≢true}
use Rattle.q_codel.specs.declared.limit.Limit.TheVariants.{Packets}
use Rattle.q_drr.specs.Schedule.{Class, Schedule, has_class, added, removed}
use Rattle.q_model.specs.declared.class_id.ClassId.{ClassId}
use Rattle.q_model.specs.declared.refusal.Refusal.TheVariants.{Exists, NoClass, Busy}
use Rattle.q_model.specs.Numbers.{IsMinor, IsQuantum}
use Rattle.q_model.specs.Refusals.{Check, refuse}
use Rattle.q_model.specs.Filters.{names_class}
use Rattle.q_model.specs.Tally.{Note}
use Rattle.q_model.specs.Node.{Drr, Discipline, Node, Shape, children, shape}
use Rattle.q_model.specs.Make.{Device, implicit_pfifo}
use Rattle.q_model.specs.Find.{class_in, class_place, node_at}
use Rattle.q_model.specs.Edit.{Edit}
use Rattle.q_model.specs.QdiscCommands.{all_kept, retuned}
use Rattle.q_model.specs.ClassCommands.{of_schedule, is_there, class_add_checks, class_change_checks, class_del_checks, with_class, class_added, class_add, with_new_quantum, class_changed, class_change, without_class, class_removed, class_del}
use Rattle.q_invariants.proofs.edit.EditClasses.{class_known, remakes_class_added, remakes_class_changed, remakes_class_removed}
use Rattle.q_invariants.proofs.edit.EditFront.{front_and_new}
use Rattle.q_invariants.proofs.edit.EditHandles.{times}
use Rattle.q_invariants.proofs.edit.EditMade.{new_leaf}
use Rattle.q_invariants.proofs.edit.EditNodes.{AtNode, AtSchedule, drr_there, schedule_there}
use Rattle.q_invariants.proofs.edit.EditRetuned.{Planned, planned_remake}
use Rattle.q_invariants.proofs.edit.EditSuits.{done_is, check_passed}

given_quantum : (quantum : Option ℕ) (mtu : ℕ) → IfSome quantum IsQuantum → 1 ≤ mtu → 1 ≤ unwrap_or quantum mtu
given_quantum None mtu h positive = positive
given_quantum (Some q) mtu h positive = h.0

-- a class is there for a shape of a drr exactly where its schedule has it
place_known : (minor : ℕ) (n : Node (List Note)) (s : Schedule) → n.own.discipline ≡ Drr s → is_some (class_place minor (shape n)) ≡ has_class minor s.classes
place_known minor n s is = ap (λ (d : Discipline). is_some (class_in (length (children (shape n))) minor d)) is ∙ class_known (length (children (shape n))) minor s

pub position_of : (o : Option ℕ) → is_some o ≡ true → o ≡ Some (unwrap_or o 0)
position_of None e = absurd (false≢true e)
position_of (Some i) e = refl

-- the drr whose class a command deletes, and the place of the class in it: no filter names the class
pub record DeletedClass (class : ClassId) (root : Node (List Note)) (edit : Edit) : Type 0 where
  pub path : List ℕ
  pub node : Node (List Note)
  pub node_is : node_at path root ≡ Some node
  pub schedule : Schedule
  pub is : node.own.discipline ≡ Drr schedule
  pub place : ℕ
  pub found : position (λ (c : Class). class.minor == c.name) schedule.classes ≡ Some place
  pub unnamed : list_any (names_class class.minor) node.own.filters ≡ false
  pub edit_is : without_class place path (shape node) (removed class.minor schedule) ≡ edit

pub deleted_class : (parent : Option ℕ) (class : ClassId) (root : Node (List Note)) (edit : Edit) → class_del parent class (shape root) ≡ Ok edit → DeletedClass class root edit
deleted_class parent class root edit e =
    let at : AtNode (λ path n. of_schedule (class_removed class path n) n.own.discipline) root edit = drr_there parent class (class_removed class) root edit e in
    let sh : Shape = shape at.node in
    let on : AtSchedule (class_removed class at.path sh) at.node.own.discipline edit = schedule_there (class_removed class at.path sh) at.node.own.discipline edit at.edit_is in
    let i : ℕ = unwrap_or (class_place class.minor sh) 0 in
    let done = done_is (class_del_checks class sh) (without_class i at.path sh (removed class.minor on.schedule)) edit on.edit_is in
    let named : Check = refuse Busy (list_any (names_class class.minor) at.node.own.filters) in
    let first = check_passed (refuse NoClass (not (is_there class sh))) (named ∷ []) done.0 in
    let place : class_place class.minor sh ≡ position (λ (c : Class). class.minor == c.name) on.schedule.classes = ap (class_in (length (children sh)) class.minor) on.is in
    record {
      path = at.path;
      node = at.node;
      node_is = at.node_is;
      schedule = on.schedule;
      is = on.is;
      place = i;
      found = sym place ∙ position_of (class_place class.minor sh) (not-false (is_there class sh) first.0);
      unnamed = (check_passed named [] first.1).0;
      edit_is = done.1;
    }

module _ (d : Device) (now : ℕ) (root : Node (List Note)) (once : (h : ℕ) → times h root ≤ 1) (positive : 1 ≤ d.mtu) where
  pub planned_class_add : (parent : ℕ) (class : ClassId) (quantum : Option ℕ) (edit : Edit) → IsMinor class.minor → IfSome quantum IsQuantum
      → class_add d parent class quantum (shape root) ≡ Ok edit → Planned d.mtu now root edit
  planned_class_add parent class quantum edit minor range e =
      let at : AtNode (λ path n. of_schedule (class_added d class quantum path n) n.own.discipline) root edit = drr_there (Some parent) class (class_added d class quantum) root edit e in
      let old : Node (List Note) = at.node in
      let sh : Shape = shape old in
      let on : AtSchedule (class_added d class quantum at.path sh) old.own.discipline edit = schedule_there (class_added d class quantum at.path sh) old.own.discipline edit at.edit_is in
      let q : ℕ = unwrap_or quantum d.mtu in
      let done = done_is (class_add_checks class sh) (with_class d at.path sh (added class.minor q on.schedule)) edit on.edit_is in
      let first = check_passed (refuse Exists (is_there class sh)) [] done.0 in
      let absent : has_class class.minor on.schedule.classes ≡ false = sym (place_known class.minor old on.schedule on.is) ∙ first.0 in
      let leaf : Shape = implicit_pfifo d in
      subst (Planned d.mtu now root) done.1
      (planned_remake d.mtu now root at.path (record old.own { discipline = Drr (added class.minor q on.schedule) }) (front_and_new (length (children sh)) 1 leaf) old once at.node_is
      (λ lawful counted. remakes_class_added d.mtu now leaf (new_leaf d.mtu now None (Packets d.txqueuelen)) old lawful counted on.schedule
      class.minor q on.is absent minor (given_quantum quantum d.mtu range positive)))

  pub planned_class_change : (parent : Option ℕ) (class : ClassId) (quantum : Option ℕ) (edit : Edit) → IfSome quantum IsQuantum
      → class_change parent class quantum (shape root) ≡ Ok edit → Planned d.mtu now root edit
  planned_class_change parent class quantum edit range e =
      let at : AtNode (λ path n. of_schedule (class_changed class quantum path n) n.own.discipline) root edit = drr_there parent class (class_changed class quantum) root edit e in
      let old : Node (List Note) = at.node in
      let sh : Shape = shape old in
      let on : AtSchedule (class_changed class quantum at.path sh) old.own.discipline edit = schedule_there (class_changed class quantum at.path sh) old.own.discipline edit at.edit_is in
      let done = done_is (class_change_checks class sh) (retuned sh at.path (Drr (with_new_quantum class quantum on.schedule))) edit on.edit_is in
      subst (Planned d.mtu now root) done.1
      (planned_remake d.mtu now root at.path (record old.own { discipline = Drr (with_new_quantum class quantum on.schedule) }) (all_kept sh) old once at.node_is
      (λ lawful counted. remakes_class_changed d.mtu now old lawful counted on.schedule class quantum on.is range))

  pub planned_class_del : (parent : Option ℕ) (class : ClassId) (edit : Edit) → class_del parent class (shape root) ≡ Ok edit → Planned d.mtu now root edit
  planned_class_del parent class edit e =
      let at : DeletedClass class root edit = deleted_class parent class root edit e in
      let old : Node (List Note) = at.node in
      subst (Planned d.mtu now root) at.edit_is
      (planned_remake d.mtu now root at.path (record old.own { discipline = Drr (removed class.minor at.schedule) }) (remove (all_kept (shape old)) at.place) old once at.node_is
      (λ lawful counted. remakes_class_removed d.mtu now old lawful counted at.schedule class.minor at.place at.is at.found at.unnamed))
