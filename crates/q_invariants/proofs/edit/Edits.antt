-- A command that is done keeps the tree, as does what a new device has.
use Rattle.std.proofs.Common.{◌≡◌, ℕ, suc, ◌<◌, ◌≤◌, ◌^◌, List, [], ◌∷◌, refl, sym, ap, subst, ◌∙◌, Option, Some, None, Result, Ok, Err, arith}
use Rattle.std.specs.Prelude.{slice_get, nat_lt}
use Rattle.std.specs.List.{sum}
use Rattle.std.specs.Option.{option_map_or}
use Rattle.std.proofs.lemmas.Bool.{ltb-false}
use Rattle.q_packet.specs.Descriptor.{Descriptor}
use Rattle.q_codel.specs.declared.limit.Limit.TheVariants.{Packets}
use Rattle.q_model.specs.declared.command.Command.{Command}
use Rattle.q_model.specs.declared.command.Command.TheVariants.{QdiscAdd, QdiscChange, QdiscDel, ClassAdd, ClassChange, ClassDel, FilterAdd, FilterDel}
use Rattle.q_model.specs.declared.refusal.Refusal.{Refusal}
use Rattle.q_model.specs.declared.refusal.Refusal.TheVariants.{TooDeep, TooMany}
use Rattle.q_model.proofs.ShrinkLemmas.{each-each_memory}
use Rattle.q_model.proofs.ShrinkSteps.{edited-stands}
use Rattle.q_model.specs.Ranges.{IsCommand}
use Rattle.q_model.specs.Shrink.{StandsFor}
use Rattle.q_model.specs.Tally.{Note, history, noted}
use Rattle.q_model.specs.Node.{Own, Node, Shape, children, from_below, shape, blank}
use Rattle.q_model.specs.Beneath.{beneath}
use Rattle.q_model.specs.Conserved.{held_beneath}
use Rattle.q_model.specs.Find.{greatest, depth, count_nodes}
use Rattle.q_model.specs.Make.{Device, implicit_pfifo}
use Rattle.q_model.specs.Edit.{Edit, Graft, Remake, remade, above, edited_at, edited, packets_removed, lost_by}
use Rattle.q_model.specs.Refusals.{Check, refuse, most_levels, most_nodes, size_checks}
use Rattle.q_model.specs.TreeState.{TreeState, new_tree, edit_of, nothing, checked, plan, with_edit}
use Rattle.q_invariants.specs.Kept.{IsCountedRoot, IsKeptTree, IsLawfulRoot}
use Rattle.q_invariants.proofs.edit.EditAbove.{Becomes}
use Rattle.q_invariants.proofs.edit.EditClassPlans.{planned_class_add, planned_class_change, planned_class_del}
use Rattle.q_invariants.proofs.edit.EditFilters.{planned_filter_add, planned_filter_del}
use Rattle.q_invariants.proofs.edit.EditHandles.{times, once-apart, apart-once}
use Rattle.q_invariants.proofs.edit.EditLater.{root-later}
use Rattle.q_invariants.proofs.edit.EditMade.{new_leaf}
use Rattle.q_invariants.proofs.edit.EditNew.{IsNew, new_lawful, new_counted, new_times}
use Rattle.q_invariants.proofs.edit.EditQdiscPlans.{planned_qdisc_add, planned_qdisc_change, planned_qdisc_del}
use Rattle.q_invariants.proofs.edit.EditRetuned.{Planned}
use Rattle.q_invariants.proofs.edit.EditSuits.{refused_not_done, done_is, check_passed, becomes-suited}
use Rattle.q_invariants.proofs.sums.Joined.{counted_purged}

-- ---- the sizes that are checked are those of the tree

-- what remembers nothing remembers no notes
forgetful : (m : Unit {0}) (notes : List Note) → noted nothing m notes ≡ m
forgetful tt [] = refl
forgetful tt (n ∷ notes) = forgetful tt notes

module _ (notes : List Note) where
  above_forgets : (i : ℕ) (child n : Shape) → above nothing notes i child n ≡ above nothing [] i child n
  above_forgets i child n = ap (λ m. record (above nothing [] i child n) { memory = m }) (forgetful n.memory notes)

  edited_forgets : (f g : Shape → Shape) → ((n : Shape) → f n ≡ g n) → (path : List ℕ) (n : Shape) → edited_at nothing notes f path n ≡ edited_at nothing [] g path n
  edited_forgets f g same [] n = same n
  edited_forgets f g same (i ∷ path) n = at_child (slice_get (children n) i) (edited_forgets f g same path)
    where
      at_child : (o : Option Shape) → ((c : Shape) → edited_at nothing notes f path c ≡ edited_at nothing [] g path c)
          → option_map_or (λ child. above nothing notes i (edited_at nothing notes f path child) n) o n ≡ option_map_or (λ child. above nothing [] i (edited_at nothing [] g path child) n) o n
      at_child None rec = refl
      at_child (Some c) rec = ap (λ (x : Shape). above nothing notes i x n) (rec c) ∙ above_forgets i (edited_at nothing [] g path c) n

  any_notes : (edit : Edit) (n : Shape) → edited nothing notes edit n ≡ edited nothing [] edit n
  any_notes (Graft path new) n = edited_forgets (λ old. blank nothing new) (λ old. blank nothing new) (λ old. refl) path n
  any_notes (Remake path own below) n =
      edited_forgets (remade nothing own below notes) (remade nothing own below []) (λ old. ap (λ m. record (remade nothing own below [] old) { memory = m }) (forgetful old.memory notes)) path n

forgets_history : StandsFor history nothing (λ m. tt)
forgets_history = record { nothing = refl; one_more = λ m n. refl }

shape_edited : (edit : Edit) (notes : List Note) (n : Node (List Note)) → shape (edited history notes edit n) ≡ edited nothing [] edit (shape n)
shape_edited edit notes n = edited-stands history nothing (λ m. tt) forgets_history notes edit n ∙ any_notes notes edit (shape n)

pub found_in_shape : {M A : Type 0} (f : Own → List A → A) (n : Node M) → from_below f (shape n) ≡ from_below f n
found_in_shape f n = ap (f n.own) (each-each_memory f (λ m. tt) n.below)

-- ---- what a plan says

pub record Checked (d : Device) (now : ℕ) (c : Command) (root : Shape) (edit : Edit) : Type 0 where
  pub asked : edit_of d now c root ≡ Ok edit
  deep : depth (edited nothing [] edit root) ≤ most_levels
  many : count_nodes (edited nothing [] edit root) ≤ most_nodes

pub plan_checked : (d : Device) (now : ℕ) (c : Command) (root : Shape) (edit : Edit) → plan d now c root ≡ Ok edit → Checked d now c root edit
plan_checked d now c root edit e = go (edit_of d now c root) refl e
  where
    then_checked : Result Edit Refusal → Result Edit Refusal
    then_checked r = elim r [
      | Ok asked ↦ checked root asked
      | Err refusal ↦ Err refusal
    ]

    go : (r : Result Edit Refusal) → edit_of d now c root ≡ r → then_checked r ≡ Ok edit → Checked d now c root edit
    go (Err refusal) is e = absurd (refused_not_done refusal edit e)
    go (Ok asked) is e =
        let after : Shape = edited nothing [] asked root in
        let done = done_is (size_checks after) asked edit e in
        let many : Check = refuse TooMany (nat_lt most_nodes (count_nodes after)) in
        let first = check_passed (refuse TooDeep (nat_lt most_levels (depth after))) (many ∷ []) done.0 in
        let second = check_passed many [] first.1 in
        subst (Checked d now c root) done.1
        (record { asked = is; deep = ltb-false most_levels (depth after) first.0; many = ltb-false most_nodes (count_nodes after) second.0 })

module _ (d : Device) (now : ℕ) (root : Node (List Note)) (once : (h : ℕ) → times h root ≤ 1) (positive : 1 ≤ d.mtu) (small : d.mtu < 2 ^ 16) where
  pub planned : (c : Command) (edit : Edit) → IsCommand c → edit_of d now c (shape root) ≡ Ok edit → Planned d.mtu now root edit
  planned (QdiscAdd place handle kind) edit range e = planned_qdisc_add d now root once positive small place handle kind edit range.2 e
  planned (QdiscChange place handle kind) edit range e = planned_qdisc_change d now root once positive small place handle kind edit range.2 e
  planned (QdiscDel place handle) edit range e = planned_qdisc_del d now root once positive small place handle edit e
  planned (ClassAdd parent class quantum) edit range e = planned_class_add d now root once positive parent class quantum edit range.1.minor range.2 e
  planned (ClassChange parent class quantum) edit range e = planned_class_change d now root once positive parent class quantum edit range.2 e
  planned (ClassDel parent class) edit range e = planned_class_del d now root once positive parent class edit e
  planned (FilterAdd parent major filter) edit range e = planned_filter_add d.mtu now root once parent major filter edit e
  planned (FilterDel parent prio) edit range e = planned_filter_del d.mtu now root once parent prio edit e

-- ---- the two laws

pub edit-keeps : (s : TreeState (List Note)) (clock now : ℕ) (c : Command) (edit : Edit) → IsKeptTree clock s → clock ≤ now → now ≤ 2 ^ 62
    → IsCommand c → plan s.device now c (shape s.root) ≡ Ok edit → IsKeptTree now (with_edit history edit s)
edit-keeps s clock now c edit h later moment range e =
    let root : Node (List Note) = s.root in
    let purged : List Descriptor = packets_removed edit (shape root) in
    let after : Node (List Note) = edited history (lost_by edit (shape root)) edit root in
    let once : (k : ℕ) → times k root ≤ 1 = λ k. once-apart root k h.handles in
    let lawful : IsLawfulRoot s.device.mtu now root = root-later clock now later s.device.mtu root h.lawful in
    let ok : Checked s.device now c (shape root) edit = plan_checked s.device now c (shape root) edit e in
    let p : Planned s.device.mtu now root edit = planned s.device now root once h.least_mtu h.most_mtu c edit range ok.asked in
    let b : Becomes s.device.mtu now p.fresh purged root after = becomes-suited s.device.mtu now p.fresh h.least_mtu root lawful h.counted edit p.suits in
    let same : shape after ≡ edited nothing [] edit (shape root) = shape_edited edit (lost_by edit (shape root)) root in
    let deep : depth after ≡ depth (edited nothing [] edit (shape root)) = sym (found_in_shape (λ own below. suc (greatest below)) after) ∙ ap (λ (n : Shape). depth n) same in
    let many : count_nodes after ≡ count_nodes (edited nothing [] edit (shape root)) = sym (found_in_shape (λ own below. suc (sum below)) after) ∙ ap (λ (n : Shape). count_nodes n) same in
    record {
      moment = moment;
      least_mtu = h.least_mtu;
      most_mtu = h.most_mtu;
      top = counted_purged s.top (beneath root) (held_beneath root) (beneath after) (held_beneath after) purged h.top b.conserved b.held;
      counted = b.counted;
      lawful = b.lawful;
      handles = apart-once after (λ k. omega (arith, b.handles k, p.free k));
      levels = omega (arith, deep, ok.deep);
      few = omega (arith, many, ok.many);
    }

pub new-kept : (d : Device) → 1 ≤ d.mtu → d.mtu < 2 ^ 16 → IsKeptTree 0 (new_tree history d)
new-kept d positive small =
    let leaf : Shape = implicit_pfifo d in
    let new : IsNew d.mtu 0 None leaf = new_leaf d.mtu 0 None (Packets d.txqueuelen) in
    let counted : IsCountedRoot (blank history leaf) = new_counted d.mtu 0 None leaf new in
    record {
      moment = omega arith;
      least_mtu = positive;
      most_mtu = small;
      top = counted.0;
      counted = counted;
      lawful = new_lawful d.mtu 0 None leaf new;
      handles = apart-once (blank history leaf) (λ h. omega (arith, new_times d.mtu 0 None leaf new h));
      levels = omega arith;
      few = omega arith;
    }
