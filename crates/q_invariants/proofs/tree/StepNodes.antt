-- What an event makes of the qdisc with one handle, where it is there before the event and after it.
use Rattle.std.proofs.Common.{◌≡◌, ℕ, ◌≤◌, max, Bool, true, false, ◌⊎◌, inl, inr, List, [], length, refl, sym, ap, subst, ◌∙◌, Option, Some, None, Ok, Err, Result, arith}
use Rattle.std.specs.Prelude.{is_some, ◌==◌, if◌then◌else◌}
use Rattle.std.proofs.lemmas.Option.{same_Some}
use Rattle.std.proofs.lemmas.List.{length-map}
use Rattle.q_packet.specs.Descriptor.{Descriptor}
use Rattle.q_packet.specs.declared.cause.Cause.{Cause}
use Rattle.q_packet.specs.declared.cause.Cause.TheVariants.{Purged}
use Rattle.q_model.specs.declared.event.Event.{Event}
use Rattle.q_model.specs.declared.event.Event.TheVariants as event
use Rattle.q_model.specs.declared.refusal.Refusal.{Refusal}
use Rattle.q_model.specs.Tally.{Note, history, noted}
use Rattle.q_model.specs.Node.{Own, Node, Shape, children, shape, side_by_side, blank, each}
use Rattle.q_model.specs.Beneath.{beneath_own, beneath, is_empty}
use Rattle.q_model.specs.Work.{Worked, quiet, booked, losses_of}
use Rattle.q_model.specs.Edit.{Edit, Graft, Remake, remade, edited, lost_by, packets_removed}
use Rattle.q_model.specs.Events.{IsEvent}
use Rattle.q_model.specs.Route.{Route, device_route}
use Rattle.q_model.specs.Ask.{Asked, ask, take_from}
use Rattle.q_model.specs.Step.{DeviceState, answered, step}
use Rattle.q_model.specs.Stretches.{qdisc}
use Rattle.q_model.specs.TreeState.{put_on, plan}
use Rattle.q_invariants.specs.Kept.{IsLawfulRoot}
use Rattle.q_invariants.proofs.ask.AskStages.{IsStageOf, HasSoMany, so-many, IsAskOf, asked-related}
use Rattle.q_invariants.proofs.edit.EditChildren.{kids}
use Rattle.q_invariants.proofs.edit.EditComes.{IsEditOf, ComesBy, Ends, comes-edited}
use Rattle.q_invariants.proofs.edit.EditFormPlans.{command-form}
use Rattle.q_invariants.proofs.edit.EditForms.{IsRemade, FormOf}
use Rattle.q_invariants.proofs.edit.EditHandles.{times, once-apart}
use Rattle.q_invariants.proofs.edit.EditLater.{root-later}
use Rattle.q_invariants.proofs.edit.EditNew.{new_times, new_beneath}
use Rattle.q_invariants.proofs.edit.EditRetuned.{Planned}
use Rattle.q_invariants.proofs.edit.Edits.{plan_checked, planned}
use Rattle.q_invariants.proofs.put.PutStages.{IsPutOf, quiet-related, along-related}
use Rattle.q_invariants.proofs.Replays.{IsKept, not-before}
use Rattle.q_invariants.proofs.tree.Forests.{lawful-with_memory, each-nodes}
use Rattle.q_invariants.proofs.tree.Related.{IsRelated, comes-of}
use Rattle.q_invariants.proofs.tree.Within.{IsOf, HasHandle, Found, found, of-counts, same-node, lawful-of}

-- a poll: the node as it was, peeked, or its packet taken
pub record IsAsked (now : ℕ) (n after : Node (List Note)) : Type 0 where
  pub worked : Worked
  pub stage : IsAskOf now (shape n) worked
  pub is : booked history n worked ≡ after

-- an arrival: the node as it was, or the packet put there or beneath
pub record IsPut (now : ℕ) (p : Descriptor) (n after : Node (List Note)) : Type 0 where
  pub worked : Worked
  pub refusal : Option Cause
  pub way : IsPutOf now p refusal (shape n) worked
  pub is : booked history n worked ≡ after

-- a command: the node as it was, with other settings, or above one that was edited
pub record IsRemadeSo (now : ℕ) (notes : List Note) (n after : Node (List Note)) : Type 0 where
  pub own : Own
  pub below : List (Node (List Note))
  pub is : after ≡ record { own = own; memory = noted history n.memory notes; below = side_by_side below }
  pub form : IsRemade now n own below

-- a node put in anew has nothing queued and has noted nothing
abbrev pub IsNew : Node (List Note) → Type 0
IsNew n = (is_empty n ≡ true) × (n.memory ≡ [])

pub record IsEdited (now : ℕ) (n after : Node (List Note)) : Type 0 where
  pub purged : List Descriptor
  pub f : Node (List Note) → Node (List Note)
  pub ends : (old : Node (List Note)) → IsNew (f old) ⊎ ((f old).memory ≡ noted history old.memory (losses_of Purged purged))
  pub by : IsEditOf (losses_of Purged purged) f (IsRemadeSo now (losses_of Purged purged)) n after

abbrev pub Becomes : ℕ → Event → Node (List Note) → Node (List Note) → Type 0
Becomes now (event.Arrive p moment) n after = IsPut now p n after
Becomes now (event.Poll moment) n after = IsAsked now n after
Becomes now (event.Command c moment) n after = (after ≡ n) ⊎ IsEdited now n after

-- what a take leaves, and what a peek alone leaves, are two of the stages of an answer
pub taken-stage : (t : Bool) (a : Asked) → IsStageOf a (if t then a.taken else a.peeked)
taken-stage true a = inr (inr refl)
taken-stage false a = inr (inl refl)

module _ (h clock now : ℕ) (d : DeviceState (List Note)) (kept : IsKept d) (same_clock : d.clock ≡ clock) (later : clock ≤ now) (n : Node (List Note)) (is : qdisc h d ≡ Some n) where
  abbrev root : Node (List Note)
  root = d.tree.root

  before : Found h d n
  before = found h d n is

  once : times h root ≤ 1
  once = once-apart root h kept.handles

  lawful : IsLawfulRoot d.tree.device.mtu now root
  lawful = root-later d.clock now (omega (arith, later, same_clock)) d.tree.device.mtu root kept.lawful

  shape-lawful : IsLawfulRoot d.tree.device.mtu now (shape root)
  shape-lawful = lawful-with_memory d.tree.device.mtu now (λ m. tt) root lawful

  -- a step that keeps the form of the tree
  same-form : (R : Shape → Worked → Type 0) (w : Worked) (after : Node (List Note)) → IsRelated R (shape root) w → IsOf after (booked history root w) → HasHandle h after
      → (v : Worked) × R (shape n) v × (booked history n v ≡ after)
  same-form R w after related there handle =
      let c = comes-of R root w after related there in
      let at : HasHandle h c.before = sym c.handle ∙ ap (λ (k : Node (List Note)). k.own.handle) c.is ∙ handle in
      let same : c.before ≡ n = same-node h c.before n root c.there before.there at before.handle once in
      (c.worked, subst (λ (k : Node (List Note)). R (shape k) c.worked) same c.by, subst (λ (k : Node (List Note)). booked history k c.worked ≡ after) same c.is)

  asked-so : (after : Node (List Note)) → IsOf after (booked history root (take_from now (shape root)).node) → HasHandle h after → IsAsked now n after
  asked-so after there handle =
      let a : Asked = ask now (shape root) in
      let r =
      same-form (IsAskOf now) (take_from now (shape root)).node after
      (asked-related d.tree.device.mtu now (shape root) (take_from now (shape root)).node shape-lawful (taken-stage (is_some a.shown) a)) there
      handle in
      record { worked = r.0; stage = r.1; is = r.2 }

  put-so : (p : Descriptor) (r : Option Route) (after : Node (List Note)) → IsOf after (booked history root (put_on now p r (shape root)).node) → HasHandle h after → IsPut now p n after
  put-so p None after there handle =
      let r = same-form (IsPutOf now p None) (quiet (shape root)) after (quiet-related now p None (shape root)) there handle in
      record { worked = r.0; refusal = None; way = r.1; is = r.2 }
  put-so p (Some way) after there handle =
      let r = same-form (IsPutOf now p way.refusal) (put_on now p (Some way) (shape root)).node after (along-related now p way.refusal way.path (shape root)) there handle in
      record { worked = r.0; refusal = way.refusal; way = r.1; is = r.2 }

  -- an edit
  many-of : (old : Node (List Note)) → IsOf old root → HasSoMany old.own.discipline (length (children old))
  many-of old there =
      let at : IsLawfulRoot d.tree.device.mtu now old = lawful-of d.tree.device.mtu now old root lawful there in
      let many = so-many d.tree.device.mtu now (each beneath_own old.below) old.own.discipline at.0.discipline in
      subst (HasSoMany old.own.discipline) (ap length (each-nodes beneath_own old.below) ∙ length-map (children old) beneath) many

  settle : (notes : List Note) (f : Node (List Note) → Node (List Note)) (E : Node (List Note) → Node (List Note) → Type 0) (after : Node (List Note))
      → ComesBy notes f E h (λ k. IsOf k root) after → IsEditOf notes f E n after
  settle notes f E after c = subst (λ (k : Node (List Note)). IsEditOf notes f E k after) (same-node h c.before n root c.there before.there c.handle before.handle once) c.by

  edited-so : (edit : Edit) → Planned d.tree.device.mtu now root edit → FormOf now root edit → (after : Node (List Note))
      → IsOf after (edited history (lost_by edit (shape root)) edit root) → HasHandle h after → IsEdited now n after
  edited-so (Graft path new) plan form after there handle =
      let purged : List Descriptor = packets_removed (Graft path new) (shape root) in
      let notes : List Note = losses_of Purged purged in
      let f : Node (List Note) → Node (List Note) = λ old. blank history new in
      record {
        purged = purged;
        f = f;
        ends = λ old. inl (ap (λ (ps : List Descriptor). length ps == 0) (new_beneath d.tree.device.mtu now plan.fresh new plan.suits), refl);
        by = settle notes f (IsRemadeSo now notes) after
            (comes-edited notes f (IsRemadeSo now notes) h path root after
            (λ old at in_root k of_new has. absurd (let free = plan.free h in omega (
              arith,
              of-counts h k (blank history new) of_new has,
              new_times d.tree.device.mtu now plan.fresh new plan.suits h,
              free,
              of-counts h
                  n root before.there before.handle,
            )))
            there handle);
      }
  edited-so (Remake path own below) plan form after there handle =
      let purged : List Descriptor = packets_removed (Remake path own below) (shape root) in
      let notes : List Note = losses_of Purged purged in
      let f : Node (List Note) → Node (List Note) = remade history own below notes in
      record {
        purged = purged;
        f = f;
        ends = λ old. inr refl;
        by = settle notes f (IsRemadeSo now notes) after
            (comes-edited notes f (IsRemadeSo now notes) h path root after
            (λ old at in_root. ended notes old (form old at (many-of old in_root)))
            there handle);
      }
    where
      ended : (notes : List Note) (old : Node (List Note)) → IsRemade now old own (kids history (children old) below)
          → Ends notes (remade history own below notes) (IsRemadeSo now notes) h old
      ended notes old r k (inl same) has = record {
        before = old;
        there = inl refl;
        handle = sym r.handle ∙ ap (λ (m : Node (List Note)). m.own.handle) same ∙ has;
        by = inr (inl (record { own = own; below = kids history (children old) below; is = sym same; form = r }));
      }
      ended notes old r k (inr w) has = record { before = k; there = inr (r.keeps h k w has); handle = has; by = inl refl }

-- ---- an event

pub becomes : (h : ℕ) (d : DeviceState (List Note)) (e : Event) (n after : Node (List Note)) → IsKept d → IsEvent e → qdisc h d ≡ Some n → qdisc h (step history d e).device ≡ Some after
    → Becomes (step history d e).device.clock e n after
becomes h d (event.Arrive p moment) n after kept range is at =
    let f = found h (step history d (event.Arrive p moment)).device after at in
    put-so h d.clock (max d.clock moment) d kept refl (not-before d.clock moment) n is p (device_route p d.tree.device.mtu (shape d.tree.root)) after f.there f.handle
becomes h d (event.Poll moment) n after kept range is at =
    let f = found h (step history d (event.Poll moment)).device after at in
    asked-so h d.clock (max d.clock moment) d kept refl (not-before d.clock moment) n is after f.there f.handle
becomes h d (event.Command c moment) n after kept range is at = by (plan d.tree.device (max d.clock moment) c (shape d.tree.root)) refl at
  where
    by : (answer : Result Edit Refusal) → plan d.tree.device (max d.clock moment) c (shape d.tree.root) ≡ answer → qdisc h (answered history answer (max d.clock moment) d).device ≡ Some after
        → (after ≡ n) ⊎ IsEdited (answered history answer (max d.clock moment) d).device.clock n after
    by (Err refusal) e there = inl (same_Some after n (sym there ∙ is))
    by (Ok edit) e there =
        let f = found h (answered history (Ok edit) (max d.clock moment) d).device after there in
        let ok = plan_checked d.tree.device (max d.clock moment) c (shape d.tree.root) edit e in
        inr (edited-so h d.clock (max d.clock moment) d kept refl (not-before d.clock moment) n is edit
        (planned d.tree.device (max d.clock moment) d.tree.root (λ k. once-apart d.tree.root k kept.handles) kept.least_mtu kept.most_mtu c edit range.0 ok.asked)
        (command-form (max d.clock moment) d.tree.root d.tree.device c edit ok.asked) after f.there f.handle)

-- no event turns the clock back
pub clock-rises : (d : DeviceState (List Note)) (e : Event) → d.clock ≤ (step history d e).device.clock
clock-rises d (event.Arrive p moment) = not-before d.clock moment
clock-rises d (event.Poll moment) = not-before d.clock moment
clock-rises d (event.Command c moment) = by (plan d.tree.device (max d.clock moment) c (shape d.tree.root))
  where
    by : (answer : Result Edit Refusal) → d.clock ≤ (answered history answer (max d.clock moment) d).device.clock
    by (Ok edit) = not-before d.clock moment
    by (Err refusal) = omega arith
