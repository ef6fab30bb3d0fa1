-- In every replay each flow of each fq_codel is in one of the lists or at rest: so CoDel remembers nothing against one that joins.
use Rattle.std.proofs.Common.{◌≡◌, ℕ, ◌≤◌, max, ◌⊎◌, inl, inr, false, List, [], ◌∷◌, length, refl, sym, ap, subst, ◌∙◌, Option, Some, None, Ok, Err, Result}
use Rattle.std.specs.Prelude.{All, is_some}
use Rattle.std.proofs.lemmas.Bool.{true≢false}
use Rattle.std.proofs.lemmas.List.{length-map}
use Rattle.std.proofs.lemmas.List.Elements.{All-head, All-tail}
use Rattle.q_packet.specs.Descriptor.{Descriptor}
use Rattle.q_codel.specs.declared.limit.Limit.TheVariants.{Packets}
use Rattle.q_fqcodel.specs.Put.{is_listed}
use Rattle.q_model.specs.declared.event.Event.{Event}
use Rattle.q_model.specs.declared.event.Event.TheVariants as event
use Rattle.q_model.specs.declared.refusal.Refusal.{Refusal}
use Rattle.q_model.specs.Ask.{Asked, ask, take_from}
use Rattle.q_model.specs.Beneath.{beneath_own, beneath}
use Rattle.q_model.specs.Edit.{Edit, Graft, Remake, remade, edited, lost_by}
use Rattle.q_model.specs.Events.{IsEvent}
use Rattle.q_model.specs.Find.{node_at}
use Rattle.q_model.specs.Node.{Node, children, shape, blank, each}
use Rattle.q_model.specs.Replay.{Replay, with_step, replay_from, nothing_yet}
use Rattle.q_model.specs.Route.{Route, device_route}
use Rattle.q_model.specs.Settings.{DeviceSettings, IsInRange}
use Rattle.q_model.specs.Step.{DeviceState, answered, step}
use Rattle.q_model.specs.Stretches.{FqAt, fq_in}
use Rattle.q_model.specs.Tally.{Note, history}
use Rattle.q_model.specs.TreeState.{put_on, plan}
use Rattle.q_model.specs.Work.{booked, quiet}
use Rattle.q_invariants.specs.Kept.{IsLawfulRoot}
use Rattle.q_invariants.proofs.ask.AskStages.{HasSoMany, so-many, IsAskOf, asked-related}
use Rattle.q_invariants.proofs.edit.EditFormPlans.{command-form}
use Rattle.q_invariants.proofs.edit.EditForms.{FormOf}
use Rattle.q_invariants.proofs.edit.EditLater.{root-later}
use Rattle.q_invariants.proofs.edit.Edits.{plan_checked}
use Rattle.q_invariants.proofs.flow.FlowMoves.{fq-node}
use Rattle.q_invariants.proofs.flow.FlowSteps.{lists_of}
use Rattle.q_invariants.proofs.put.PutStages.{IsPutOf, quiet-related, along-related}
use Rattle.q_invariants.proofs.Replays.{IsKept, not-before, step-kept, new-kept-device}
use Rattle.q_invariants.proofs.tree.Forests.{lawful-with_memory, each-nodes}
use Rattle.q_invariants.proofs.tree.StepNodes.{taken-stage}
use Rattle.q_invariants.proofs.tree.Within.{IsOf, found, lawful-of}
use Rattle.q_device.specs.Sharing.{device_after}
use Rattle.q_laws.specs.new_flow.Rest.{FlowRests}
use Rattle.q_laws.proofs.new_flow.RestEdits.{RestsBy, leaf-rests, command-rests, edited-rests}
use Rattle.q_laws.proofs.new_flow.RestLemmas.{In}
use Rattle.q_laws.proofs.new_flow.RestNodes.{Rests, AllRest, put-keeps, ask-keeps, form-rests}

module _ (now : ℕ) (d : DeviceState (List Note)) (kept : IsKept d) (later : d.clock ≤ now) (all : AllRest d.tree.root) where
  abbrev root : Node (List Note)
  root = d.tree.root

  lawful : IsLawfulRoot d.tree.device.mtu now d.tree.root
  lawful = root-later d.clock now later d.tree.device.mtu d.tree.root kept.lawful

  put-rests : (p : Descriptor) (r : Option Route) → AllRest (booked history d.tree.root (put_on now p r (shape d.tree.root)).node)
  put-rests p None = form-rests (IsPutOf now p None) root (quiet (shape root)) (put-keeps now p None) (quiet-related now p None (shape root)) all
  put-rests p (Some way) =
      form-rests (IsPutOf now p way.refusal) root (put_on now p (Some way) (shape root)).node (put-keeps now p way.refusal) (along-related now p way.refusal way.path (shape root)) all

  take-rests : AllRest (booked history d.tree.root (take_from now (shape d.tree.root)).node)
  take-rests =
      let a : Asked = ask now (shape root) in
      let law : IsLawfulRoot d.tree.device.mtu now (shape root) = lawful-with_memory d.tree.device.mtu now (λ m. tt) root lawful in
      form-rests (IsAskOf now) root (take_from now (shape root)).node (ask-keeps now)
      (asked-related d.tree.device.mtu now (shape root) (take_from now (shape root)).node law (taken-stage (is_some a.shown) a)) all

  many-of : (old : Node (List Note)) → IsOf old d.tree.root → HasSoMany old.own.discipline (length (children old))
  many-of old there =
      let at : IsLawfulRoot d.tree.device.mtu now old = lawful-of d.tree.device.mtu now old root lawful there in
      let many = so-many d.tree.device.mtu now (each beneath_own old.below) old.own.discipline at.0.discipline in
      subst (HasSoMany old.own.discipline) (ap length (each-nodes beneath_own old.below) ∙ length-map (children old) beneath) many

  edit-rests : (edit : Edit) → FormOf now d.tree.root edit → RestsBy d.tree.root edit → AllRest (edited history (lost_by edit (shape d.tree.root)) edit d.tree.root)
  edit-rests (Graft path new) form rests = edited-rests (lost_by (Graft path new) (shape root)) (λ old. blank history new) path root (λ old at there in_old. rests) all
  edit-rests (Remake path own below) form rests = edited-rests notes (remade history own below notes) path root ends all
    where
      notes : List Note
      notes = lost_by (Remake path own below) (shape d.tree.root)

      ends : (old : Node (List Note)) → node_at path d.tree.root ≡ Some old → IsOf old d.tree.root → AllRest old
          → AllRest (remade history own below (lost_by (Remake path own below) (shape d.tree.root)) old)
      ends old at there in_old h n (inl is) has =
          let r = form old at (many-of old there) in
          subst (λ (k : Node (List Note)). Rests k.own.discipline) is
          (rests old at (in_old h old (inl refl) (sym r.handle ∙ ap (λ (k : Node (List Note)). k.own.handle) is ∙ has)))
      ends old at there in_old h n (inr w) has =
          let r = form old at (many-of old there) in
          in_old h n (inr (r.keeps h n w has)) has

step-rests : (d : DeviceState (List Note)) (e : Event) → IsKept d → IsEvent e → AllRest d.tree.root → AllRest (step history d e).device.tree.root
step-rests d (event.Arrive p moment) kept range all = put-rests (max d.clock moment) d kept (not-before d.clock moment) all p (device_route p d.tree.device.mtu (shape d.tree.root))
step-rests d (event.Poll moment) kept range all = take-rests (max d.clock moment) d kept (not-before d.clock moment) all
step-rests d (event.Command c moment) kept range all = by (plan d.tree.device (max d.clock moment) c (shape d.tree.root)) refl
  where
    by : (answer : Result Edit Refusal) → plan d.tree.device (max d.clock moment) c (shape d.tree.root) ≡ answer → AllRest (answered history answer (max d.clock moment) d).device.tree.root
    by (Err refusal) e = all
    by (Ok edit) e =
        let ok = plan_checked d.tree.device (max d.clock moment) c (shape d.tree.root) edit e in
        edit-rests (max d.clock moment) d kept (not-before d.clock moment) all edit
        (command-form (max d.clock moment) d.tree.root d.tree.device c edit ok.asked) (command-rests (max d.clock moment) d.tree.root d.tree.device c edit ok.asked)

replay-rests : (r : Replay (List Note)) (events : List Event) → IsKept r.device → AllRest r.device.tree.root → All IsEvent events → AllRest (replay_from history r events).device.tree.root
replay-rests r [] kept all range = all
replay-rests r (e ∷ events) kept all range =
    let event : IsEvent e = All-head IsEvent e events range in
    replay-rests (with_step r (step history r.device e)) events (step-kept r.device e kept event) (step-rests r.device e kept event all) (All-tail IsEvent e events range)

-- a flow that is in neither list is at rest
pub unlisted-rests : (settings : DeviceSettings) (events : List Event) (major j : ℕ) (fq : FqAt) → IsInRange settings → All IsEvent events → fq_in major (device_after settings events) ≡ Some fq
    → is_listed j (lists_of fq.state) ≡ false → FlowRests j fq.state.flows
unlisted-rests settings events major j fq range all is absent =
    let d : DeviceState (List Note) = device_after settings events in
    let at = fq-node major d fq is in
    let f = found major d at.node at.there in
    let rests : AllRest d.tree.root = replay-rests (nothing_yet history settings) events (new-kept-device settings range) (leaf-rests (Packets settings.txqueuelen)) all in
    by (subst Rests at.discipline (rests major at.node f.there f.handle) j)
  where
    by : In j (lists_of fq.state) ⊎ FlowRests j fq.state.flows → FlowRests j fq.state.flows
    by (inl listed) = absurd (true≢false (sym listed ∙ absent))
    by (inr rest) = rest
