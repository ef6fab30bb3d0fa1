-- A tree that is emptied is that of a new device, but for what it remembers.
use Rattle.std.proofs.Common.{◌≡◌, ◌∙◌, ℕ, List, [], ◌∷◌, refl, ap, Result, Ok, Err, arith}
use Rattle.std.specs.Prelude.{Bool, true, false, max, if◌then◌else◌, Some, None}
use Rattle.q_model.specs.declared.command.Command.{Command}
use Rattle.q_model.specs.declared.event.Event.{Event}
use Rattle.q_model.specs.declared.event.Event.TheVariants as event
use Rattle.q_model.specs.declared.kind.Kind.TheVariants as kind
use Rattle.q_model.specs.declared.refusal.Refusal.{Refusal}
use Rattle.q_model.specs.declared.refusal.Refusal.TheVariants.{Exists, HandleTaken, NoQdisc}
use Rattle.q_model.specs.Edit.{Edit, Graft}
use Rattle.q_model.specs.Make.{Device, implicit_pfifo}
use Rattle.q_model.specs.Node.{Shape, shape}
use Rattle.q_model.specs.QdiscCommands.{at_target, leaf_at, new_qdisc}
use Rattle.q_model.specs.Refusals.{done_unless, refuse}
use Rattle.q_model.specs.Replay.{Replay, nothing_yet, replay_from, with_step}
use Rattle.q_model.specs.Settings.{DeviceSettings}
use Rattle.q_model.specs.Step.{DeviceState, Step, answered, done, new_device, step}
use Rattle.q_model.specs.Tally.{Counts, totals}
use Rattle.q_model.specs.TreeState.{checked, new_tree, plan}
use Rattle.q_device.specs.device.DeviceSeen.{DeviceSeen}
use Rattle.q_device.specs.DeviceLaws.{IsReplayed}
use Rattle.q_setup.specs.Anew.{AllAreDone, add_root, after_all, delete_root, emptying, has_explicit_root}
use Rattle.q_setup.proofs.SameTrees.{GoOnAlike, done_reply, forgotten, go_on_alike}

-- ---- no event changes what a tree has of its device's settings

-- those of a tree
abbrev pub settings_of : DeviceSettings → Device
settings_of s = record { mtu = s.mtu; txqueuelen = s.txqueuelen }

device-answered : (answer : Result Edit Refusal) (at : ℕ) (d : DeviceState Counts) → (answered totals answer at d).device.tree.device ≡ d.tree.device
device-answered (Ok edit) at d = refl
device-answered (Err refusal) at d = refl

pub device-step : (d : DeviceState Counts) (e : Event) → (step totals d e).device.tree.device ≡ d.tree.device
device-step d (event.Arrive p moment) = refl
device-step d (event.Poll moment) = refl
device-step d (event.Command c moment) = device-answered (plan d.tree.device (max d.clock moment) c (shape d.tree.root)) (max d.clock moment) d

device-from : (r : Replay Counts) (events : List Event) → (replay_from totals r events).device.tree.device ≡ r.device.tree.device
device-from r [] = refl
device-from r (e ∷ events) = device-from (with_step r (step totals r.device e)) events ∙ device-step r.device e

pub device-settings : (d : DeviceSeen) → IsReplayed d → d.device.tree.device ≡ settings_of d.settings
device-settings d h =
    ap (λ (x : DeviceState Counts). x.tree.device) h.replayed.device ∙ device-from (nothing_yet totals d.settings) h.happened

-- ---- the root

-- what a plan is, given whether the root is explicit
abbrev deletion : Device → Shape → Bool → Result Edit Refusal
deletion d root explicit = elim (at_target NoQdisc (if explicit then Some [] else None) (λ path n. Ok (Graft path (leaf_at d path root))) root) [
  | Ok edit ↦ checked root edit
  | Err refusal ↦ Err refusal
]

abbrev addition : Device → ℕ → Shape → Bool → Result Edit Refusal
addition d at root explicit = elim (done_unless (refuse Exists explicit ∷ refuse HandleTaken false ∷ []) (Graft [] (new_qdisc d at None (kind.Pfifo None) root))) [
  | Ok edit ↦ checked root edit
  | Err refusal ↦ Err refusal
]

module _ (now : ℕ) (d : DeviceState Counts) where
  abbrev at : ℕ
  at = max d.clock now

  deleted : has_explicit_root d ≡ true → step totals d (event.Command delete_root now) ≡ done totals (Graft [] (implicit_pfifo d.tree.device)) at d
  deleted h = ap (λ b. answered totals (deletion d.tree.device (shape d.tree.root) b) at d) h

  added : has_explicit_root d ≡ false
      → step totals d (event.Command add_root now) ≡ done totals (Graft [] (new_qdisc d.tree.device at None (kind.Pfifo None) (shape d.tree.root))) at d
  added h = ap (λ b. answered totals (addition d.tree.device at (shape d.tree.root) b) at d) h

  pub delete_done : has_explicit_root d ≡ true → (step totals d (event.Command delete_root now)).reply ≡ done_reply
  delete_done h = ap (λ (s : Step Counts). s.reply) (deleted h)

  pub delete-clock : has_explicit_root d ≡ true → (step totals d (event.Command delete_root now)).device.clock ≡ at
  delete-clock h = ap (λ (s : Step Counts). s.device.clock) (deleted h)

  pub delete-tree : has_explicit_root d ≡ true → forgotten (step totals d (event.Command delete_root now)).device.tree ≡ forgotten (new_tree totals d.tree.device)
  delete-tree h = ap (λ (s : Step Counts). forgotten s.device.tree) (deleted h)

  pub add_done : has_explicit_root d ≡ false → (step totals d (event.Command add_root now)).reply ≡ done_reply
  add_done h = ap (λ (s : Step Counts). s.reply) (added h)

  pub add-clock : has_explicit_root d ≡ false → (step totals d (event.Command add_root now)).device.clock ≡ at
  add-clock h = ap (λ (s : Step Counts). s.device.clock) (added h)

  pub add_explicit : has_explicit_root d ≡ false → has_explicit_root (step totals d (event.Command add_root now)).device ≡ true
  add_explicit h = ap (λ (s : Step Counts). has_explicit_root s.device) (added h)

-- ---- the lines on an emptied tree

module _ (now at : ℕ) (settings : DeviceSettings) (lines : List Command) (all : AllAreDone at lines (new_device totals settings)) where
  from_explicit : (d : DeviceState Counts) → d.tree.device ≡ settings_of settings → max d.clock now ≡ at → has_explicit_root d ≡ true
      → GoOnAlike now at lines (step totals d (event.Command delete_root now)).device (new_device totals settings)
  from_explicit d same here explicit =
      go_on_alike now at lines (step totals d (event.Command delete_root now)).device (new_device totals settings) (record {
        tree = delete-tree now d explicit ∙ ap (λ (x : Device). forgotten (new_tree totals x)) same;
        here = let first = delete-clock now d explicit in omega (arith, first, here);
        there = let none : max 0 at ≡ at = omega arith in none;
      }) all

  -- what empties a tree and the lines are all done, and then the tree is that of a new device that did the lines
  pub record Rebuilt (d : DeviceState Counts) : Type 0 where
    pub done : AllAreDone now (emptying (has_explicit_root d) lines) d
    pub tree : forgotten (after_all now (emptying (has_explicit_root d) lines) d).tree ≡ forgotten (after_all at lines (new_device totals settings)).tree

  -- the same of a choice
  abbrev Chosen : DeviceState Counts → Bool → Type 0
  Chosen d b =
      AllAreDone now (emptying b lines) d
      × (forgotten (after_all now (emptying b lines) d).tree ≡ forgotten (after_all at lines (new_device totals settings)).tree)

  chosen : (d : DeviceState Counts) → d.tree.device ≡ settings_of settings → max d.clock now ≡ at → (b : Bool) → has_explicit_root d ≡ b → Chosen d b
  chosen d same here true explicit =
      let rest = from_explicit d same here explicit in ((delete_done now d explicit, rest.done), rest.like.tree)
  chosen d same here false implicit =
      let next = (step totals d (event.Command add_root now)).device in
      let explicit = add_explicit now d implicit in
      let clock : max next.clock now ≡ at = let first = add-clock now d implicit in omega (arith, first, here) in
      let rest = from_explicit next (device-step d (event.Command add_root now) ∙ same) clock explicit in
      ((add_done now d implicit, (delete_done now next explicit, rest.done)), rest.like.tree)

  pub rebuilt : (d : DeviceState Counts) → d.tree.device ≡ settings_of settings → max d.clock now ≡ at → Rebuilt d
  rebuilt d same here = let c = chosen d same here (has_explicit_root d) refl in record { done = c.0; tree = c.1 }
