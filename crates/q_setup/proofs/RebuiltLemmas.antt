-- What a device of the code has after commands, and after its tree was built anew.
use Rattle.std.proofs.Common.{◌≡◌, ◌≤◌, ◌∙◌, ℕ, List, [], ◌∷◌, ◌++◌, length, max, Result, Ok, Err, refl, sym, ap, subst, arith}
use Rattle.std.proofs.lemmas.List.{take_all}
use Rattle.std.specs.Prelude.{Bool, IfSome, Option, Some, None, take, slice_get}
use Rattle.q_model.specs.declared.command.Command.{Command}
use Rattle.q_model.specs.declared.event.Event.TheVariants as event
use Rattle.q_model.specs.declared.refusal.Refusal.{Refusal}
use Rattle.q_model.specs.declared.refusal.Refusal.TheVariants as refusals
use Rattle.q_model.specs.declared.reply.Reply.{Reply}
use Rattle.q_model.specs.Edit.{Edit}
use Rattle.q_model.specs.Node.{shape}
use Rattle.q_model.specs.Settings.{DeviceSettings}
use Rattle.q_model.specs.Step.{DeviceState, answered, step}
use Rattle.q_model.specs.Tally.{Counts, totals}
use Rattle.q_model.specs.TreeState.{TreeState, plan}
use Rattle.q_tree.specs.commands.Commanding.{MayTakeMemory}
use Rattle.q_device.specs.device.DeviceSeen.{DeviceSeen, IsRefusal, Memory, with_event}
use Rattle.q_device.specs.DeviceLaws.{IsReplayed}
use Rattle.q_setup.specs.Alike.{AreAlike, entries}
use Rattle.q_setup.specs.Anew.{AllAreDone, IsTrial, after_all, emptying, has_explicit_root}
use Rattle.q_setup.specs.Done.{AreAccepted, GoesOn, IsRefusedAs, IsRefusedBy, after_commands}
use Rattle.q_setup.specs.Tried.{Tried}
use Rattle.q_setup.proofs.EmptiedTrees.{Rebuilt, device-settings, rebuilt}
use Rattle.q_setup.proofs.EntryLemmas.{entries-seen}
use Rattle.q_setup.proofs.SameTrees.{done_in_place, done_reply, forgotten}
use Rattle.q_setup.proofs.SelfLemmas.{self_alike}

-- ---- commands

pub device-after : (now : ℕ) (cs : List Command) (d : DeviceSeen) → (after_commands now cs d).device ≡ after_all now cs d.device
device-after now [] d = refl
device-after now (c ∷ cs) d = device-after now cs (with_event (event.Command c now) d)

pub settings-after : (now : ℕ) (cs : List Command) (d : DeviceSeen) → (after_commands now cs d).settings ≡ d.settings
settings-after now [] d = refl
settings-after now (c ∷ cs) d = settings-after now cs (with_event (event.Command c now) d)

clock-answered : (answer : Result Edit Refusal) (now : ℕ) (d : DeviceState Counts) → max (answered totals answer (max d.clock now) d).device.clock now ≡ max d.clock now
clock-answered (Ok edit) now d = omega arith
clock-answered (Err refusal) now d = refl

clock-step : (now : ℕ) (c : Command) (d : DeviceState Counts) → max (step totals d (event.Command c now)).device.clock now ≡ max d.clock now
clock-step now c d = clock-answered (plan d.tree.device (max d.clock now) c (shape d.tree.root)) now d

pub clock-after : (now : ℕ) (cs : List Command) (d : DeviceSeen) → max (after_commands now cs d).device.clock now ≡ max d.device.clock now
clock-after now [] d = refl
clock-after now (c ∷ cs) d = clock-after now cs (with_event (event.Command c now) d) ∙ clock-step now c d.device

-- other memory
after-memory : (now : ℕ) (cs : List Command) (d : DeviceSeen) (m : Memory) → after_commands now cs (record d { memory = m }) ≡ record (after_commands now cs d) { memory = m }
after-memory now [] d m = refl
after-memory now (c ∷ cs) d m = after-memory now cs (with_event (event.Command c now) d) m

accepted_memory : (now : ℕ) (cs : List Command) (d : DeviceSeen) (m : Memory) → AreAccepted now cs (record d { memory = m }) → AreAccepted now cs d
accepted_memory now [] d m h = tt
accepted_memory now (c ∷ cs) d m h = (h.0, accepted_memory now cs (with_event (event.Command c now) d) m h.1)

-- commands after commands
after-append : (now : ℕ) (cs ds : List Command) (d : DeviceSeen) → after_commands now (cs ++ ds) d ≡ after_commands now ds (after_commands now cs d)
after-append now [] ds d = refl
after-append now (c ∷ cs) ds d = after-append now cs ds (with_event (event.Command c now) d)

accepted_append : (now : ℕ) (cs ds : List Command) (d : DeviceSeen) → AreAccepted now cs d → AreAccepted now ds (after_commands now cs d) → AreAccepted now (cs ++ ds) d
accepted_append now [] ds d h k = k
accepted_append now (c ∷ cs) ds d h k = (h.0, accepted_append now cs ds (with_event (event.Command c now) d) h.1 k)

module _ (now : ℕ) (cs after : List Command) (old mid new : DeviceSeen) (is : mid ≡ record (after_commands now cs old) { memory = mid.memory }) (goes : GoesOn now cs after mid new) where
  pub after-both : new ≡ record (after_commands now after old) { memory = new.memory }
  after-both =
      goes.device
      ∙ ap (λ (d : DeviceSeen). record (after_commands now goes.more d) { memory = new.memory }) is
      ∙ ap (λ (d : DeviceSeen). record d { memory = new.memory }) (after-memory now goes.more (after_commands now cs old) mid.memory)
      ∙ ap (λ (d : DeviceSeen). record d { memory = new.memory }) (sym (after-append now cs goes.more old))
      ∙ ap (λ (xs : List Command). record (after_commands now xs old) { memory = new.memory }) (sym goes.commands)

  pub accepted_both : AreAccepted now cs old → AreAccepted now after old
  accepted_both h =
      subst (λ (xs : List Command). AreAccepted now xs old) (sym goes.commands)
      (accepted_append now cs goes.more old h
      (accepted_memory now goes.more (after_commands now cs old) mid.memory (subst (AreAccepted now goes.more) is goes.accepted)))

-- ---- refusals

pub refused_by : (now : ℕ) (d : DeviceSeen) (c : Option Command) (refusal : Refusal) → IsRefusedAs now d c refusal → IsRefusedBy now d refusal
refused_by now d None refusal h = absurd h
refused_by now d (Some c) refusal h = (c, h)

-- of commands that a device does, one is refused for want of memory alone
pub for_memory : (now : ℕ) (cs : List Command) (old new : DeviceSeen) (i : ℕ) (refusal : Refusal) → AllAreDone now cs old.device
    → new ≡ record (after_commands now (take i cs) old) { memory = new.memory } → IsRefusedAs now new (slice_get cs i) refusal → refusal ≡ refusals.Memory
for_memory now cs old new i refusal all is h = by (slice_get cs i) refl h where
  by : (c : Option Command) → slice_get cs i ≡ c → IsRefusedAs now new c refusal → refusal ≡ refusals.Memory
  by None e h = absurd h
  by (Some c) e h =
      let device : new.device ≡ after_all now (take i cs) old.device = ap (λ (d : DeviceSeen). d.device) is ∙ device-after now (take i cs) old in
      let answer : (step totals new.device (event.Command c now)).reply ≡ done_reply =
      ap (λ (d : DeviceState Counts). (step totals d (event.Command c now)).reply) device ∙ done_in_place now cs old.device all i c e in
      (subst (λ (r : Reply). IsRefusal (MayTakeMemory c) r refusal) answer h).0

-- a trial for a device is one for what commands have made of it
pub trial_then : (now : ℕ) (cs : List Command) (old new : DeviceSeen) (t : Tried) → new ≡ record (after_commands now cs old) { memory = new.memory }
    → IsTrial old.settings (max old.device.clock now) t → IsTrial new.settings (max new.device.clock now) t
trial_then now cs old new t is h =
    subst (λ (s : DeviceSettings). IsTrial s (max new.device.clock now) t) (sym (ap (λ (d : DeviceSeen). d.settings) is ∙ settings-after now cs old))
    (subst (λ (at : ℕ). IsTrial old.settings at t) (sym (ap (λ (d : DeviceSeen). max d.device.clock now) is ∙ clock-after now cs old)) h)

-- ---- trees

-- trees that differ in what they remember alone are alike
pub alike_forgotten : (keep : Bool) (wanted tree : TreeState Counts) → forgotten tree ≡ forgotten wanted → AreAlike keep (entries wanted) (entries tree)
alike_forgotten keep wanted tree same =
    self_alike keep (entries wanted) (entries tree)
    (sym (entries-seen (λ (c : Counts). tt) wanted) ∙ sym (ap (λ (s : TreeState (Unit {0})). entries s) same) ∙ entries-seen (λ (c : Counts). tt) tree)

-- A tree that is built anew.
module _ (now : ℕ) (t : Tried) (cs : List Command) (old new : DeviceSeen) (trial : IsTrial old.settings (max old.device.clock now) t) (happened : IsReplayed old)
    (is : cs ≡ emptying (has_explicit_root old.device) t.commands) (n : ℕ) (after : new ≡ record (after_commands now (take n cs) old) { memory = new.memory }) where
  built : Rebuilt now (max old.device.clock now) old.settings t.commands trial.done old.device
  built = rebuilt now (max old.device.clock now) old.settings t.commands trial.done old.device (device-settings old happened) refl

  all : AllAreDone now cs old.device
  all = subst (λ (xs : List Command). AllAreDone now xs old.device) (sym is) built.done

  pub memory_alone : (o : Option Refusal) → IfSome o (IsRefusedAs now new (slice_get cs n)) → IfSome o (λ refusal. refusal ≡ refusals.Memory)
  memory_alone None h = h
  memory_alone (Some refusal) h = for_memory now cs old new n refusal all after h

  pub trees_alike : (keep : Bool) → n ≡ length cs → AreAlike keep (entries t.device.tree) (entries new.device.tree)
  trees_alike keep whole =
      let most : length cs ≤ n = omega (arith, whole) in
      let device : new.device ≡ after_all now cs old.device =
      ap (λ (d : DeviceSeen). d.device) after ∙ device-after now (take n cs) old ∙ ap (λ (xs : List Command). after_all now xs old.device) (take_all n cs most) in
      let same : forgotten new.device.tree ≡ forgotten t.device.tree =
      ap (λ (d : DeviceState Counts). forgotten d.tree) device
      ∙ ap (λ (xs : List Command). forgotten (after_all now xs old.device).tree) is
      ∙ built.tree
      ∙ sym (ap (λ (d : DeviceState Counts). forgotten d.tree) trial.device) in
      alike_forgotten keep t.device.tree new.device.tree same
