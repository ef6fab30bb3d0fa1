-- What polls do that go on until nothing goes any more: each comes at the time from which the device is ready then.
use Rattle.std.specs.Prelude.{◌≡◌, ℕ, ◌+◌, ◌-◌, ◌*◌, ◌^◌, Bool, true, false, if◌then◌else◌, List, [], ◌∷◌, length, Option, None, Some}
use Rattle.q_model.specs.declared.event.Event.TheVariants as event
use Rattle.q_model.specs.Beneath.{beneath}
use Rattle.q_model.specs.Step.{counts_at}
use Rattle.q_device.specs.device.DeviceSeen.{DeviceSeen, polled_memory, with_event}
use Rattle.q_device.specs.Waiting.{ready}
use Rattle.q_tree.specs.answers.ReadyAt.{is_before}
use Rattle.q_drive.specs.declared.draining.Drained.{Drained}

-- the device after a poll at this time
abbrev pub polled : ℕ → DeviceSeen → DeviceSeen
polled at d = record (with_event (event.Poll at) d) { memory = polled_memory (counts_at at d.device) d.memory }

-- the device was polled at these times and no others, each of them the time from which it was ready then
abbrev pub IsPolledWhenReady : List ℕ → DeviceSeen → DeviceSeen → Type 0
IsPolledWhenReady [] before after = after ≡ before
IsPolledWhenReady (at ∷ moments) before after = (ready before.device ≡ Some at) × IsPolledWhenReady moments (polled at before) after

-- No more such polls follow: one that gives a packet leaves fewer queued, and behind one that gives none the device is ready later.
abbrev pub polls_left : DeviceSeen → ℕ
polls_left d =
    2 * length (beneath d.device.tree.root) + 2 * (2 ^ 62 - d.device.clock) + (if is_before (Some d.device.clock) (ready d.device) then 0 else 1)

-- After such polls it is ready no more: nothing is queued, or what is queued never goes by waiting alone. They sent so many
-- packets and bytes, and its clock shows this time.
pub record IsDrained (before after : DeviceSeen) (d : Drained) : Type 0 where
  pub moments : List ℕ
  pub polls : IsPolledWhenReady moments before after
  pub ended : ready after.device ≡ None
  pub packets : before.device.tree.top.sent.packets + d.amount.packets ≡ after.device.tree.top.sent.packets
  pub bytes : before.device.tree.top.sent.bytes + d.amount.bytes ≡ after.device.tree.top.sent.bytes
  pub at : d.at ≡ after.device.clock

-- where it is asked for; else the device is as it was
abbrev pub IsDrainedIf : Bool → DeviceSeen → DeviceSeen → Option Drained → Type 0
IsDrainedIf false before after drained = (drained ≡ None) × (after ≡ before)
IsDrainedIf true before after None = ⊥
IsDrainedIf true before after (Some d) = IsDrained before after d
