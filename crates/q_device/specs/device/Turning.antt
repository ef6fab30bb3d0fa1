-- A turn of a program's loop: the polls that are due, the losses that wait, and when to come back.
-- Nothing here is of a standard.
use Rattle.std.specs.Prelude.{◌≡◌, ℕ, Bool, true, false, List, Option, Some, None}
use Rattle.q_packet.specs.Descriptor.{Descriptor}
use Rattle.q_codel.specs.declared.loss.Loss.{Loss}
use Rattle.q_model.specs.Step.{counts_at}
use Rattle.q_tree.specs.answers.ReadyAt.{is_before}
use Rattle.q_device.specs.declared.given.Given.{Given}
use Rattle.q_device.specs.declared.turn.Turned.{Turned}
use Rattle.q_device.specs.device.Bursts.{IsPolls}
use Rattle.q_device.specs.device.DeviceSeen.{DeviceSeen}
use Rattle.q_device.specs.device.Reaps.{IsReaps}
use Rattle.q_device.specs.Waiting.{ready}

-- a poll at this time counts before the device is ready
abbrev pub is_early : ℕ → DeviceSeen → Bool
is_early now d = is_before (Some (counts_at now d.device)) (ready d.device)

-- A poll would be too early, and none was made; or none would, and there were as many polls as there are places, up to the first that gave
-- no packet.
abbrev pub IsSent : {A : Type 0} → (Descriptor → A) → ℕ → Option Given → ℕ → List A → List A → DeviceSeen → DeviceSeen → Type 0
IsSent told now None count before after d n = (is_early now d ≡ true) × (count ≡ 0) × (after ≡ before) × (n ≡ d)
IsSent told now (Some answer) count before after d n = (is_early now d ≡ false) × IsPolls told now answer count before after d n

-- Polls if any is due, then reaps, and the time at which what is left is ready.
pub record IsTurn {A B : Type 0} (told : Descriptor → A) (told_loss : Loss → B) (now : ℕ) (turned : Turned) (before after : List A) (lost_before lost_after : List B) (d n : DeviceSeen) : Type 0 where
  pub polled : DeviceSeen
  pub sends : IsSent told now turned.answer turned.sent before after d polled
  pub reaps : IsReaps told_loss turned.lost lost_before lost_after polled n
  pub again : turned.again ≡ ready n.device
