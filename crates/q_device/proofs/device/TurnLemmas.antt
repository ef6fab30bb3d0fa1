-- A turn: its polls, and then its reaps.
use Rattle.std.proofs.Common.{◌≡◌, ◌∙◌, ℕ, List, refl, sym, ap, subst, Bool, true, false, Option, Some, None}
use Rattle.std.specs.Prelude.{max}
use Rattle.q_packet.specs.Descriptor.{Descriptor}
use Rattle.q_codel.specs.declared.loss.Loss.{Loss}
use Rattle.q_tree.specs.answers.ReadyAt.{is_before}
use Rattle.q_device.specs.declared.given.Given.{Given}
use Rattle.q_device.specs.device.Bursts.{IsPolls}
use Rattle.q_device.specs.device.DeviceSeen.{DeviceSeen}
use Rattle.q_device.specs.device.Reaps.{IsReaps}
use Rattle.q_device.specs.device.Turning.{IsSent, IsTurn, is_early}
use Rattle.q_device.specs.Waiting.{ready}

-- what the code asks is whether a poll would be too early
asks-early : (now clock : ℕ) (again : Option ℕ) (d m : DeviceSeen) (b : Bool) → again ≡ ready d.device → m ≡ d → clock ≡ m.device.clock
    → b ≡ is_before (Some (max clock now)) again → is_early now d ≡ b
asks-early now clock again d m b asked same at is =
    sym (is ∙ (ap (λ (t : ℕ). is_before (Some (max t now)) again) (at ∙ ap (λ (x : DeviceSeen). x.device.clock) same) ∙ ap (λ (r : Option ℕ). is_before (Some (max d.device.clock now)) r) asked))

pub sent-early : {A : Type 0} (told : Descriptor → A) (now clock : ℕ) (again : Option ℕ) (before : List A) (d m : DeviceSeen) → again ≡ ready d.device → m ≡ d
    → clock ≡ m.device.clock → true ≡ is_before (Some (max clock now)) again → IsSent told now None 0 before before d m
sent-early told now clock again before d m asked same at is = (asks-early now clock again d m true asked same at is, refl, refl, same)

pub sent-due : {A : Type 0} (told : Descriptor → A) (now clock : ℕ) (again : Option ℕ) (answer : Given) (count : ℕ) (before after : List A) (d m n : DeviceSeen)
    → again ≡ ready d.device → m ≡ d → clock ≡ m.device.clock → false ≡ is_before (Some (max clock now)) again → IsPolls told now answer count before after m n
    → IsSent told now (Some answer) count before after d n
sent-due told now clock again answer count before after d m n asked same at is polls =
    (asks-early now clock again d m false asked same at is, subst (λ (x : DeviceSeen). IsPolls told now answer count before after x n) same polls)

-- losses that are handed out make no packet ready
pub turn-is : {A B : Type 0} (told : Descriptor → A) (told_loss : Loss → B) (now : ℕ) (sent lost : ℕ) (answer : Option Given) (again : Option ℕ) (before after : List A)
    (lost_before lost_after : List B) (d m n : DeviceSeen) → IsSent told now answer sent before after d m → again ≡ ready m.device → IsReaps told_loss lost lost_before lost_after m n
    → IsTurn told told_loss now (record { sent = sent; lost = lost; answer = answer; again = again }) before after lost_before lost_after d n
turn-is told told_loss now sent lost answer again before after lost_before lost_after d m n sends is reaps = record {
  polled = m;
  sends = sends;
  reaps = reaps;
  again = is ∙ ap (λ (x : DeviceSeen). ready x.device) (sym reaps.rest);
}
