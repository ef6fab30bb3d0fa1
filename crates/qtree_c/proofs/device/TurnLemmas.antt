-- A turn, and what is noted of it in the ring beside the device.
use Rattle.std.proofs.Common.{◌≡◌, ◌∙◌, ℕ, ◌+◌, ◌-◌, ◌^◌, List, [], refl, sym, ap, ap₂, Bool, Option, Some, None}
use Rattle.std.specs.Prelude.{false, if◌then◌else◌, length, unwrap_or}
use Rattle.q_device.specs.device.DeviceSeen.{DeviceSeen}
use Rattle.q_device.specs.device.Polls.{given_by}
use Rattle.q_device.specs.device.Turning as turning
use Rattle.q_device.specs.device.Turning.{IsSent, is_early}
use Rattle.q_device.specs.log.LastNoted.{LastNoted}
use Rattle.q_device.specs.declared.given.Given.{Given}
use Rattle.q_device.specs.declared.given.Given.TheVariants as given
use Rattle.q_device.specs.declared.turn.Turned.{Turned}
use Rattle.q_device.proofs.Polling.{idle-gives_none, later-gives_none}
use Rattle.qtree_c.specs.abi.Structs.{sent_of}
use Rattle.qtree_c.specs.device.Folds.{answer_by}
use Rattle.qtree_c.specs.device.Turns.{IsTurn, lost_of, polls_of_turn, turn_events}
use Rattle.qtree_c.specs.events.Noting.{noting, poll_events}
use Rattle.qtree_c.specs.declared.abi.c_lost.CLost.{CLost}
use Rattle.qtree_c.specs.declared.abi.c_sent.CSent.{CSent}
use Rattle.qtree_c.proofs.device.Polling.{none-clock, packets-clock, polls-are}
use Rattle.qtree_c.proofs.events.NotingLemmas.{noted-polls}

-- as C has it
pub turn-told : (now : ℕ) (t : Turned) (before after : List CSent) (lost_before lost_after : List CLost) (d n : DeviceSeen)
    → turning.IsTurn sent_of lost_of now t before after lost_before lost_after d n
    → IsTurn now 0 (record { sent = t.sent; lost = t.lost; again = unwrap_or t.again (2 ^ 64 - 1) }) before after lost_before lost_after d n
turn-told now t before after lost_before lost_after d n h = record {
  done = refl;
  answer = t.answer;
  turn = record { polled = h.polled; sends = h.sends; reaps = h.reaps; again = refl };
  again = ap (λ (at : Option ℕ). unwrap_or at (2 ^ 64 - 1)) h.again;
}

-- nothing is noted
pub noting-none : (l : Option LastNoted) → l ≡ noting [] l
noting-none None = refl
noting-none (Some l) = refl

-- where the device was polled: what it was answered, and how many packets there were, say which polls
module _ (now count : ℕ) (before after : List CSent) (d m : DeviceSeen) (l l' : Option LastNoted) where
  -- a turn with this number for its answer
  noted-so : (code : ℕ) → code ≡ answer_by (length before) now d → count ≡ length (given_by (length before) now d) → is_early now d ≡ false
      → l' ≡ noting (poll_events now code count d) l → l' ≡ noting (turn_events now (length before) d) l
  noted-so code answered counted due noted =
      noted
      ∙ ap₂ (λ (c k : ℕ). noting (poll_events now c k d) l) answered counted
      ∙ ap (λ (b : Bool). noting (if b then [] else poll_events now (answer_by (length before) now d) (length (given_by (length before) now d)) d) l) (sym due)

  -- those of the turn at the time of the device that it left
  pub turn-noted : (answer : Option Given) → IsSent sent_of now answer count before after d m → l' ≡ noting (polls_of_turn m.device.clock answer count) l
      → l' ≡ noting (turn_events now (length before) d) l
  turn-noted None sends noted =
      noted ∙ ap (λ (b : Bool). noting (if b then [] else poll_events now (answer_by (length before) now d) (length (given_by (length before) now d)) d) l) (sym sends.0)
  turn-noted (Some given.Packet) sends noted =
      let h = polls-are sent_of now given.Packet count before after d m sends.1 in
      noted-so 0 h.answer h.given sends.0
      (noted-polls now count d m l l' (λ some. packets-clock sent_of now count before after d m sends.1 some) noted)
  turn-noted (Some given.Idle) sends noted =
      let h = polls-are sent_of now given.Idle count before after d m sends.1 in
      noted-so 30 h.answer h.given sends.0
      (noted-polls now (count + 1) d m l l' (λ some. none-clock sent_of now count before after d m given.Idle idle-gives_none sends.1) noted)
  turn-noted (Some given.Later) sends noted =
      let h = polls-are sent_of now given.Later count before after d m sends.1 in
      noted-so 31 h.answer h.given sends.0
      (noted-polls now (count + 1) d m l l' (λ some. none-clock sent_of now count before after d m given.Later later-gives_none sends.1) noted)
