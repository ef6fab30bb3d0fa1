-- A replay so far, with an event more.
use Rattle.std.proofs.Common.{◌≡◌, ◌∙◌, ℕ, ◌+◌, ◌<◌, List, [], ◌∷◌, ◌++◌, drop, length, get_or, suc, sym, ap, ap₂, arith}
use Rattle.std.proofs.Math.Seq.{drop-cons}
use Rattle.q_codel.specs.declared.loss.Loss.{Loss}
use Rattle.q_model.specs.declared.event.Event.{Event}
use Rattle.q_model.specs.declared.reply.Reply.{Reply}
use Rattle.q_model.specs.Replay.{Replay, replay_from}
use Rattle.q_model.specs.Step.{DeviceState, Step, step}
use Rattle.q_model.specs.Tally.{Counts, totals}

-- what an event has made of a device, its replies and its losses
pub record IsStep (s : Step Counts) (before : List Loss) (device : DeviceState Counts) (reply : Reply) (losses : List Loss) : Type 0 where
  pub device_is : device ≡ s.device
  pub reply_is : reply ≡ s.reply
  pub losses_is : losses ≡ before ++ s.losses

pub played-on : (r : Replay Counts) (events : List Event) (i : ℕ) (e : Event) → i < length events → e ≡ get_or events i e → (whole : Replay Counts) → replay_from totals r (drop i events) ≡ whole
    → (device : DeviceState Counts) (reply : Reply) (losses : List Loss) → IsStep (step totals r.device e) r.losses device reply losses
    → replay_from totals (record { device = device; replies = r.replies ++ reply ∷ []; losses = losses }) (drop (i + 1) events) ≡ whole
played-on r events i e within there whole so_far device reply losses h =
    let next : suc i ≡ i + 1 = omega arith in
    let begins : drop i events ≡ e ∷ drop (i + 1) events = drop-cons events i e within ∙ ap₂ (λ x n. x ∷ drop n events) (sym there) next in
    ap (λ (s : Replay Counts). replay_from totals s (drop (i + 1) events)) (λ j. record { device = h.device_is j; replies = r.replies ++ h.reply_is j ∷ []; losses = h.losses_is j })
    ∙ ap (replay_from totals r) (sym begins) ∙ so_far
