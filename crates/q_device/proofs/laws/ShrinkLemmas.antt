-- A step and a replay with totals are those with histories, shrunk.
use Rattle.std.proofs.Common.{◌∙◌, List, [], ◌∷◌, ◌++◌, refl, ap, ap₂}
use Rattle.q_model.specs.declared.event.Event.{Event}
use Rattle.q_model.specs.Replay.{Replay, nothing_yet, with_step, replay_from, replay}
use Rattle.q_model.specs.Settings.{DeviceSettings}
use Rattle.q_model.specs.ShrinkDevice.{shrunk, IsShrunkStep, IsShrunkReplay}
use Rattle.q_model.specs.Step.{DeviceState, Step, step}
use Rattle.q_model.specs.Tally.{Note, Counts, counts_in, history, totals}
use Rattle.q_model.proofs.ShrinkLemmas.{totals_for_history}
use Rattle.q_model.proofs.ShrinkSteps.{new_tree-stands}
use Rattle.q_device.proofs.device.StepStands.{step-stands}

pub step-shrunk : (d : DeviceState (List Note)) (e : Event) → IsShrunkStep (step history d e) (step totals (shrunk d) e)
step-shrunk d e =
    let s = step-stands history totals counts_in totals_for_history d e in
    record { device = s.device; reply = s.reply; losses = s.losses }

-- a whole replay, from a replay so far and its shrunk form
pub replay_from-shrunk : (r : Replay (List Note)) (s : Replay Counts) → IsShrunkReplay r s → (events : List Event) → IsShrunkReplay (replay_from history r events) (replay_from totals s events)
replay_from-shrunk r s h [] = h
replay_from-shrunk r s h (e ∷ events) =
    let first = step-shrunk r.device e in
    let same = ap (λ (d : DeviceState Counts). step totals d e) h.device in
    replay_from-shrunk (with_step r (step history r.device e)) (with_step s (step totals s.device e)) (record {
      device = first.device ∙ ap (λ (x : Step Counts). x.device) same;
      replies = ap₂ (λ a b. a ++ b ∷ []) h.replies (first.reply ∙ ap (λ (x : Step Counts). x.reply) same);
      losses = ap₂ (λ a b. a ++ b) h.losses (first.losses ∙ ap (λ (x : Step Counts). x.losses) same);
    }) events

pub replay-shrunk : (settings : DeviceSettings) (events : List Event) → IsShrunkReplay (replay history settings events) (replay totals settings events)
replay-shrunk settings events = replay_from-shrunk (nothing_yet history settings) (nothing_yet totals settings) (record {
  device = ap (λ t. record { clock = 0; tree = t }) (new_tree-stands history totals counts_in totals_for_history (record { mtu = settings.mtu; txqueuelen = settings.txqueuelen }));
  replies = refl;
  losses = refl;
}) events
