-- A device that is the replay of events is, after one event more, the replay of those and it.
use Rattle.std.proofs.Common.{◌≡◌, ◌+◌, ◌-◌, ℕ, ◌<◌, ◌≤◌, max, List, [], ◌∷◌, ◌++◌, length, take, drop, refl, sym, ap, arith, ◌∙◌}
use mathlib.Core.Logic.{inl, inr}
use Rattle.std.proofs.Math.Seq.{take-nil}
use Rattle.std.proofs.lemmas.Bool.{cases_lt, cond_below, cond_above}
use Rattle.std.proofs.lemmas.List.{length-take, length-drop, length-append, length_push, take_all, take-append-le, drop-drop, drop-append-le}
use Rattle.q_codel.specs.declared.loss.Loss.{Loss}
use Rattle.q_model.specs.declared.event.Event.{Event}
use Rattle.q_model.specs.declared.event.Event.TheVariants as event
use Rattle.q_model.specs.Replay.{Replay, with_step, nothing_yet, replay}
use Rattle.q_model.specs.Settings.{DeviceSettings}
use Rattle.q_model.specs.Step.{DeviceState, arrive, poll, command, step}
use Rattle.q_model.specs.Tally.{Counts, totals}
use Rattle.q_device.proofs.laws.ReplayLemmas.{replay_from-append}
use Rattle.q_device.specs.device.DeviceSeen.{DeviceSeen, Memory, opened, as_counted, with_recorded, with_event, reaped}
use Rattle.q_device.specs.Replayed.{IsReplayOf}

-- a new device
pub opened-replay : (settings : DeviceSettings) (memory : Memory) → IsReplayOf [] (opened settings memory)
opened-replay settings memory = record { device = refl; handed_out = omega arith; waiting = refl; recorded = sym (take-nil settings.recorder); counted = omega arith }

-- it does not matter with which memory
pub replay-with : (events : List Event) (d : DeviceSeen) (memory : Memory) → IsReplayOf events d → IsReplayOf events (record d { memory = memory })
replay-with events d memory h = record { device = h.device; handed_out = h.handed_out; waiting = h.waiting; recorded = h.recorded; counted = h.counted }

-- the recorded event does what the event did
step-counted : (d : DeviceState Counts) (e : Event) → step totals d (as_counted d e) ≡ step totals d e
step-counted d (event.Arrive p moment) = let twice : max d.clock (max d.clock moment) ≡ max d.clock moment = omega arith in ap (λ now. arrive totals p now d) twice
step-counted d (event.Poll moment) = let twice : max d.clock (max d.clock moment) ≡ max d.clock moment = omega arith in ap (λ now. poll totals now d) twice
step-counted d (event.Command c moment) = let twice : max d.clock (max d.clock moment) ≡ max d.clock moment = omega arith in ap (λ now. command totals c now d) twice

-- the first of one event more
recorded-more : (most : ℕ) (events : List Event) (e : Event) → with_recorded most e (take most events) ≡ take most (events ++ e ∷ [])
recorded-more most events e = elim (cases_lt (length events) most) [ inl below ↦ room below | inr above ↦ full above ]
  where
    room : length events < most → with_recorded most e (take most events) ≡ take most (events ++ e ∷ [])
    room below =
        ap (with_recorded most e) (take_all most events (omega (arith, below)))
        ∙ sym (cond_below (length events) most (events ++ e ∷ []) events below)
        ∙ sym (take_all most (events ++ e ∷ []) (omega (arith, below, length_push events e)))

    full : most ≤ length events → with_recorded most e (take most events) ≡ take most (events ++ e ∷ [])
    full above =
        let long : length (take most events) ≡ most = omega (arith, above, length-take most events) in
        sym (cond_above (length (take most events)) most (take most events ++ e ∷ []) (take most events) (take most events) (omega (arith, long)) refl)
        ∙ sym (take-append-le most events (e ∷ []) above)

module _ (events : List Event) (d : DeviceSeen) (h : IsReplayOf events d) where
  -- the replay of the longer list
  pub goes-on : (e : Event) → replay totals d.settings (events ++ as_counted d.device e ∷ []) ≡ with_step (replay totals d.settings events) (step totals d.device e)
  goes-on e =
      let r = replay totals d.settings events in
      let e2 = as_counted d.device e in
      replay_from-append totals (nothing_yet totals d.settings) events e2
      ∙ ap (with_step r) (ap (λ (x : DeviceState Counts). step totals x e2) (sym h.device) ∙ step-counted d.device e)

  pub replay-more : (e : Event) → IsReplayOf (events ++ as_counted d.device e ∷ []) (with_event e d)
  replay-more e =
      let r = replay totals d.settings events in
      let s = step totals d.device e in
      let e2 = as_counted d.device e in
      let losses : (replay totals d.settings (events ++ e2 ∷ [])).losses ≡ r.losses ++ s.losses = ap (λ (x : Replay Counts). x.losses) (goes-on e) in
      record {
        device = sym (ap (λ (x : Replay Counts). x.device) (goes-on e));
        handed_out = omega (arith, h.handed_out, ap length losses, length-append r.losses s.losses);
        waiting = ap (λ ls. ls ++ s.losses) h.waiting ∙ sym (drop-append-le d.handed_out r.losses s.losses h.handed_out) ∙ ap (drop d.handed_out) (sym losses);
        recorded = ap (with_recorded d.settings.recorder e2) h.recorded ∙ recorded-more d.settings.recorder events e2;
        counted = omega (arith, h.counted, length_push events e2);
      }

  -- the oldest loss handed out
  pub replay-reaped : IsReplayOf events (reaped d)
  replay-reaped =
      let all = (replay totals d.settings events).losses in
      let waits : length d.waiting ≡ length all - d.handed_out = ap length h.waiting ∙ length-drop d.handed_out all in
      record {
        device = h.device;
        handed_out = omega (arith, h.handed_out, waits, length-take 1 d.waiting);
        waiting = by d.waiting h.waiting;
        recorded = h.recorded;
        counted = h.counted;
      }
    where
      by : (ls : List Loss) → ls ≡ drop d.handed_out (replay totals d.settings events).losses → drop 1 ls ≡ drop (d.handed_out + length (take 1 ls)) (replay totals d.settings events).losses
      by [] is = is ∙ ap (λ n. drop n (replay totals d.settings events).losses) (let same : d.handed_out ≡ d.handed_out + 0 = omega arith in same)
      by (l ∷ rest) is = ap (drop 1) is ∙ drop-drop 1 d.handed_out (replay totals d.settings events).losses
