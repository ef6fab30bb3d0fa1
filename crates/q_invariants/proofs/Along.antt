-- What holds in every state of a part of a replay, and what its steps come to together.
use Rattle.std.proofs.Common.{◌≡◌, List, [], ◌∷◌, ◌++◌, refl, sym, ap, subst}
use Rattle.std.specs.Prelude.{All}
use Rattle.std.proofs.lemmas.List.Elements.{All-head, All-tail}
use Rattle.q_model.specs.declared.event.Event.{Event}
use Rattle.q_model.specs.Events.{IsEvent}
use Rattle.q_model.specs.Tally.{Note, history}
use Rattle.q_model.specs.Replay.{Replay, with_step, replay_from, replay, nothing_yet}
use Rattle.q_model.specs.Settings.{DeviceSettings, IsInRange}
use Rattle.q_model.specs.Step.{DeviceState, step}
use Rattle.q_model.specs.Stretches.{Throughout}
use Rattle.q_invariants.proofs.Replays.{IsKept, step-kept, replay-kept}

-- one list of events after another
pub replay-twice : (r : Replay (List Note)) (xs ys : List Event) → replay_from history r (xs ++ ys) ≡ replay_from history (replay_from history r xs) ys
replay-twice r [] ys = refl
replay-twice r (x ∷ xs) ys = replay-twice (with_step r (step history r.device x)) xs ys

module _ (P : DeviceState (List Note) → Type 0) where
  abbrev Along : Replay (List Note) → List Event → Type 0
  Along r [] = P r.device
  Along r (e ∷ events) = P r.device × Along (with_step r (step history r.device e)) events

  along-from : (r : Replay (List Note)) (during : List Event) → ((seen later : List Event) → seen ++ later ≡ during → P (replay_from history r seen).device) → Along r during
  along-from r [] h = h [] [] refl
  along-from r (e ∷ during) h =
      (h [] (e ∷ during) refl, along-from (with_step r (step history r.device e)) during (λ seen later is. h (e ∷ seen) later (ap (λ es. e ∷ es) is)))

  first-of : (r : Replay (List Note)) (during : List Event) → Along r during → P r.device
  first-of r [] h = h
  first-of r (e ∷ during) h = h.0

  -- what each step moves, and what two moves come to
  module _ (Moves : DeviceState (List Note) → DeviceState (List Note) → Type 0)
      (still : (d : DeviceState (List Note)) → IsKept d → P d → Moves d d)
      (one : (d : DeviceState (List Note)) (e : Event) → IsKept d → IsEvent e → P d → P (step history d e).device → Moves d (step history d e).device)
      (more : (a b c : DeviceState (List Note)) → P a → P b → Moves a b → Moves b c → Moves a c) where
    moves-along : (r : Replay (List Note)) (during : List Event) → IsKept r.device → All IsEvent during → Along r during → Moves r.device (replay_from history r during).device
    moves-along r [] kept all h = still r.device kept h
    moves-along r (e ∷ during) kept all h =
        let next : Replay (List Note) = with_step r (step history r.device e) in
        let event : IsEvent e = All-head IsEvent e during all in
        let there : P next.device = first-of next during h.1 in
        more r.device next.device (replay_from history next during).device h.0 there (one r.device e kept event h.0 there)
        (moves-along next during (step-kept r.device e kept event) (All-tail IsEvent e during all) h.1)

    pub moves : (settings : DeviceSettings) (before during : List Event) → IsInRange settings → All IsEvent before → All IsEvent during → Throughout P settings before during
        → Moves (replay history settings before).device (replay history settings (before ++ during)).device
    moves settings before during range all_before all_during h =
        let r : Replay (List Note) = replay history settings before in
        let on : (seen : List Event) → (replay history settings (before ++ seen)).device ≡ (replay_from history r seen).device =
        λ seen. ap (λ (x : Replay (List Note)). x.device) (replay-twice (nothing_yet history settings) before seen) in
        subst (λ (d : DeviceState (List Note)). Moves r.device d) (sym (on during))
        (moves-along r during (replay-kept settings before range all_before) all_during (along-from r during (λ seen later is. subst P (on seen) (h seen later is))))

  -- the same where what is moved is counted along the events
  module _ (Moves : DeviceState (List Note) → List Event → DeviceState (List Note) → Type 0)
      (still : (d : DeviceState (List Note)) → IsKept d → P d → Moves d [] d)
      (more : (d : DeviceState (List Note)) (e : Event) (during : List Event) (end : DeviceState (List Note)) → IsKept d → IsEvent e → P d → P (step history d e).device
      → Moves (step history d e).device during end → Moves d (e ∷ during) end) where
    counted-along : (r : Replay (List Note)) (during : List Event) → IsKept r.device → All IsEvent during → Along r during → Moves r.device during (replay_from history r during).device
    counted-along r [] kept all h = still r.device kept h
    counted-along r (e ∷ during) kept all h =
        let next : Replay (List Note) = with_step r (step history r.device e) in
        let event : IsEvent e = All-head IsEvent e during all in
        more r.device e during (replay_from history next during).device kept event h.0 (first-of next during h.1)
        (counted-along next during (step-kept r.device e kept event) (All-tail IsEvent e during all) h.1)

    pub counted : (settings : DeviceSettings) (before during : List Event) → IsInRange settings → All IsEvent before → All IsEvent during → Throughout P settings before during
        → Moves (replay history settings before).device during (replay history settings (before ++ during)).device
    counted settings before during range all_before all_during h =
        let r : Replay (List Note) = replay history settings before in
        let on : (seen : List Event) → (replay history settings (before ++ seen)).device ≡ (replay_from history r seen).device =
        λ seen. ap (λ (x : Replay (List Note)). x.device) (replay-twice (nothing_yet history settings) before seen) in
        subst (λ (d : DeviceState (List Note)). Moves r.device during d) (sym (on during))
        (counted-along r during (replay-kept settings before range all_before) all_during (along-from r during (λ seen later is. subst P (on seen) (h seen later is))))
