-- The replay of one list after another.
use Rattle.std.proofs.Common.{◌≡◌, List, [], ◌∷◌, ◌++◌, refl}
use Rattle.q_model.specs.Tally.{Tally}
use Rattle.q_model.specs.declared.event.Event.{Event}
use Rattle.q_model.specs.Step.{step}
use Rattle.q_model.specs.Replay.{Replay, replay_from, with_step}

pub replay_from-append : {M : Type 0} (t : Tally M) (r : Replay M) (events : List Event) (e : Event)
    → replay_from t r (events ++ e ∷ []) ≡ with_step (replay_from t r events) (step t (replay_from t r events).device e)
replay_from-append t r [] e = refl
replay_from-append t r (first ∷ events) e = replay_from-append t (with_step r (step t r.device first)) events e
