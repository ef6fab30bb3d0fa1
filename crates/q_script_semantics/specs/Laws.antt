-- What holds of every report: a session whose nodes keep totals writes what one whose nodes keep whole histories writes.
-- So a program that keeps totals alone can write the report that is defined over histories.
use Rattle.std.specs.Prelude.{◌≡◌, ℕ, List}
use Rattle.q_model.specs.Tally.{Note, Counts, history, totals}
use Rattle.q_model.specs.Settings.{DeviceSettings}
use Rattle.q_model.specs.ShrinkDevice.{shrunk}
use Rattle.q_script_semantics.specs.Report.{SessionState, Effect, replay_with}

-- the same session, where each node keeps totals in place of its history
abbrev pub shrunk_session : SessionState (List Note) → SessionState Counts
shrunk_session s = record { device = shrunk s.device; waiting = s.waiting; moment = s.moment; packets = s.packets; not_done = s.not_done }

pub record IsShrunkEffect (e : Effect (List Note)) (f : Effect Counts) : Type 0 where
  pub text : e.text ≡ f.text
  pub session : shrunk_session e.session ≡ f.session

-- wherever an allocation fails
abbrev pub TotalsAreEnough : Type 0
TotalsAreEnough = (settings : DeviceSettings) (seed : ℕ) (script starved : List ℕ) →
    IsShrunkEffect (replay_with history settings seed script starved) (replay_with totals settings seed script starved)
