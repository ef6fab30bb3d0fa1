-- The report of a run: that of the model of the whole device, which keeps whole histories.
-- An allocation may fail at some lines; such a line says so.
use Rattle.std.specs.Prelude.{◌≡◌, ℕ, List, Option}
use Rattle.std.specs.Io.KnownBytes.{Appends}
use Rattle.q_model.specs.Tally.{Note}
use Rattle.q_script_semantics.specs.Report.{Effect, replay as whole_replay}
use Rattle.q_script.specs.declared.outcome.Outcome.{Outcome}
use Rattle.q_script.specs.Settings.{Settings}
use Rattle.q_script.specs.Step.{outcome_of}
use Rattle.q_session.specs.Session.{device_settings}
use Rattle.q_show.specs.Written.{AppendsFront}

-- a script's replay on a new device that keeps whole histories, with an allocation failure at these lines
abbrev pub replay : Settings → List ℕ → List ℕ → Effect (List Note)
replay settings script starved = whole_replay (device_settings settings) settings.seed script starved

abbrev pub report : Settings → List ℕ → List ℕ → List ℕ
report settings script starved = (replay settings script starved).text

-- how many lines were faulty or turned down
abbrev pub not_done : Settings → List ℕ → List ℕ → ℕ
not_done settings script starved = (replay settings script starved).session.not_done

-- Refused if some line was faulty or turned down
abbrev pub outcome : Settings → List ℕ → List ℕ → Outcome
outcome settings script starved = outcome_of (not_done settings script starved)

-- The writer has the report of the script and nothing else, with an allocation failure at some lines or none, and the
-- outcome is the report's.
pub record IsReported (settings : Settings) (script : List ℕ) (told : Outcome) (old new : Option (List ℕ)) : Type 0 where
  pub starved : List ℕ
  pub text : Appends old new (report settings script starved)
  pub outcome_is : told ≡ outcome settings script starved

-- and so many of its lines were not done
abbrev pub IsReportedOf : Settings → List ℕ → Outcome → ℕ → Option (List ℕ) → Option (List ℕ) → Type 0
IsReportedOf settings script told lines old new = (r : IsReported settings script told old new) × (lines ≡ not_done settings script r.starved)

-- the writer has a front of such a report, and some of the report is not written
abbrev pub IsPartlyReported : Settings → List ℕ → Option (List ℕ) → Option (List ℕ) → Type 0
IsPartlyReported settings script old new = (starved : List ℕ) × AppendsFront old new (report settings script starved)
