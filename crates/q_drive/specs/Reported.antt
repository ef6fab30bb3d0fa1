-- What a whole drive writes: what standard input came to, and then what the senders did.
use Rattle.std.specs.Prelude.{◌≡◌, List, ℕ, ◌++◌, Option, None, Some, IfSome}
use Rattle.std.specs.Io.KnownBytes.{Appends}
use Rattle.q_script.specs.Step.{Effect, outcome_of, run_of}
use Rattle.q_script.specs.declared.outcome.Outcome.{Outcome}
use Rattle.q_script.specs.declared.outcome.Outcome.TheVariants.{Refused}
use Rattle.q_session.specs.Session.{SessionSeen, opened}
use Rattle.q_show.specs.Written.{AppendsFront}
use Rattle.q_drive.specs.Drive.{Drive}
use Rattle.q_drive.specs.Driven.{HasDriven}
use Rattle.q_drive.specs.SetUp.{effect_of}
use Rattle.q_drive.specs.Texts.{ending_text}
use Rattle.q_drive.specs.declared.driving.Driven.{Driven}

-- what the lines of standard input do to a new device, with an allocation failure at these lines
abbrev pub set_up : Drive → List ℕ → List ℕ → Effect SessionSeen
set_up s script starved = run_of effect_of starved script (opened s.device)

-- all that is written, where the senders come to this, or to nothing since an allocation failed
abbrev pub report : Drive → List ℕ → List ℕ → Option Driven → List ℕ
report s script starved driven = (set_up s script starved).text ++ ending_text s.show driven

-- how many lines were faulty or turned down
abbrev pub not_done : Drive → List ℕ → List ℕ → ℕ
not_done s script starved = (set_up s script starved).session.state.not_done

-- Refused where a line was faulty or turned down, or an allocation failed for the senders
abbrev pub outcome : Drive → List ℕ → List ℕ → Option Driven → Outcome
outcome s script starved None = Refused
outcome s script starved (Some d) = outcome_of (not_done s script starved)

-- The writer has the report and nothing else, with an allocation failure at some lines or none, and the outcome is the report's.
pub record IsDriven (s : Drive) (script : List ℕ) (told : Outcome) (old new : Option (List ℕ)) : Type 0 where
  pub starved : List ℕ
  pub driven : Option Driven
  pub has_driven : IfSome driven (HasDriven s)
  pub text : Appends old new (report s script starved driven)
  pub outcome_is : told ≡ outcome s script starved driven

-- and so many of its lines were not done
abbrev pub IsDrivenOf : Drive → List ℕ → Outcome → ℕ → Option (List ℕ) → Option (List ℕ) → Type 0
IsDrivenOf s script told lines old new = (r : IsDriven s script told old new) × (lines ≡ not_done s script r.starved)

-- the writer has a front of such a report, and some of the report is not written
pub record IsPartlyDriven (s : Drive) (script : List ℕ) (old new : Option (List ℕ)) : Type 0 where
  pub starved : List ℕ
  pub driven : Option Driven
  pub has_driven : IfSome driven (HasDriven s)
  pub text : AppendsFront old new (report s script starved driven)

-- the outcome of the script, or Refused if an allocation failed for the senders
abbrev pub outcome_with : Option Driven → Outcome → Outcome
outcome_with None told = Refused
outcome_with (Some d) told = told

-- what the senders came to was written behind the report of a script with this outcome
pub record IsEnded (s : Drive) (before told : Outcome) (old new : Option (List ℕ)) : Type 0 where
  pub driven : Option Driven
  pub has_driven : IfSome driven (HasDriven s)
  pub text : Appends old new (ending_text s.show driven)
  pub outcome_is : told ≡ outcome_with driven before

-- or a front of it
pub record IsPartlyEnded (s : Drive) (old new : Option (List ℕ)) : Type 0 where
  pub driven : Option Driven
  pub has_driven : IfSome driven (HasDriven s)
  pub text : AppendsFront old new (ending_text s.show driven)
