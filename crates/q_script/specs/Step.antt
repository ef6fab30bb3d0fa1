-- What a script makes of a session, and what it writes: line by line, whatever the lines mean.
-- A session says itself what a line does; here is what follows for a whole script, and for a run that fails on the way.
use Rattle.std.specs.Prelude.{◌≡◌, ◌==◌, ℕ, suc, Bool, if◌then◌else◌, List, [], ◌∷◌, ◌++◌, Option}
use Rattle.std.specs.Io.KnownBytes.{Appends}
use Rattle.q_show.specs.Written.{AppendsFront, IsBuffered}
use Rattle.q_script.specs.Script.{lines_of, is_starved}
use Rattle.q_script.specs.declared.outcome.Outcome.{Outcome}
use Rattle.q_script.specs.declared.outcome.Outcome.TheVariants.{Clean, Refused}

-- what a line writes, and what it leaves
pub record Effect (S : Type 0) : Type 0 where
  pub text : List ℕ
  pub session : S

-- the lines in turn, the first of which has this number
abbrev pub replayed : {S : Type 0} → (Bool → ℕ → List ℕ → S → Effect S) → (ℕ → Bool) → ℕ → List (List ℕ) → S → Effect S
replayed effect starved k [] s = record { text = []; session = s }
replayed effect starved k (line ∷ lines) s =
    let first = effect (starved k) k line s in
    let rest = replayed effect starved (suc k) lines first.session in
    record rest { text = first.text ++ rest.text }

-- the replay of a whole script, with an allocation failure at these lines
abbrev pub run_of : {S : Type 0} → (Bool → ℕ → List ℕ → S → Effect S) → List ℕ → List ℕ → S → Effect S
run_of effect starved script first = replayed effect (is_starved starved) 1 (lines_of script) first

-- the line had its effect, and its text is written or buffered
abbrev pub HasEffect : {S : Type 0} → (Bool → ℕ → List ℕ → S → Effect S) → ℕ → List ℕ → S → S → Option (List ℕ) → Option (List ℕ) → List ℕ → List ℕ → Type 0
HasEffect effect k line old new held holds before after =
    (starved : Bool) × (new ≡ (effect starved k line old).session) × IsBuffered held holds after (before ++ (effect starved k line old).text)

-- the writer failed within the line's text
abbrev pub FailsWithin : {S : Type 0} → (Bool → ℕ → List ℕ → S → Effect S) → ℕ → List ℕ → S → Option (List ℕ) → Option (List ℕ) → List ℕ → Type 0
FailsWithin effect k line old held holds before =
    (starved : Bool) × AppendsFront held holds (before ++ (effect starved k line old).text)

-- the whole report was written, and the session is as its replay leaves it
pub record IsWholeRun {S : Type 0} (effect : Bool → ℕ → List ℕ → S → Effect S) (script : List ℕ) (first last : S) (old new : Option (List ℕ)) : Type 0 where
  pub starved : List ℕ
  pub text : Appends old new (run_of effect starved script first).text
  pub session : last ≡ (run_of effect starved script first).session

-- how a script went of which so many lines were not done
abbrev pub outcome_of : ℕ → Outcome
outcome_of lines = if lines == 0 then Clean else Refused

-- The writer has the report of the script and nothing else, with an allocation failure at some lines or none; the session is as its
-- replay leaves it, and the outcome is that of the lines that were not done.
pub record IsRun {S : Type 0} (effect : Bool → ℕ → List ℕ → S → Effect S) (not_done : S → ℕ) (script : List ℕ) (first last : S) (told : Outcome) (old new : Option (List ℕ)) : Type 0 where
  pub starved : List ℕ
  pub text : Appends old new (run_of effect starved script first).text
  pub session : last ≡ (run_of effect starved script first).session
  pub outcome_is : told ≡ outcome_of (not_done last)

-- the writer has a front of such a report, and some of the report is not written
abbrev pub IsPartlyRun : {S : Type 0} → (Bool → ℕ → List ℕ → S → Effect S) → List ℕ → S → Option (List ℕ) → Option (List ℕ) → Type 0
IsPartlyRun effect script first old new = (starved : List ℕ) × AppendsFront old new (run_of effect starved script first).text
