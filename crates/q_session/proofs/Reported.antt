-- What a session over totals writes is the report over whole histories.
use Rattle.std.proofs.Common.{◌≡◌, ◌∙◌, ℕ, suc, Bool, List, [], ◌∷◌, ◌++◌, Option, Some, None, Result, Ok, Err, IfOk, IfSome, refl, sym, ap, subst}
use Rattle.std.specs.Io.KnownBytes.{Appends}
use Rattle.q_line.specs.Grammar.{line_of}
use Rattle.q_model.specs.Tally.{totals}
use Rattle.q_script_semantics.specs.Report as report
use Rattle.q_script_semantics.specs.Report.{SessionState}
use Rattle.q_script_semantics.proofs.ReportLemmas.{replay-shrunk}
use Rattle.q_script.specs.declared.outcome.Outcome.{Outcome}
use Rattle.q_script.specs.declared.run_fault.RunFault.{RunFault}
use Rattle.q_script.specs.Script.{is_starved, lines_of}
use Rattle.q_script.specs.Settings.{Settings}
use Rattle.q_script.specs.Step.{Effect, IsPartlyRun, IsRun, outcome_of, replayed, run_of}
use Rattle.q_show.specs.Written.{AppendsFront}
use Rattle.q_session.specs.Reported.{IsPartlyReported, IsReported, IsReportedOf, not_done, report as text_of}
use Rattle.q_session.specs.Session.{SessionSeen, device_settings, effect_of, opened, seen}

abbrev pub missed : SessionSeen → ℕ
missed s = s.state.not_done

-- line by line
lines-are : (starved : ℕ → Bool) (k : ℕ) (lines : List (List ℕ)) (s : SessionSeen) → replayed effect_of starved k lines s ≡ seen s (report.replayed totals s.seed starved k lines s.state)
lines-are starved k [] s = refl
lines-are starved k (l ∷ lines) s =
    let first = report.effect totals s.seed (starved k) k (line_of l) s.state in
    ap (λ (e : Effect SessionSeen). record e { text = first.text ++ e.text }) (lines-are starved (suc k) lines (record s { state = first.session }))

-- a whole script on a new device
script-is : (settings : Settings) (script starved : List ℕ)
    → run_of effect_of starved script (opened settings) ≡ seen (opened settings)
    (report.replay_with totals (device_settings settings) settings.seed script starved)
script-is settings script starved = lines-are (is_starved starved) 1 (lines_of script) (opened settings)

text-is : (settings : Settings) (script starved : List ℕ) → (run_of effect_of starved script (opened settings)).text ≡ text_of settings script starved
text-is settings script starved =
    ap (λ (e : Effect SessionSeen). e.text) (script-is settings script starved) ∙ sym (replay-shrunk (device_settings settings) settings.seed script starved).text

missed-is : (settings : Settings) (script starved : List ℕ) → missed (run_of effect_of starved script (opened settings)).session ≡ not_done settings script starved
missed-is settings script starved =
    ap (λ (e : Effect SessionSeen). missed e.session) (script-is settings script starved)
    ∙ sym (ap (λ s. s.not_done) (replay-shrunk (device_settings settings) settings.seed script starved).session)

whole : (settings : Settings) (script : List ℕ) (told : Outcome) (old new : Option (List ℕ)) (first last : SessionSeen) → first ≡ opened settings
    → IsRun effect_of missed script first last told old new → IsReportedOf settings script told (missed last) old new
whole settings script told old new first last is h =
    let r = subst (λ s. IsRun effect_of missed script s last told old new) is h in
    let lines = ap missed r.session ∙ missed-is settings script r.starved in (
      record {
        starved = r.starved;
        text = subst (Appends old new) (text-is settings script r.starved) r.text;
        outcome_is = r.outcome_is ∙ ap outcome_of lines;
      },
      lines,
    )

partly : (settings : Settings) (script : List ℕ) (old new : Option (List ℕ)) (first : SessionSeen) → first ≡ opened settings
    → IsPartlyRun effect_of script first old new → IsPartlyReported settings script old new
partly settings script old new first is h =
    let r = subst (λ s. IsPartlyRun effect_of script s old new) is h in
    (r.0, subst (AppendsFront old new) (text-is settings script r.0) r.1)

-- where it is known what the reader had
pub known : (P Q : List ℕ → Type 0) → ((all : List ℕ) → P all → Q all) → (had : Option (List ℕ)) → IfSome had P → IfSome had Q
known P Q f None h = tt
known P Q f (Some all) h = f all h

pub told-whole : (had old new : Option (List ℕ)) (settings : Settings) (first last : SessionSeen) (result : Result Outcome RunFault) → first ≡ opened settings
    → IfOk result (λ told. IfSome had (λ all. IsRun effect_of missed all first last told old new)) → IfOk result (λ told. IfSome had (λ all. IsReportedOf settings all told (missed last) old new))
told-whole had old new settings first last (Ok told) is h =
    known (λ all. IsRun effect_of missed all first last told old new) (λ all. IsReportedOf settings all told (missed last) old new) (λ all. whole settings all told old new first last is) had h
told-whole had old new settings first last (Err fault) is h = tt

-- without the number of lines
pub told-report : (had old new : Option (List ℕ)) (settings : Settings) (lines : ℕ) (result : Result Outcome RunFault)
    → IfOk result (λ told. IfSome had (λ all. IsReportedOf settings all told lines old new)) → IfOk result (λ told. IfSome had (λ all. IsReported settings all told old new))
told-report had old new settings lines (Ok told) h = known (λ all. IsReportedOf settings all told lines old new) (λ all. IsReported settings all told old new) (λ all r. r.0) had h
told-report had old new settings lines (Err fault) h = tt

pub told-partly : (had old new : Option (List ℕ)) (settings : Settings) (first : SessionSeen) → first ≡ opened settings
    → IfSome had (λ all. IsPartlyRun effect_of all first old new) → IfSome had (λ all. IsPartlyReported settings all old new)
told-partly had old new settings first is h = known (λ all. IsPartlyRun effect_of all first old new) (λ all. IsPartlyReported settings all old new) (λ all. partly settings all old new first is) had h
