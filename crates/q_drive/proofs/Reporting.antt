-- What is written before the senders run, and behind it what they came to.
use Rattle.std.proofs.Common.{◌≡◌, ◌∙◌, ℕ, List, ◌++◌, Option, Some, None, Result, Ok, Err, IfOk, IfSome, refl, ap, subst, arith, ⊎_elim}
use Rattle.std.proofs.KnownBytes.{Appends-trans}
use Rattle.std.proofs.lemmas.List.{append_assoc}
use Rattle.std.specs.Io.KnownBytes.{Appends}
use Rattle.std.specs.declared.io.ErrorKind.{ErrorKind}
use Rattle.q_script.specs.Ended.{Ended}
use Rattle.q_script.specs.Step.{IsPartlyRun, IsRun, outcome_of}
use Rattle.q_script.specs.declared.outcome.Outcome.{Outcome}
use Rattle.q_script.specs.declared.source.Reads.{Reads}
use Rattle.q_script.specs.declared.run_fault.RunFault.{RunFault}
use Rattle.q_script.specs.declared.run_fault.RunFault.TheVariants as fault
use Rattle.q_script.proofs.WrittenLemmas.{front-longer, front-of}
use Rattle.q_session.specs.Session.{SessionSeen, opened}
use Rattle.q_session.proofs.Reported.{known}
use Rattle.q_show.specs.Writes.{MayWrite, WriteFailed}
use Rattle.q_show.specs.Written.{AppendsFront}
use Rattle.q_show.specs.declared.target.Writes.{Writes}
use Rattle.q_drive.specs.Drive.{Drive}
use Rattle.q_drive.specs.Driven.{HasDriven}
use Rattle.q_drive.specs.Reported.{IsDriven, IsDrivenOf, IsPartlyDriven, not_done, outcome, outcome_with, set_up}
use Rattle.q_drive.specs.SetUp.{effect_of}
use Rattle.q_drive.specs.Texts.{ending_text}
use Rattle.q_drive.specs.declared.driving.Driven.{Driven}

-- two texts, one put behind the other
pub in-turn : (o₀ o₁ o₂ a b : List ℕ) → o₁ ≡ o₀ ++ a → o₂ ≡ o₁ ++ b → o₂ ≡ o₀ ++ (a ++ b)
in-turn o₀ o₁ o₂ a b first second = second ∙ (ap (λ (o : List ℕ). o ++ b) first ∙ append_assoc o₀ a b)

abbrev pub missed : SessionSeen → ℕ
missed s = s.state.not_done

told_is : (s : Drive) (script starved : List ℕ) (told : Outcome) (driven : Option Driven) → told ≡ outcome_of (not_done s script starved) → outcome_with driven told ≡ outcome s script starved driven
told_is s script starved told None e = refl
told_is s script starved told (Some d) e = e

both : (s : Drive) (script : List ℕ) (driven : Option Driven) (told : Outcome) (old mid new : Option (List ℕ)) (first last : SessionSeen) → first ≡ opened s.device → IfSome driven (HasDriven s)
    → Appends mid new (ending_text s.show driven) → IsRun effect_of missed script first last told old mid → IsDrivenOf s script (outcome_with driven told) (missed last) old new
both s script driven told old mid new first last is has ending h =
    let r = subst (λ x. IsRun effect_of missed script x last told old mid) is h in
    let lines = ap missed r.session in (
      record {
        starved = r.starved;
        driven = driven;
        has_driven = has;
        text = Appends-trans old mid new (set_up s script r.starved).text (ending_text s.show driven) r.text ending;
        outcome_is = told_is s script r.starved told driven (r.outcome_is ∙ ap outcome_of lines);
      },
      lines,
    )

-- the senders' text was not written whole
ending_failed : (s : Drive) (script : List ℕ) (driven : Option Driven) (told : Outcome) (old mid new : Option (List ℕ)) (first last : SessionSeen)
    → first ≡ opened s.device → IfSome driven (HasDriven s)
    → AppendsFront mid new (ending_text s.show driven) → IsRun effect_of missed script first last told old mid → IsPartlyDriven s script old new
ending_failed s script driven told old mid new first last is has ending h =
    let r = subst (λ x. IsRun effect_of missed script x last told old mid) is h in
    let ahead = (set_up s script r.starved).text in
    record {
      starved = r.starved;
      driven = driven;
      has_driven = has;
      text = front-of old mid new (ending_text s.show driven) (ahead ++ ending_text s.show driven) (ahead, r.text, refl) ending;
    }

-- nor that of the lines
lines_failed : (s : Drive) (script : List ℕ) (old new : Option (List ℕ)) (first : SessionSeen) → first ≡ opened s.device → IsPartlyRun effect_of script first old new → IsPartlyDriven s script old new
lines_failed s script old new first is h =
    let r = subst (λ x. IsPartlyRun effect_of script x old new) is h in
    record {
      starved = r.0;
      driven = None;
      has_driven = tt;
      text = front-longer old new (set_up s script r.0).text (ending_text s.show None) r.1;
    }

pub told-whole : (had : Option (List ℕ)) (s : Drive) (driven : Option Driven) (told : Outcome) (old mid new : Option (List ℕ))
    (first last : SessionSeen)
    → first ≡ opened s.device → IfSome driven (HasDriven s)
    → Appends mid new (ending_text s.show driven) → IfSome had (λ all. IsRun effect_of missed all first last told old mid)
    → IfSome had (λ all. IsDrivenOf s all (outcome_with driven told) (missed last) old new)
told-whole had s driven told old mid new first last is has ending =
    known (λ all. IsRun effect_of missed all first last told old mid) (λ all. IsDrivenOf s all (outcome_with driven told) (missed last) old new)
    (λ all. both s all driven told old mid new first last is has ending) had

-- without the number of lines
pub told-report : (had old new : Option (List ℕ)) (s : Drive) (lines : ℕ) (result : Result Outcome RunFault)
    → IfOk result (λ told. IfSome had (λ all. IsDrivenOf s all told lines old new)) → IfOk result (λ told. IfSome had (λ all. IsDriven s all told old new))
told-report had old new s lines (Ok told) h = known (λ all. IsDrivenOf s all told lines old new) (λ all. IsDriven s all told old new) (λ all r. r.0) had h
told-report had old new s lines (Err fault) h = tt

pub told-ending : (had : Option (List ℕ)) (s : Drive) (driven : Option Driven) (told : Outcome) (old mid new : Option (List ℕ))
    (first last : SessionSeen)
    → first ≡ opened s.device → IfSome driven (HasDriven s)
    → AppendsFront mid new (ending_text s.show driven) → IfSome had (λ all. IsRun effect_of missed all first last told old mid) → IfSome had (λ all. IsPartlyDriven s all old new)
told-ending had s driven told old mid new first last is has ending =
    known (λ all. IsRun effect_of missed all first last told old mid) (λ all. IsPartlyDriven s all old new) (λ all. ending_failed s all driven told old mid new first last is has ending) had

pub told-lines : (had : Option (List ℕ)) (s : Drive) (old new : Option (List ℕ)) (first : SessionSeen) → first ≡ opened s.device
    → IfSome had (λ all. IsPartlyRun effect_of all first old new) → IfSome had (λ all. IsPartlyDriven s all old new)
told-lines had s old new first is = known (λ all. IsPartlyRun effect_of all first old new) (λ all. IsPartlyDriven s all old new) (λ all. lines_failed s all old new first is) had

-- ---- what the reads and writes came to

never_both : (w : Writes) (kind : ErrorKind) → MayWrite w → WriteFailed w kind → ⊥
never_both w kind may failed = ⊎_elim (λ e. cc (may.sound, e)) (λ p. omega (arith, may.few, p.1.many)) failed

same_kind : (w : Writes) (a b : ErrorKind) → WriteFailed w a → WriteFailed w b → a ≡ b
same_kind w a b x y =
    ⊎_elim
    (λ e. ⊎_elim (λ f. cc (e, f)) (λ q. cc (e, q.1.sound)) y)
    (λ p. ⊎_elim (λ f. cc (f, p.1.sound)) (λ q. cc (p.0, q.0)) y)
    x

pub ended-ok : (told told' : Outcome) (reads : Reads) (mid new : Writes) → Ended (Ok told) reads mid → MayWrite new → Ended (Ok told') reads new
ended-ok told told' reads mid new e may = record {
  few_reads = e.few_reads;
  ok_read = e.ok_read;
  ok_written = may;
  read = λ kind r. cc;
  too_long = λ r. cc;
  memory = λ r. cc;
  write = λ kind r. cc;
  write_read = λ kind r. cc;
  failed_read = λ kind f. cc (f, e.ok_read.sound);
  failed_write = λ kind f. absurd (never_both new kind may f);
}

pub ended-failed : (told : Outcome) (reads : Reads) (mid new : Writes) (kind : ErrorKind) → Ended (Ok told) reads mid → WriteFailed new kind → Ended (Err (fault.Write kind)) reads new
ended-failed told reads mid new kind e failed = record {
  few_reads = e.few_reads;
  ok_read = tt;
  ok_written = tt;
  read = λ k r. cc;
  too_long = λ r. cc;
  memory = λ r. cc;
  write = λ k r. let same : kind ≡ k = cc in subst (WriteFailed new) same failed;
  write_read = λ k r. e.ok_read;
  failed_read = λ k f. cc (f, e.ok_read.sound);
  failed_write = λ k f. let same : kind ≡ k = same_kind new kind k failed f in cc;
}
