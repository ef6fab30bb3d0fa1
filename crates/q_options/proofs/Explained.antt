-- What is told of lines, behind what a run answers without it.
use Rattle.std.proofs.Common.{◌≡◌, ◌≢◌, ◌∙◌, ℕ, Bool, true, false, List, Option, Some, None, Ok, Err, IfSome, refl, subst, sym}
use Rattle.std.specs.Io.KnownBytes.{Keeps}
use Rattle.clap.specs.Words.{Text}
use Rattle.q_script.specs.Ended.{Ended}
use Rattle.q_script.specs.declared.outcome.Outcome.{Outcome}
use Rattle.q_script.specs.declared.outcome.Outcome.TheVariants.{Clean, Refused}
use Rattle.q_script.specs.declared.source.Reads.{Reads}
use Rattle.q_script.specs.declared.run_fault.RunFault.{RunFault}
use Rattle.q_show.specs.declared.target.Writes.{Writes}
use Rattle.q_options.specs.declared.fault.Fault.TheVariants.{Run}
use Rattle.q_options.specs.Answer.{IsAnswered, IsCounted, IsToldOf, Leaves}

keeps_itself : (e : Option (List ℕ)) → Keeps e e
keeps_itself None = tt
keeps_itself (Some xs) = refl

zero_is_not_two : (status : ℕ) → status ≡ 0 → status ≢ 2
zero_is_not_two status zero two = cc

one_is_not_two : (status : ℕ) → status ≡ 1 → status ≢ 2
one_is_not_two status one two = cc

zero_is_not_one : (status : ℕ) → status ≡ 0 → status ≢ 1
zero_is_not_one status zero one = cc

asked : true ≡ false → ⊥
asked same = cc

-- a run with an outcome, of whose lines nothing is told yet
pub ended_so : {file : Option Text} {lines : ℕ} {whole : Outcome → ℕ → List ℕ → Type 0} {partly : List ℕ → Type 0}
    {script old new errors_old errors_new : Option (List ℕ)} {reads : Reads} {writes : Writes}
    (told : Outcome) (status : ℕ) → (told ≡ Clean → status ≡ 0) → (told ≡ Refused → status ≡ 1)
    → IfSome script (whole told lines) → Ended (Ok told) reads writes
    → IsAnswered true lines file whole partly script old new errors_old errors_new reads writes status
ended_so Clean status clean refused report ended = record {
  clean = λ zero. (report, ended);
  refused = λ one. absurd (zero_is_not_one status (clean refl) one);
  silent = λ unasked zero. absurd (asked unasked);
  counted = λ unasked one. absurd (asked unasked);
  fault = λ two. absurd (zero_is_not_two status (clean refl) two);
}
ended_so Refused status clean refused report ended = record {
  clean = λ zero. absurd (zero_is_not_one status zero (refused refl));
  refused = λ one. (report, ended);
  silent = λ unasked zero. absurd (asked unasked);
  counted = λ unasked one. absurd (asked unasked);
  fault = λ two. absurd (one_is_not_two status (refused refl) two);
}

-- a number of lines that is told by another name
pub counted_as : {A B : Type 0} {old new : Option (List ℕ)} (m n : ℕ) → m ≡ n → (A → B → IsCounted m old new) → A → B → IsCounted n old new
counted_as {A} {B} {old} {new} m n same h = subst (λ (k : ℕ). A → B → IsCounted k old new) same h

-- of the lines at most their number is told, and where they are explained, whatever it is
pub told_lines : {file : Option Text} {whole : Outcome → ℕ → List ℕ → Type 0} {partly : List ℕ → Type 0}
    {script old new errors_old errors_new errors_later : Option (List ℕ)} {reads : Reads} {writes : Writes} {status : ℕ}
    (explains : Bool) (lines : ℕ) → IsAnswered true lines file whole partly script old new errors_old errors_new reads writes status
    → (status ≢ 2 → errors_new ≡ errors_old)
    → (status ≡ 2 → errors_later ≡ errors_new)
    → (explains ≡ false → status ≡ 0 → errors_later ≡ errors_new)
    → (explains ≡ false → status ≡ 1 → IsCounted lines errors_new errors_later)
    → IsAnswered explains lines file whole partly script old new errors_old errors_later reads writes status
told_lines {file} {whole} {partly} {script} {old} {new} {errors_old} {errors_new} {errors_later} {reads} {writes} {status} explains lines a kept fault clean counted = record {
  clean = a.clean;
  refused = a.refused;
  silent = λ unasked zero. subst (λ (e : Option (List ℕ)). Keeps errors_old e) (sym (clean unasked zero ∙ kept (zero_is_not_two status zero))) (keeps_itself errors_old);
  counted = λ unasked one. subst (λ (e : Option (List ℕ)). IsCounted lines e errors_later) (kept (one_is_not_two status one)) (counted unasked one);
  fault =
      λ two. subst (λ (e : Option (List ℕ)). (fault : RunFault) × IsToldOf file (Run fault) errors_old e × Leaves partly fault script old new
      × Ended (Err fault) reads writes) (sym (fault two)) (a.fault two);
}
