use Rattle.std.proofs.Common.{◌≡◌, ℕ, Bool, IfSome, List, Option, Result, Ok, Err, subst}
use Rattle.std.specs.Io.KnownBytes.{Appends}
use Rattle.std.specs.Result.{IfOk, OnErr, OnOk}
use Rattle.q_script.specs.declared.outcome.Outcome.{Outcome}
use Rattle.q_show.specs.Written.{AppendsFront}
use Rattle.q_drive.specs.Drive.{Drive}
use Rattle.q_drive.specs.Driven.{HasDriven}
use Rattle.q_drive.specs.Reported.{IsEnded, IsPartlyEnded, outcome_with}
use Rattle.q_drive.specs.Texts.{ending_text}
use Rattle.q_drive.specs.declared.driving.Driven.{Driven}
use Rattle.q_drive.proofs.run.drive_and_write.Goals as goal

module _ {E : Type 0} (s : Drive) (driven : Option Driven) (show : Bool) (old new : Option (List ℕ)) (has : IfSome driven (HasDriven s)) (is : show ≡ s.show) where
  ended : (before : Outcome) (r : Result Outcome E) → OnOk r (Appends old new (ending_text show driven))
      → IfOk r (λ told. told ≡ outcome_with driven before) → IfOk r (λ told. IsEnded s before told old new)
  ended before (Ok told) text outcome = record { driven = driven; has_driven = has; text = subst (λ (b : Bool). Appends old new (ending_text b driven)) is text; outcome_is = outcome }
  ended before (Err e) text outcome = tt

  partly : (r : Result Outcome E) → OnErr r (AppendsFront old new (ending_text show driven)) → OnErr r (IsPartlyEnded s old new)
  partly (Ok told) text = tt
  partly (Err e) text = record { driven = driven; has_driven = has; text = subst (λ (b : Bool). AppendsFront old new (ending_text b driven)) is text }

pub returns-clause-ok : goal.returns-clause-ok
returns-clause-ok g c =
    ended c.args.settings.now c.drive_device-driven.result c.show.result (g.W.Write.contents c.args.target.now.writer.now) (g.W.Write.contents c.write_end.new.target.writer.now)
    c.drive_device-driven.ensures c.show.ensures c.args.outcome c.write_end.result c.write_end.ensures.written.ok c.write_end.ensures.outcome

pub returns-clause-err : goal.returns-clause-err
returns-clause-err g c =
    partly c.args.settings.now c.drive_device-driven.result c.show.result (g.W.Write.contents c.args.target.now.writer.now) (g.W.Write.contents c.write_end.new.target.writer.now)
    c.drive_device-driven.ensures c.show.ensures c.write_end.result c.write_end.ensures.written.err
