use Rattle.std.proofs.Common.{◌≡◌, ◌∙◌, ℕ, IfSome, Result, Ok, Err, sym, ap, subst}
use Rattle.std.specs.Result.{IsErrAnd}
use Rattle.std.specs.declared.io.ErrorKind.{ErrorKind}
use Rattle.q_script.specs.Ended.{Ended}
use Rattle.q_script.specs.declared.outcome.Outcome.{Outcome}
use Rattle.q_script.specs.declared.source.Reads.{Reads}
use Rattle.q_script.specs.declared.run_fault.RunFault.{RunFault}
use Rattle.q_script.specs.declared.run_fault.RunFault.TheVariants.{Write}
use Rattle.q_session.specs.Session.{opened}
use Rattle.q_show.specs.declared.target.Writes.{Writes}
use Rattle.q_drive.specs.Reported.{IsDrivenOf}
use Rattle.q_drive.proofs.Reporting.{ended-failed, ended-ok, told-ending, told-lines, told-whole}
use Rattle.q_drive.proofs.run.run_drive_noting.Goals as goal

passed_on : (r : Result Outcome RunFault) (x : RunFault) (kind : ErrorKind) → IsErrAnd r (λ q. q ≡ x) → r ≡ Err (Write kind) → x ≡ Write kind
passed_on (Ok told) x kind same told' = absurd same
passed_on (Err q) x kind same told = let is : q ≡ Write kind = cc in sym same ∙ is

ended_on : (r : Result Outcome RunFault) (x : RunFault) (reads : Reads) (writes : Writes) → IsErrAnd r (λ q. q ≡ x) → Ended (Err x) reads writes → Ended r reads writes
ended_on (Ok told) x reads writes same e = absurd same
ended_on (Err q) x reads writes same e = subst (λ (y : RunFault). Ended (Err y) reads writes) (sym same) e

pub returns-in_err-outcome-clause-ended : goal.returns-in_err-outcome-clause-ended
returns-in_err-outcome-clause-ended g c =
    ended_on c.from_residual.result c.in_err-outcome.field-0.0 _ _ c.from_residual.ensures.1 c.in_err-outcome.ensures.ended

pub returns-clause-ended : goal.returns-clause-ended
returns-clause-ended g c = ended-failed c.in_ok-outcome.outcome _ _ _ _ c.in_ok-outcome.ensures.ended c.in-Err.ensures.failed

pub returns-in-Ok-drive_and_write-clause-ended : goal.returns-in-Ok-drive_and_write-clause-ended
returns-in-Ok-drive_and_write-clause-ended g c =
    ended-ok c.in_ok-outcome.outcome c.in-Ok-drive_and_write.outcome _ _ _ c.in_ok-outcome.ensures.ended c.in-Ok-drive_and_write.ensures.going

pub returns-in_err-outcome-clause-partly : goal.returns-in_err-outcome-clause-partly
returns-in_err-outcome-clause-partly g c = λ kind told.
    told-lines (g.R.Read.remaining c.args.source.now.reader.now) c.args.settings (g.W.Write.contents c.args.target.now.writer.now) (g.W.Write.contents c.run_between.new.target.writer.now)
    c.exchange_notes.new.self (c.exchange_notes.ensures.same ∙ c.in-Ok-open.ensures.new ∙ ap opened c.device.ensures)
    (c.in_err-outcome.ensures.partly kind (ap Err (passed_on c.from_residual.result c.in_err-outcome.field-0.0 kind c.from_residual.ensures.1 told)))

pub returns-clause-partly : goal.returns-clause-partly
returns-clause-partly g c = λ kind told.
    let ended = c.in-Err.ensures.err in
    told-ending (g.R.Read.remaining c.args.source.now.reader.now) c.args.settings ended.driven c.in_ok-outcome.outcome (g.W.Write.contents c.args.target.now.writer.now)
    (g.W.Write.contents c.run_between.new.target.writer.now) (g.W.Write.contents c.drive_and_write.new.target.writer.now)
    c.exchange_notes.new.self c.run_between.new.session (c.exchange_notes.ensures.same ∙ c.in-Ok-open.ensures.new ∙ ap opened c.device.ensures)
    ended.has_driven ended.text c.in_ok-outcome.ensures.report

pub returns-in-Ok-drive_and_write-clause-report : goal.returns-in-Ok-drive_and_write-clause-report
returns-in-Ok-drive_and_write-clause-report g c =
    let had = g.R.Read.remaining c.args.source.now.reader.now in
    let old = g.W.Write.contents c.args.target.now.writer.now in
    let new = g.W.Write.contents c.drive_and_write.new.target.writer.now in
    let ended = c.in-Ok-drive_and_write.ensures.ok in
    let last = c.run_between.new.session in
    let whole = told-whole had c.args.settings ended.driven c.in_ok-outcome.outcome old (g.W.Write.contents c.run_between.new.target.writer.now) new
    c.exchange_notes.new.self last (c.exchange_notes.ensures.same ∙ c.in-Ok-open.ensures.new ∙ ap opened c.device.ensures) ended.has_driven ended.text c.in_ok-outcome.ensures.report in
    subst (λ (lines : ℕ). IfSome had (λ all. IsDrivenOf c.args.settings all c.in-Ok-drive_and_write.outcome lines old new)) (sym c.exchange_notes-2.ensures.not_done)
    (subst (λ (told : Outcome). IfSome had (λ all. IsDrivenOf c.args.settings all told last.state.not_done old new)) (sym ended.outcome_is) whole)
