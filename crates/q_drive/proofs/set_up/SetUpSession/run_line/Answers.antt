use Rattle.std.proofs.Common.{◌∙◌, ◌++◌, false, Result, Ok, sym, ap, subst}
use Rattle.q_script.proofs.OnErr.{on_err, on_err_weaker}
use Rattle.q_script.proofs.WrittenLemmas.{front-longer}
use Rattle.q_show.specs.Written.{AppendsFront}
use Rattle.q_words.specs.declared.line_fault.LineFault.{LineFault}
use Rattle.q_drive.specs.SetUp.{done, effect_of}
use Rattle.q_drive.specs.declared.set_up_line.SetUpLine.{SetUpLine}
use Rattle.q_drive.proofs.SetUpLemmas.{still_unused}
use Rattle.q_drive.proofs.set_up.SetUpSession.run_line.Goals as goal

pub returns-in_err-make_room-in-Ok-Tc-clause-err : goal.returns-in_err-make_room-in-Ok-Tc-clause-err
returns-in_err-make_room-in-Ok-Tc-clause-err g c =
    let text = (effect_of false c.args.number c.args.line.now c.args.self.now).text in
    on_err c.from_residual.result (false, front-longer _ _ c.args.output.now text c.in_err-make_room-in-Ok-Tc.ensures.err)

pub returns-in_err-make_room-in-Err-clause-err : goal.returns-in_err-make_room-in-Err-clause-err
returns-in_err-make_room-in-Err-clause-err g c =
    let text = (effect_of false c.args.number c.args.line.now c.args.self.now).text in
    on_err c.from_residual-in_err-make_room-in-Err.result (false, front-longer _ _ c.args.output.now text c.in_err-make_room-in-Err.ensures.err)

pub invariant_of-self : goal.invariant_of-self
invariant_of-self g c =
    still_unused c.command.ensures.0 c.args.number c.in-Ok-Tc.command c.self.inside.session c.command.new.self c.self.invariant c.command.ensures.1

pub returns-in-Ok-Show-clause-err : goal.returns-in-Ok-Show-clause-err
returns-in-Ok-Show-clause-err g c =
    let s = c.args.self.now in
    let is = sym c.read_set_up_line.ensures ∙ c.in-Ok-Show.is ∙ ap Ok c.in-Ok-Show.field-0-is in
    on_err_weaker c.show.result
    (λ w. (
      false,
      subst (λ (l : Result SetUpLine LineFault). AppendsFront (g.W.Write.contents c.args.target.now.writer.now)
          (g.W.Write.contents c.show.new.target.writer.now) (c.args.output.now ++ (done false c.args.number l s.state).text)) (sym is)
          (rw (← c.self.view_is) w),
    ))
    c.show.ensures.err
