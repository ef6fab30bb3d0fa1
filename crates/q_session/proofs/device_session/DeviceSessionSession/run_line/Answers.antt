use Rattle.std.proofs.Common.{rules, ◌∙◌, ◌++◌, false, Result, Ok, sym, ap, subst}
use Rattle.q_line.specs.declared.line.Line.{Line}
use Rattle.q_words.specs.declared.line_fault.LineFault.{LineFault}
use Rattle.q_line.proofs.PacketRanges.{read-sendable}
use Rattle.q_model.specs.Tally.{totals}
use Rattle.q_script_semantics.specs.Report as report
use Rattle.q_script.proofs.OnErr.{on_err, on_err_weaker}
use Rattle.q_script.proofs.WrittenLemmas.{front-longer}
use Rattle.q_session.specs.Session.{effect_of}
use Rattle.q_show.specs.Written.{AppendsFront}
use Rattle.q_session.proofs.device_session.DeviceSessionSession.run_line.Goals as goal

pub returns-in_err-make_room-in-Ok-clause-err : goal.returns-in_err-make_room-in-Ok-clause-err
returns-in_err-make_room-in-Ok-clause-err g c =
    let text = (effect_of false c.args.number c.args.line.now c.args.self.now).text in
    on_err c.from_residual.result (false, front-longer _ _ c.args.output.now text c.in_err-make_room-in-Ok.ensures.err)

pub answer-requires : goal.answer-requires
answer-requires g c = record {
  few = c.requires.few;
  fewer = c.requires.fewer;
  room = c.in_ok-make_room-in-Ok.ensures.room;
  sendable = read-sendable c.args.line.now c.in-Ok.read (sym c.read_line.ensures ∙ c.in-Ok.is);
  short = search rules;
}

pub returns-in_err-make_room-in-Err-clause-err : goal.returns-in_err-make_room-in-Err-clause-err
returns-in_err-make_room-in-Err-clause-err g c =
    let text = (effect_of false c.args.number c.args.line.now c.args.self.now).text in
    on_err c.from_residual-in_err-make_room-in-Err.result (false, front-longer _ _ c.args.output.now text c.in_err-make_room-in-Err.ensures.err)

pub returns-in-Ok-Poll-clause-err : goal.returns-in-Ok-Poll-clause-err
returns-in-Ok-Poll-clause-err g c =
    let s = c.args.self.now in
    let is = sym c.read_line.ensures ∙ c.in-Ok-Poll.is ∙ ap Ok c.in-Ok-Poll.field-0-is in
    on_err_weaker c.poll.result
    (λ w. (
      false,
      subst (λ (l : Result Line LineFault). AppendsFront (g.W.Write.contents c.args.target.now.writer.now)
          (g.W.Write.contents c.poll.new.target.writer.now) (c.args.output.now ++ (report.effect totals s.seed false c.args.number l s.state).text))
          (sym is) w,
    ))
    c.poll.ensures.put.err

pub returns-in-Ok-Reap-clause-err : goal.returns-in-Ok-Reap-clause-err
returns-in-Ok-Reap-clause-err g c =
    let s = c.args.self.now in
    let is = sym c.read_line.ensures ∙ c.in-Ok-Reap.is ∙ ap Ok c.in-Ok-Reap.field-0-is in
    on_err_weaker c.reap.result
    (λ w. (
      false,
      subst (λ (l : Result Line LineFault). AppendsFront (g.W.Write.contents c.args.target.now.writer.now)
          (g.W.Write.contents c.reap.new.target.writer.now) (c.args.output.now ++ (report.effect totals s.seed false c.args.number l s.state).text))
          (sym is) w,
    ))
    c.reap.ensures.put.err

pub returns-in-Ok-Show-clause-err : goal.returns-in-Ok-Show-clause-err
returns-in-Ok-Show-clause-err g c =
    let s = c.args.self.now in
    let is = sym c.read_line.ensures ∙ c.in-Ok-Show.is ∙ ap Ok c.in-Ok-Show.field-0-is in
    on_err_weaker c.show.result
    (λ w. (
      false,
      subst (λ (l : Result Line LineFault). AppendsFront (g.W.Write.contents c.args.target.now.writer.now)
          (g.W.Write.contents c.show.new.target.writer.now) (c.args.output.now ++ (report.effect totals s.seed false c.args.number l s.state).text))
          (sym is) w,
    ))
    c.show.ensures.err
