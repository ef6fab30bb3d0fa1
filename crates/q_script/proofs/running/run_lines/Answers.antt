use Rattle.std.proofs.Common.{◌≡◌, [], refl, add-one, arith, sym, ◌∙◌}
use Rattle.std.proofs.lemmas.Bool.{eqb-true}
use Rattle.std.proofs.lemmas.Result.{on_ok_weaker}
use Rattle.q_script.specs.Script.{lines_of}
use Rattle.q_script.proofs.LinesLemmas.{lines-none}
use Rattle.q_script.proofs.OnErr.{on_err, on_err_weaker}
use Rattle.q_script.proofs.Playing.{playing-start, playing-cut, playing-empty, playing-next, playing-fails, playing-flush, playing-end}
use Rattle.q_script.proofs.running.run_lines.Goals as goal

pub loop-rest-init : goal.loop-rest-init
loop-rest-init g c = record {
  same_writer = refl;
  going = c.requires.going;
  playing = rw c.requires.empty (playing-start g.S.Session.effect _ (lines_of c.args.script.now) c.args.session.now);
  numbered = omega arith;
  missed = omega arith;
  few = omega arith;
}

pub returns-in_err-run_line-clause-err : goal.returns-in_err-run_line-clause-err
returns-in_err-run_line-clause-err g c =
    let cut = playing-cut g.S.Session.effect _ _ c.loop-rest.output (lines_of c.args.script.now) (lines_of c.loop-rest.rest.now) (lines_of c.split_line.result.1.now) c.split_line.result.0.now
    c.loop-rest.number c.args.session.now c.loop-rest.session c.loop-rest.invariant.playing c.split_line.ensures.lines in
    on_err c.from_residual.result (playing-fails g.S.Session.effect _ _ _ _ c.args.script.now _ _ _ _ _ cut c.in_err-run_line.ensures.err)

pub loop-rest-preserved : goal.loop-rest-preserved
loop-rest-preserved g c =
    let cut = playing-cut g.S.Session.effect _ _ c.loop-rest.output (lines_of c.args.script.now) (lines_of c.loop-rest.rest.now) (lines_of c.split_line.result.1.now) c.split_line.result.0.now
    c.loop-rest.number c.args.session.now c.loop-rest.session c.loop-rest.invariant.playing c.split_line.ensures.lines in
    record {
      same_writer = c.in_ok-run_line.ensures.same_writer ∙ c.loop-rest.invariant.same_writer;
      going = c.in_ok-run_line.ensures.going;
      playing = rw add-one (playing-next g.S.Session.effect _ _ _ _ _ _ _ _ _ _ _ _ cut c.in_ok-run_line.ensures.effect);
      numbered = omega (arith, c.in_ok-run_line.ensures.few);
      missed = omega (arith, c.in_ok-run_line.ensures.fewer);
      few = omega arith;
    }

pub returns-clause-ok : goal.returns-clause-ok
returns-clause-ok g c =
    let none : lines_of c.loop-rest.rest.now ≡ [] = lines-none c.loop-rest.rest.now (eqb-true _ 0 (sym c.is_empty.ensures ∙ c.loop-rest-test.false)) in
    let at_end = playing-empty g.S.Session.effect _ _ c.loop-rest.output (lines_of c.args.script.now) (lines_of c.loop-rest.rest.now)
    c.loop-rest.number c.args.session.now c.loop-rest.session c.loop-rest.invariant.playing none in
    on_ok_weaker c.flush.result (playing-end g.S.Session.effect _ _ _ _ c.args.script.now _ _ _ at_end) c.flush.ensures.written

pub returns-clause-err : goal.returns-clause-err
returns-clause-err g c =
    let none : lines_of c.loop-rest.rest.now ≡ [] = lines-none c.loop-rest.rest.now (eqb-true _ 0 (sym c.is_empty.ensures ∙ c.loop-rest-test.false)) in
    let at_end = playing-empty g.S.Session.effect _ _ c.loop-rest.output (lines_of c.args.script.now) (lines_of c.loop-rest.rest.now)
    c.loop-rest.number c.args.session.now c.loop-rest.session c.loop-rest.invariant.playing none in
    on_err_weaker c.flush.result (playing-flush g.S.Session.effect _ _ _ _ c.args.script.now _ _ _ at_end) c.flush.ensures.err
