use Rattle.std.proofs.Common.{◌≡◌, ◌≤◌, ◌<◌, ◌+◌, length}
use Rattle.q_show.specs.Writes.{MayWrite}
use Rattle.q_script.specs.Script.{lines_of}
use Rattle.q_script.proofs.Playing.{Playing}
use Rattle.q_script.proofs.running.run_lines.Given as goal

abbrev pub invariant-loop-rest : goal.invariant-loop-rest
invariant-loop-rest g l =
    let contents = g.W.Write.contents in
    record {
      same_writer : l.target.writer.ghost_name ≡ l.fn.target.writer.ghost_name;
      playing : Playing g.S.Session.effect (contents l.fn.target.writer.now) (contents l.target.writer.now) l.output (lines_of l.script) (lines_of l.rest) l.number l.fn.session l.session;
      numbered : g.S.Session.packets l.session < l.number;
      missed : g.S.Session.not_done l.session < l.number;
      few : l.number + length l.rest ≤ 16777217;
      going : MayWrite l.target.writes;
    }

abbrev pub decreases-loop-rest : goal.decreases-loop-rest
decreases-loop-rest g l = length l.rest
