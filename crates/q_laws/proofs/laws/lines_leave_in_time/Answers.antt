use Rattle.q_laws.proofs.line.LineDelay.{lines-leave-in-time, limits-are-delays}
use Rattle.q_laws.proofs.laws.lines_leave_in_time.Goals as goal

pub returns : goal.returns
returns c = record {
  from_any_state = lines-leave-in-time c.args.settings c.ranges-2.ensures;
  within_a_limit = limits-are-delays c.args.settings c.ranges-2.ensures;
}
