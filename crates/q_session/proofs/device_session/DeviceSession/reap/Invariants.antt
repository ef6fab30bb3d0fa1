use Rattle.std.proofs.Common.{◌≡◌, length}
use Rattle.std.specs.List.{flat_map}
use Rattle.q_script_semantics.specs.Text.{lost_line}
use Rattle.q_session.specs.Seen.{session_seen}
use Rattle.q_session.proofs.Writing.{Writing}
use Rattle.q_session.proofs.device_session.DeviceSession.reap.Given as goal

-- the losses so far are written, and those that wait are left
abbrev pub invariant-loop-lost : goal.invariant-loop-lost
invariant-loop-lost g l = record {
  text : Writing g.W.Write.contents l.fn.target l.target l.fn.output l.output
      (flat_map lost_line l.fn.self.state.waiting) (flat_map lost_line l.self-inside.device.waiting);
  same : session_seen l.self-inside ≡ record l.fn.self { state = record l.fn.self.state { waiting = l.self-inside.device.waiting } };
}

abbrev pub decreases-loop-lost : goal.decreases-loop-lost
decreases-loop-lost g l = length l.self-inside.device.waiting
