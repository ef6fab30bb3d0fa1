use Rattle.std.proofs.Common.{◌≡◌, ◌-◌}
use Rattle.q_model.specs.Tally.{totals}
use Rattle.q_script_semantics.specs.Report.{polls}
use Rattle.q_session.specs.Seen.{session_seen}
use Rattle.q_session.proofs.Writing.{Writing}
use Rattle.q_session.proofs.device_session.DeviceSession.poll.Given as goal

-- the polls so far are written, and what is left is what is left of all
abbrev pub invariant-loop : goal.invariant-loop
invariant-loop g l =
    let first = polls totals l.count l.fn.self.state in
    let rest = polls totals (l.count - l.counter) (session_seen l.self-inside).state in
    record {
      text : Writing g.W.Write.contents l.fn.target l.target l.fn.output l.output first.text rest.text;
      state : first.session ≡ rest.session;
      settings : l.self-inside.device.settings ≡ l.fn.self.settings;
      seed : l.self-inside.seed ≡ l.fn.self.seed;
      packets : l.self-inside.packets ≡ l.fn.self.state.packets;
      not_done : l.self-inside.not_done ≡ l.fn.self.state.not_done;
    }
