use Rattle.std.proofs.Common.{rules, ◌≡◌, ◌∙◌, ℕ, ◌-◌, ◌+◌, sym, ap, ap₂, arith}
use Rattle.q_device.specs.device.DeviceSeen.{DeviceSeen}
use Rattle.q_model.specs.Tally.{totals}
use Rattle.q_script_semantics.specs.Report.{polls}
use Rattle.q_script_semantics.specs.Text.{poll_line}
use Rattle.q_session.specs.Session.{SessionSeen}
use Rattle.q_session.specs.Seen.{session_seen}
use Rattle.q_session.proofs.PollLemmas.{poll-session, poll-text}
use Rattle.q_session.proofs.Writing.{writing-end, writing-fails, writing-next, writing-start}
use Rattle.q_session.proofs.device_session.DeviceSession.poll.Goals as goal

pub loop-init : goal.loop-init
loop-init g c =
    let count = c.args.count in
    let s = session_seen c.self.inside in
    let all : count ≡ count - 0 = omega arith in
    record {
      text = writing-start c.requires (ap₂ (λ (n : ℕ) (x : SessionSeen). (polls totals n x.state).text) all (sym c.self.view_is));
      state = ap₂ (λ (n : ℕ) (x : SessionSeen). (polls totals n x.state).session) all (sym c.self.view_is);
      settings = ap (λ (x : SessionSeen). x.settings) c.self.view_is;
      seed = ap (λ (x : SessionSeen). x.seed) c.self.view_is;
      packets = ap (λ (x : SessionSeen). x.state.packets) c.self.view_is;
      not_done = ap (λ (x : SessionSeen). x.state.not_done) c.self.view_is;
    }

pub returns-in_err-make_room-clause-packets : goal.returns-in_err-make_room-clause-packets
returns-in_err-make_room-clause-packets g c = c.loop.invariant.packets

pub returns-in_err-make_room-clause-not_done : goal.returns-in_err-make_room-clause-not_done
returns-in_err-make_room-clause-not_done g c = c.loop.invariant.not_done

pub returns-in_err-make_room-clause-put : goal.returns-in_err-make_room-clause-put
returns-in_err-make_room-clause-put g c = writing-fails c.loop.invariant.text c.from_residual.result (search rules) (search rules)

pub loop-preserved : goal.loop-preserved
loop-preserved g c =
    let s = (session_seen c.loop.self-inside).state in
    let left = c.args.count - c.loop.counter in
    let fewer = c.args.count - (c.loop.counter + 1) in
    let next = record s { device = c.poll.new.self.device; waiting = c.poll.new.self.waiting } in
    let is = ap (λ (d : DeviceSeen). record s { device = d.device; waiting = d.waiting }) c.poll.ensures.event in
    record {
      text = writing-next c.loop.invariant.text (poll_line c.poll.result) (polls totals fewer next).text
          (search rules) (poll-text fewer left s next c.poll.result (omega arith) is c.poll.ensures.reply) c.put_poll.ensures;
      state = c.loop.invariant.state ∙ poll-session fewer left s next c.poll.result (omega arith) is c.poll.ensures.reply;
      settings = ap (λ (d : DeviceSeen). d.settings) c.poll.ensures.event ∙ c.loop.invariant.settings;
      seed = c.loop.invariant.seed;
      packets = c.loop.invariant.packets;
      not_done = c.loop.invariant.not_done;
    }

pub returns-clause-put : goal.returns-clause-put
returns-clause-put g c =
    let none : c.args.count - c.loop.counter ≡ 0 = omega arith in
    writing-end c.loop.invariant.text (ap (λ (n : ℕ). (polls totals n (session_seen c.loop.self-inside).state).text) none)
