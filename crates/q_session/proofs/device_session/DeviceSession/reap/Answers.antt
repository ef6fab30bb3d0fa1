use Rattle.std.proofs.Common.{rules, ◌∙◌, ◌++◌, List, sym, ap}
use Rattle.std.specs.Prelude.{drop}
use Rattle.std.specs.List.{flat_map}
use Rattle.q_codel.specs.declared.loss.Loss.{Loss}
use Rattle.q_device.specs.device.DeviceSeen.{DeviceSeen}
use Rattle.q_script_semantics.specs.Text.{lost_line}
use Rattle.q_session.specs.Seen.{session_seen}
use Rattle.q_session.specs.Session.{SessionSeen}
use Rattle.q_session.proofs.PollLemmas.{lost-first, lost-none}
use Rattle.q_session.proofs.Writing.{writing-end, writing-fails, writing-next}
use Rattle.q_session.proofs.device_session.DeviceSession.reap.Goals as goal

pub returns-in_err-make_room-clause-put : goal.returns-in_err-make_room-clause-put
returns-in_err-make_room-clause-put g c = writing-fails c.loop-lost.invariant.text c.from_residual.result (search rules) (search rules)

pub loop-lost-preserved : goal.loop-lost-preserved
loop-lost-preserved g c =
    let before = c.loop-lost.self-inside in
    let waiting = before.device.waiting in
    let rest = ap (λ (d : DeviceSeen). d.waiting) c.reap.ensures.rest in
    record {
      text = writing-next c.loop-lost.invariant.text (lost_line c.in-Some.lost) (flat_map lost_line c.reap.new.self.waiting) (search rules)
          (lost-first waiting c.in-Some.lost (sym c.in-Some.is ∙ c.reap.ensures.oldest) ∙ ap (λ (ls : List Loss). lost_line c.in-Some.lost ++ flat_map lost_line ls) (sym rest)) c.put_lost.ensures;
      same =
          ap (λ (d : DeviceSeen). session_seen (record before { device = d })) c.reap.ensures.rest
          ∙ ap (λ (s : SessionSeen). record s { state = record s.state { waiting = drop 1 waiting } }) c.loop-lost.invariant.same
          ∙ ap (λ (ls : List Loss). record c.args.self.now { state = record c.args.self.now.state { waiting = ls } }) (sym rest);
    }

pub returns-clause-after : goal.returns-clause-after
returns-clause-after g c =
    let before = c.loop-lost.self-inside in
    let nothing = lost-none before.device.waiting (sym c.in_default.is ∙ c.reap.ensures.oldest) in
    ap (λ (d : DeviceSeen). session_seen (record before { device = d })) c.reap.ensures.rest
    ∙ ap (λ (s : SessionSeen). record s { state = record s.state { waiting = drop 1 before.device.waiting } }) c.loop-lost.invariant.same
    ∙ ap (λ (ls : List Loss). record c.args.self.now { state = record c.args.self.now.state { waiting = drop 1 ls } }) nothing

pub returns-clause-put : goal.returns-clause-put
returns-clause-put g c =
    let nothing = lost-none c.loop-lost.self-inside.device.waiting (sym c.in_default.is ∙ c.reap.ensures.oldest) in
    writing-end c.loop-lost.invariant.text (ap (λ (ls : List Loss). flat_map lost_line ls) nothing)
