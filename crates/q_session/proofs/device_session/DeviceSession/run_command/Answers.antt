use Rattle.std.proofs.Common.{◌++◌, ◌∙◌, add-one, suc, sym, ap}
use Rattle.q_device.specs.device.DeviceSeen.{DeviceSeen}
use Rattle.q_model.specs.Tally.{Counts, totals}
use Rattle.q_script_semantics.specs.Report.{Effect, commanded}
use Rattle.q_session.specs.Session.{SessionSeen, seen}
use Rattle.q_session.specs.Seen.{session_seen}
use Rattle.q_session.proofs.CommandLemmas.{refused-effect}
use Rattle.q_session.proofs.device_session.DeviceSession.run_command.Goals as goal

pub returns-in-Err : goal.returns-in-Err
returns-in-Err c =
    let s = session_seen c.self.inside in
    let out = c.args.output.now in
    let e = refused-effect c.args.number c.args.command s.state _ c.in-Err.refusal c.in-Err.ensures.refused in (
      e.0,
      rw add-one
          (ap (λ (d : DeviceSeen). session_seen (record c.self.inside { device = d; not_done = suc c.self.inside.not_done })) c.in-Err.ensures.same
          ∙ ap (λ (x : Effect Counts). (seen s x).session) (sym e.1)
          ∙ ap (λ (y : SessionSeen). (seen y (commanded totals e.0 c.args.number c.args.command y.state)).session) c.self.view_is),
      c.put_refusal.ensures
          ∙ ap (λ (x : Effect Counts). out ++ x.text) (sym e.1)
          ∙ ap (λ (y : SessionSeen). out ++ (commanded totals e.0 c.args.number c.args.command y.state).text) c.self.view_is,
    )
