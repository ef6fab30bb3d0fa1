use Rattle.std.proofs.Common.{◌≡◌, ◌∙◌, ◌++◌, List, Result, Ok, Err, IfErr, refl, sym, ap, subst, arith}
use Rattle.std.proofs.lemmas.List.{append-nil}
use Rattle.std.specs.Result.{IsErrAnd}
use Rattle.q_codel.specs.Losses.{LossList}
use Rattle.q_codel.specs.declared.loss.Loss.{Loss}
use Rattle.q_model.specs.declared.event.Event.TheVariants as event
use Rattle.q_model.specs.declared.refusal.Refusal.{Refusal}
use Rattle.q_model.specs.Node.{shape}
use Rattle.q_model.specs.Step.{step}
use Rattle.q_model.specs.Tally.{totals}
use Rattle.q_tree.specs.commands.Commanding.{MayTakeMemory, WantsMemory}
use Rattle.q_tree.specs.commands.Commands.{IsRefused, plan_of}
use Rattle.q_tree.specs.TreeSeen.{numbers}
use Rattle.q_device.specs.declared.device.Device.TheInside.{Inside}
use Rattle.q_device.specs.Counters.{HasNotFallen}
use Rattle.q_device.specs.device.DeviceSeen.{DeviceSeen, IsRefusal, IsRefusedAt, with_event}
use Rattle.q_device.specs.device.Keeping.{device_seen, IsKeptDevice}
use Rattle.q_device.proofs.device.Device.command.Goals as goal
use Rattle.q_device.proofs.device.Device.command.Goals.{After-count_other}
use Rattle.q_device.proofs.device.EventLemmas.{Happened, commanded, commanded-device, done-reply, event-rises, may-be-refused, event-seen, refused-reply, told-nothing}
use Rattle.q_device.proofs.device.KeptLemmas.{event-kept, events-after, kept-arrived}

-- a refused command leaves the tree and the lost list
pub invariant_of-self : goal.invariant_of-self
invariant_of-self c =
    let a = c.self.inside in
    let nothing =
    c.in_err-command.ensures.lost.lost ∙ ap (λ (ls : List Loss). a.losses.waiting ++ ls)
    (told-nothing (plan_of c.args.command c.later-at.result a.tree) (shape a.tree.tree.root) c.in_err-command.field-0.0)
    ∙ append-nil a.losses.waiting in
    let sink = c.in_err-command.ensures.kept ∙ ap (λ (ls : List Loss). record a.losses { waiting = ls }) nothing in
    subst IsKeptDevice (λ i. record a { tree = sym c.in_err-command.ensures.answer.1 i; losses = sym sink i }) c.self.invariant

passed_on : (r : Result (Unit {0}) Refusal) (x : Refusal) (P : Refusal → Type 0) → IsErrAnd r (λ q. q ≡ x) → P x → IfErr r P
passed_on (Ok done) x P same p = tt
passed_on (Err q) x P same p = subst P (sym same) p

pub returns-in_err-command-clause-refused : goal.returns-in_err-command-clause-refused
returns-in_err-command-clause-refused c =
    let a = c.self.inside in
    let e = event.Command c.args.command c.args.now in
    let refused = refused-reply a.tree c.args.now c.later-at.result c.later-at.ensures c.args.command (MayTakeMemory c.args.command) c.in_err-command.field-0.0
    (may-be-refused c.args.command (plan_of c.args.command c.later-at.result a.tree) c.in_err-command.field-0.0 c.in_err-command.ensures.answer.0) in
    subst (λ (d : DeviceSeen). IfErr c.from_residual.result (λ (r : Refusal). IsRefusal (MayTakeMemory c.args.command) (step totals d.device e).reply r)) c.self.view_is
    (passed_on c.from_residual.result c.in_err-command.field-0.0 (IsRefusal (MayTakeMemory c.args.command) (step totals (numbers a.tree) e).reply) c.from_residual.ensures.1 refused)

pub returns-in_err-command-clause-memory : goal.returns-in_err-command-clause-memory
returns-in_err-command-clause-memory c =
    let a = c.self.inside in
    let refused =
    subst (λ t. IsRefused (WantsMemory c.args.command (plan_of c.args.command t a.tree)) (plan_of c.args.command t a.tree)
    c.in_err-command.field-0.0) c.later-at.ensures c.in_err-command.ensures.answer.0 in
    subst (λ (d : DeviceSeen). IfErr c.from_residual.result (IsRefusedAt c.args.command c.args.now d)) c.self.view_is
    (passed_on c.from_residual.result c.in_err-command.field-0.0 (IsRefusedAt c.args.command c.args.now (device_seen a)) c.from_residual.ensures.1 refused)

-- the command was done
abbrev after : After-count_other → Inside
after c = record c.self.inside { tree = c.command.new.self; losses = c.command.new.sink; recorded = c.record_command.new.recorded; others = c.count_other.new.others }

happened : (c : After-count_other) → Happened c.self.inside (event.Command c.args.command c.args.now) (after c)
happened c =
    let a = c.self.inside in
    let b = after c in
    let counted =
    events-after a c.self.invariant (event.Command c.args.command c.args.now) b (c.ranges-2.ensures, c.moment_range.ensures)
    (commanded-device a b c.args.command c.args.now c.later-at.result c.later-at.ensures c.in_ok-command.ensures.answer)
    c.count_other.ensures in
    commanded a b c.args.command c.args.now c.later-at.result c.later-at.ensures refl c.in_ok-command.ensures.answer
    c.in_ok-command.ensures.lost.lost refl c.record_command.ensures.items c.record_command.ensures.capacity counted

pub invariant_of-self-2 : goal.invariant_of-self-2
invariant_of-self-2 c =
    let d = (goal.at.invariant_of-self-2 c).After-count_other in
    event-kept c.self.inside c.self.invariant (event.Command c.args.command c.args.now) (after d) (happened d) (c.ranges-2.ensures, c.moment_range.ensures)
    (omega arith) c.self.invariant.packets c.self.invariant.bytes
    (omega (arith, c.self.invariant.room, ap (λ (l : LossList). l.places) c.in_ok-command.ensures.kept))

pub returns-clause-event : goal.returns-clause-event
returns-clause-event c =
    let d = (goal.at.returns-clause-event c).After-count_other in
    let e = event.Command c.args.command c.args.now in
    event-seen c.self.inside e (after d) (happened d) ∙ ap (λ (x : DeviceSeen). record (with_event e x) { memory = (device_seen (after d)).memory }) c.self.view_is

pub returns-clause-reply : goal.returns-clause-reply
returns-clause-reply c =
    let a = c.self.inside in
    done-reply a.tree c.args.now c.later-at.result c.later-at.ensures c.args.command c.command.new.self c.in_ok-command.ensures.answer
    ∙ ap (λ (d : DeviceSeen). (step totals d.device (event.Command c.args.command c.args.now)).reply) c.self.view_is

pub returns-clause-arrived : goal.returns-clause-arrived
returns-clause-arrived c =
    let d = (goal.at.returns-clause-arrived c).After-count_other in
    let e = event.Command c.args.command c.args.now in
    ap (λ (x : DeviceSeen). x.device.tree.top.arrived) (event-seen c.self.inside e (after d) (happened d))
    ∙ kept-arrived c.self.inside c.self.invariant e (c.ranges-2.ensures, c.moment_range.ensures)
    ∙ ap (λ (x : DeviceSeen). x.device.tree.top.arrived) c.self.view_is

pub returns-clause-counters : goal.returns-clause-counters
returns-clause-counters c =
    let d = (goal.at.returns-clause-counters c).After-count_other in
    subst (λ (x : DeviceSeen). HasNotFallen x.device.tree.top c.command.new.self.tree.top.counts) c.self.view_is
    (event-rises c.self.inside (event.Command c.args.command c.args.now) (after d) (happened d))
