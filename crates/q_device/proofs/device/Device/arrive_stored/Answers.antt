use Rattle.std.proofs.Common.{◌∙◌, ◌-◌, ◌≤◌, refl, sym, ap, subst, arith}
use Rattle.q_codel.specs.Losses.{LossList, SinkState}
use Rattle.q_packet.specs.Stored.{descriptor}
use Rattle.q_model.specs.declared.event.Event.TheVariants as event
use Rattle.q_model.specs.declared.reply.Reply.TheVariants as reply
use Rattle.q_model.specs.Node.{shape}
use Rattle.q_model.specs.Step.{fate_of, step}
use Rattle.q_model.specs.Tally.{totals, with_packet}
use Rattle.q_model.specs.TreeState.{own_loss}
use Rattle.q_tree.specs.arrival.Places.{places_at}
use Rattle.q_tree.specs.TreeSeen.{numbers}
use Rattle.q_device.specs.declared.device.Device.TheInside.{Inside}
use Rattle.q_device.specs.Counters.{HasNotFallen}
use Rattle.q_device.specs.device.DeviceSeen.{DeviceSeen, HasRoomFor, with_event}
use Rattle.q_device.specs.device.Keeping.{device_seen}
use Rattle.q_device.proofs.device.Device.arrive_stored.Goals as goal
use Rattle.q_device.proofs.device.Device.arrive_stored.Goals.{In-Ok}
use Rattle.q_device.proofs.device.EventLemmas.{Happened, arrived, arrived-device, event-rises, event-seen, reply-step}
use Rattle.q_device.proofs.device.KeptLemmas.{event-kept, events-after, kept-arrived, only-places, room-kept, room-still, spared-counts}
use Rattle.q_device.proofs.log.RecorderLemmas.{full}

-- a packet may arrive with nothing asked: it can be counted, and there is room for its loss
pub arrive_stored-requires-clause-counted : goal.arrive_stored-requires-clause-counted
arrive_stored-requires-clause-counted c = spared-counts c.self.inside c.self.invariant (descriptor c.args.packet.now) c.stored_ranges.ensures.fields (omega (arith, c.if-self-eq0.false))

pub arrive_stored-requires-clause-sink : goal.arrive_stored-requires-clause-sink
arrive_stored-requires-clause-sink c = omega (arith, c.self.invariant.room, c.if-self-eq0.false)

-- memory was refused for the place: the tree may have more places, and a packet less may arrive with nothing asked
pub invariant_of-self : goal.invariant_of-self
invariant_of-self c =
    let a = c.self.inside in
    let l = c.arrive_stored.new.sink in
    let refused = c.in_default.ensures in
    room-kept a c.self.invariant c.arrive_stored.new.self l (a.spare - 1) refused.same (only-places a.losses a.losses l refl (ap (λ (s : SinkState). s.losses) refused.not_lost)) (omega arith)
    (omega (arith, c.self.invariant.room, ap (λ (x : LossList). x.places) c.arrive_stored.ensures.kept))

pub returns-in_default-clause-succeeds : goal.returns-in_default-clause-succeeds
returns-in_default-clause-succeeds c there = c.in_default.ensures.succeeds (subst (HasRoomFor (descriptor c.args.packet.now)) (sym c.self.view_is) there).tree

pub returns-in_default-clause-keeps : goal.returns-in_default-clause-keeps
returns-in_default-clause-keeps c other there =
    let a = c.self.inside in
    let l = c.arrive_stored.new.sink in
    let refused = c.in_default.ensures in
    room-still a c.arrive_stored.new.self l refused.same refused.routes refused.keeps (only-places a.losses a.losses l refl (ap (λ (s : SinkState). s.losses) refused.not_lost))
    (omega (arith, ap (λ (x : LossList). x.places) c.arrive_stored.ensures.kept)) other (subst (HasRoomFor other) (sym c.self.view_is) there)

pub returns-in_default-clause-queues : goal.returns-in_default-clause-queues
returns-in_default-clause-queues c = λ path. omega (arith, c.arrive_stored.ensures.places path, ap (λ (d : DeviceSeen). places_at path d.memory.tree.tree.root) c.self.view_is)

-- the packet has arrived, and the recorder was full
abbrev after : In-Ok → Inside
after c = record c.self.inside { tree = c.arrive_stored.new.self; losses = c.arrive_stored.new.sink; spare = c.self.inside.spare - 1 }

happened : (c : In-Ok) → Happened c.self.inside (event.Arrive (descriptor c.args.packet.now) c.args.now) (after c)
happened c =
    let a = c.self.inside in
    let some : 1 ≤ a.spare = omega (arith, c.if-self-eq0.false) in
    let b = after c in
    let p = (descriptor c.args.packet.now) in
    let e = event.Arrive p c.args.now in
    let counted =
    events-after a c.self.invariant e b (c.stored_ranges.ensures.fields, c.moment_range.ensures)
    (arrived-device a b p c.args.now c.later-at.result c.later-at.ensures c.in-Ok.ensures.after) refl in
    let unrecorded = full a.settings.recorder (event.Arrive p c.later-at.result) a.recorded.items (c.self.invariant.full some) in
    arrived a b p c.args.now c.later-at.result c.later-at.ensures refl c.in-Ok.ensures.after c.in-Ok.ensures.lost.lost refl unrecorded refl counted

pub invariant_of-self-2 : goal.invariant_of-self-2
invariant_of-self-2 c =
    let d = (goal.at.invariant_of-self-2 c).In-Ok in
    let some : 1 ≤ c.self.inside.spare = omega (arith, c.if-self-eq0.false) in
    event-kept c.self.inside c.self.invariant (event.Arrive (descriptor c.args.packet.now) c.args.now) (after d) (happened d) (c.stored_ranges.ensures.fields, c.moment_range.ensures) (omega arith)
    (omega (arith, c.self.invariant.packets, some))
    (omega (arith, c.self.invariant.bytes, some, c.stored_ranges.ensures.fields.len.1))
    (omega (arith, c.self.invariant.room, some, ap (λ (l : LossList). l.places) c.arrive_stored.ensures.kept))

pub returns-clause-event : goal.returns-clause-event
returns-clause-event c =
    let d = (goal.at.returns-clause-event c).In-Ok in
    let e = event.Arrive (descriptor c.args.packet.now) c.args.now in
    event-seen c.self.inside e (after d) (happened d) ∙ ap (λ (x : DeviceSeen). record (with_event e x) { memory = (device_seen (after d)).memory }) c.self.view_is

pub returns-clause-moment : goal.returns-clause-moment
returns-clause-moment c = ap (λ (d : DeviceSeen). event.Arrive (descriptor c.args.packet.now) d.device.clock) (sym (returns-clause-event c))

pub returns-clause-fate : goal.returns-clause-fate
returns-clause-fate c =
    let a = c.self.inside in
    let p = (descriptor c.args.packet.now) in
    let e = event.Arrive p c.args.now in
    ap reply.Fate c.in-Ok.ensures.fate
    ∙ ap (λ t. reply.Fate (fate_of (own_loss t p a.tree.tree.device (shape a.tree.tree.root)))) c.later-at.ensures
    ∙ reply-step (numbers a.tree) a.tree refl e
    ∙ ap (λ (d : DeviceSeen). (step totals d.device e).reply) c.self.view_is

pub returns-clause-arrived : goal.returns-clause-arrived
returns-clause-arrived c =
    let d = (goal.at.returns-clause-arrived c).In-Ok in
    let e = event.Arrive (descriptor c.args.packet.now) c.args.now in
    ap (λ (x : DeviceSeen). x.device.tree.top.arrived) (event-seen c.self.inside e (after d) (happened d))
    ∙ kept-arrived c.self.inside c.self.invariant e (c.stored_ranges.ensures.fields, c.moment_range.ensures)
    ∙ ap (λ (x : DeviceSeen). with_packet x.device.tree.top.arrived (descriptor c.args.packet.now)) c.self.view_is

pub returns-clause-counters : goal.returns-clause-counters
returns-clause-counters c =
    let d = (goal.at.returns-clause-counters c).In-Ok in
    subst (λ (x : DeviceSeen). HasNotFallen x.device.tree.top c.arrive_stored.new.self.tree.top.counts) c.self.view_is
    (event-rises c.self.inside (event.Arrive (descriptor c.args.packet.now) c.args.now) (after d) (happened d))

pub returns-clause-queues : goal.returns-clause-queues
returns-clause-queues c = λ path. omega (arith, c.arrive_stored.ensures.places path, ap (λ (d : DeviceSeen). places_at path d.memory.tree.tree.root) c.self.view_is)
