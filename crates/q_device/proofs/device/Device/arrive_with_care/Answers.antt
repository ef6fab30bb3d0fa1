use Rattle.std.proofs.Common.{◌∙◌, ℕ, List, ◌++◌, length, refl, sym, ap, subst, arith}
use Rattle.q_codel.specs.Losses.{LossList, SinkState}
use Rattle.q_packet.specs.Descriptor.{Descriptor}
use Rattle.q_model.specs.declared.event.Event.TheVariants as event
use Rattle.q_model.specs.declared.reply.Reply.TheVariants as reply
use Rattle.q_model.specs.Node.{shape}
use Rattle.q_model.specs.Ranges.{HasPacketFields}
use Rattle.q_model.specs.Step.{fate_of, losses_in, step}
use Rattle.q_model.specs.Tally.{totals, with_packet}
use Rattle.q_model.specs.TreeState.{noted_by_put, own_loss}
use Rattle.q_tree.specs.arrival.Places.{places_at}
use Rattle.q_tree.specs.TreeSeen.{numbers}
use Rattle.q_device.specs.declared.device.Device.TheInside.{Inside}
use Rattle.q_device.specs.Counters.{HasNotFallen}
use Rattle.q_device.specs.device.DeviceSeen.{DeviceSeen, HasRoomFor, with_event}
use Rattle.q_device.specs.device.Keeping.{device_seen, IsKeptDevice}
use Rattle.q_device.proofs.device.Device.arrive_with_care.Goals as goal
use Rattle.q_device.proofs.device.Device.arrive_with_care.Goals.{After-record_arrival}
use Rattle.q_device.proofs.device.EventLemmas.{Happened, arrived, arrived-device, event-rises, event-seen, reply-step, waits-numbers}
use Rattle.q_device.proofs.device.KeptLemmas.{event-kept, events-after, kept-arrived, only-places, room-kept, room-still, spared-kept}

-- memory was refused for the loss: the lost list alone may have more places
pub invariant_of-self : goal.invariant_of-self
invariant_of-self c =
    room-kept c.self.inside c.self.invariant c.self.inside.tree c.make_room.new.losses c.self.inside.spare refl c.make_room.ensures.same
    (omega arith) (omega (arith, c.self.invariant.room, c.make_room.ensures.grows))

pub returns-in_default-clause-succeeds : goal.returns-in_default-clause-succeeds
returns-in_default-clause-succeeds c there =
    let a = c.self.inside in
    let room = subst (HasRoomFor c.args.packet.now) (sym c.self.view_is) there in
    c.in_default.ensures.succeeds (omega (arith, room.losses, ap (λ (ps : List Descriptor). length ps) (waits-numbers a.tree)))

pub returns-in_default-clause-keeps : goal.returns-in_default-clause-keeps
returns-in_default-clause-keeps c other there =
    let a = c.self.inside in
    room-still a a.tree c.make_room.new.losses refl (λ p. refl) (λ r can. can) c.make_room.ensures.same c.make_room.ensures.grows other (subst (HasRoomFor other) (sym c.self.view_is) there)

-- the arrival has room for its loss
pub arrive-requires-clause-sink : goal.arrive-requires-clause-sink
arrive-requires-clause-sink c = omega (arith, c.in-Ok.ensures.room, ap (λ (l : LossList). length l.waiting) c.make_room.ensures.same)

-- memory was refused for the place: the tree and the lost list may have more places
pub invariant_of-self-in_default-arrive : goal.invariant_of-self-in_default-arrive
invariant_of-self-in_default-arrive c =
    let a = c.self.inside in
    let l = c.arrive.new.sink in
    let made = c.make_room.ensures in
    let refused = c.in_default-arrive.ensures in
    room-kept a c.self.invariant c.arrive.new.self l a.spare refused.same (only-places a.losses c.make_room.new.losses l made.same (ap (λ (s : SinkState). s.losses) refused.not_lost)) (omega arith)
    (omega (arith, c.self.invariant.room, made.grows, ap (λ (x : LossList). x.places) c.arrive.ensures.kept))

pub returns-in_default-arrive-clause-succeeds : goal.returns-in_default-arrive-clause-succeeds
returns-in_default-arrive-clause-succeeds c there = c.in_default-arrive.ensures.succeeds (subst (HasRoomFor c.args.packet.now) (sym c.self.view_is) there).tree

pub returns-in_default-arrive-clause-keeps : goal.returns-in_default-arrive-clause-keeps
returns-in_default-arrive-clause-keeps c other there =
    let a = c.self.inside in
    let l = c.arrive.new.sink in
    let made = c.make_room.ensures in
    let refused = c.in_default-arrive.ensures in
    room-still a c.arrive.new.self l refused.same refused.routes refused.keeps (only-places a.losses c.make_room.new.losses l made.same (ap (λ (s : SinkState). s.losses) refused.not_lost))
    (omega (arith, made.grows, ap (λ (x : LossList). x.places) c.arrive.ensures.kept)) other (subst (HasRoomFor other) (sym c.self.view_is) there)

pub returns-in_default-arrive-clause-queues : goal.returns-in_default-arrive-clause-queues
returns-in_default-arrive-clause-queues c = λ path. omega (arith, c.arrive.ensures.places path, ap (λ (d : DeviceSeen). places_at path d.memory.tree.tree.root) c.self.view_is)

-- ---- the packet has arrived

-- the device, where so many more may arrive with nothing asked
abbrev after : After-record_arrival → ℕ → Inside
after c n = record c.self.inside { tree = c.arrive.new.self; losses = c.arrive.new.sink; recorded = c.record_arrival.new.recorded; spare = n }

happened : (c : After-record_arrival) (n : ℕ) → Happened c.self.inside (event.Arrive c.args.packet.now c.args.now) (after c n)
happened c n =
    let a = c.self.inside in
    let b = after c n in
    let p = c.args.packet.now in
    let e = event.Arrive p c.args.now in
    let lost = c.in-Ok-arrive.ensures.lost.lost ∙ ap (λ (l : LossList). l.waiting ++ losses_in (noted_by_put c.later-at.result p a.tree.tree)) c.make_room.ensures.same in
    let counted =
    events-after a c.self.invariant e b ((subst HasPacketFields c.packet.view_is c.stored_ranges.ensures.fields), c.moment_range.ensures)
    (arrived-device a b p c.args.now c.later-at.result c.later-at.ensures c.in-Ok-arrive.ensures.after) refl in
    arrived a b p c.args.now c.later-at.result c.later-at.ensures refl c.in-Ok-arrive.ensures.after lost refl c.record_arrival.ensures.items c.record_arrival.ensures.capacity counted

-- before more may, there is room for what is queued
still_kept : (c : After-record_arrival) → IsKeptDevice (after c 0)
still_kept c =
    event-kept c.self.inside c.self.invariant (event.Arrive c.args.packet.now c.args.now) (after c 0) (happened c 0)
    ((subst HasPacketFields c.packet.view_is c.stored_ranges.ensures.fields), c.moment_range.ensures) (omega arith)
    (omega (arith, c.in-Ok-arrive.ensures.counted.packets))
    (omega (arith, c.in-Ok-arrive.ensures.counted.bytes))
    (omega (arith, c.in-Ok.ensures.room, ap (λ (l : LossList). l.places) c.arrive.ensures.kept))

pub budget-self-inside-requires-clause-room_fit : goal.budget-self-inside-requires-clause-room_fit
budget-self-inside-requires-clause-room_fit c = omega (arith, (still_kept (goal.at.budget-self-inside-requires-clause-room_fit c).After-record_arrival).room)

pub budget-self-inside-requires-clause-packets_fit : goal.budget-self-inside-requires-clause-packets_fit
budget-self-inside-requires-clause-packets_fit c = omega (arith, (still_kept (goal.at.budget-self-inside-requires-clause-packets_fit c).After-record_arrival).packets)

pub budget-self-inside-requires-clause-bytes_fit : goal.budget-self-inside-requires-clause-bytes_fit
budget-self-inside-requires-clause-bytes_fit c = omega (arith, (still_kept (goal.at.budget-self-inside-requires-clause-bytes_fit c).After-record_arrival).bytes)

pub invariant_of-self-2 : goal.invariant_of-self-2
invariant_of-self-2 c =
    let d = (goal.at.invariant_of-self-2 c).After-record_arrival in
    spared-kept (after d 0) (still_kept d) c.budget-self-inside.result c.budget-self-inside.ensures.room c.budget-self-inside.ensures.packets
    c.budget-self-inside.ensures.bytes c.budget-self-inside.ensures.full

pub returns-clause-event : goal.returns-clause-event
returns-clause-event c =
    let d = (goal.at.returns-clause-event c).After-record_arrival in
    let e = event.Arrive c.args.packet.now c.args.now in
    let b = after d c.budget-self-inside.result in
    event-seen c.self.inside e b (happened d c.budget-self-inside.result) ∙ ap (λ (x : DeviceSeen). record (with_event e x) { memory = (device_seen b).memory }) c.self.view_is

pub returns-clause-moment : goal.returns-clause-moment
returns-clause-moment c = ap (λ (d : DeviceSeen). event.Arrive c.args.packet.now d.device.clock) (sym (returns-clause-event c))

pub returns-clause-fate : goal.returns-clause-fate
returns-clause-fate c =
    let a = c.self.inside in
    let p = c.args.packet.now in
    let e = event.Arrive p c.args.now in
    ap reply.Fate c.in-Ok-arrive.ensures.fate
    ∙ ap (λ t. reply.Fate (fate_of (own_loss t p a.tree.tree.device (shape a.tree.tree.root)))) c.later-at.ensures
    ∙ reply-step (numbers a.tree) a.tree refl e
    ∙ ap (λ (d : DeviceSeen). (step totals d.device e).reply) c.self.view_is

pub returns-clause-arrived : goal.returns-clause-arrived
returns-clause-arrived c =
    let d = (goal.at.returns-clause-arrived c).After-record_arrival in
    let e = event.Arrive c.args.packet.now c.args.now in
    ap (λ (x : DeviceSeen). x.device.tree.top.arrived) (event-seen c.self.inside e (after d c.budget-self-inside.result) (happened d c.budget-self-inside.result))
    ∙ kept-arrived c.self.inside c.self.invariant e ((subst HasPacketFields c.packet.view_is c.stored_ranges.ensures.fields), c.moment_range.ensures)
    ∙ ap (λ (x : DeviceSeen). with_packet x.device.tree.top.arrived c.args.packet.now) c.self.view_is

pub returns-clause-counters : goal.returns-clause-counters
returns-clause-counters c =
    let d = (goal.at.returns-clause-counters c).After-record_arrival in
    subst (λ (x : DeviceSeen). HasNotFallen x.device.tree.top c.arrive.new.self.tree.top.counts) c.self.view_is
    (event-rises c.self.inside (event.Arrive c.args.packet.now c.args.now) (after d c.budget-self-inside.result) (happened d c.budget-self-inside.result))

pub returns-clause-queues : goal.returns-clause-queues
returns-clause-queues c = λ path. omega (arith, c.arrive.ensures.places path, ap (λ (d : DeviceSeen). places_at path d.memory.tree.tree.root) c.self.view_is)
