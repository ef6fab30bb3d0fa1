use Rattle.std.proofs.Common.{◌∙◌, refl, sym, ap, ap₂, subst, Option, arith}
use Rattle.std.specs.Prelude.{unwrap_or}
use Rattle.q_codel.specs.Losses.{LossList}
use Rattle.std.specs.Option.{option_map_or}
use Rattle.q_packet.specs.Descriptor.{Descriptor}
use Rattle.q_packet.specs.Stored.{descriptor, stored_of}
use Rattle.q_model.specs.declared.event.Event.TheVariants as event
use Rattle.q_model.specs.declared.reply.Reply.TheVariants as reply
use Rattle.q_model.specs.Beneath.{is_empty}
use Rattle.q_model.specs.Node.{shape}
use Rattle.q_model.specs.Step.{DeviceState, polled_of, step}
use Rattle.q_model.specs.Tally.{totals}
use Rattle.q_model.specs.TreeState.{given, take_packet}
use Rattle.q_tree.specs.Kept.{Kept, kept}
use Rattle.q_tree.specs.TreeSeen.{numbers}
use Rattle.q_device.specs.declared.device.Device.TheInside.{Inside}
use Rattle.q_device.specs.Counters.{HasNotFallen}
use Rattle.q_device.specs.device.DeviceSeen.{DeviceSeen, polled_memory, with_event}
use Rattle.q_device.specs.device.Giving.{given_of, polled_in}
use Rattle.q_device.specs.device.Keeping.{device_seen}
use Rattle.q_device.specs.Laws.{given_in}
use Rattle.q_device.proofs.device.Device.poll_stored.Goals as goal
use Rattle.q_device.proofs.device.Device.poll_stored.Goals.{After-count_poll}
use Rattle.q_device.proofs.device.EventLemmas.{Happened, event-rises, event-seen, polled, polled-device, polled-others, reply-step}
use Rattle.q_device.proofs.device.KeptLemmas.{event-kept, events-after, kept-arrived}
use Rattle.q_device.proofs.device.PollAnswers.{polled-gives, told-poll}
use Rattle.q_device.proofs.waiting.ReadyNumbers.{given-numbers}

-- the poll has happened
abbrev after : After-count_poll → Inside
after c = record c.self.inside { tree = c.send_stored-sent.new.self; losses = c.send_stored-sent.new.sink; recorded = c.record_poll.new.recorded; others = c.count_poll.new.others }

happened : (c : After-count_poll) → Happened c.self.inside (event.Poll c.args.now) (after c)
happened c =
    let a = c.self.inside in
    let b = after c in
    let others = polled-others a c.args.now c.later-at.result c.count_poll.new.others c.send_stored-sent.result c.later-at.ensures c.send_stored-sent.ensures.sent c.count_poll.ensures in
    let counted =
    events-after a c.self.invariant (event.Poll c.args.now) b c.moment_range.ensures
    (polled-device a b c.args.now c.later-at.result c.later-at.ensures c.send_stored-sent.ensures.after) others in
    polled a b c.args.now c.later-at.result c.later-at.ensures refl c.send_stored-sent.ensures.after c.send_stored-sent.ensures.lost.lost refl
    c.record_poll.ensures.items c.record_poll.ensures.capacity counted

pub invariant_of-self : goal.invariant_of-self
invariant_of-self c =
    let d = (goal.at.invariant_of-self c).After-count_poll in
    event-kept c.self.inside c.self.invariant (event.Poll c.args.now) (after d) (happened d) c.moment_range.ensures (omega arith) c.self.invariant.packets c.self.invariant.bytes
    (omega (arith, c.self.invariant.room, ap (λ (l : LossList). l.places) c.send_stored-sent.ensures.kept))

pub returns-clause-event : goal.returns-clause-event
returns-clause-event c =
    let d = (goal.at.returns-clause-event c).After-count_poll in
    let e = event.Poll c.args.now in
    event-seen c.self.inside e (after d) (happened d) ∙ ap (λ (x : DeviceSeen). record (with_event e x) { memory = (device_seen (after d)).memory }) c.self.view_is

pub returns-clause-memory : goal.returns-clause-memory
returns-clause-memory c =
    let a = c.self.inside in
    let at = c.later-at.result in
    (λ i. record { tree = c.send_stored-sent.ensures.after i; losses = ap (λ (l : LossList). l.places) c.send_stored-sent.ensures.kept i; events = c.record_poll.ensures.capacity i })
    ∙ ap (λ (d : DeviceSeen). polled_memory at d.memory) c.self.view_is
    ∙ ap (λ t. polled_memory t c.args.self.now.memory) (sym (ap (λ (d : DeviceState Kept). d.clock) c.send_stored-sent.ensures.after))

pub returns-clause-moment : goal.returns-clause-moment
returns-clause-moment c = ap (λ (d : DeviceSeen). event.Poll d.device.clock) (sym (returns-clause-event c))

pub returns-clause-reply : goal.returns-clause-reply
returns-clause-reply c =
    let a = c.self.inside in
    let tree = a.tree.tree in
    let e = event.Poll c.args.now in
    let left = ap (λ (d : DeviceState Kept). is_empty (shape d.tree.root)) c.send_stored-sent.ensures.after in
    let gives =
    sym (given-numbers c.later-at.result tree) ∙ ap (λ (d : DeviceSeen). given c.later-at.result d.device.tree) c.self.view_is
    ∙ ap (λ t. given t c.args.self.now.device.tree) (sym (ap (λ (d : DeviceState Kept). d.clock) c.send_stored-sent.ensures.after)) in
    ap₂ (λ o g. reply.Polled (polled_in (unwrap_or o (descriptor c.args.out.now)) g)) (sym gives) (c.given_of.ensures ∙ ap₂ given_of c.send_stored-sent.ensures.sent left)
    ∙ ap reply.Polled (told-poll (given c.later-at.result tree) (descriptor c.args.out.now) (is_empty (shape (take_packet kept c.later-at.result tree).root)))
    ∙ ap (λ t. reply.Polled (polled_of (given t tree) (is_empty (shape (take_packet kept t tree).root)))) c.later-at.ensures
    ∙ reply-step (numbers a.tree) a.tree refl e
    ∙ ap (λ (d : DeviceSeen). (step totals d.device e).reply) c.self.view_is

pub returns-clause-gives : goal.returns-clause-gives
returns-clause-gives c =
    let a = c.self.inside in
    let tree = a.tree.tree in
    let e = event.Poll c.args.now in
    let gives =
    sym (given-numbers c.later-at.result tree) ∙ ap (λ (d : DeviceSeen). given c.later-at.result d.device.tree) c.self.view_is
    ∙ ap (λ t. given t c.args.self.now.device.tree) (sym (ap (λ (d : DeviceState Kept). d.clock) c.send_stored-sent.ensures.after)) in
    sym (ap given_in (ap (λ t. reply.Polled (polled_of (given t tree) (is_empty (shape (take_packet kept t tree).root)))) c.later-at.ensures
    ∙ reply-step (numbers a.tree) a.tree refl e
    ∙ ap (λ (d : DeviceSeen). (step totals d.device e).reply) c.self.view_is))
    ∙ polled-gives (given c.later-at.result tree) (is_empty (shape (take_packet kept c.later-at.result tree).root))
    ∙ gives

pub returns-clause-packet : goal.returns-clause-packet
returns-clause-packet c =
    let a = c.self.inside in
    let at = c.later-at.result in
    c.send_stored-sent.ensures.packet
    ∙ ap (λ (g : Option Descriptor). option_map_or stored_of g c.args.out.now) (sym (given-numbers at a.tree.tree) ∙ ap (λ (d : DeviceSeen). given at d.device.tree) c.self.view_is)
    ∙ ap (λ t. option_map_or stored_of (given t c.args.self.now.device.tree) c.args.out.now) (sym (ap (λ (d : DeviceState Kept). d.clock) c.send_stored-sent.ensures.after))

pub returns-clause-arrived : goal.returns-clause-arrived
returns-clause-arrived c =
    let d = (goal.at.returns-clause-arrived c).After-count_poll in
    let e = event.Poll c.args.now in
    ap (λ (x : DeviceSeen). x.device.tree.top.arrived) (event-seen c.self.inside e (after d) (happened d))
    ∙ kept-arrived c.self.inside c.self.invariant e c.moment_range.ensures
    ∙ ap (λ (x : DeviceSeen). x.device.tree.top.arrived) c.self.view_is

pub returns-clause-counters : goal.returns-clause-counters
returns-clause-counters c =
    let d = (goal.at.returns-clause-counters c).After-count_poll in
    subst (λ (x : DeviceSeen). HasNotFallen x.device.tree.top c.send_stored-sent.new.self.tree.top.counts) c.self.view_is (event-rises c.self.inside (event.Poll c.args.now) (after d) (happened d))
