use Rattle.std.proofs.Common.{◌≡◌, ℕ, ◌<◌, ◌==◌, not, false, true, pos, ◌-ℤ◌, Option, None, List, ◌∷◌, ◌++◌, length, set, drop, IfSome, IsSome, IsSomeAnd, Some, slice_get, option_map, option_and_then, refl, sym, ap, ◌∙◌, arith, subst}
use Rattle.std.proofs.lemmas.Bool.{eqb-false}
use Rattle.std.specs.Option.{option_map_or}
use Rattle.q_packet.specs.Totals.{count}
use Rattle.q_packet.specs.declared.stamped.Stamped.{Stamped}
use Rattle.q_packet.specs.declared.cause.Cause.TheVariants.{CoDel}
use Rattle.q_codel.specs.Codel as codel
use Rattle.q_codel.specs.Codel.{is_late}
use Rattle.q_codel.specs.Losses.{AreLost}
use Rattle.q_codel.specs.declared.codel.Taken.{Taken}
use Rattle.q_fqcodel.specs.Cleared.{adjust}
use Rattle.q_fqcodel.specs.Entry.{Entry}
use Rattle.q_fqcodel.specs.FlowsState.{state_of}
use Rattle.q_fqcodel.specs.FqState.{Flow, FqState, FqView, queue_of, is_idle, packets_of}
use Rattle.q_fqcodel.specs.Lawful.{IsLawful}
use Rattle.q_fqcodel.specs.Links.{ListsState}
use Rattle.q_fqcodel.specs.Take.{IsFrontLate, taken_as, front, sender as sending_flow, packet_sent, packets_dropped, flow_after, paid, head_sent, sent_from, dropped_from, after_sending}
use Rattle.q_fqcodel.proofs.FlowLemmas.{packets_at}
use Rattle.q_fqcodel.proofs.KeptLemmas.{lawful_after_sending}
use Rattle.q_fqcodel.proofs.LawfulLemmas.{front_within}
use Rattle.q_fqcodel.proofs.SentLemmas.{front_is, sender_found, head_is, sent_is, dropped_is, after_sending_written, written, paid_is}
use Rattle.q_fqcodel.proofs.fq_codel.FqCodel.take_late_into.Goals as goal
use Rattle.q_fqcodel.proofs.fq_codel.FqCodel.take_late_into.Goals.{After-front, After-write_front}

from_and : (o : Option Entry) (f : Entry → Option Flow) (P : Flow → Type 0) → IsSomeAnd (option_and_then f o) P → IsSome o
from_and None f P h = absurd h
from_and (Some e) f P h = refl

if_some : (o : Option Flow) (P : Flow → Type 0) → IsSomeAnd o P → IfSome o P
if_some None P h = tt
if_some (Some x) P h = h

pub unwrap-front-requires : goal.unwrap-front-requires
unfolding sending_flow
unwrap-front-requires g c =
    let s : FqState = c.args.self.now.state in
    subst (λ (o : Option Entry). IsSome o) (sym c.first.ensures)
    (from_and (front s) (λ e. slice_get s.flows e.flow) (λ (f : Flow). is_late f.codel c.args.now f.queue ≡ true) c.requires.late)

-- the state as it was opened, and the flow in front
abbrev opened : (g : _) → After-front g → FqState
opened g c = state_of c.self.inside.settings c.self.inside.flows c.self.inside.lists.new_flows c.self.inside.lists.old_flows

abbrev sender : (g : _) → After-front g → Entry
sender g c = c.unwrap-front.result

abbrev behind : (g : _) → After-front g → List Entry
behind g c = drop 1 (c.self.inside.lists.new_flows ++ c.self.inside.lists.old_flows)

opened_is : (g : _) (c : After-front g) → opened g c ≡ c.args.self.now.state
opened_is g c = ap (λ (v : FqView). v.state) c.self.view_is

in_front : (g : _) (c : After-front g) → front (opened g c) ≡ Some (sender g c)
in_front g c = ap front (opened_is g c) ∙ sym c.first.ensures ∙ c.unwrap-front.ensures

first : (g : _) (c : After-front g) → (opened g c).new_flows ++ (opened g c).old_flows ≡ sender g c ∷ behind g c
first g c = front_is (opened g c) (sender g c) (in_front g c)

within : (g : _) (c : After-front g) → (sender g c).flow < length (opened g c).flows
within g c = omega (arith, front_within (opened g c) (sender g c) (behind g c) c.self.invariant.0 (first g c), c.self.invariant.0.each_flow)

-- what is known of the flow that sends
of_sender : (g : _) (c : After-front g) (P : Flow → Type 0)
    → IfSome (slice_get (opened g c).flows c.front.inside.flow) P → IfSome (slice_get (opened g c).flows (sender g c).flow) P
of_sender g c P h = subst (λ (e : Entry). IfSome (slice_get (opened g c).flows e.flow) P) c.front.view_is h

pub send_late_into-sent-requires-clause-late : goal.send_late_into-sent-requires-clause-late
send_late_into-sent-requires-clause-late g c =
    let s = opened g c in
    let P : Flow → Type 0 = λ f. is_late f.codel c.args.now f.queue ≡ true in
    let found : sending_flow s ≡ slice_get s.flows (sender g c).flow = sender_found s (sender g c) (behind g c) (first g c) in
    let late : IsFrontLate c.args.now s = subst (λ (t : FqState). IsFrontLate c.args.now t) (sym (opened_is g c)) c.requires.late in
    let of_flow : IsSomeAnd (slice_get s.flows (sender g c).flow) P = subst (λ (o : Option Flow). IsSomeAnd o P) found late in
    subst (λ (e : Entry). IfSome (slice_get s.flows e.flow) P) (sym c.front.view_is) (if_some (slice_get s.flows (sender g c).flow) P of_flow)

pub send_late_into-sent-requires-clause-room : goal.send_late_into-sent-requires-clause-room
send_late_into-sent-requires-clause-room g c =
    omega (arith, c.requires.room, packets_at c.front.inside.flow c.self.inside.flows.flows, ap (λ (v : FqView). packets_of v.state.flows) c.self.view_is)

-- ---- what it sends

-- the flow that was met in front, once it has sent
abbrev met : (g : _) → After-write_front g → After-front g
met g c = (goal.at.invariant_of-self g c).After-front

-- the packet that leaves, marked or not
abbrev gone : (g : _) → After-write_front g → Taken
gone g c = record { packet = c.send_late_into-sent.new.out; marked = c.send_late_into-sent.result.marked }

sent : (g : _) (c : After-write_front g) → sent_from c.args.now (opened g (met g c)) ≡ Some (gone g c)
sent g c =
    sent_is (opened g (met g c)) (sender g (met g c)) (behind g (met g c)) c.args.now (Some (gone g c)) (first g (met g c)) (within g (met g c))
    (of_sender g (met g c) (λ f. taken_as c.send_late_into-sent.new.out c.send_late_into-sent.result.marked ≡ packet_sent c.args.now f) c.send_late_into-sent.ensures.sent)

dropped : (g : _) (c : After-write_front g) (P : List Stamped → Type 0)
    → IfSome (slice_get (opened g (met g c)).flows c.front.inside.flow) (λ f. P (packets_dropped c.args.now f)) → P (dropped_from c.args.now c.args.self.now.state)
dropped g c P h =
    subst (λ (s : FqState). P (dropped_from c.args.now s)) (opened_is g (met g c))
    (dropped_is (opened g (met g c)) (sender g (met g c)) (behind g (met g c)) c.args.now P (first g (met g c)) (within g (met g c)) (of_sender g (met g c) (λ f. P (packets_dropped c.args.now f)) h))

paying : (g : _) (c : After-write_front g) → paid (sent_from c.args.now (opened g (met g c))) (sender g (met g c)) ≡ c.charged.result
paying g c =
    paid_is (sent_from c.args.now (opened g (met g c))) (gone g c) (sender g (met g c)) (sent g c)
    ∙ ap (λ (n : ℕ). record (sender g (met g c)) { credits = (sender g (met g c)).credits -ℤ pos n }) (sym c.send_late_into-sent.ensures.len)
    ∙ sym c.charged.ensures

flows_sent : (g : _) (c : After-write_front g) → c.send_late_into-sent.new.self.flows ≡ adjust (flow_after c.args.now) (sender g (met g c)).flow (opened g (met g c)).flows
flows_sent g c = c.send_late_into-sent.ensures.flows ∙ ap (λ (e : Entry). adjust (flow_after c.args.now) e.flow (opened g (met g c)).flows) c.front.view_is

pub write_front-requires-clause-own : goal.write_front-requires-clause-own
write_front-requires-clause-own g c =
    let split = front_is c.args.self.now.state c.unwrap-front.result (sym c.first.ensures ∙ c.unwrap-front.ensures) in
    subst (λ (l : List Entry). IfSome (slice_get l 0) (λ e. e.flow ≡ c.charged.result.flow))
    (sym (ap (λ (v : FqView). v.state.new_flows ++ v.state.old_flows) c.self.view_is ∙ split))
    (sym (ap (λ (e : Entry). e.flow) c.charged.ensures))

-- the state after
after : (g : _) (c : After-write_front g)
    → state_of c.self.inside.settings c.send_late_into-sent.new.self c.write_front.new.self.new_flows c.write_front.new.self.old_flows
    ≡ after_sending c.args.now (opened g (met g c))
after g c =
    let s = opened g (met g c) in
    let flows : List Flow = adjust (flow_after c.args.now) (sender g (met g c)).flow s.flows in
    ap (λ (f : List Flow). record s { flows = f; new_flows = c.write_front.new.self.new_flows; old_flows = c.write_front.new.self.old_flows }) (flows_sent g c)
    ∙ ap (λ (v : ListsState). record s { flows = flows; new_flows = v.new_flows; old_flows = v.old_flows }) c.write_front.ensures
    ∙ ap (λ (m : Entry). record s { flows = flows; new_flows = set s.new_flows 0 m; old_flows = written m s.new_flows s.old_flows }) (sym (paying g c))
    ∙ sym (after_sending_written s (sender g (met g c)) c.args.now (in_front g (met g c)))

pub invariant_of-self : goal.invariant_of-self
invariant_of-self g c = (
  subst (λ (s : FqState). IsLawful s) (sym (after g c)) (lawful_after_sending (opened g (met g c)) c.args.now c.self.invariant.0),
  ap (λ (v : ListsState). v.room) c.write_front.ensures ∙ c.self.invariant.1,
)

here : (g : _) (c : After-write_front g) → Some (gone g c) ≡ sent_from c.args.now c.args.self.now.state
here g c = sym (sent g c) ∙ ap (sent_from c.args.now) (opened_is g (met g c))

pub returns-clause-len : goal.returns-clause-len
returns-clause-len g c = c.send_late_into-sent.ensures.len ∙ ap (λ (o : Option Taken). option_map_or (λ (t : Taken). t.packet.len) o 0) (here g c)

pub returns-clause-at : goal.returns-clause-at
returns-clause-at g c =
    let P : Option Stamped → Type 0 = λ o. Some c.send_late_into-sent.result.at ≡ option_map (λ (s : Stamped). s.at) o in
    subst (λ (s : FqState). P (head_sent c.args.now s)) (opened_is g (met g c))
    (head_is (opened g (met g c)) (sender g (met g c)) (behind g (met g c)) c.args.now P (first g (met g c)) (within g (met g c))
    (of_sender g (met g c) (λ f. P (codel.sent f.codel c.args.now f.queue)) c.send_late_into-sent.ensures.at))

pub returns-clause-some : goal.returns-clause-some
returns-clause-some g c =
    let flows : List Flow = c.args.self.now.state.flows in
    let busy : is_idle flows c.unwrap-front.result.flow ≡ false =
    subst (λ (o : Option Entry). IfSome o (λ e. is_idle flows e.flow ≡ false)) (sym c.first.ensures ∙ c.unwrap-front.ensures) c.requires.settled.busy in
    let some : 0 < count (queue_of flows c.unwrap-front.result.flow) = omega (arith, eqb-false (count (queue_of flows c.unwrap-front.result.flow)) 0 busy) in (
      λ _. omega (arith, some, packets_at c.unwrap-front.result.flow flows),
      λ _. c.send_late_into-sent.ensures.some,
    )

pub returns-clause-packet : goal.returns-clause-packet
returns-clause-packet g c = ap (λ (o : Option Taken). option_map_or (λ (t : Taken). t.packet) o c.args.out.now) (here g c)

pub returns-clause-marked : goal.returns-clause-marked
returns-clause-marked g c = ap (λ (o : Option Taken). option_map_or (λ (t : Taken). t.marked) o false) (here g c)

pub returns-clause-dropped : goal.returns-clause-dropped
returns-clause-dropped g c = dropped g c (λ l. c.send_late_into-sent.result.dropped ≡ not (count l == 0)) c.send_late_into-sent.ensures.dropped

pub returns-clause-after : goal.returns-clause-after
returns-clause-after g c = after g c ∙ ap (after_sending c.args.now) (opened_is g (met g c))

pub returns-clause-lost : goal.returns-clause-lost
returns-clause-lost g c =
    dropped g c (λ l. AreLost CoDel l (g.S.Sink.state c.args.sink.now) (g.S.Sink.state c.send_late_into-sent.new.sink)) c.send_late_into-sent.ensures.lost
