use Rattle.std.proofs.Common.{◌≡◌, ℕ, ◌<◌, false, true, pos, ◌-ℤ◌, Option, None, List, [], ◌∷◌, ◌++◌, length, set, drop, IfSome, IsSomeAnd, Some, slice_get, option_map, IsSome, Result, Ok, Err, OnErr, refl, sym, ap, ◌∙◌, arith, subst}
use Rattle.std.proofs.lemmas.Bool.{eqb-false}
use Rattle.std.specs.Option.{option_map_or}
use Rattle.q_packet.specs.Totals.{count}
use Rattle.q_packet.specs.declared.stamped.Stamped.{Stamped}
use Rattle.q_codel.specs.Codel as codel
use Rattle.q_codel.specs.Codel.{is_late}
use Rattle.q_codel.specs.declared.codel.Taken.{Taken}
use Rattle.q_fqcodel.specs.Cleared.{adjust}
use Rattle.q_fqcodel.specs.Entry.{Entry}
use Rattle.q_fqcodel.specs.FlowsState.{state_of}
use Rattle.q_fqcodel.specs.FqState.{Flow, FqState, FqView, queue_of, is_idle}
use Rattle.q_fqcodel.specs.Lawful.{IsLawful}
use Rattle.q_fqcodel.specs.Links.{ListsState}
use Rattle.q_fqcodel.specs.Take.{IsFrontLate, taken_as, front, sender as sending_flow, packet_sent, packets_dropped, flow_after, paid, head_sent, sent_from, dropped_from, after_sending}
use Rattle.q_fqcodel.proofs.FlowLemmas.{packets_at}
use Rattle.q_fqcodel.proofs.KeptLemmas.{lawful_after_sending}
use Rattle.q_fqcodel.proofs.LawfulLemmas.{front_within, none_waits}
use Rattle.q_fqcodel.proofs.SentLemmas.{front_is, front_none, sender_found, slice_there, head_is, head_none, sent_is, sent_none, dropped_is, dropped_none, after_none, after_sending_written, written, paid_is}
use Rattle.q_fqcodel.proofs.fq_codel.FqCodel.pass_front_into.Goals as goal
use Rattle.q_fqcodel.proofs.fq_codel.FqCodel.pass_front_into.Goals.{After-queued, After-pass_into, After-write_front}

-- ---- no flow is listed

none_in_front : (c : After-queued) → (c.args.self.now.state.new_flows ≡ []) × (c.args.self.now.state.old_flows ≡ [])
none_in_front c = front_none c.args.self.now.state (sym c.requires.first ∙ c.in_default.is)

no_one : (c : After-queued) → None ≡ sent_from c.args.now c.args.self.now.state
no_one c = sym (sent_none c.args.self.now.state c.args.now (none_in_front c).0 (none_in_front c).1)

pub returns-in_default-clause-len : goal.returns-in_default-clause-len
returns-in_default-clause-len c = ap (λ (o : Option Taken). option_map (λ (t : Taken). t.packet.len) o) (no_one c)

pub returns-in_default-clause-at : goal.returns-in_default-clause-at
returns-in_default-clause-at c = sym (ap (λ (o : Option Stamped). option_map (λ (s : Stamped). s.at) o) (head_none c.args.self.now.state c.args.now (none_in_front c).0 (none_in_front c).1))

pub returns-in_default-clause-some : goal.returns-in_default-clause-some
returns-in_default-clause-some c = (
  λ h. absurd cc,
  λ h. absurd (omega (arith, h, none_waits c.args.self.now.state c.queued.ensures.lawful (none_in_front c).0 (none_in_front c).1)),
)

pub returns-in_default-clause-packet : goal.returns-in_default-clause-packet
returns-in_default-clause-packet c = ap (λ (o : Option Taken). option_map_or (λ (t : Taken). t.packet) o c.args.out.now) (no_one c)

pub returns-in_default-clause-marked : goal.returns-in_default-clause-marked
returns-in_default-clause-marked c = sym (ap (λ (o : Option Taken). option_map_or (λ (t : Taken). t.marked) o false) (no_one c))

pub returns-in_default-clause-dropped : goal.returns-in_default-clause-dropped
returns-in_default-clause-dropped c = dropped_none c.args.self.now.state c.args.now (none_in_front c).0 (none_in_front c).1

pub returns-in_default-clause-after : goal.returns-in_default-clause-after
returns-in_default-clause-after c = sym (after_none c.args.self.now.state c.args.now (none_in_front c).0 (none_in_front c).1)

-- ---- the flow in front sends

-- the state as it was opened, and the flow in front
abbrev opened : After-pass_into → FqState
opened c = state_of c.self.inside.settings c.self.inside.flows c.self.inside.lists.new_flows c.self.inside.lists.old_flows

abbrev sender : After-pass_into → Entry
sender c = c.in-Some.front

abbrev behind : After-pass_into → List Entry
behind c = drop 1 (c.self.inside.lists.new_flows ++ c.self.inside.lists.old_flows)

opened_is : (c : After-pass_into) → opened c ≡ c.args.self.now.state
opened_is c = ap (λ (v : FqView). v.state) c.self.view_is

in_front : (c : After-pass_into) → front (opened c) ≡ Some (sender c)
in_front c = ap front (opened_is c) ∙ sym c.requires.first ∙ c.in-Some.is

first : (c : After-pass_into) → (opened c).new_flows ++ (opened c).old_flows ≡ sender c ∷ behind c
first c = front_is (opened c) (sender c) (in_front c)

within : (c : After-pass_into) → (sender c).flow < length (opened c).flows
within c = omega (arith, front_within (opened c) (sender c) (behind c) c.self.invariant.0 (first c), c.self.invariant.0.each_flow)

-- what is known of the flow that sends
of_sender : (c : After-pass_into) (P : Flow → Type 0)
    → IfSome (slice_get (opened c).flows c.front.inside.flow) P → IfSome (slice_get (opened c).flows (sender c).flow) P
of_sender c P h = subst (λ (e : Entry). IfSome (slice_get (opened c).flows e.flow) P) c.front.view_is h

-- the same, once it has sent
abbrev met : After-write_front → After-pass_into
met c = (goal.at.invariant_of-self-2 c).After-pass_into

-- the packet that leaves
abbrev gone : After-write_front → Taken
gone c = record { packet = c.pass_into.new.out; marked = false }

sent : (c : After-write_front) → sent_from c.args.now (opened (met c)) ≡ Some (gone c)
sent c =
    sent_is (opened (met c)) (sender (met c)) (behind (met c)) c.args.now (Some (gone c)) (first (met c)) (within (met c))
    (of_sender (met c) (λ f. taken_as c.pass_into.new.out false ≡ packet_sent c.args.now f) c.in_ok-passed.ensures.sent)

paying : (c : After-write_front) → paid (sent_from c.args.now (opened (met c))) (sender (met c)) ≡ c.charged.result
paying c =
    paid_is (sent_from c.args.now (opened (met c))) (gone c) (sender (met c)) (sent c)
    ∙ ap (λ (n : ℕ). record (sender (met c)) { credits = (sender (met c)).credits -ℤ pos n }) (sym c.in_ok-passed.ensures.len)
    ∙ sym c.charged.ensures

flows_sent : (c : After-write_front) → c.pass_into.new.self.flows ≡ adjust (flow_after c.args.now) (sender (met c)).flow (opened (met c)).flows
flows_sent c = c.in_ok-passed.ensures.flows ∙ ap (λ (e : Entry). adjust (flow_after c.args.now) e.flow (opened (met c)).flows) c.front.view_is

pub write_front-requires-clause-own : goal.write_front-requires-clause-own
write_front-requires-clause-own c =
    let split = front_is c.args.self.now.state c.in-Some.front (sym c.requires.first ∙ c.in-Some.is) in
    subst (λ (l : List Entry). IfSome (slice_get l 0) (λ e. e.flow ≡ c.charged.result.flow))
    (sym (ap (λ (v : FqView). v.state.new_flows ++ v.state.old_flows) c.self.view_is ∙ split))
    (sym (ap (λ (e : Entry). e.flow) c.charged.ensures))

-- the state after
after : (c : After-write_front) → state_of c.self.inside.settings c.pass_into.new.self c.write_front.new.self.new_flows c.write_front.new.self.old_flows ≡ after_sending c.args.now (opened (met c))
after c =
    let s = opened (met c) in
    let flows : List Flow = adjust (flow_after c.args.now) (sender (met c)).flow s.flows in
    ap (λ (f : List Flow). record s { flows = f; new_flows = c.write_front.new.self.new_flows; old_flows = c.write_front.new.self.old_flows }) (flows_sent c)
    ∙ ap (λ (v : ListsState). record s { flows = flows; new_flows = v.new_flows; old_flows = v.old_flows }) c.write_front.ensures
    ∙ ap (λ (m : Entry). record s { flows = flows; new_flows = set s.new_flows 0 m; old_flows = written m s.new_flows s.old_flows }) (sym (paying c))
    ∙ sym (after_sending_written s (sender (met c)) c.args.now (in_front (met c)))

pub invariant_of-self-2 : goal.invariant_of-self-2
invariant_of-self-2 c = (
  subst (λ (s : FqState). IsLawful s) (sym (after c)) (lawful_after_sending (opened (met c)) c.args.now c.self.invariant.0),
  ap (λ (v : ListsState). v.room) c.write_front.ensures ∙ c.self.invariant.1,
)

here : (c : After-write_front) → Some (gone c) ≡ sent_from c.args.now c.args.self.now.state
here c = sym (sent c) ∙ ap (sent_from c.args.now) (opened_is (met c))

pub returns-clause-len : goal.returns-clause-len
returns-clause-len c = ap (λ (n : ℕ). Some n) c.in_ok-passed.ensures.len ∙ ap (λ (o : Option Taken). option_map (λ (t : Taken). t.packet.len) o) (here c)

pub returns-clause-at : goal.returns-clause-at
returns-clause-at c =
    let P : Option Stamped → Type 0 = λ o. Some c.in_ok-passed.passed.at ≡ option_map (λ (s : Stamped). s.at) o in
    subst (λ (s : FqState). P (head_sent c.args.now s)) (opened_is (met c))
    (head_is (opened (met c)) (sender (met c)) (behind (met c)) c.args.now P (first (met c)) (within (met c))
    (of_sender (met c) (λ f. P (codel.sent f.codel c.args.now f.queue)) c.in_ok-passed.ensures.at))

pub returns-clause-some : goal.returns-clause-some
returns-clause-some c =
    let flows : List Flow = c.args.self.now.state.flows in
    let busy : is_idle flows c.in-Some.front.flow ≡ false =
    subst (λ (o : Option Entry). IfSome o (λ e. is_idle flows e.flow ≡ false)) (sym c.requires.first ∙ c.in-Some.is) c.requires.settled.busy in
    let some : 0 < count (queue_of flows c.in-Some.front.flow) = omega (arith, eqb-false (count (queue_of flows c.in-Some.front.flow)) 0 busy) in (
      λ _. omega (arith, some, packets_at c.in-Some.front.flow flows),
      λ _. refl,
    )

pub returns-clause-packet : goal.returns-clause-packet
returns-clause-packet c = ap (λ (o : Option Taken). option_map_or (λ (t : Taken). t.packet) o c.args.out.now) (here c)

pub returns-clause-marked : goal.returns-clause-marked
returns-clause-marked c = sym (ap (λ (o : Option Taken). option_map_or (λ (t : Taken). t.marked) o false) (here c))

pub returns-clause-dropped : goal.returns-clause-dropped
returns-clause-dropped c =
    subst (λ (s : FqState). dropped_from c.args.now s ≡ []) (opened_is (met c))
    (dropped_is (opened (met c)) (sender (met c)) (behind (met c)) c.args.now (λ l. l ≡ []) (first (met c)) (within (met c))
    (of_sender (met c) (λ f. packets_dropped c.args.now f ≡ []) c.in_ok-passed.ensures.dropped))

pub returns-clause-after : goal.returns-clause-after
returns-clause-after c = after c ∙ ap (after_sending c.args.now) (opened_is (met c))

-- ---- the flow in front is late

some_and : {X : Type 0} (o : Option X) (P : X → Type 0) → IsSome o → IfSome o P → IsSomeAnd o P
some_and None P some h = absurd cc
some_and (Some x) P some h = h

on_err : {A B : Type 0} (r : Result A B) (P : Type 0) → P → OnErr r P
on_err (Ok x) P p = tt
on_err (Err x) P p = p

pub returns-in_err-passed-clause-late : goal.returns-in_err-passed-clause-late
returns-in_err-passed-clause-late c =
    let d = (goal.at.returns-in_err-passed-clause-late c).After-pass_into in
    let s = opened d in
    let found : sending_flow s ≡ slice_get s.flows (sender d).flow = sender_found s (sender d) (behind d) (first d) in
    on_err c.from_residual.result (IsFrontLate c.args.now c.args.self.now.state)
    (subst (λ (t : FqState). IsFrontLate c.args.now t) (opened_is d)
    (subst (λ (o : Option Flow). IsSomeAnd o (λ f. is_late f.codel c.args.now f.queue ≡ true)) (sym found)
    (some_and (slice_get s.flows (sender d).flow) (λ f. is_late f.codel c.args.now f.queue ≡ true) (slice_there s.flows (sender d).flow (within d))
    (of_sender d (λ f. is_late f.codel c.args.now f.queue ≡ true) c.in_err-passed.ensures.late))))
