use Rattle.std.proofs.Common.{◌≡◌, ℕ, ◌+◌, ◌%◌, ◌<◌, ◌≤◌, List, [], ◌++◌, length, take, refl, sym, ap, ap₂, ◌∙◌, arith, subst}
use Rattle.std.proofs.lemmas.Bool.{ltb-true, ltb-false}
use Rattle.q_packet.specs.Totals.{count, size}
use Rattle.q_packet.specs.Descriptor.{Descriptor}
use Rattle.q_packet.specs.declared.stamped.Stamped.{Stamped}
use Rattle.q_packet.specs.declared.cause.Cause.TheVariants.{FatFlow}
use Rattle.q_codel.specs.Losses.{AreLost}
use Rattle.q_codel.proofs.SinkLemmas.{told_nothing}
use Rattle.q_fqcodel.specs.Cleared.{adjust}
use Rattle.q_fqcodel.specs.FlowsState.{state_of}
use Rattle.q_fqcodel.specs.FqState.{FqSettings, Flow, FqState, FqView, queue_of, packets_of, bytes_of}
use Rattle.q_fqcodel.specs.Lawful.{IsLawful}
use Rattle.q_fqcodel.specs.Links.{ListsState}
use Rattle.q_fqcodel.specs.Put.{flow_of, joined, appended, fattest, shed_count, cut_back, shed, after_put, lost_by_put}
use Rattle.q_fqcodel.specs.Ranges.{IsInRange}
use Rattle.q_fqcodel.proofs.CountLemmas.{IsCountedPut, put_is_counted}
use Rattle.q_fqcodel.proofs.KeptLemmas.{lawful_after_put}
use Rattle.q_fqcodel.proofs.PutLemmas.{place_for, listed_not, packets_of-joined, appended_is, cut_none, cut_some, shed_none, shed_some, lost_none, lost_some, shed_batch}
use Rattle.q_fqcodel.proofs.fq_codel.FqCodel.put_counted.Goals as goal
use Rattle.q_fqcodel.proofs.fq_codel.FqCodel.put_counted.Goals.{After-enlist, After-push, After-bytes-bytes_after}

-- the state as it was opened
abbrev opened : (g : _) → After-enlist g → FqState
opened g c = state_of c.self.inside.settings c.self.inside.flows c.self.inside.lists.new_flows c.self.inside.lists.old_flows

opened_is : (g : _) (c : After-enlist g) → opened g c ≡ c.args.self.now.state
opened_is g c = ap (λ (v : FqView). v.state) c.self.view_is

abbrev own : (g : _) → After-enlist g → ℕ
own g c = c.flow_by_hash-flow.result

own_is : (g : _) (c : After-enlist g) → own g c ≡ flow_of (opened g c) c.args.packet.now
own_is g c = c.flow_by_hash-flow.ensures ∙ ap₂ (λ (m n : ℕ). m % n) (ap (λ (p : Descriptor). p.hash) c.packet.view_is) (ap (λ (x : FqSettings). x.flows) c.settings.view_is)

within : (g : _) (c : After-enlist g) → own g c < length c.self.inside.flows.flows
within g c =
    let count : c.settings.inside.flows ≡ c.self.inside.settings.flows = ap (λ (x : FqSettings). x.flows) c.settings.view_is in
    omega (arith, c.flow_by_hash-flow.ensures, count, c.settings.invariant.flows_low, c.self.invariant.0.each_flow)

-- the packet, as it is queued
abbrev arrived : (g : _) → After-enlist g → Stamped
arrived g c = record { packet = c.args.packet.now; at = c.args.now }

-- the flows once the packet has joined its flow, and the state with them
abbrev joins : (g : _) → After-enlist g → List Flow
joins g c = adjust (joined (arrived g c)) (own g c) c.self.inside.flows.flows

abbrev fuller : (g : _) → After-enlist g → FqState
fuller g c = record (opened g c) { flows = joins g c; new_flows = c.enlist.new.self.new_flows; old_flows = c.enlist.new.self.old_flows }

fuller_is : (g : _) (c : After-enlist g) → fuller g c ≡ appended c.args.self.now.state c.args.packet.now c.args.now
fuller_is g c =
    let s = opened g c in
    ap (λ (v : ListsState). record s { flows = joins g c; new_flows = c.enlist.new.self.new_flows; old_flows = v.old_flows }) c.enlist.ensures
    ∙ appended_is s c.args.packet.now c.args.now (own g c) c.settings.inside.quantum (joins g c) c.enlist.new.self.new_flows (own_is g c)
    (ap (λ (x : FqSettings). x.quantum) c.settings.view_is)
    refl (ap (λ (v : ListsState). v.new_flows) c.enlist.ensures)
    ∙ ap (λ (x : FqState). appended x c.args.packet.now c.args.now) (opened_is g c)

-- one packet more than before
more : (g : _) (c : After-enlist g) → packets_of (joins g c) ≡ packets_of c.self.inside.flows.flows + 1
more g c = packets_of-joined (arrived g c) (own g c) c.self.inside.flows.flows (within g c)

-- what is known of the state before
lawful : (g : _) (c : After-enlist g) → IsLawful c.args.self.now.state
lawful g c = subst (λ (s : FqState). IsLawful s) (opened_is g c) c.self.invariant.0

ranges : (g : _) (c : After-enlist g) → IsInRange c.args.self.now.state.settings
ranges g c = subst (λ (x : FqSettings). IsInRange x) (c.settings.view_is ∙ ap (λ (s : FqState). s.settings) (opened_is g c)) c.settings.invariant

pub enlist-requires-clause-within : goal.enlist-requires-clause-within
enlist-requires-clause-within g c =
    let count : c.settings.inside.flows ≡ c.self.inside.settings.flows = ap (λ (x : FqSettings). x.flows) c.settings.view_is in
    omega (arith, c.flow_by_hash-flow.ensures, count, c.settings.invariant.flows_low, c.self.invariant.1)

pub enlist-requires-clause-few : goal.enlist-requires-clause-few
enlist-requires-clause-few g c =
    let s : FqState = state_of c.self.inside.settings c.self.inside.flows c.self.inside.lists.new_flows c.self.inside.lists.old_flows in
    let n : ℕ = c.flow_by_hash-flow.result in
    let count : c.settings.inside.flows ≡ s.settings.flows = ap (λ (x : FqSettings). x.flows) c.settings.view_is in
    let low : n < s.settings.flows = omega (arith, c.flow_by_hash-flow.ensures, count, c.settings.invariant.flows_low) in
    λ h.
    let place = place_for s n c.self.invariant.0 low (listed_not n (s.new_flows ++ s.old_flows) h) in
    omega (arith, place, count, c.settings.invariant.flows_high)

-- the packet's flow, by the number of flows that there are
own_flow : (g : _) (c : After-enlist g) → c.args.packet.now.hash % length c.self.inside.flows.flows ≡ own g c
own_flow g c =
    let count : c.settings.inside.flows ≡ length c.self.inside.flows.flows = ap (λ (x : FqSettings). x.flows) c.settings.view_is ∙ sym c.self.invariant.0.each_flow in
    ap (λ (p : Descriptor). p.hash % length c.self.inside.flows.flows) (sym c.packet.view_is) ∙ ap (λ (n : ℕ). c.packet.inside.stored.hash % n) (sym count) ∙ sym c.flow_by_hash-flow.ensures

pub push-requires-clause-own : goal.push-requires-clause-own
push-requires-clause-own g c = own_flow g (goal.at.push-requires-clause-own g c).After-enlist

-- ---- within the limit

before : (g : _) → After-push g → After-enlist g
before g c = (goal.at.invariant_of-self g c).After-enlist

in_limit : (g : _) (c : After-push g) → packets_of (joins g (before g c)) ≤ c.self.inside.settings.limit
unfolding before
in_limit g c =
    let at = before g c in
    let below = ltb-true _ _ (sym c.fits-fits.ensures.value ∙ c.if-fits.true) in
    omega (arith, below, more g at, ap (λ (x : FqState). packets_of x.flows) (opened_is g at), ap (λ (x : FqState). x.settings.limit) (opened_is g at))

stays : (g : _) (c : After-push g)
    → state_of c.self.inside.settings c.push.new.self c.enlist.new.self.new_flows c.enlist.new.self.old_flows
    ≡ after_put c.args.self.now.state c.args.packet.now c.args.now
unfolding before
stays g c =
    let a = fuller g (before g c) in
    ap (λ (f : List Flow). record a { flows = f }) c.push.ensures.flows ∙ sym (cut_none a (in_limit g c)) ∙ ap cut_back (fuller_is g (before g c))

none_lost : (g : _) (c : After-push g) → [] ≡ lost_by_put c.args.self.now.state c.args.packet.now c.args.now
unfolding before
none_lost g c = sym (shed_none (fuller g (before g c)) (in_limit g c)) ∙ ap shed (fuller_is g (before g c))

pub invariant_of-self : goal.invariant_of-self
unfolding before
invariant_of-self g c =
    let at = before g c in (
      subst (λ (s : FqState). IsLawful s) (sym (stays g c))
          (lawful_after_put c.args.self.now.state c.args.packet.now c.args.now (lawful g at) (ranges g at)
          (λ over. absurd (omega (arith, over, in_limit g c, ap (λ (x : FqState). packets_of x.flows) (fuller_is g at), ap (λ (x : FqState). x.settings.limit) (opened_is g at))))),
      ap (λ (v : ListsState). v.room) c.enlist.ensures ∙ c.self.invariant.1,
    )

pub returns-then-fits-clause-itself : goal.returns-then-fits-clause-itself
unfolding before
returns-then-fits-clause-itself g c =
    let at = before g c in
    sym (lost_none c.args.self.now.state (fuller g at) c.args.packet.now c.args.now (own g at) (arrived g at) (fuller_is g at)
    (own_is g at ∙ ap (λ (x : FqState). flow_of x c.args.packet.now) (opened_is g at)) (in_limit g c)
    (ap (λ (x : FqState). adjust (joined (arrived g at)) (own g at) x.flows) (opened_is g at))
    (omega (arith, within g at, ap (λ (x : FqState). length x.flows) (opened_is g at))))

pub returns-then-fits-clause-packets : goal.returns-then-fits-clause-packets
returns-then-fits-clause-packets g c = ap count (none_lost g c)

pub returns-then-fits-clause-bytes : goal.returns-then-fits-clause-bytes
returns-then-fits-clause-bytes g c = ap size (none_lost g c)

pub returns-then-fits-clause-after : goal.returns-then-fits-clause-after
returns-then-fits-clause-after g c = stays g c

pub returns-then-fits-clause-lost : goal.returns-then-fits-clause-lost
returns-then-fits-clause-lost g c =
    subst (λ (l : List Stamped). AreLost FatFlow l (g.S.Sink.state c.args.sink.now) (g.S.Sink.state c.args.sink.now)) (none_lost g c) (told_nothing (g.S.Sink.state c.args.sink.now))

-- ---- past the limit

batch : (g : _) (c : After-enlist g) → c.settings.inside.drop_batch ≡ c.self.inside.settings.drop_batch
batch g c = ap (λ (x : FqSettings). x.drop_batch) c.settings.view_is

pub push_over-itself-requires-clause-own : goal.push_over-itself-requires-clause-own
push_over-itself-requires-clause-own g c = own_flow g (goal.at.push_over-itself-requires-clause-own g c).After-enlist

pub push_over-itself-requires-clause-room : goal.push_over-itself-requires-clause-room
push_over-itself-requires-clause-room g c =
    let at = (goal.at.push_over-itself-requires-clause-room g c).After-enlist in
    omega (
      arith,
      shed_batch (joins g at) c.settings.inside.drop_batch,
      more g at,
      c.requires.room,
      ap (λ (x : FqState). packets_of x.flows) (opened_is g at),
      ap (λ (x : FqState). x.settings.drop_batch) (opened_is g at),
      batch g at,
    )

opening : (g : _) → After-bytes-bytes_after g → After-enlist g
opening g c = (goal.at.invariant_of-self-2 g c).After-enlist

past_limit : (g : _) (c : After-bytes-bytes_after g) → c.self.inside.settings.limit < packets_of (joins g (opening g c))
unfolding opening
past_limit g c =
    let at = opening g c in
    let most = ltb-false _ _ (sym c.fits-fits.ensures.value ∙ c.if-fits.false) in
    omega (arith, most, more g at, ap (λ (x : FqState). packets_of x.flows) (opened_is g at), ap (λ (x : FqState). x.settings.limit) (opened_is g at))

lost_is : (g : _) (c : After-bytes-bytes_after g) → shed_count (joins g (opening g c)) c.settings.inside.drop_batch ≡ shed_count (joins g (opening g c)) c.self.inside.settings.drop_batch
unfolding opening
lost_is g c = ap (shed_count (joins g (opening g c))) (batch g (opening g c))

cut : (g : _) (c : After-bytes-bytes_after g) → record (fuller g (opening g c)) { flows = c.push_over-itself.new.self.flows } ≡ after_put c.args.self.now.state c.args.packet.now c.args.now
unfolding opening
cut g c =
    let at = opening g c in
    let a = fuller g at in
    ap (λ (f : List Flow). record a { flows = f }) c.push_over-itself.ensures.flows
    ∙ sym (cut_some a (fattest (joins g at)) (shed_count (joins g at) c.settings.inside.drop_batch) (past_limit g c) refl (lost_is g c))
    ∙ ap cut_back (fuller_is g at)

shed_is : (g : _) (c : After-bytes-bytes_after g)
    → take (shed_count (joins g (opening g c)) c.settings.inside.drop_batch) (queue_of (joins g (opening g c)) (fattest (joins g (opening g c))))
    ≡ lost_by_put c.args.self.now.state c.args.packet.now c.args.now
unfolding opening
shed_is g c =
    let at = opening g c in
    sym (shed_some (fuller g at) (fattest (joins g at)) (shed_count (joins g at) c.settings.inside.drop_batch) (past_limit g c) refl (lost_is g c)) ∙ ap shed (fuller_is g at)

pub invariant_of-self-2 : goal.invariant_of-self-2
unfolding opening
invariant_of-self-2 g c =
    let at = opening g c in (
      subst (λ (s : FqState). IsLawful s) (sym (cut g c))
          (lawful_after_put c.args.self.now.state c.args.packet.now c.args.now (lawful g at) (ranges g at)
          (λ _. subst (λ (x : FqState). 0 < count (queue_of x.flows (fattest x.flows))) (fuller_is g at) c.push_over-itself.ensures.some)),
      ap (λ (v : ListsState). v.room) c.enlist.ensures ∙ c.self.invariant.1,
    )

-- what is counted before the put and after it
counted : (g : _) (c : After-enlist g) → IsCountedPut c.args.self.now.state c.args.packet.now c.args.now
counted g c =
    put_is_counted c.args.self.now.state c.args.packet.now c.args.now
    (omega (arith, within g c, own_is g c, ap (λ (x : FqState). flow_of x c.args.packet.now) (opened_is g c), ap (λ (x : FqState). length x.flows) (opened_is g c)))

counted_after : (g : _) (c : After-bytes-bytes_after g)
    → (c.count-packets_after.result + count (lost_by_put c.args.self.now.state c.args.packet.now c.args.now) ≡ c.count-packets.result + 1)
    × (c.bytes-bytes_after.result + size (lost_by_put c.args.self.now.state c.args.packet.now c.args.now) ≡ c.bytes.result + c.packet.inside.stored.len)
unfolding opening
counted_after g c =
    let at = opening g c in
    let put = counted g at in (
      omega (arith, put.packets, c.count-packets_after.ensures, c.count-packets.ensures, ap (λ (x : FqState). packets_of x.flows) (cut g c), ap (λ (x : FqState). packets_of x.flows) (opened_is g at)),
      omega (
        arith,
        put.bytes,
        c.bytes-bytes_after.ensures.value,
        c.bytes.ensures.value,
        ap (λ (x : FqState). bytes_of x.flows) (cut g c),
        ap (λ (x : FqState). bytes_of x.flows) (opened_is g at),
        ap (λ (p : Descriptor). p.len) c.packet.view_is,
      ),
    )

pub overflow_sub-result : goal.overflow_sub-result
overflow_sub-result g c = omega (arith, (counted_after g c).0)

pub overflow_sub-result-2 : goal.overflow_sub-result-2
overflow_sub-result-2 g c = omega (arith, (counted_after g c).1)

pub returns-clause-packets : goal.returns-clause-packets
returns-clause-packets g c = omega (arith, (counted_after g c).0)

pub returns-clause-bytes : goal.returns-clause-bytes
returns-clause-bytes g c = omega (arith, (counted_after g c).1)

pub returns-clause-itself : goal.returns-clause-itself
unfolding opening
returns-clause-itself g c =
    let at = opening g c in
    c.push_over-itself.ensures.answer
    ∙ sym (lost_some c.args.self.now.state (fuller g at) c.args.packet.now c.args.now (own g at) (fattest (joins g at)) (shed_count (joins g at) c.settings.inside.drop_batch) (fuller_is g at)
    (own_is g at ∙ ap (λ (x : FqState). flow_of x c.args.packet.now) (opened_is g at)) (past_limit g c) refl (lost_is g c))

pub returns-clause-after : goal.returns-clause-after
unfolding opening
returns-clause-after g c = cut g c

pub returns-clause-lost : goal.returns-clause-lost
unfolding opening
returns-clause-lost g c = subst (λ (l : List Stamped). AreLost FatFlow l (g.S.Sink.state c.args.sink.now) (g.S.Sink.state c.push_over-itself.new.sink)) (shed_is g c) c.push_over-itself.ensures.lost
