-- What notes add to the counters of a device.
use Rattle.std.proofs.Common.{◌≡◌, ℕ, ◌+◌, ◌≤◌, List, [], ◌∷◌, ◌++◌, length, map, refl, sym, ap, ap₂, Option, Some, None, option_to_list, Result, Ok, Err, arith, ◌∙◌}
use Rattle.std.proofs.lemmas.List.{append-nil}
use Rattle.std.proofs.lemmas.List.Elements.{filter_map-append}
use Rattle.std.specs.Prelude.{◌^◌, max, if◌then◌else◌, is_some}
use Rattle.std.specs.List.{filter_map}
use Rattle.q_packet.specs.Descriptor.{Descriptor}
use Rattle.q_packet.specs.declared.cause.Cause.TheVariants.{Purged}
use Rattle.q_codel.specs.declared.loss.Loss.{Loss}
use Rattle.q_model.specs.declared.event.Event.{Event}
use Rattle.q_model.specs.declared.event.Event.TheVariants as event
use Rattle.q_model.specs.declared.refusal.Refusal.{Refusal}
use Rattle.q_model.specs.declared.totals.Totals.{Totals}
use Rattle.q_model.specs.Conserved.{arrival_in, sent_in}
use Rattle.q_model.specs.Edit.{Edit, lost_by, packets_removed}
use Rattle.q_model.specs.Events.{IsEvent}
use Rattle.q_model.specs.Node.{shape}
use Rattle.q_model.specs.Route.{device_route}
use Rattle.q_model.specs.Step.{DeviceState, answered, loss_in, losses_in, step}
use Rattle.q_model.specs.Tally.{Note, Arrived, Sent, Lost, Marked, Granted, Spent, FlowGranted, FlowGave, Counts, counted, noted, totals}
use Rattle.q_model.specs.TreeState.{plan, put_work, asked}
use Rattle.q_invariants.specs.Weights.{arrived, lost, sent, weigh}
use Rattle.q_invariants.proofs.ask.Answer.{one}
use Rattle.q_invariants.proofs.Replays.{not-before, not-after}
use Rattle.q_invariants.proofs.sums.Counted.{bytes, all-more, lost-parts}
use Rattle.q_invariants.proofs.sums.Shuffled.{weigh-arrivals, weigh-sent}
use Rattle.q_invariants.proofs.sums.Weights.{weigh-nil, lost-nil, lost-cons, sent-nil, sent-cons, sent-append}
use Rattle.q_device.specs.Counters.{IsNotBelow, HasNotFallen, arrived_after, sent_by}
use Rattle.q_device.proofs.device.ToldLemmas.{AreLosses, losses-are, on-are}

-- no counter falls, whatever is noted
pub noted-rises : (c : Counts) (notes : List Note) → HasNotFallen c (noted totals c notes)
noted-rises c notes =
    let m = all-more c notes in
    record {
      arrived = record { packets = omega (arith, m.arrived_packets); bytes = omega (arith, m.arrived_bytes) };
      sent = record { packets = omega (arith, m.sent_packets); bytes = omega (arith, m.sent_bytes) };
      refused = record { packets = omega (arith, m.refused_packets); bytes = omega (arith, m.refused_bytes) };
      dropped = record { packets = omega (arith, m.dropped_packets); bytes = omega (arith, m.dropped_bytes) };
      marked = record { packets = omega (arith, m.marked_packets); bytes = omega (arith, m.marked_bytes) };
    }

pub nothing-fallen : (c : Counts) → HasNotFallen c c
nothing-fallen c = noted-rises c []

pub step-rises : (d : DeviceState Counts) (e : Event) → HasNotFallen d.tree.top (step totals d e).device.tree.top
step-rises d (event.Arrive p moment) = noted-rises d.tree.top (Arrived p ∷ (put_work (max d.clock moment) p d.tree.device (shape d.tree.root)).rises)
step-rises d (event.Poll moment) =
    let a = asked (max d.clock moment) d.tree in
    noted-rises d.tree.top (a.rises ++ map Sent (option_to_list a.shown))
step-rises d (event.Command c moment) = by (plan d.tree.device (max d.clock moment) c (shape d.tree.root))
  where
    by : (answer : Result Edit Refusal) → HasNotFallen d.tree.top (answered totals answer (max d.clock moment) d).device.tree.top
    by (Ok edit) = noted-rises d.tree.top (lost_by edit (shape d.tree.root))
    by (Err refusal) = nothing-fallen d.tree.top

-- where neither has fallen below the other, both are the same
pub none-left-out : (a b : Counts) → HasNotFallen a b → HasNotFallen b a → a ≡ b
none-left-out a b up down = λ i. record {
  arrived = same a.arrived b.arrived up.arrived down.arrived i;
  sent = same a.sent b.sent up.sent down.sent i;
  refused = same a.refused b.refused up.refused down.refused i;
  dropped = same a.dropped b.dropped up.dropped down.dropped i;
  marked = same a.marked b.marked up.marked down.marked i;
}
  where
    same : (s t : Totals) → IsNotBelow s t → IsNotBelow t s → s ≡ t
    same s t rises falls = ap₂ (λ packets more. record { packets = packets; bytes = more }) (omega (arith, rises.packets, falls.packets)) (omega (arith, rises.bytes, falls.bytes))

-- each loss is refused or dropped
losses-counted : (notes : List Note) → lost one notes ≡ length (losses_in notes)
losses-counted [] = lost-nil one
losses-counted (Arrived p ∷ notes) = omega (arith, lost-cons one (Arrived p) notes, losses-counted notes)
losses-counted (Sent p ∷ notes) = omega (arith, lost-cons one (Sent p) notes, losses-counted notes)
losses-counted (Lost p cause ∷ notes) = omega (arith, lost-cons one (Lost p cause) notes, losses-counted notes)
losses-counted (Marked p ∷ notes) = omega (arith, lost-cons one (Marked p) notes, losses-counted notes)
losses-counted (Granted class times ∷ notes) = omega (arith, lost-cons one (Granted class times) notes, losses-counted notes)
losses-counted (Spent n ∷ notes) = omega (arith, lost-cons one (Spent n) notes, losses-counted notes)
losses-counted (FlowGranted flow times ∷ notes) = omega (arith, lost-cons one (FlowGranted flow times) notes, losses-counted notes)
losses-counted (FlowGave flow n ∷ notes) = omega (arith, lost-cons one (FlowGave flow n) notes, losses-counted notes)

pub noted-lost : (c : Counts) (notes : List Note) → (noted totals c notes).refused.packets + (noted totals c notes).dropped.packets ≡ c.refused.packets + c.dropped.packets + length (losses_in notes)
noted-lost c notes = let m = all-more c notes in omega (arith, m.refused_packets, m.dropped_packets, lost-parts one notes, losses-counted notes)

-- where none of them is an arrival
pub none-arrived : (c : Counts) (notes : List Note) → filter_map arrival_in notes ≡ [] → (noted totals c notes).arrived ≡ c.arrived
none-arrived c notes none =
    let m = all-more c notes in
    let nothing : (w : Descriptor → ℕ) → arrived w notes ≡ 0 = λ w. sym (weigh-arrivals w notes) ∙ ap (weigh w) none ∙ weigh-nil w in
    ap₂ (λ packets more. record { packets = packets; bytes = more }) (omega (arith, m.arrived_packets, nothing one)) (omega (arith, m.arrived_bytes, nothing bytes))

-- where none of them was sent
none-sent : (c : Counts) (notes : List Note) → filter_map sent_in notes ≡ [] → (noted totals c notes).sent.packets ≡ c.sent.packets
none-sent c notes none =
    let m = all-more c notes in
    let nothing : sent one notes ≡ 0 = sym (weigh-sent one notes) ∙ ap (weigh one) none ∙ weigh-nil one in
    omega (arith, m.sent_packets, nothing)

-- and one is sent after them, or none
one-sent : (c : Counts) (rises : List Note) (o : Option Descriptor) → filter_map sent_in rises ≡ []
    → (noted totals c (rises ++ map Sent (option_to_list o))).sent.packets ≡ c.sent.packets + (if is_some o then 1 else 0)
one-sent c rises o none =
    let m = all-more c (rises ++ map Sent (option_to_list o)) in
    let nothing : sent one rises ≡ 0 = sym (weigh-sent one rises) ∙ ap (weigh one) none ∙ weigh-nil one in
    omega (arith, m.sent_packets, sent-append one rises (map Sent (option_to_list o)), nothing, last o)
  where
    last : (x : Option Descriptor) → sent one (map Sent (option_to_list x)) ≡ (if is_some x then 1 else 0)
    last None = sent-nil one
    last (Some p) = omega (arith, sent-cons one (Sent p) [], sent-nil one)

-- ---- what a step adds

-- what was sent is no loss and no arrival
sent-lost : (o : Option Descriptor) → losses_in (map Sent (option_to_list o)) ≡ []
sent-lost None = refl
sent-lost (Some p) = refl

sent-arrived : (o : Option Descriptor) → filter_map arrival_in (map Sent (option_to_list o)) ≡ []
sent-arrived None = refl
sent-arrived (Some p) = refl

pub step-lost : (d : DeviceState Counts) (e : Event)
    → (step totals d e).device.tree.top.refused.packets + (step totals d e).device.tree.top.dropped.packets ≡ d.tree.top.refused.packets
    + d.tree.top.dropped.packets + length (step totals d e).losses
step-lost d (event.Arrive p moment) = noted-lost d.tree.top (Arrived p ∷ (put_work (max d.clock moment) p d.tree.device (shape d.tree.root)).rises)
step-lost d (event.Poll moment) =
    let a = asked (max d.clock moment) d.tree in
    let none : losses_in (a.rises ++ map Sent (option_to_list a.shown)) ≡ losses_in a.rises =
    filter_map-append loss_in a.rises (map Sent (option_to_list a.shown)) ∙ ap (λ ls. losses_in a.rises ++ ls) (sent-lost a.shown) ∙ append-nil (losses_in a.rises) in
    noted-lost d.tree.top (a.rises ++ map Sent (option_to_list a.shown)) ∙ ap (λ (ls : List Loss). d.tree.top.refused.packets + d.tree.top.dropped.packets + length ls) none
step-lost d (event.Command c moment) = by (plan d.tree.device (max d.clock moment) c (shape d.tree.root))
  where
    by : (answer : Result Edit Refusal)
        → (answered totals answer (max d.clock moment) d).device.tree.top.refused.packets
        + (answered totals answer (max d.clock moment) d).device.tree.top.dropped.packets ≡ d.tree.top.refused.packets
        + d.tree.top.dropped.packets + length (answered totals answer (max d.clock moment) d).losses
    by (Ok edit) = noted-lost d.tree.top (lost_by edit (shape d.tree.root))
    by (Err refusal) = omega arith

-- where asking loses and marks alone, as it does in every tree that is kept
pub step-arrived : (d : DeviceState Counts) (e : Event) → ((now : ℕ) → d.clock ≤ now → now ≤ 2 ^ 62 → AreLosses (asked now d.tree).rises) → d.clock ≤ 2 ^ 62 → IsEvent e
    → (step totals d e).device.tree.top.arrived ≡ arrived_after e d.tree.top.arrived
step-arrived d (event.Arrive p moment) quiet low range =
    let now : ℕ = max d.clock moment in
    none-arrived (counted d.tree.top (Arrived p)) (put_work now p d.tree.device (shape d.tree.root)).rises
    (on-are now p (device_route p d.tree.device.mtu (shape d.tree.root)) (shape d.tree.root)).none_arrived
step-arrived d (event.Poll moment) quiet low range =
    let now : ℕ = max d.clock moment in
    let a = asked now d.tree in
    none-arrived d.tree.top (a.rises ++ map Sent (option_to_list a.shown))
    (filter_map-append arrival_in a.rises (map Sent (option_to_list a.shown))
    ∙ ap₂ (λ xs ys. xs ++ ys) (quiet now (not-before d.clock moment) (not-after d.clock moment (2 ^ 62) low range)).none_arrived (sent-arrived a.shown))
step-arrived d (event.Command c moment) quiet low range = by (plan d.tree.device (max d.clock moment) c (shape d.tree.root))
  where
    by : (answer : Result Edit Refusal) → (answered totals answer (max d.clock moment) d).device.tree.top.arrived ≡ d.tree.top.arrived
    by (Ok edit) = none-arrived d.tree.top (lost_by edit (shape d.tree.root)) (losses-are Purged (packets_removed edit (shape d.tree.root))).none_arrived
    by (Err refusal) = refl

pub step-sent : (d : DeviceState Counts) (e : Event) → ((now : ℕ) → d.clock ≤ now → now ≤ 2 ^ 62 → AreLosses (asked now d.tree).rises) → d.clock ≤ 2 ^ 62 → IsEvent e
    → (step totals d e).device.tree.top.sent.packets ≡ d.tree.top.sent.packets + sent_by e d
step-sent d (event.Arrive p moment) quiet low range =
    let now : ℕ = max d.clock moment in
    let rises = (put_work now p d.tree.device (shape d.tree.root)).rises in
    omega (arith, none-sent (counted d.tree.top (Arrived p)) rises (on-are now p (device_route p d.tree.device.mtu (shape d.tree.root)) (shape d.tree.root)).none_sent)
step-sent d (event.Poll moment) quiet low range =
    let now : ℕ = max d.clock moment in
    let a = asked now d.tree in
    one-sent d.tree.top a.rises a.shown (quiet now (not-before d.clock moment) (not-after d.clock moment (2 ^ 62) low range)).none_sent
step-sent d (event.Command c moment) quiet low range = by (plan d.tree.device (max d.clock moment) c (shape d.tree.root))
  where
    by : (answer : Result Edit Refusal) → (answered totals answer (max d.clock moment) d).device.tree.top.sent.packets ≡ d.tree.top.sent.packets + 0
    by (Ok edit) = omega (arith, none-sent d.tree.top (lost_by edit (shape d.tree.root)) (losses-are Purged (packets_removed edit (shape d.tree.root))).none_sent)
    by (Err refusal) = omega arith
