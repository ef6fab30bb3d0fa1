-- Where the way of a packet ends in an fq_codel: what is lost there is counted as dropped.
use Rattle.std.proofs.Common.{◌≡◌, ℕ, ◌+◌, ◌∙◌, List, [], ◌∷◌, length, sym, ap, subst, Option, Some, None, arith}
use Rattle.std.specs.Prelude.{if◌then◌else◌, sum_by}
use Rattle.std.specs.List.{fold}
use Rattle.std.proofs.lemmas.List.Sums.{sum_by-cons}
use Rattle.q_packet.specs.Descriptor.{Descriptor}
use Rattle.q_packet.specs.declared.cause.Cause.{Cause}
use Rattle.q_packet.specs.declared.cause.Cause.TheVariants.{FatFlow}
use Rattle.q_codel.specs.Losses as codel
use Rattle.q_fqcodel.specs.FqState.{FqState, packets_of, all_packets}
use Rattle.q_fqcodel.specs.Put.{after_put, lost_by_put, is_lost_itself}
use Rattle.q_model.specs.declared.totals.Totals.{Totals}
use Rattle.q_model.specs.Beneath as beneath
use Rattle.q_model.specs.Beneath.{totals_in}
use Rattle.q_model.specs.Node as spec
use Rattle.q_model.specs.Step.{losses_in}
use Rattle.q_model.specs.Tally.{Counts, counted, no_counts, no_totals}
use Rattle.q_model.specs.Work.{losses_of}
use Rattle.q_tree.specs.arrival.Arrivals.{plus, IsOutcome}
use Rattle.q_tree.specs.arrival.PutSteps.{IsQueued, rises_here, after_here, loss_here}
use Rattle.q_tree.specs.Seen.{discipline_seen, children_seen, places_seen}
use Rattle.q_tree.specs.declared.node.Discipline.{Discipline}
use Rattle.q_tree.specs.declared.arrival.outcome.Outcome.{Outcome}
use Rattle.q_tree.proofs.disciplines.FlowCounts.{packets-all, packets-bare, told-losses}

-- packets that are dropped, counted one by one
pub drops-counted : (c : Counts) (ps : List Descriptor) → fold counted c (losses_of FatFlow ps) ≡ record c { dropped = plus c.dropped (totals_in ps) }
drops-counted c [] =
    let packets : c.dropped.packets ≡ c.dropped.packets + 0 = omega arith in
    let bytes : c.dropped.bytes ≡ c.dropped.bytes + 0 = omega arith in
    λ i. record c { dropped = record { packets = packets i; bytes = bytes i } }
drops-counted c (p ∷ ps) =
    let packets : c.dropped.packets + 1 + length ps ≡ c.dropped.packets + length (p ∷ ps) = omega arith in
    let bytes : c.dropped.bytes + p.len + sum_by (λ (p : Descriptor). p.len) ps ≡ c.dropped.bytes + sum_by (λ (p : Descriptor). p.len) (p ∷ ps) =
    omega (arith, sum_by-cons (λ (p : Descriptor). p.len) p ps) in
    drops-counted (record c { dropped = record { packets = c.dropped.packets + 1; bytes = c.dropped.bytes + p.len } }) ps
    ∙ (λ i. record c { dropped = record { packets = packets i; bytes = bytes i } })

nothing-more : (t : Totals) → plus no_totals t ≡ t
nothing-more t =
    let packets : 0 + t.packets ≡ t.packets = omega arith in
    let bytes : 0 + t.bytes ≡ t.bytes = omega arith in
    λ i. record { packets = packets i; bytes = bytes i }

pub queued-flow : (now : ℕ) (p : Descriptor) (refusal : Option Cause) (before after : Discipline) (s s2 : FqState) (o : Outcome) → refusal ≡ None
    → discipline_seen before ≡ spec.FqCodel s → discipline_seen after ≡ spec.FqCodel s2 → children_seen after ≡ children_seen before → places_seen after ≡ places_seen before
    → s2 ≡ after_put s p now → o.loss ≡ (if is_lost_itself s p now then Some FatFlow else None) → o.refused ≡ no_totals
    → o.dropped ≡ totals_in (beneath.packets_of (lost_by_put s p now)) → IsQueued now p refusal before after o
queued-flow now p refusal before after s s2 o none is becomes children places state loss refused dropped =
    let drops = drops-counted no_counts (beneath.packets_of (lost_by_put s p now)) in
    subst (λ (r : Option Cause). IsQueued now p r before after o) (sym none) (record {
      discipline = becomes ∙ ap spec.FqCodel state ∙ sym (ap (after_here now p None) is);
      children = children;
      places = places;
      outcome = subst (λ (d : spec.Discipline). IsOutcome (loss_here now p None d) (rises_here now p None d) o) (sym is) (record {
        loss = loss;
        refused = refused ∙ sym (ap (λ (c : Counts). c.refused) drops);
        dropped = dropped ∙ sym (nothing-more (totals_in (beneath.packets_of (lost_by_put s p now)))) ∙ sym (ap (λ (c : Counts). c.dropped) drops);
      });
    })

-- what the sink is told of them
pub told-here : (now : ℕ) (p : Descriptor) (refusal : Option Cause) (d : Discipline) (s : FqState) → refusal ≡ None → discipline_seen d ≡ spec.FqCodel s
    → losses_in (rises_here now p refusal (discipline_seen d)) ≡ codel.losses_of FatFlow (lost_by_put s p now)
told-here now p refusal d s none is =
    ap (λ (r : Option Cause). losses_in (rises_here now p r (discipline_seen d))) none
    ∙ ap (λ (d : spec.Discipline). losses_in (rises_here now p None d)) is
    ∙ told-losses FatFlow (lost_by_put s p now)

-- and the room that it needs
pub flow-packets : (d : Discipline) (s : FqState) → discipline_seen d ≡ spec.FqCodel s → length (beneath.packets_in (discipline_seen d)) ≡ packets_of s.flows
flow-packets d s is =
    ap (λ (d : spec.Discipline). length (beneath.packets_in d)) is
    ∙ packets-bare (all_packets s.flows)
    ∙ sym (packets-all s.flows)
