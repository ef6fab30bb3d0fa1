-- A row in which an arrival is booked has what the model counts of it.
use Rattle.std.proofs.Common.{◌≡◌, ℕ, ◌+◌, List, [], ◌∷◌, length, refl, ap, arith}
use Rattle.std.proofs.lemmas.List.Sums.{sum_by-cons}
use Rattle.std.specs.Prelude.{Option}
use Rattle.std.specs.List.{fold}
use Rattle.q_packet.specs.Descriptor.{Descriptor}
use Rattle.q_packet.specs.declared.cause.Cause.{Cause}
use Rattle.q_model.specs.declared.row.Row.{Row}
use Rattle.q_model.specs.declared.totals.Totals.{Totals}
use Rattle.q_model.specs.Beneath.{totals_in}
use Rattle.q_model.specs.Conserved.{IsBalanced}
use Rattle.q_model.specs.Tally.{Note, Arrived, Counts, counted, no_counts, noted, totals, with_packet}
use Rattle.q_invariants.specs.Weights.{arrived, lost, marked, plain, sent, weigh}
use Rattle.q_invariants.proofs.ask.Answer.{one}
use Rattle.q_invariants.proofs.sums.Counted.{bytes, lost-parts, all-more}
use Rattle.q_invariants.specs.Weights as weights
use Rattle.q_invariants.proofs.sums.Weights.{weigh-count}
use Rattle.q_tree.specs.arrival.Arrivals.{IsOutcome, IsLostOf, plus, with_arrival}
use Rattle.q_tree.specs.declared.arrival.outcome.Outcome.{Outcome}

abbrev pub counts_in_row : Row → Counts
counts_in_row r = record { arrived = r.arrived; sent = r.sent; refused = r.refused; dropped = r.dropped; marked = r.marked }

-- notes of losses alone
pub record AreLosses (notes : List Note) : Type 0 where
  pub no_arrival : (w : Descriptor → ℕ) → arrived w notes ≡ 0
  pub nothing_sent : (w : Descriptor → ℕ) → sent w notes ≡ 0
  pub nothing_marked : (w : Descriptor → ℕ) → marked w notes ≡ 0

pub same-totals : (t u : Totals) → t.packets ≡ u.packets → t.bytes ≡ u.bytes → t ≡ u
same-totals t u p b = λ i. record { packets = p i; bytes = b i }

-- one packet more, and none
pub plus-with_packet : (t : Totals) (p : Descriptor) (others : List Descriptor) → plus (with_packet t p) (totals_in others) ≡ plus t (totals_in (p ∷ others))
plus-with_packet t p others = same-totals (plus (with_packet t p) (totals_in others)) (plus t (totals_in (p ∷ others))) (omega arith) (omega (arith, sum_by-cons (λ (q : Descriptor). q.len) p others))

pub plus-none : (t : Totals) → plus t (totals_in []) ≡ t
plus-none t = same-totals (plus t (totals_in [])) t (omega arith) (omega arith)

pub same-counts : (c d : Counts) → c.arrived ≡ d.arrived → c.sent ≡ d.sent → c.refused ≡ d.refused → c.dropped ≡ d.dropped → c.marked ≡ d.marked → c ≡ d
same-counts c d a s r l m = λ i. record { arrived = a i; sent = s i; refused = r i; dropped = l i; marked = m i }

pub counted-arrival : (p : Descriptor) (cause : Option Cause) (rises : List Note) (o : Outcome) (r : Row) → AreLosses rises → IsOutcome cause rises o
    → counts_in_row (with_arrival p o r) ≡ noted totals (counts_in_row r) (Arrived p ∷ rises)
counted-arrival p cause rises o r quiet is =
    let c : Counts = counted (counts_in_row r) (Arrived p) in
    let d : Counts = fold counted c rises in
    let m = all-more c rises in
    let z = all-more no_counts rises in
    same-counts (counts_in_row (with_arrival p o r)) d
    (same-totals (with_packet r.arrived p) d.arrived (omega (arith, m.arrived_packets, quiet.no_arrival one)) (omega (arith, m.arrived_bytes, quiet.no_arrival bytes)))
    (same-totals r.sent d.sent (omega (arith, m.sent_packets, quiet.nothing_sent one)) (omega (arith, m.sent_bytes, quiet.nothing_sent bytes)))
    (same-totals (plus r.refused o.refused) d.refused
    (omega (arith, m.refused_packets, z.refused_packets, ap (λ (t : Totals). t.packets) is.refused))
    (omega (arith, m.refused_bytes, z.refused_bytes, ap (λ (t : Totals). t.bytes) is.refused)))
    (same-totals (plus r.dropped o.dropped) d.dropped
    (omega (arith, m.dropped_packets, z.dropped_packets, ap (λ (t : Totals). t.packets) is.dropped))
    (omega (arith, m.dropped_bytes, z.dropped_bytes, ap (λ (t : Totals). t.bytes) is.dropped)))
    (same-totals r.marked d.marked (omega (arith, m.marked_packets, quiet.nothing_marked one)) (omega (arith, m.marked_bytes, quiet.nothing_marked bytes)))

-- what was lost, in packets and bytes
pub record IsWeighed (rises : List Note) (o : Outcome) : Type 0 where
  pub packets : o.refused.packets + o.dropped.packets ≡ lost one rises
  pub bytes : o.refused.bytes + o.dropped.bytes ≡ lost bytes rises

pub outcome-weighs : (cause : Option Cause) (rises : List Note) (o : Outcome) → IsOutcome cause rises o → IsWeighed rises o
outcome-weighs cause rises o is =
    let z = all-more no_counts rises in
    record {
      packets = omega (arith, z.refused_packets, z.dropped_packets, lost-parts one rises, ap (λ (t : Totals). t.packets) is.refused, ap (λ (t : Totals). t.packets) is.dropped);
      bytes = omega (arith, z.refused_bytes, z.dropped_bytes, lost-parts bytes rises, ap (λ (t : Totals). t.bytes) is.refused, ap (λ (t : Totals). t.bytes) is.dropped);
    }

pub weigh-bytes : (packets : List Descriptor) → weigh bytes packets ≡ (totals_in packets).bytes
unfolding weights.weigh
weigh-bytes packets = refl

-- what waits before and after, where a packet came and some were lost
pub record IsShifted (p : Descriptor) (rises : List Note) (before after : List Descriptor) : Type 0 where
  pub packets : 1 + length before ≡ lost one rises + length after
  pub bytes : p.len + (totals_in before).bytes ≡ lost bytes rises + (totals_in after).bytes

pub lost-of : (p : Descriptor) (rises : List Note) (o : Outcome) (before after : List Descriptor) (queued : Totals) → IsWeighed rises o
    → IsShifted p rises before after → queued ≡ totals_in before → IsLostOf p o queued
lost-of p rises o before after queued w s is = record {
  packets = omega (arith, w.packets, s.packets, ap (λ (t : Totals). t.packets) is);
  bytes = omega (arith, w.bytes, s.bytes, ap (λ (t : Totals). t.bytes) is);
}

pub queued-after : (p : Descriptor) (rises : List Note) (o : Outcome) (before after : List Descriptor) (r : Row) → IsWeighed rises o
    → IsShifted p rises before after → r.queued ≡ totals_in before → (with_arrival p o r).queued ≡ totals_in after
queued-after p rises o before after r w s is = same-totals (with_arrival p o r).queued (totals_in after)
    (omega (arith, w.packets, s.packets, ap (λ (t : Totals). t.packets) is))
    (omega (arith, w.bytes, s.bytes, ap (λ (t : Totals). t.bytes) is))

pub balanced-after : (p : Descriptor) (o : Outcome) (r : Row) → IsBalanced r → IsLostOf p o r.queued → IsBalanced (with_arrival p o r)
balanced-after p o r b l = record {
  packets = omega (arith, b.packets, l.packets);
  bytes = omega (arith, b.bytes, l.bytes);
}
