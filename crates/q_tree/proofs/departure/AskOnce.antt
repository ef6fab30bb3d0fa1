-- A child that is asked after others: it can be asked, the sink has room for what it loses, and the counts fit.
use Rattle.std.proofs.Common.{◌≡◌, ℕ, ◌+◌, ◌≤◌, ◌<◌, ◌^◌, ◌∙◌, List, [], ◌∷◌, ◌++◌, length, sym, ap, Some, arith, subst}
use Rattle.std.specs.Prelude.{slice_get}
use Rattle.std.proofs.lemmas.List.Elements.{filter_map-append}
use Rattle.q_codel.specs.Losses.{IsTold, SinkState}
use Rattle.q_codel.proofs.SinkLemmas.{told_both}
use Rattle.q_model.specs.Ask.{Asked, ask}
use Rattle.q_model.specs.Beneath.{beneath}
use Rattle.q_model.specs.Node.{Node, shape}
use Rattle.q_model.specs.Step.{loss_in, losses_in}
use Rattle.q_model.specs.Tally.{Note, Arrived, Sent, Lost, Marked, Granted, Spent, FlowGranted, FlowGave, counts_in}
use Rattle.q_model.specs.Work.{Worked, booked}
use Rattle.q_invariants.specs.Weights.{lost}
use Rattle.q_invariants.proofs.ask.Answer.{one}
use Rattle.q_invariants.proofs.edit.EditNew.{held-le-beneath}
use Rattle.q_invariants.proofs.sums.Counted.{bytes}
use Rattle.q_invariants.proofs.sums.Weights.{weigh-count, lost-nil, lost-cons}
use Rattle.q_tree.specs.arrival.Arrivals.{plus}
use Rattle.q_tree.specs.arrival.PutSteps.{packets_beneath}
use Rattle.q_tree.specs.departure.AskSteps.{CanAsk, CanAskEach, CanAskOnce, IsShown, IsToldOf}
use Rattle.q_tree.specs.departure.Shown.{Shown}
use Rattle.q_tree.specs.Kept.{Kept, kept}
use Rattle.q_tree.proofs.counters.AskRows.{counts-of, dropped-both, marked-both}
use Rattle.q_tree.proofs.counters.Rows.{weigh-bytes}
use Rattle.q_tree.proofs.departure.Asking.{IsAsking, asked-weighs, fits, lawful-at}

-- each loss is one packet
pub losses-count : (notes : List Note) → length (losses_in notes) ≡ lost one notes
losses-count [] = sym (lost-nil one)
losses-count (Arrived p ∷ notes) = omega (arith, losses-count notes, lost-cons one (Arrived p) notes)
losses-count (Sent p ∷ notes) = omega (arith, losses-count notes, lost-cons one (Sent p) notes)
losses-count (Lost p cause ∷ notes) = omega (arith, losses-count notes, lost-cons one (Lost p cause) notes)
losses-count (Marked p ∷ notes) = omega (arith, losses-count notes, lost-cons one (Marked p) notes)
losses-count (Granted class times ∷ notes) = omega (arith, losses-count notes, lost-cons one (Granted class times) notes)
losses-count (Spent spent ∷ notes) = omega (arith, losses-count notes, lost-cons one (Spent spent) notes)
losses-count (FlowGranted flow times ∷ notes) = omega (arith, losses-count notes, lost-cons one (FlowGranted flow times) notes)
losses-count (FlowGave flow gave ∷ notes) = omega (arith, losses-count notes, lost-cons one (FlowGave flow gave) notes)

-- a sink that is told of the losses of some notes, and then of others
pub told-then : (ms ns : List Note) (a b c : SinkState) → IsToldOf ms a b → IsToldOf ns b c → IsToldOf (ms ++ ns) a c
told-then ms ns a b c h k = subst (λ xs. IsTold xs a c) (sym (filter_map-append loss_in ms ns)) (told_both (losses_in ms) (losses_in ns) a b c h k)

-- what was counted of these notes
pub record IsCounted (rises : List Note) (s : Shown) : Type 0 where
  pub dropped : s.dropped ≡ (counts_in rises).dropped
  pub marked : s.marked ≡ (counts_in rises).marked

pub counted-then : (ms ns : List Note) (a b c : Shown) → IsCounted ms a → b.dropped ≡ (counts_in ns).dropped → b.marked ≡ (counts_in ns).marked
    → c.dropped ≡ plus a.dropped b.dropped → c.marked ≡ plus a.marked b.marked → IsCounted (ms ++ ns) c
counted-then ms ns a b c h d m cd cm = record {
  dropped = cd ∙ ap (λ t. plus t b.dropped) h.dropped ∙ ap (plus (counts_in ms).dropped) d ∙ dropped-both ms ns;
  marked = cm ∙ ap (λ t. plus t b.marked) h.marked ∙ ap (plus (counts_in ms).marked) m ∙ marked-both ms ns;
}

module _ (now : ℕ) (ns ms : List (Node Kept)) (ws : List Worked) (rises : List Note) (each : CanAskEach now ns) (h : IsAsking ns ms ws rises) (i : ℕ)
    (c : Node Kept) (at : slice_get ns i ≡ Some c) (before : slice_get ws i ≡ Some (ask now (shape c)).before) where
  pub can-ask : CanAsk now c
  can-ask = record { mtu = each.mtu; least = each.least; moment = each.moment; lawful = lawful-at each.mtu now ns i c each.lawful at }

  pub can-ask-once : (s : Shown) → IsCounted rises s → (sink sink2 : SinkState) → IsToldOf rises sink sink2 → length (packets_beneath ns) ≤ sink.room → CanAskOnce now c s sink2.room
  can-ask-once s counted sink sink2 told enough =
      let f = fits now ns ms ws rises h i c at before in
      let z = counts-of rises s counted.dropped counted.marked in
      record {
        ready = can-ask;
        sink = omega (arith, told.room, losses-count rises, f.lost_fits one, weigh-count (beneath c), weigh-count (packets_beneath ns), enough);
        dropped_packets = omega (arith, z.dropped_packets, h.quiet.all_dropped one, f.lost_fits one, weigh-count (beneath c), weigh-count (packets_beneath ns), each.packets);
        dropped_bytes = omega (arith, z.dropped_bytes, h.quiet.all_dropped bytes, f.lost_fits bytes, weigh-bytes (beneath c), weigh-bytes (packets_beneath ns), each.bytes);
        marked_packets = omega (arith, z.marked_packets, f.marked_fits one, weigh-count (beneath c), weigh-count (packets_beneath ns), each.packets);
        marked_bytes = omega (arith, z.marked_bytes, f.marked_fits bytes, weigh-bytes (beneath c), weigh-bytes (packets_beneath ns), each.bytes);
      }

-- what it loses and marks is no more than what waits in it
pub record FitsBeside (so_far next : Shown) : Type 0 where
  pub dropped_packets : so_far.dropped.packets + next.dropped.packets < 2 ^ 64
  pub dropped_bytes : so_far.dropped.bytes + next.dropped.bytes < 2 ^ 64
  pub marked_packets : so_far.marked.packets + next.marked.packets < 2 ^ 64
  pub marked_bytes : so_far.marked.bytes + next.marked.bytes < 2 ^ 64

pub fits-beside : (now : ℕ) (c : Node Kept) (so_far next : Shown) (room : ℕ) → CanAskOnce now c so_far room → IsShown (ask now (shape c)) next → FitsBeside so_far next
fits-beside now c so_far next room once shown =
    let a : Asked = ask now (shape c) in
    let w = asked-weighs now c once.ready in
    let m : Node Kept = booked kept c a.peeked in
    let z = counts-of a.rises next shown.dropped shown.marked in
    record {
      dropped_packets = omega (arith, once.dropped_packets, z.dropped_packets, w.quiet.all_dropped one, w.waits one, weigh-count (beneath c));
      dropped_bytes = omega (arith, once.dropped_bytes, z.dropped_bytes, w.quiet.all_dropped bytes, w.waits bytes, weigh-bytes (beneath c));
      marked_packets = omega (arith, once.marked_packets, z.marked_packets, w.marks one, w.waits one, held-le-beneath one m, weigh-count (beneath c));
      marked_bytes = omega (arith, once.marked_bytes, z.marked_bytes, w.marks bytes, w.waits bytes, held-le-beneath bytes m, weigh-bytes (beneath c));
    }
