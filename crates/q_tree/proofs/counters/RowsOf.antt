-- A row that is right for its node stays so where the node is asked, or gives a packet, and that is booked.
use Rattle.std.proofs.Common.{◌≡◌, ℕ, ◌+◌, ◌≤◌, ◌<◌, ◌^◌, ◌∙◌, List, [], length, ap, Option, Some, None, option_to_list, arith}
use Rattle.std.specs.List.{All}
use Rattle.q_packet.specs.Descriptor.{Descriptor}
use Rattle.q_model.specs.declared.row.Row.{Row}
use Rattle.q_model.specs.declared.totals.Totals.{Totals}
use Rattle.q_model.specs.Beneath.{beneath, beneath_own, totals_in}
use Rattle.q_model.specs.Conserved.{held_own, held_beneath, IsBalanced, AreMarksBounded}
use Rattle.q_model.specs.Node.{Node}
use Rattle.q_model.specs.Pop.{pop}
use Rattle.q_model.specs.Tally.{Note, counts_in}
use Rattle.q_model.specs.Work.{Worked, booked}
use Rattle.q_model.proofs.ShrinkLemmas.{each-each_memory}
use Rattle.q_invariants.specs.Weights.{weigh}
use Rattle.q_invariants.proofs.ask.Answer.{one}
use Rattle.q_invariants.proofs.ask.PopGives.{pop-gives, pop-told}
use Rattle.q_invariants.proofs.ask.Pops.{pop-before}
use Rattle.q_invariants.proofs.edit.EditNew.{held-le-beneath}
use Rattle.q_invariants.proofs.sums.Counted.{bytes}
use Rattle.q_invariants.proofs.sums.Told.{root-booked}
use Rattle.q_invariants.proofs.sums.Weights.{weigh-count, weigh-nil, weigh-one}
use Rattle.q_tree.specs.departure.AskSteps.{CanShow, with_shown}
use Rattle.q_tree.specs.departure.PopSteps.{IsAmong, with_sent}
use Rattle.q_tree.specs.Kept.{Kept, kept}
use Rattle.q_tree.specs.Seen.{seen, children_seen, IsKept, IsCountedWithin}
use Rattle.q_tree.specs.declared.node.Node.TheInside.{Inside}
use Rattle.q_tree.specs.departure.Shown.{Shown}
use Rattle.q_tree.proofs.counters.AskRows.{counts-of}
use Rattle.q_tree.proofs.counters.Rows.{counts_in_row, same-totals, weigh-bytes}
use Rattle.q_tree.proofs.departure.Asking.{IsWeighed}

pub record IsRowOf (r : Row) (n : Node Kept) : Type 0 where
  pub queued : r.queued ≡ totals_in (beneath n)
  pub balanced : IsBalanced r
  pub marks : AreMarksBounded (counts_in_row r) (held_beneath n)

pub row-of : (a : Inside) → IsKept a → IsRowOf a.row (seen a)
row-of a k = record { queued = k.queued; balanced = k.balanced; marks = k.marks }

pub kept-of : (b : Inside) → IsRowOf b.row (seen b) → All (λ (child : Node Kept). IsCountedWithin child.memory.counts.arrived b.row.arrived) (children_seen b.discipline) → IsKept b
kept-of b k within = record { queued = k.queued; balanced = k.balanced; marks = k.marks; within = within }

-- what waits before popping and after it
same-before : (n : Node Kept) → beneath (pop n).before ≡ beneath n
same-before n = ap (λ (w : Worked). beneath w) (pop-before n) ∙ ap (beneath_own n.own) (each-each_memory beneath_own (λ u. []) n.below)

held-before : (n : Node Kept) → held_beneath (pop n).before ≡ held_beneath n
held-before n = ap (λ (w : Worked). held_beneath w) (pop-before n) ∙ ap (held_own n.own) (each-each_memory held_own (λ u. []) n.below)

record IsLessBy (packet : Option Descriptor) (n m : Node Kept) : Type 0 where
  packets : length (beneath n) ≡ weigh one (option_to_list packet) + length (beneath m)
  size : (totals_in (beneath n)).bytes ≡ weigh bytes (option_to_list packet) + (totals_in (beneath m)).bytes
  held_packets : length (held_beneath n) ≤ weigh one (option_to_list packet) + length (held_beneath m)
  held_size : (totals_in (held_beneath n)).bytes ≤ weigh bytes (option_to_list packet) + (totals_in (held_beneath m)).bytes

one-less : (n : Node Kept) (packet : Option Descriptor) → (pop n).shown ≡ packet → IsLessBy packet n (booked kept n (pop n).after)
one-less n packet e =
    let m : Node Kept = booked kept n (pop n).after in
    let given = pop-gives n in
    let same : beneath m ≡ beneath (pop n).after = root-booked kept beneath_own n (pop n).after (pop-told n) in
    let held : held_beneath m ≡ held_beneath (pop n).after = root-booked kept held_own n (pop n).after (pop-told n) in
    let weighs : (w : Descriptor → ℕ) → weigh w (option_to_list (pop n).shown) ≡ weigh w (option_to_list packet) = λ w. ap (λ (o : Option Descriptor). weigh w (option_to_list o)) e in
    record {
      packets = omega (arith, given.gives one, weighs one, ap (weigh one) (same-before n), ap (weigh one) same, weigh-count (beneath n), weigh-count (beneath m));
      size = omega (arith, given.gives bytes, weighs bytes, ap (weigh bytes) (same-before n), ap (weigh bytes) same, weigh-bytes (beneath n), weigh-bytes (beneath m));
      held_packets = omega (arith, given.holds one, weighs one, ap (weigh one) (held-before n), ap (weigh one) held, weigh-count (held_beneath n), weigh-count (held_beneath m));
      held_size = omega (arith, given.holds bytes, weighs bytes, ap (weigh bytes) (held-before n), ap (weigh bytes) held, weigh-bytes (held_beneath n), weigh-bytes (held_beneath m));
    }

module _ (n : Node Kept) (r : Row) (k : IsRowOf r n) where
  -- a node that gives a packet
  module _ (p : Descriptor) (e : (pop n).shown ≡ Some p) where
    pub among : IsAmong p r.queued
    among =
        let less = one-less n (Some p) e in
        record {
          packets = omega (arith, less.packets, weigh-one one p, ap (λ (t : Totals). t.packets) k.queued);
          bytes = omega (arith, less.size, weigh-one bytes p, ap (λ (t : Totals). t.bytes) k.queued);
        }

    pub row-popped : IsRowOf (with_sent p r) (booked kept n (pop n).after)
    row-popped =
        let less = one-less n (Some p) e in
        let m : Node Kept = booked kept n (pop n).after in
        record {
          queued = same-totals (with_sent p r).queued (totals_in (beneath m))
              (omega (arith, less.packets, weigh-one one p, ap (λ (t : Totals). t.packets) k.queued))
              (omega (arith, less.size, weigh-one bytes p, ap (λ (t : Totals). t.bytes) k.queued));
          balanced = record { packets = omega (arith, k.balanced.packets, among.packets); bytes = omega (arith, k.balanced.bytes, among.bytes) };
          marks = record {
            packets = omega (arith, k.marks.packets, less.held_packets, weigh-one one p);
            bytes = omega (arith, k.marks.bytes, less.held_size, weigh-one bytes p);
          };
        }

  -- one that has none to give
  pub row-still : (pop n).shown ≡ None → IsRowOf r (booked kept n (pop n).after)
  row-still e =
      let less = one-less n None e in
      let m : Node Kept = booked kept n (pop n).after in
      record {
        queued = k.queued
            ∙ same-totals (totals_in (beneath n)) (totals_in (beneath m)) (omega (arith, less.packets, weigh-nil one)) (omega (arith, less.size, weigh-nil bytes));
        balanced = k.balanced;
        marks = record {
          packets = omega (arith, k.marks.packets, less.held_packets, weigh-nil one);
          bytes = omega (arith, k.marks.bytes, less.held_size, weigh-nil bytes);
        };
      }

  -- one that was asked, and is `m` then
  module _ (m : Node Kept) (rises : List Note) (s : Shown) (is : IsWeighed rises n m) (d : s.dropped ≡ (counts_in rises).dropped) (e : s.marked ≡ (counts_in rises).marked) where
    pub can-show : r.arrived.packets < 2 ^ 64 → r.arrived.bytes < 2 ^ 64 → CanShow s r
    can-show packets_fit bytes_fit =
        let z = counts-of rises s d e in
        let queued_packets = ap (λ (t : Totals). t.packets) k.queued in
        let queued_bytes = ap (λ (t : Totals). t.bytes) k.queued in
        record {
          arrived_packets = packets_fit;
          arrived_bytes = bytes_fit;
          packets = omega (arith, z.dropped_packets, is.quiet.all_dropped one, is.waits one, weigh-count (beneath n), queued_packets);
          bytes = omega (arith, z.dropped_bytes, is.quiet.all_dropped bytes, is.waits bytes, weigh-bytes (beneath n), queued_bytes);
          marked_packets =
              omega (
                arith,
                packets_fit,
                z.marked_packets,
                k.marks.packets,
                k.balanced.packets,
                is.marks one,
                is.waits one,
                held-le-beneath one m,
                weigh-count (held_beneath n),
                weigh-count (beneath n),
                queued_packets,
              );
          marked_bytes =
              omega (
                arith,
                bytes_fit,
                z.marked_bytes,
                k.marks.bytes,
                k.balanced.bytes,
                is.marks bytes,
                is.waits bytes,
                held-le-beneath bytes m,
                weigh-bytes (held_beneath n),
                weigh-bytes (beneath n),
                queued_bytes,
              );
        }

    pub row-shown : CanShow s r → IsRowOf (with_shown s r) m
    row-shown can =
        let z = counts-of rises s d e in
        record {
          queued = same-totals (with_shown s r).queued (totals_in (beneath m))
              (omega (arith, z.dropped_packets, is.quiet.all_dropped one, is.waits one, weigh-count (beneath n), weigh-count (beneath m), ap (λ (t : Totals). t.packets) k.queued))
              (omega (arith, z.dropped_bytes, is.quiet.all_dropped bytes, is.waits bytes, weigh-bytes (beneath n), weigh-bytes (beneath m), ap (λ (t : Totals). t.bytes) k.queued));
          balanced = record { packets = omega (arith, k.balanced.packets, can.packets); bytes = omega (arith, k.balanced.bytes, can.bytes) };
          marks = record {
            packets = omega (arith, k.marks.packets, z.dropped_packets, z.marked_packets, is.quiet.all_dropped one, is.marks one, weigh-count (held_beneath n), weigh-count (held_beneath m));
            bytes = omega (arith, k.marks.bytes, z.dropped_bytes, z.marked_bytes, is.quiet.all_dropped bytes, is.marks bytes, weigh-bytes (held_beneath n), weigh-bytes (held_beneath m));
          };
        }
