-- The packets and bytes of all flows before a put, after it, and of those that it loses.
use Rattle.std.proofs.Common.{◌≡◌, ℕ, ◌+◌, ◌<◌, ◌∙◌, List, [], ◌∷◌, length, refl, sym, ap, arith}
use Rattle.std.specs.Prelude.{sum_by}
use Rattle.std.proofs.lemmas.List.Sums.{sum_by-cons, sum_by-append}
use Rattle.q_packet.specs.Totals.{count, size}
use Rattle.q_packet.specs.Descriptor.{Descriptor}
use Rattle.q_packet.specs.declared.stamped.Stamped.{Stamped}
use Rattle.q_fqcodel.specs.FqState.{Flow, FqState, packets_of, bytes_of, all_packets}
use Rattle.q_fqcodel.specs.Put.{after_put, lost_by_put, flow_of}
use Rattle.q_fqcodel.proofs.FlowLemmas.{packets_of-cons, packets_of-nil}
use Rattle.q_fqcodel.proofs.LawLemmas.{all_packets-cons, put_keeps_all}
use Rattle.q_fqcodel.proofs.ShedLemmas.{all_packets-nil}

abbrev one : Stamped → ℕ
one s = 1

abbrev len : Stamped → ℕ
len s = s.packet.len

sum_by_one : (queue : List Stamped) → sum_by one queue ≡ count queue
sum_by_one [] = refl
sum_by_one (s ∷ queue) = omega (arith, sum_by-cons one s queue, sum_by_one queue)

bytes_of-cons : (f : Flow) (fs : List Flow) → bytes_of (f ∷ fs) ≡ size f.queue + bytes_of fs
unfolding bytes_of
bytes_of-cons f fs = sum_by-cons (λ (f : Flow). size f.queue) f fs

bytes_of-nil : bytes_of [] ≡ 0
unfolding bytes_of
bytes_of-nil = refl

packets_all : (flows : List Flow) → packets_of flows ≡ sum_by one (all_packets flows)
packets_all [] = packets_of-nil ∙ sym (ap (sum_by one) all_packets-nil)
packets_all (f ∷ fs) = omega (arith, packets_of-cons f fs, ap (sum_by one) (all_packets-cons f fs), sum_by-append one f.queue (all_packets fs), sum_by_one f.queue, packets_all fs)

pub packets_counted : (flows : List Flow) → packets_of flows ≡ count (all_packets flows)
packets_counted flows = omega (arith, packets_all flows, sum_by_one (all_packets flows))

bytes_all : (flows : List Flow) → bytes_of flows ≡ sum_by len (all_packets flows)
bytes_all [] = bytes_of-nil ∙ sym (ap (sum_by len) all_packets-nil)
bytes_all (f ∷ fs) = omega (arith, bytes_of-cons f fs, ap (sum_by len) (all_packets-cons f fs), sum_by-append len f.queue (all_packets fs), bytes_all fs)

pub record IsCountedPut (s : FqState) (packet : Descriptor) (now : ℕ) : Type 0 where
  pub packets : packets_of (after_put s packet now).flows + count (lost_by_put s packet now) ≡ packets_of s.flows + 1
  pub bytes : bytes_of (after_put s packet now).flows + size (lost_by_put s packet now) ≡ bytes_of s.flows + packet.len

pub put_is_counted : (s : FqState) (packet : Descriptor) (now : ℕ) → flow_of s packet < length s.flows → IsCountedPut s packet now
put_is_counted s packet now within = record {
  packets = omega (arith, put_keeps_all one s packet now within, packets_all s.flows, packets_all (after_put s packet now).flows, sum_by_one (lost_by_put s packet now));
  bytes = omega (arith, put_keeps_all len s packet now within, bytes_all s.flows, bytes_all (after_put s packet now).flows);
}
