-- The packets and bytes of an fq_codel's flows, counted by its own numbers and packet by packet.
use Rattle.std.proofs.Common.{◌≡◌, ℕ, ◌+◌, ◌∙◌, List, [], ◌∷◌, length, refl, sym, ap, arith}
use Rattle.std.specs.Prelude.{sum_by}
use Rattle.std.proofs.lemmas.List.Sums.{sum_by-cons, sum_by-append}
use Rattle.q_packet.specs.Totals.{size}
use Rattle.q_packet.specs.Descriptor.{Descriptor}
use Rattle.q_packet.specs.declared.cause.Cause.{Cause}
use Rattle.q_packet.specs.declared.stamped.Stamped.{Stamped}
use Rattle.q_codel.specs.Losses as codel
use Rattle.q_fqcodel.specs.FqState.{Flow, packets_of, bytes_of, all_packets}
use Rattle.q_fqcodel.proofs.FlowLemmas.{packets_of-cons, packets_of-nil}
use Rattle.q_fqcodel.proofs.LawLemmas.{all_packets-cons}
use Rattle.q_model.specs.Beneath as beneath
use Rattle.q_model.specs.Beneath.{totals_in}
use Rattle.q_model.specs.Step.{losses_in}
use Rattle.q_model.specs.Work.{losses_of}

abbrev pub one : Stamped → ℕ
one s = 1

abbrev pub len : Stamped → ℕ
len s = s.packet.len

pub count-sum : (queue : List Stamped) → sum_by one queue ≡ length queue
count-sum [] = refl
count-sum (s ∷ queue) = omega (arith, sum_by-cons one s queue, count-sum queue)

none-left : all_packets [] ≡ []
unfolding all_packets
none-left = refl

bytes-cons : (f : Flow) (fs : List Flow) → bytes_of (f ∷ fs) ≡ size f.queue + bytes_of fs
unfolding bytes_of
bytes-cons f fs = sum_by-cons (λ (f : Flow). size f.queue) f fs

bytes-nil : bytes_of [] ≡ 0
unfolding bytes_of
bytes-nil = refl

pub packets-all : (flows : List Flow) → packets_of flows ≡ sum_by one (all_packets flows)
packets-all [] = packets_of-nil ∙ sym (ap (sum_by one) none-left)
packets-all (f ∷ fs) = omega (arith, packets_of-cons f fs, ap (sum_by one) (all_packets-cons f fs), sum_by-append one f.queue (all_packets fs), count-sum f.queue, packets-all fs)

pub bytes-all : (flows : List Flow) → bytes_of flows ≡ sum_by len (all_packets flows)
bytes-all [] = bytes-nil ∙ sym (ap (sum_by len) none-left)
bytes-all (f ∷ fs) = omega (arith, bytes-cons f fs, ap (sum_by len) (all_packets-cons f fs), sum_by-append len f.queue (all_packets fs), bytes-all fs)

-- the same of the packets without their stamps
pub packets-bare : (queue : List Stamped) → (totals_in (beneath.packets_of queue)).packets ≡ sum_by one queue
packets-bare [] = refl
packets-bare (s ∷ queue) = omega (arith, sum_by-cons one s queue, packets-bare queue)

pub bytes-bare : (queue : List Stamped) → (totals_in (beneath.packets_of queue)).bytes ≡ sum_by len queue
bytes-bare [] = refl
bytes-bare (s ∷ queue) = omega (arith, sum_by-cons len s queue, sum_by-cons (λ (p : Descriptor). p.len) s.packet (beneath.packets_of queue), bytes-bare queue)

-- losses as a node notes them, and as a sink is told of them
pub told-losses : (cause : Cause) (queue : List Stamped) → losses_in (losses_of cause (beneath.packets_of queue)) ≡ codel.losses_of cause queue
told-losses cause [] = refl
told-losses cause (s ∷ queue) = ap (λ ls. record { packet = s.packet; cause = cause } ∷ ls) (told-losses cause queue)
