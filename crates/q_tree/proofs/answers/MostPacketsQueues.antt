-- What a fifo or an fq_codel can hold at most does not grow where a packet is put into it or leaves it.
use Rattle.std.proofs.Common.{◌≡◌, ℕ, zero, suc, ◌+◌, ◌<◌, ◌≤◌, List, [], ◌∷◌, ◌++◌, drop, length, refl, ap, ⊎_elim, arith}
use Rattle.std.specs.Prelude.{true, max, All}
use Rattle.std.proofs.lemmas.Bool.{cases_lt, ltb-true, leb-true}
use Rattle.std.proofs.lemmas.List.{length-append, length-drop}
use Rattle.std.proofs.lemmas.List.Elements.{All-head, All-tail, All-push}
use Rattle.std.proofs.lemmas.List.Sums.{sum_by-cons}
use Rattle.q_packet.specs.Descriptor.{Descriptor}
use Rattle.q_packet.specs.Totals.{count, size}
use Rattle.q_packet.specs.declared.stamped.Stamped.{Stamped}
use Rattle.q_codel.specs.FifoState.{takes}
use Rattle.q_codel.specs.declared.limit.Limit.{Limit}
use Rattle.q_codel.specs.declared.limit.Limit.TheVariants.{Packets, Bytes}
use Rattle.q_fqcodel.specs.Cleared.{adjust}
use Rattle.q_fqcodel.specs.FqState.{FqSettings, Flow, FqState, queue_of, packets_of}
use Rattle.q_fqcodel.specs.Laws.{HasBytes}
use Rattle.q_fqcodel.specs.Put.{flow_of, joined, appended, fattest, shed_count, cut_back, after_put}
use Rattle.q_fqcodel.specs.Ranges.{IsInRange}
use Rattle.q_fqcodel.specs.Take.{selected, after_sending}
use Rattle.q_fqcodel.proofs.FatLemmas.{fat_some, fattest_most}
use Rattle.q_fqcodel.proofs.LawLemmas.{packets_of-appended, take_keeps_all}
use Rattle.q_fqcodel.proofs.PutLemmas.{packets_of-shortened, cut_none, cut_some, shed_within, shed_positive}
use Rattle.q_invariants.proofs.ask.AskFqCodel.{All-adjust, take-settings}
use Rattle.q_tree.specs.answers.MostPackets.{most_under}
use Rattle.q_tree.proofs.disciplines.FlowCounts.{one, packets-all}

-- a queue has no more packets than bytes
count-size : (queue : List Stamped) → All (λ (x : Stamped). 1 ≤ x.packet.len) queue → count queue ≤ size queue
count-size [] h = omega arith
count-size (x ∷ queue) h = omega (
  arith,
  All-head (λ (x : Stamped). 1 ≤ x.packet.len) x queue h,
  count-size queue (All-tail (λ (x : Stamped). 1 ≤ x.packet.len) x queue h),
  sum_by-cons (λ (x : Stamped). x.packet.len) x queue,
)

-- ---- a fifo

-- the packet that it takes is one of those that its limit allows
pub fifo-put-least : (limit : Limit) (queue : List Stamped) (x : Stamped) → 1 ≤ x.packet.len → All (λ (y : Stamped). 1 ≤ y.packet.len) queue → takes limit queue x.packet.len ≡ true
    → max (most_under limit) (count (queue ++ x ∷ [])) ≤ max (most_under limit) (count queue)
fifo-put-least (Packets most) queue x byte bytes fits = omega (arith, length-append queue (x ∷ []), ltb-true (count queue) most fits)
fifo-put-least (Bytes most) queue x byte bytes fits =
    omega (arith, length-append queue (x ∷ []), count-size queue bytes, leb-true (size queue + x.packet.len) most fits)

pub fifo-take-least : (most : ℕ) (queue : List Stamped) → max most (count (drop 1 queue)) ≤ max most (count queue)
fifo-take-least most queue = omega (arith, length-drop 1 queue)

-- ---- an fq_codel

bytes-at : (flows : List Flow) (k : ℕ) → All HasBytes flows → count (queue_of flows k) ≤ size (queue_of flows k)
bytes-at [] k h = omega arith
bytes-at (f ∷ fs) zero h = count-size f.queue (All-head HasBytes f fs h)
bytes-at (f ∷ fs) (suc k) h = bytes-at fs k (All-tail HasBytes f fs h)

module _ (s : FqState) (p : Descriptor) (now : ℕ) (within : flow_of s p < length s.flows) (range : IsInRange s.settings) (bytes : All HasBytes s.flows) (byte : 1 ≤ p.len) where
  -- past the limit the fat flow has a packet to lose
  fat-loses : s.settings.limit < packets_of (appended s p now).flows → 1 ≤ shed_count (appended s p now).flows (appended s p now).settings.drop_batch
  unfolding appended
  fat-loses over =
      let x : Stamped = record { packet = p; at = now } in
      let flows : List Flow = adjust (joined x) (flow_of s p) s.flows in
      let all : All HasBytes flows = All-adjust HasBytes (joined x) (λ f h. All-push (λ (y : Stamped). 1 ≤ y.packet.len) f.queue x h byte) (flow_of s p) s.flows bytes in
      let fat : 0 < count (queue_of flows (fattest flows)) =
      fat_some flows (fattest flows) (size (queue_of flows (fattest flows))) refl (λ k h. fattest_most flows k h) (λ k h. bytes-at flows k all) (omega (arith, over)) in
      shed_positive flows s.settings.drop_batch range.batch_low (omega (arith, over, range.limit_low)) fat

  same-limit : (appended s p now).settings.limit ≡ s.settings.limit
  unfolding appended
  same-limit = refl

  limit-after : (after_put s p now).settings.limit ≡ s.settings.limit
  unfolding appended cut_back
  limit-after = refl

  pub fq-put-least : max (after_put s p now).settings.limit (packets_of (after_put s p now).flows) ≤ max s.settings.limit (packets_of s.flows)
  fq-put-least =
      let a : FqState = appended s p now in
      let more : packets_of a.flows ≡ packets_of s.flows + 1 = packets_of-appended s p now within in
      ⊎_elim
      (λ (over : s.settings.limit < packets_of a.flows).
      let lost : ℕ = shed_count a.flows a.settings.drop_batch in
      omega (
        arith,
        ap (λ (x : FqState). packets_of x.flows) (cut_some a (fattest a.flows) lost (omega (arith, over, same-limit)) refl refl),
        packets_of-shortened lost (fattest a.flows) a.flows (shed_within a.flows a.settings.drop_batch),
        fat-loses over,
        more,
        limit-after,
      ))
      (λ (under : packets_of a.flows ≤ s.settings.limit). omega (arith, ap (λ (x : FqState). packets_of x.flows) (cut_none a (omega (arith, under, same-limit))), under, limit-after))
      (cases_lt s.settings.limit (packets_of a.flows))

pub fq-take-least : (s : FqState) (now : ℕ)
    → max (after_sending now (selected s)).settings.limit (packets_of (after_sending now (selected s)).flows) ≤ max s.settings.limit (packets_of s.flows)
fq-take-least s now = omega (
  arith,
  ap (λ (x : FqSettings). x.limit) (take-settings now s),
  take_keeps_all one s now,
  packets-all (after_sending now (selected s)).flows,
  packets-all s.flows,
)
