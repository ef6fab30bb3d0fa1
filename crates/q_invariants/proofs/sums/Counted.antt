-- What notes come to, in packets and bytes, is what they weigh: each packet one, and each its length.
use Rattle.std.proofs.Common.{◌≡◌, ℕ, ◌+◌, List, [], ◌∷◌, refl, ap, ◌∙◌, arith}
use Rattle.std.specs.Prelude.{Bool, true, false, sum_by, if◌then◌else◌}
use Rattle.std.specs.List.{fold}
use Rattle.std.proofs.lemmas.List.Sums.{sum_by-cons}
use Rattle.q_packet.specs.Cause.{is_refusal}
use Rattle.q_packet.specs.Descriptor.{Descriptor}
use Rattle.q_packet.specs.declared.cause.Cause.{Cause}
use Rattle.q_model.specs.declared.totals.Totals.{Totals}
use Rattle.q_model.specs.Tally.{Note, Arrived, Sent, Lost, Marked, Granted, Spent, FlowGranted, FlowGave, Counts, no_counts, counted, counts_in, with_packet}
use Rattle.q_model.specs.Beneath.{totals_in, row_of}
use Rattle.q_model.specs.Conserved.{IsBalanced, AreMarksBounded}
use Rattle.q_invariants.specs.Kept.{AreCounted}
use Rattle.q_invariants.specs.Weights.{arrival, arrived, dropped, dropping, loss, lost, mark, marked, plain, sending, sent, weigh}
use Rattle.q_invariants.proofs.ask.Answer.{one}
use Rattle.q_invariants.proofs.sums.Weights.{weigh-count, lost-nil, dropped-nil, lost-cons, dropped-cons}

abbrev pub bytes : Descriptor → ℕ
bytes p = p.len

-- a loss is a refusal or a drop
abbrev refusing : (Descriptor → ℕ) → Note → ℕ
refusing w (Lost p cause) = if is_refusal cause then w (plain p) else 0
refusing w (Arrived p) = 0
refusing w (Sent p) = 0
refusing w (Marked p) = 0
refusing w (Granted class times) = 0
refusing w (Spent bytes) = 0
refusing w (FlowGranted flow times) = 0
refusing w (FlowGave flow bytes) = 0

unfoldable pub refused : (Descriptor → ℕ) → List Note → ℕ
refused w notes = sum_by (refusing w) notes

refused-nil : (w : Descriptor → ℕ) → refused w [] ≡ 0
unfolding refused
refused-nil w = refl

refused-cons : (w : Descriptor → ℕ) (n : Note) (ns : List Note) → refused w (n ∷ ns) ≡ refusing w n + refused w ns
unfolding refused
refused-cons w n ns = sum_by-cons (refusing w) n ns

-- one note
loss-parts : (w : Descriptor → ℕ) (n : Note) → loss w n ≡ refusing w n + dropping w n
loss-parts w (Lost p cause) = by (is_refusal cause)
  where
    by : (b : Bool) → w (plain p) ≡ (if b then w (plain p) else 0) + (if b then 0 else w (plain p))
    by true = omega arith
    by false = omega arith
loss-parts w (Arrived p) = refl
loss-parts w (Sent p) = refl
loss-parts w (Marked p) = refl
loss-parts w (Granted class times) = refl
loss-parts w (Spent bytes) = refl
loss-parts w (FlowGranted flow times) = refl
loss-parts w (FlowGave flow bytes) = refl

pub lost-parts : (w : Descriptor → ℕ) (notes : List Note) → lost w notes ≡ refused w notes + dropped w notes
lost-parts w [] = omega (arith, lost-nil w, refused-nil w, dropped-nil w)
lost-parts w (n ∷ notes) = omega (arith, lost-cons w n notes, refused-cons w n notes, dropped-cons w n notes, loss-parts w n, lost-parts w notes)

-- counts that are others and what notes weigh
pub record IsMore (c d : Counts) (notes : List Note) : Type 0 where
  pub arrived_packets : d.arrived.packets ≡ c.arrived.packets + arrived one notes
  pub arrived_bytes : d.arrived.bytes ≡ c.arrived.bytes + arrived bytes notes
  pub sent_packets : d.sent.packets ≡ c.sent.packets + sent one notes
  pub sent_bytes : d.sent.bytes ≡ c.sent.bytes + sent bytes notes
  pub refused_packets : d.refused.packets ≡ c.refused.packets + refused one notes
  pub refused_bytes : d.refused.bytes ≡ c.refused.bytes + refused bytes notes
  pub dropped_packets : d.dropped.packets ≡ c.dropped.packets + dropped one notes
  pub dropped_bytes : d.dropped.bytes ≡ c.dropped.bytes + dropped bytes notes
  pub marked_packets : d.marked.packets ≡ c.marked.packets + marked one notes
  pub marked_bytes : d.marked.bytes ≡ c.marked.bytes + marked bytes notes

-- ---- a number that is kept of notes, and what each note adds to it

record Measure : Type 0 where
  pub number : Counts → ℕ
  pub adds : Note → ℕ
  pub step : (c : Counts) (n : Note) → number (counted c n) ≡ number c + adds n

measured : (m : Measure) (c : Counts) (notes : List Note) → m.number (fold counted c notes) ≡ m.number c + sum_by m.adds notes
measured m c [] = omega arith
measured m c (n ∷ notes) = omega (arith, measured m (counted c n) notes, m.step c n, sum_by-cons m.adds n notes)

-- The packets or the bytes of a counter, and what a packet adds to them.
module _ (part : Totals → ℕ) (w : Descriptor → ℕ) (more : (t : Totals) (p : Descriptor) → part (with_packet t p) ≡ part t + w (plain p)) where
  -- a counter that grants, spent bytes and gifts leave
  measure : (f : Counts → Totals) (g : Note → ℕ)
      → ((c : Counts) (p : Descriptor) → part (f (counted c (Arrived p))) ≡ part (f c) + g (Arrived p))
      → ((c : Counts) (p : Descriptor) → part (f (counted c (Sent p))) ≡ part (f c) + g (Sent p))
      → ((c : Counts) (p : Descriptor) (cause : Cause) → part (f (counted c (Lost p cause))) ≡ part (f c) + g (Lost p cause))
      → ((c : Counts) (p : Descriptor) → part (f (counted c (Marked p))) ≡ part (f c) + g (Marked p))
      → ((n k : ℕ) → g (Granted n k) ≡ 0) → ((k : ℕ) → g (Spent k) ≡ 0) → ((n k : ℕ) → g (FlowGranted n k) ≡ 0) → ((n k : ℕ) → g (FlowGave n k) ≡ 0) → Measure
  measure f g arrives sends loses marks grants spends flow_grants gives = record { number = λ c. part (f c); adds = g; step = by }
    where
      by : (c : Counts) (n : Note) → part (f (counted c n)) ≡ part (f c) + g n
      by c (Arrived p) = arrives c p
      by c (Sent p) = sends c p
      by c (Lost p cause) = loses c p cause
      by c (Marked p) = marks c p
      by c (Granted n k) = omega (arith, grants n k)
      by c (Spent k) = omega (arith, spends k)
      by c (FlowGranted n k) = omega (arith, flow_grants n k)
      by c (FlowGave n k) = omega (arith, gives n k)

  same : (k : ℕ) → k ≡ k + 0
  same k = omega arith

  -- a loss is refused or dropped
  abbrev lost_to : Counts → Descriptor → Bool → Counts
  lost_to c p b = if b then record c { refused = with_packet c.refused p } else record c { dropped = with_packet c.dropped p }

  unlost : (f : Counts → Totals) → ((c : Counts) (t : Totals) → f (record c { refused = t }) ≡ f c) → ((c : Counts) (t : Totals) → f (record c { dropped = t }) ≡ f c)
      → (c : Counts) (p : Descriptor) (b : Bool) → part (f (lost_to c p b)) ≡ part (f c) + 0
  unlost f refused dropped c p true = ap part (refused c (with_packet c.refused p)) ∙ same (part (f c))
  unlost f refused dropped c p false = ap part (dropped c (with_packet c.dropped p)) ∙ same (part (f c))

  refused_by : (c : Counts) (p : Descriptor) (b : Bool) → part (lost_to c p b).refused ≡ part c.refused + (if b then w (plain p) else 0)
  refused_by c p true = more c.refused p
  refused_by c p false = same (part c.refused)

  dropped_by : (c : Counts) (p : Descriptor) (b : Bool) → part (lost_to c p b).dropped ≡ part c.dropped + (if b then 0 else w (plain p))
  dropped_by c p true = same (part c.dropped)
  dropped_by c p false = more c.dropped p

  -- each counter, by what an arrival, a packet sent, a loss and a mark add to it
  abbrev arrivals : Measure
  arrivals =
      measure (λ c. c.arrived) (arrival w) (λ c p. more c.arrived p) (λ c p. same (part c.arrived))
      (λ c p cause. unlost (λ x. x.arrived) (λ x t. refl) (λ x t. refl) c p (is_refusal cause)) (λ c p. same (part c.arrived))
      (λ n k. refl) (λ k. refl) (λ n k. refl) (λ n k. refl)

  abbrev sendings : Measure
  sendings =
      measure (λ c. c.sent) (sending w) (λ c p. same (part c.sent)) (λ c p. more c.sent p)
      (λ c p cause. unlost (λ x. x.sent) (λ x t. refl) (λ x t. refl) c p (is_refusal cause)) (λ c p. same (part c.sent))
      (λ n k. refl) (λ k. refl) (λ n k. refl) (λ n k. refl)

  abbrev refusals : Measure
  refusals =
      measure (λ c. c.refused) (refusing w) (λ c p. same (part c.refused)) (λ c p. same (part c.refused)) (λ c p cause. refused_by c p (is_refusal cause)) (λ c p. same (part c.refused))
      (λ n k. refl) (λ k. refl) (λ n k. refl) (λ n k. refl)

  abbrev drops : Measure
  drops =
      measure (λ c. c.dropped) (dropping w) (λ c p. same (part c.dropped)) (λ c p. same (part c.dropped)) (λ c p cause. dropped_by c p (is_refusal cause)) (λ c p. same (part c.dropped))
      (λ n k. refl) (λ k. refl) (λ n k. refl) (λ n k. refl)

  abbrev marks : Measure
  marks =
      measure (λ c. c.marked) (mark w) (λ c p. same (part c.marked)) (λ c p. same (part c.marked))
      (λ c p cause. unlost (λ x. x.marked) (λ x t. refl) (λ x t. refl) c p (is_refusal cause)) (λ c p. more c.marked p)
      (λ n k. refl) (λ k. refl) (λ n k. refl) (λ n k. refl)

pub all-more : (c : Counts) (notes : List Note) → IsMore c (fold counted c notes) notes
unfolding measure arrived sent refused dropped marked
all-more c notes = record {
  arrived_packets = measured (arrivals (λ t. t.packets) one (λ t p. refl)) c notes;
  arrived_bytes = measured (arrivals (λ t. t.bytes) bytes (λ t p. refl)) c notes;
  sent_packets = measured (sendings (λ t. t.packets) one (λ t p. refl)) c notes;
  sent_bytes = measured (sendings (λ t. t.bytes) bytes (λ t p. refl)) c notes;
  refused_packets = measured (refusals (λ t. t.packets) one (λ t p. refl)) c notes;
  refused_bytes = measured (refusals (λ t. t.bytes) bytes (λ t p. refl)) c notes;
  dropped_packets = measured (drops (λ t. t.packets) one (λ t p. refl)) c notes;
  dropped_bytes = measured (drops (λ t. t.bytes) bytes (λ t p. refl)) c notes;
  marked_packets = measured (marks (λ t. t.packets) one (λ t p. refl)) c notes;
  marked_bytes = measured (marks (λ t. t.bytes) bytes (λ t p. refl)) c notes;
}

-- what a node counts of its history is balanced, and its marks are bounded
pub is-balanced : (notes : List Note) (waiting held : List Descriptor) → AreCounted notes waiting held → IsBalanced (row_of (counts_in notes) waiting)
unfolding weigh
is-balanced notes waiting held c =
    let m = all-more no_counts notes in
    let weigh_bytes : weigh bytes waiting ≡ (totals_in waiting).bytes = refl in
    record {
      packets = omega (arith, c.conserved one, m.arrived_packets, m.sent_packets, m.refused_packets, m.dropped_packets, lost-parts one notes, weigh-count waiting);
      bytes = omega (arith, c.conserved bytes, m.arrived_bytes, m.sent_bytes, m.refused_bytes, m.dropped_bytes, lost-parts bytes notes, weigh_bytes);
    }

pub are-bounded : (notes : List Note) (waiting held : List Descriptor) → AreCounted notes waiting held → AreMarksBounded (counts_in notes) held
unfolding weigh
are-bounded notes waiting held c =
    let m = all-more no_counts notes in
    let weigh_bytes : weigh bytes held ≡ (totals_in held).bytes = refl in
    record {
      packets = omega (arith, c.marks one, m.marked_packets, m.sent_packets, m.dropped_packets, weigh-count held);
      bytes = omega (arith, c.marks bytes, m.marked_bytes, m.sent_bytes, m.dropped_bytes, weigh_bytes);
    }
