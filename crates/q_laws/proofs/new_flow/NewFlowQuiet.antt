-- A flow of an fq_codel's new list that has no credits left gives nothing before one that waits behind it: of whatever length the packet is
-- that is sent, its credits would let it give a byte less.
use Rattle.std.proofs.Common.{◌≡◌, ◌≢◌, ℕ, ◌+◌, ◌-◌, ◌≤◌, ◌⊎◌, inl, inr, ℤ, pos, negsuc, ◌<ℤ◌, ◌≤ℤ◌, ◌==◌, Bool, true, false, if◌then◌else◌, List, [], ◌∷◌, ◌++◌, refl, sym, ap, ◌∙◌, Option, Some, None, IfSome, arith}
use Rattle.std.specs.Option.{option_map_or}
use Rattle.std.proofs.lemmas.Int.{ints}
use Rattle.std.proofs.lemmas.List.{append-nil, append_assoc}
use Rattle.std.proofs.lemmas.List.Sums.{sum_by-append}
use Rattle.q_codel.specs.declared.codel.Taken.{Taken}
use Rattle.q_fqcodel.specs.Entry.{Entry}
use Rattle.q_fqcodel.specs.FqState.{FqState, is_idle}
use Rattle.q_fqcodel.specs.Laws.{credits_of}
use Rattle.q_fqcodel.specs.Take.{selected, front, sent_from}
use Rattle.q_model.specs.declared.event.Event.{Event}
use Rattle.q_model.specs.Events.{IsEvent}
use Rattle.q_model.specs.Quanta.{flow_gave}
use Rattle.q_model.specs.Step.{DeviceState, step}
use Rattle.q_model.specs.Stretches.{given_by, bytes_given, reach, FqAt, fq_in}
use Rattle.q_model.specs.Tally.{Note, history}
use Rattle.q_invariants.proofs.flow.FlowJoins.{before, step-waits}
use Rattle.q_invariants.proofs.flow.FlowMoves.{fq-node, fq-lawful, sent_has_length, fq-step}
use Rattle.q_invariants.proofs.flow.FlowSteps.{Changes}
use Rattle.q_invariants.proofs.Replays.{IsKept}

-- ---- credits that are none

-- for no credits and for any length
reach-spent : (m n : ℕ) (z : ℤ) → reach m z ≤ m - 1 → reach n z ≤ n - 1
reach-spent m n (pos c) h = omega (arith, h)
reach-spent m n (negsuc c) h = omega arith

pub reach-none : (m : ℕ) (z : ℤ) → z ≤ℤ pos 0 → reach m z ≤ m - 1
reach-none m (pos c) low = omega (arith, ints, low)
reach-none m (negsuc c) low = omega arith

-- the length of a packet that is sent
abbrev length_of : Option Taken → ℕ
length_of o = option_map_or (λ (t : Taken). t.packet.len) o 0

-- a flow gives the packet, or nothing
gives-whole : (k : ℕ) (f : Option Entry) (o : Option Taken) → (bytes_given k (flow_gave f o) ≡ 0) ⊎ (bytes_given k (flow_gave f o) ≡ length_of o)
gives-whole k None o = inl refl
gives-whole k (Some e) None = inl refl
gives-whole k (Some e) (Some t) = by (k == e.flow)
  where
    by : (b : Bool) → ((0 + (if b then t.packet.len else 0)) ≡ 0) ⊎ ((0 + (if b then t.packet.len else 0)) ≡ t.packet.len)
    by true = inr (omega arith)
    by false = inl (omega arith)

within-length : (o : Option Taken) → IfSome o (λ t. t.packet.len ≤ length_of o)
within-length None = tt
within-length (Some t) = let same : t.packet.len ≤ t.packet.len = omega arith in same

module _ (j k : ℕ) (apart : j ≢ k) where
  -- what flow k may give before flow j is a longest packet less a byte at most, or nothing
  abbrev pub IsSpent : ℕ → List Entry → Type 0
  IsSpent mtu es = before j k mtu apart es ≤ mtu - 1

  any-length : (m n : ℕ) (es : List Entry) → IsSpent m es → IsSpent n es
  any-length m n [] h = omega arith
  any-length m n (e ∷ es) h = by (e.flow == j) (e.flow == k) (any-length m n es) h
    where
      by : (own other : Bool) → (IsSpent m es → IsSpent n es) → (if own then 0 else (if other then reach m e.credits else before j k m apart es)) ≤ m - 1
          → (if own then 0 else (if other then reach n e.credits else before j k n apart es)) ≤ n - 1
      by true other rest h = omega arith
      by false true rest h = reach-spent m n e.credits h
      by false false rest h = rest h

  -- ---- over some events in which flow j gave nothing

  pub record IsQuiet (z : ℤ) (mtu : ℕ) (y : FqAt) (notes : List Note) : Type 0 where
    pub credits : credits_of j y.state.new_flows ≡ Some z
    pub nothing : bytes_given k notes ≡ 0
    pub spent : IsSpent mtu y.state.new_flows

  pub record FlowQuiet (z : ℤ) (mtu : ℕ) (x y : FqAt) : Type 0 where
    pub notes : List Note
    pub is : y.noted ≡ x.noted ++ notes
    pub quiet : bytes_given j notes ≡ 0 → credits_of j x.state.new_flows ≡ Some z → IsSpent mtu x.state.new_flows → IsQuiet z mtu y notes

  pub no-flow-quiet : (z : ℤ) (mtu : ℕ) (x : FqAt) → FlowQuiet z mtu x x
  no-flow-quiet z mtu x = record { notes = []; is = sym (append-nil x.noted); quiet = λ none credits spent. record { credits = credits; nothing = refl; spent = spent } }

  pub more-flow-quiet : (z : ℤ) (mtu : ℕ) (x y w : FqAt) → FlowQuiet z mtu x y → FlowQuiet z mtu y w → FlowQuiet z mtu x w
  more-flow-quiet z mtu x y w a b = record {
    notes = a.notes ++ b.notes;
    is = b.is ∙ ap (λ ns. ns ++ b.notes) a.is ∙ append_assoc x.noted a.notes b.notes;
    quiet = λ none credits spent.
        let gave = sum_by-append (given_by j) a.notes b.notes in
        let first = a.quiet (omega (arith, none, gave)) credits spent in
        let second = b.quiet (omega (arith, none, gave)) first.credits first.spent in
        record {
          credits = second.credits;
          nothing = let one = first.nothing in let two = second.nothing in omega (arith, one, two, sum_by-append (given_by k) a.notes b.notes);
          spent = second.spent;
        };
  }

  pub flow-quiet : (major : ℕ) (z : ℤ) → pos 0 <ℤ z → (d : DeviceState (List Note)) (e : Event) (x y : FqAt) → IsKept d → IsEvent e
      → fq_in major d ≡ Some x → fq_in major (step history d e).device ≡ Some y
      → is_idle x.state.flows j ≡ false → FlowQuiet z d.tree.device.mtu x y
  flow-quiet major z high d e x y kept range is at busy =
      let law = fq-lawful major d x kept (fq-node major d x is) in
      let now : ℕ = (step history d e).device.clock in
      let mtu : ℕ = d.tree.device.mtu in
      let s = fq-step major d e x y kept range is at in
      let o : Option Taken = sent_from now (selected x.state) in
      let short = (sent_has_length major now d x kept is).1 in
      let n : ℕ = length_of o in
      record {
        notes = s.notes;
        is = s.is;
        quiet = λ none credits spent.
            let waits = step-waits j k mtu apart now x.state law.lists law.settings.quantum_low busy z high credits y.state s.notes s.by short none in
            let sent = step-waits j k n apart now x.state law.lists law.settings.quantum_low busy z high credits y.state s.notes s.by (within-length o) none in
            let less = waits.less in
            let lesser = sent.less in
            let shorter : IsSpent n x.state.new_flows = any-length mtu n x.state.new_flows spent in
            record {
              credits = waits.credits;
              nothing = whole now x.state y.state s.notes s.by (omega (arith, lesser, shorter));
              spent = omega (arith, less, spent);
            };
      }
    where
      whole : (now : ℕ) (s t : FqState) (notes : List Note) → Changes now s t notes → bytes_given k notes ≤ length_of (sent_from now (selected s)) - 1 → bytes_given k notes ≡ 0
      whole now s t notes (inl quiet) less = quiet.no_bytes k
      whole now s t notes (inr take) less = elim (gives-whole k (front (selected s)) (sent_from now (selected s))) [
        | inl none ↦ take.bytes k ∙ none
        | inr all ↦ omega (arith, less, take.bytes k, all)
      ]
