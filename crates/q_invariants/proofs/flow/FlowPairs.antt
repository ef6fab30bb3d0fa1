-- What one event, and then a stretch of events, comes to at two flows of one fq_codel: their order and how often each is granted.
use Rattle.std.proofs.Common.{◌≡◌, ℕ, ◌+◌, Bool, true, false, ◌⊎◌, inl, inr, List, [], ◌∷◌, ◌++◌, drop, refl, sym, ap, ◌∙◌, Option, Some, None, pos, arith}
use Rattle.std.specs.Prelude.{if◌then◌else◌}
use Rattle.std.proofs.lemmas.List.{append-nil, append_assoc}
use Rattle.std.proofs.lemmas.List.Sums.{sum_by-append}
use Rattle.q_packet.specs.Descriptor.{Descriptor}
use Rattle.q_fqcodel.specs.Entry.{Entry}
use Rattle.q_fqcodel.specs.FqState.{FqState, is_idle}
use Rattle.q_fqcodel.specs.Lawful.{times, IsLawful}
use Rattle.q_fqcodel.specs.Order.{stands_first}
use Rattle.q_fqcodel.specs.Put.{flow_of, is_listed, appended, cut_back, after_put}
use Rattle.q_fqcodel.specs.Take.{front, paid, sent_from, selected, after_sending}
use Rattle.q_fqcodel.proofs.OrderLemmas.{one_if, order_other, order_same, order_front, quanta_even}
use Rattle.q_fqcodel.proofs.PutLemmas.{listed_not}
use Rattle.q_fqcodel.proofs.SentLemmas.{flow-paid, front_is, front_none, after_none, after_sending_written, lists_written}
use Rattle.q_model.specs.declared.event.Event.{Event}
use Rattle.q_model.specs.Events.{IsEvent}
use Rattle.q_model.specs.Tally.{Note, history}
use Rattle.q_model.specs.Step.{DeviceState, step}
use Rattle.q_model.specs.Stretches.{flow_granted_by, flow_grants_to, FqAt, fq_in}
use Rattle.q_invariants.proofs.flow.FlowLists.{quanta-noted}
use Rattle.q_invariants.proofs.flow.FlowMoves.{fq-node, fq-lawful, fq-step}
use Rattle.q_invariants.proofs.flow.FlowSteps.{lists_of, SameLists, same-whole, Changes}
use Rattle.q_invariants.proofs.Replays.{IsKept}

-- ---- the order of two flows with packets over one event

module _ (i j : ℕ) (s : FqState) (law : IsLawful s) (busy_i : is_idle s.flows i ≡ false) (busy_j : is_idle s.flows j ≡ false) where
  -- a flow that an arrival lists is neither of the two
  order-put : (p : Descriptor) (now : ℕ) → stands_first i j (lists_of (after_put s p now)) ≡ stands_first i j (lists_of s)
  unfolding appended cut_back
  order-put p now = by (is_listed (flow_of s p) (lists_of s)) refl
    where
      new : Entry
      new = record { flow = flow_of s p; credits = pos s.settings.quantum }

      other : (n : ℕ) → is_idle s.flows n ≡ false → is_listed (flow_of s p) (lists_of s) ≡ false → new.flow ≡ n → ⊥
      other n busy e own = absurd (omega (arith, law.busy n busy, ap (λ k. times k (lists_of s)) (sym own), listed_not (flow_of s p) (lists_of s) e))

      by : (t : Bool) → is_listed (flow_of s p) (lists_of s) ≡ t → stands_first i j ((if t then s.new_flows else s.new_flows ++ new ∷ []) ++ s.old_flows) ≡ stands_first i j (lists_of s)
      by true e = refl
      by false e =
          ap (stands_first i j) (append_assoc s.new_flows (new ∷ []) s.old_flows)
          ∙ order_front i j s.new_flows (new ∷ s.old_flows) s.old_flows (order_other i j new s.old_flows (other i busy_i e) (other j busy_j e))

order-sent : (i j now : ℕ) (s : FqState) → stands_first i j (lists_of (after_sending now s)) ≡ stands_first i j (lists_of s)
order-sent i j now s = by (front s) refl
  where
    by : (o : Option Entry) → front s ≡ o → stands_first i j (lists_of (after_sending now s)) ≡ stands_first i j (lists_of s)
    by None f = let none = front_none s f in ap (λ (t : FqState). stands_first i j (lists_of t)) (after_none s now none.0 none.1)
    by (Some e) f =
        let m : Entry = paid (sent_from now s) e in
        let rest : List Entry = drop 1 (lists_of s) in
        let written : lists_of (after_sending now s) ≡ m ∷ rest = ap lists_of (after_sending_written s e now f) ∙ lists_written s m e f in
        ap (stands_first i j) written ∙ order_same i j m e rest rest (flow-paid (sent_from now s) e) refl ∙ ap (stands_first i j) (sym (front_is s e f))

step-even : (i j now : ℕ) (s t : FqState) (notes : List Note) → IsLawful s → is_idle s.flows i ≡ false → is_idle s.flows j ≡ false → Changes now s t notes
    → flow_grants_to i notes + one_if (stands_first i j (lists_of t)) ≡ flow_grants_to j notes + one_if (stands_first i j (lists_of s))
step-even i j now s t notes law busy_i busy_j (inl quiet) = omega (arith, quiet.no_grants i, quiet.no_grants j, ap one_if (by quiet.lists))
  where
    by : SameLists s t ⊎ ((p : Descriptor) × (at : ℕ) × (t ≡ after_put s p at)) → stands_first i j (lists_of t) ≡ stands_first i j (lists_of s)
    by (inl same) = ap (stands_first i j) (same-whole s t same)
    by (inr put) = ap (λ (x : FqState). stands_first i j (lists_of x)) put.2 ∙ order-put i j s law busy_i busy_j put.0 put.1
step-even i j now s t notes law busy_i busy_j (inr take) =
    let sent : stands_first i j (lists_of t) ≡ stands_first i j (lists_of (selected s)) = ap (λ (x : FqState). stands_first i j (lists_of x)) take.is ∙ order-sent i j now (selected s) in
    omega (
      arith,
      take.granted i,
      take.granted j,
      quanta-noted i s law (law.busy i busy_i),
      quanta-noted j s law (law.busy j busy_j),
      quanta_even s i j law busy_i busy_j,
      ap one_if sent,
    )

-- ---- several events

-- Two flows were granted equally often where they stand in the order that they had, else the one that stood first once more.
pub record FlowPairMoves (i j : ℕ) (x y : FqAt) : Type 0 where
  pub notes : List Note
  pub is : y.noted ≡ x.noted ++ notes
  pub even : flow_grants_to i notes + one_if (stands_first i j (lists_of y.state)) ≡ flow_grants_to j notes + one_if (stands_first i j (lists_of x.state))

pub no-flow-pair-moves : (i j : ℕ) (x : FqAt) → FlowPairMoves i j x x
no-flow-pair-moves i j x = record { notes = []; is = sym (append-nil x.noted); even = refl }

pub flow-pair-moves : (major i j : ℕ) (d : DeviceState (List Note)) (e : Event) (x y : FqAt) → IsKept d → IsEvent e → fq_in major d ≡ Some x → fq_in major (step history d e).device ≡ Some y
    → is_idle x.state.flows i ≡ false → is_idle x.state.flows j ≡ false → FlowPairMoves i j x y
flow-pair-moves major i j d e x y kept range is at busy_i busy_j =
    let s = fq-step major d e x y kept range is at in
    let law = fq-lawful major d x kept (fq-node major d x is) in
    record { notes = s.notes; is = s.is; even = step-even i j (step history d e).device.clock x.state y.state s.notes law.lists busy_i busy_j s.by }

pub more-flow-pair-moves : (i j : ℕ) (x y z : FqAt) → FlowPairMoves i j x y → FlowPairMoves i j y z → FlowPairMoves i j x z
more-flow-pair-moves i j x y z a b = record {
  notes = a.notes ++ b.notes;
  is = b.is ∙ ap (λ ns. ns ++ b.notes) a.is ∙ append_assoc x.noted a.notes b.notes;
  even =
      let first = a.even in
      let second = b.even in
      omega (arith, sum_by-append (flow_granted_by i) a.notes b.notes, sum_by-append (flow_granted_by j) a.notes b.notes, first, second);
}
