-- What one event, and then a stretch of events, lets a flow of an fq_codel give against another that stays backlogged.
use Rattle.std.proofs.Common.{◌≡◌, ◌≢◌, ℕ, ◌+◌, ◌-◌, ◌*◌, ◌≤◌, ◌⊎◌, inl, inr, pos, ◌+ℤ◌, ◌<ℤ◌, Bool, true, false, if◌then◌else◌, List, [], ◌∷◌, ◌++◌, set, refl, sym, ap, ap₂, subst, ◌∙◌, Option, Some, None, IfSome, arith, eq-eqb}
use Rattle.std.proofs.Math.Nat.{add-mul, mul-lt-mul_of_pos_left, mul_comm}
use Rattle.std.proofs.lemmas.Bool.{cases_eq, cases_lt, ne_eqb}
use Rattle.std.proofs.lemmas.Int.{ints}
use Rattle.std.proofs.lemmas.List.{append-nil, append_assoc}
use Rattle.std.proofs.lemmas.List.Sums.{sum_by-append}
use Rattle.q_packet.specs.Descriptor.{Descriptor}
use Rattle.q_codel.specs.declared.codel.Taken.{Taken}
use Rattle.q_fqcodel.specs.Entry.{Entry}
use Rattle.q_fqcodel.specs.FqState.{FqState, is_idle}
use Rattle.q_fqcodel.specs.Lawful.{times, IsLawful}
use Rattle.q_fqcodel.specs.Put.{flow_of, is_listed, appended, cut_back, after_put}
use Rattle.q_fqcodel.specs.QuantaGiven.{quanta_given}
use Rattle.q_fqcodel.specs.Take.{selected, front, paid, sent_from, after_sending}
use Rattle.q_fqcodel.proofs.GivenLemmas.{credits_by_quanta}
use Rattle.q_fqcodel.proofs.LawfulLemmas.{times-append}
use Rattle.q_fqcodel.proofs.PutLemmas.{listed_not}
use Rattle.q_fqcodel.proofs.SentLemmas.{flow-paid, paid_is, after_none, after_new_flows, after_sending_written, written}
use Rattle.q_fqcodel.proofs.TurnLemmas.{first_in_front, none_in_front}
use Rattle.q_model.specs.declared.event.Event.{Event}
use Rattle.q_model.specs.Events.{IsEvent}
use Rattle.q_model.specs.Tally.{Note, history}
use Rattle.q_model.specs.Quanta.{flow_gave}
use Rattle.q_model.specs.Step.{DeviceState, step}
use Rattle.q_model.specs.Stretches.{flow_granted_by, given_by, flow_grants_to, bytes_given, reach, FqAt, fq_in}
use Rattle.q_invariants.proofs.flow.FlowLists.{listed-credits, quanta-noted, paid-none}
use Rattle.q_invariants.proofs.flow.FlowMoves.{fq-node, fq-lawful, sent_has_length, fq-step}
use Rattle.q_invariants.proofs.flow.FlowReach.{in_lists, reach_in, lists-bound, reach-paid, lists-join, lists-joined, lists-none, front-own, front-paid, old-front-own, old-front-paid}
use Rattle.q_invariants.proofs.flow.FlowSteps.{lists_of, SameLists, Takes, Changes}
use Rattle.q_invariants.proofs.flow.FlowVisits.{may_give, selects}
use Rattle.q_invariants.proofs.Replays.{IsKept}

-- what the flow in front gives of another
pub gave-other : (j : ℕ) (e : Entry) (o : Option Taken) → e.flow ≢ j → bytes_given j (flow_gave (Some e) o) ≡ 0
gave-other j e None other = refl
gave-other j e (Some t) other = ap (λ (b : Bool). 0 + (if b then t.packet.len else 0)) (ne_eqb j e.flow (λ same. other (sym same))) ∙ omega arith

-- and of itself, which it pays
pub gave-own : (j mtu : ℕ) (e : Entry) (o : Option Taken) → e.flow ≡ j → pos 0 <ℤ e.credits → IfSome o (λ t. t.packet.len ≤ mtu)
    → bytes_given j (flow_gave (Some e) o) + reach mtu (paid o e).credits ≤ reach mtu e.credits
gave-own j mtu e None own high short = omega (arith, ap (λ (x : Entry). reach mtu x.credits) (paid-none e))
gave-own j mtu e (Some t) own high short =
    let gave : bytes_given j (flow_gave (Some e) (Some t)) ≡ t.packet.len = ap (λ (b : Bool). 0 + (if b then t.packet.len else 0)) (eq-eqb j e.flow (sym own)) ∙ omega arith in
    omega (arith, gave, reach-paid mtu t.packet.len e.credits (paid (Some t) e).credits high short (ap (λ (x : Entry). x.credits) (paid_is (Some t) t e refl)))

selected-quantum : (s : FqState) → (selected s).settings.quantum ≡ s.settings.quantum
unfolding selected
selected-quantum s = refl

module _ (i j mtu : ℕ) (apart : i ≢ j) where
  abbrev may : FqState → ℕ
  may s = may_give i j mtu apart s

  gave : ℕ → FqState → ℕ
  gave now s = bytes_given j (flow_gave (front s) (sent_from now s))

  gave-of : (now : ℕ) (s : FqState) (o : Option Entry) → o ≡ front s → bytes_given j (flow_gave o (sent_from now s)) ≡ gave now s
  unfolding gave
  gave-of now s o is = ap (λ (f : Option Entry). bytes_given j (flow_gave f (sent_from now s))) is

  -- ---- the flow in front sends

  module _ (now : ℕ) (s : FqState) (ready : IfSome (front s) (λ (e : Entry). pos 0 <ℤ e.credits)) (short : IfSome (sent_from now s) (λ t. t.packet.len ≤ mtu)) where
    has-credits : (e : Entry) (rest : List Entry) → lists_of s ≡ e ∷ rest → pos 0 <ℤ e.credits
    has-credits e rest is = subst (λ (o : Option Entry). IfSome o (λ (e : Entry). pos 0 <ℤ e.credits)) (sym (first_in_front s e rest is)) ready

    sends-new : (e : Entry) (rest : List Entry) → s.new_flows ≡ e ∷ rest → gave now s + may (after_sending now s) ≤ may s
    sends-new e rest is =
        let m : Entry = paid (sent_from now s) e in
        let all : lists_of s ≡ e ∷ (rest ++ s.old_flows) = ap (λ (l : List Entry). l ++ s.old_flows) is in
        let before : may s ≡ in_lists i j s.settings.quantum mtu false (e ∷ rest) s.old_flows = ap (λ (l : List Entry). in_lists i j s.settings.quantum mtu false l s.old_flows) is in
        let after : may (after_sending now s) ≡ in_lists i j s.settings.quantum mtu false (m ∷ rest) s.old_flows = ap may (after_new_flows s e rest now is) in
        let bytes = gave-of now s (Some e) (first_in_front s e (rest ++ s.old_flows) all) in
        elim (cases_eq e.flow j) [
          | inl own ↦
              omega (
                arith,
                before,
                after,
                bytes,
                gave-own j mtu e (sent_from now s) own (has-credits e (rest ++ s.old_flows) all) short,
                front-own i j s.settings.quantum mtu e rest s.old_flows own,
                front-own i j s.settings.quantum mtu m rest s.old_flows (flow-paid (sent_from now s) e ∙ own),
              )
          | inr other ↦ omega (arith, before, after, bytes, gave-other j e (sent_from now s) other, front-paid i j s.settings.quantum mtu e m rest s.old_flows (flow-paid (sent_from now s) e) other)
        ]

    sends-old : (e : Entry) (rest : List Entry) → s.new_flows ≡ [] → s.old_flows ≡ e ∷ rest → gave now s + may (after_sending now s) ≤ may s
    sends-old e rest none is =
        let m : Entry = paid (sent_from now s) e in
        let all : lists_of s ≡ e ∷ rest = ap₂ (λ (l k : List Entry). l ++ k) none is in
        let before : may s ≡ in_lists i j s.settings.quantum mtu false [] (e ∷ rest) = ap₂ (λ (l k : List Entry). in_lists i j s.settings.quantum mtu false l k) none is in
        let after : may (after_sending now s) ≡ in_lists i j s.settings.quantum mtu false [] (m ∷ rest) =
        ap may (after_sending_written s e now (sym (first_in_front s e rest all)))
        ∙ ap₂ (λ (l k : List Entry). in_lists i j s.settings.quantum mtu false (set l 0 m) (written m l k)) none is in
        let bytes = gave-of now s (Some e) (first_in_front s e rest all) in
        elim (cases_eq e.flow j) [
          | inl own ↦
              omega (
                arith,
                before,
                after,
                bytes,
                gave-own j mtu e (sent_from now s) own (has-credits e rest all) short,
                old-front-own i j s.settings.quantum mtu e rest own,
                old-front-own i j s.settings.quantum mtu m rest (flow-paid (sent_from now s) e ∙ own),
              )
          | inr other ↦ omega (arith, before, after, bytes, gave-other j e (sent_from now s) other, old-front-paid i j s.settings.quantum mtu e m rest (flow-paid (sent_from now s) e) other)
        ]

    sends-any : (new old : List Entry) → s.new_flows ≡ new → s.old_flows ≡ old → gave now s + may (after_sending now s) ≤ may s
    sends-any [] [] new old =
        let none : 0 ≡ gave now s = gave-of now s None (none_in_front s new old) in
        omega (arith, none, ap may (after_none s now new old))
    sends-any [] (e ∷ rest) new old = sends-old e rest new old
    sends-any (e ∷ rest) old_flows new old = sends-new e rest new

  -- ---- a take

  same-quanta : (a b q : ℕ) → 1 ≤ q → a * q ≡ b * q → a ≡ b
  same-quanta a b q positive same = elim (cases_lt a b) [
    | inl less ↦ absurd (omega (arith, same, mul_comm a q, mul_comm b q, mul-lt-mul_of_pos_left less positive))
    | inr most ↦ elim (cases_lt b a) [
      | inl more ↦ absurd (omega (arith, same, mul_comm a q, mul_comm b q, mul-lt-mul_of_pos_left more positive))
      | inr least ↦ omega (arith, most, least)
    ]
  ]

  module _ (now : ℕ) (s : FqState) (law : IsLawful s) (positive : 1 ≤ s.settings.quantum) (busy : is_idle s.flows i ≡ false) where
    take-against : (t : FqState) (notes : List Note) → Takes now s t notes → IfSome (sent_from now (selected s)) (λ t. t.packet.len ≤ mtu)
        → bytes_given j notes + may t ≤ may s + flow_grants_to i notes * (2 * s.settings.quantum - 1)
    unfolding gave
    take-against t notes take short =
        let q : ℕ = s.settings.quantum in
        let r = selects i j mtu apart s law positive busy in
        let z = listed-credits i (lists_of s) (law.busy i busy) in
        let is = r.credits z.0 z.1 in
        let quanta = credits_by_quanta s i z.0 (z.0 +ℤ pos (r.quanta * q)) law z.1 is in
        let counts : r.quanta * q ≡ quanta_given s i * q = omega (arith, ints, quanta) in
        let granted : r.quanta ≡ flow_grants_to i notes = same-quanta r.quanta (quanta_given s i) q positive counts ∙ sym (take.granted i ∙ quanta-noted i s law (law.busy i busy)) in
        let sends = sends-any now (selected s) r.ready short (selected s).new_flows (selected s).old_flows refl refl in
        let less = r.less in
        omega (arith, sends, less, take.bytes j, ap may take.is, ap (λ k. k * (2 * q - 1)) granted)

    most-selected : may (selected s) ≤ reach_in i j s.settings.quantum mtu (lists_of (selected s)) + (s.settings.quantum - 1)
    most-selected =
        subst (λ n. in_lists i j n mtu false (selected s).new_flows (selected s).old_flows
        ≤ reach_in i j s.settings.quantum mtu (lists_of (selected s)) + (s.settings.quantum - 1)) (sym (selected-quantum s))
        (lists-bound i j s.settings.quantum mtu positive false (selected s).new_flows (selected s).old_flows)

    -- and whatever it grants to flow i
    take-bounded : (t : FqState) (notes : List Note) → Takes now s t notes → IfSome (sent_from now (selected s)) (λ t. t.packet.len ≤ mtu)
        → (most : ℕ) → s.settings.quantum + (mtu - 1) ≤ most → reach_in i j s.settings.quantum mtu (lists_of s) ≤ most → bytes_given j notes + may t ≤ most + (s.settings.quantum - 1)
    unfolding gave
    take-bounded t notes take short most least bound =
        let r = selects i j mtu apart s law positive busy in
        let sends = sends-any now (selected s) r.ready short (selected s).new_flows (selected s).old_flows refl refl in
        let kept = r.bounded most least bound in
        omega (arith, sends, kept, take.bytes j, ap may take.is, most-selected)

    -- ---- an arrival

    put-against : (p : Descriptor) (at : ℕ) → may (after_put s p at) ≤ may s
    unfolding appended cut_back
    put-against p at = by (is_listed (flow_of s p) (lists_of s)) refl
      where
        x : Entry
        x = record { flow = flow_of s p; credits = pos s.settings.quantum }

        joins : times (flow_of s p) (lists_of s) ≡ 0 → in_lists i j s.settings.quantum mtu false (s.new_flows ++ x ∷ []) s.old_flows ≤ may s
        joins none =
            let far : flow_of s p ≢ i = λ same. absurd (omega (arith, none, law.busy i busy, ap (λ n. times n (lists_of s)) same)) in
            elim (cases_eq (flow_of s p) j) [
              | inl own ↦
                  let absent : times j (lists_of s) ≡ 0 = ap (λ n. times n (lists_of s)) (sym own) ∙ none in
                  omega (
                    arith,
                    lists-none i j s.settings.quantum mtu false s.new_flows s.old_flows absent,
                    lists-joined i j s.settings.quantum mtu false x s.new_flows s.old_flows own (omega (arith, absent, times-append j s.new_flows s.old_flows)),
                  )
              | inr other ↦ omega (arith, lists-join i j s.settings.quantum mtu false x s.new_flows s.old_flows other far)
            ]

        by : (t : Bool) → is_listed (flow_of s p) (lists_of s) ≡ t → in_lists i j s.settings.quantum mtu false (if t then s.new_flows else s.new_flows ++ x ∷ []) s.old_flows ≤ may s
        by true e = omega arith
        by false e = joins (listed_not (flow_of s p) (lists_of s) e)

    -- ---- any event

    step-against : (t : FqState) (notes : List Note) → Changes now s t notes → t.settings.quantum ≡ s.settings.quantum → IfSome (sent_from now (selected s)) (λ t. t.packet.len ≤ mtu)
        → bytes_given j notes + may t ≤ may s + flow_grants_to i notes * (2 * s.settings.quantum - 1)
    step-against t notes (inr take) quantum short = take-against t notes take short
    step-against t notes (inl quiet) quantum short = omega (arith, quiet.no_bytes j, by quiet.lists)
      where
        by : SameLists s t ⊎ ((p : Descriptor) × (at : ℕ) × (t ≡ after_put s p at)) → may t ≤ may s
        by (inl same) =
            let lists : may t ≡ may s =
            ap (λ n. in_lists i j n mtu false t.new_flows t.old_flows) quantum ∙ ap₂ (λ (a b : List Entry). in_lists i j s.settings.quantum mtu false a b) same.0 same.1 in
            omega (arith, lists)
        by (inr put) = omega (arith, put-against put.0 put.1, ap may put.2)

    step-bounded : (t : FqState) (notes : List Note) → Changes now s t notes → t.settings.quantum ≡ s.settings.quantum → IfSome (sent_from now (selected s)) (λ t. t.packet.len ≤ mtu)
        → (most : ℕ) → s.settings.quantum + (mtu - 1) ≤ most → reach_in i j s.settings.quantum mtu (lists_of s) ≤ most → bytes_given j notes + may t ≤ most + (s.settings.quantum - 1)
    step-bounded t notes (inr take) quantum short most least bound = take-bounded t notes take short most least bound
    step-bounded t notes (inl quiet) quantum short most least bound =
        let grants : flow_grants_to i notes * (2 * s.settings.quantum - 1) ≡ 0 = ap (λ k. k * (2 * s.settings.quantum - 1)) (quiet.no_grants i) ∙ omega arith in
        omega (arith, step-against t notes (inl quiet) quantum short, grants, bound, lists-bound i j s.settings.quantum mtu positive false s.new_flows s.old_flows)

-- ---- in a device

pub record FlowAgainst (i j mtu quantum : ℕ) (x y : FqAt) : Type 0 where
  pub notes : List Note
  pub is : y.noted ≡ x.noted ++ notes
  pub within : bytes_given j notes + in_lists i j quantum mtu false y.state.new_flows y.state.old_flows
      ≤ in_lists i j quantum mtu false x.state.new_flows x.state.old_flows + flow_grants_to i notes * (2 * quantum - 1)

-- over one event: no more than this, whatever it grants to flow i
pub record FlowBounded (i j mtu quantum : ℕ) (x y : FqAt) : Type 0 where
  pub notes : List Note
  pub is : y.noted ≡ x.noted ++ notes
  pub bounded : (most : ℕ) → quantum + (mtu - 1) ≤ most → reach_in i j quantum mtu (lists_of x.state) ≤ most
      → bytes_given j notes + in_lists i j quantum mtu false y.state.new_flows y.state.old_flows ≤ most + (quantum - 1)

pub no-flow-against : (i j mtu quantum : ℕ) (x : FqAt) → FlowAgainst i j mtu quantum x x
no-flow-against i j mtu quantum x = record { notes = []; is = sym (append-nil x.noted); within = omega arith }

pub flow-against : (major i j quantum : ℕ) (d : DeviceState (List Note)) (e : Event) (x y : FqAt) → i ≢ j → IsKept d → IsEvent e
    → fq_in major d ≡ Some x → fq_in major (step history d e).device ≡ Some y
    → is_idle x.state.flows i ≡ false → x.state.settings.quantum ≡ quantum → y.state.settings.quantum ≡ quantum → FlowAgainst i j d.tree.device.mtu quantum x y
flow-against major i j quantum d e x y apart kept range is at busy before after =
    let law = fq-lawful major d x kept (fq-node major d x is) in
    let now : ℕ = (step history d e).device.clock in
    let s = fq-step major d e x y kept range is at in
    let short = (sent_has_length major now d x kept is).1 in
    let within = step-against i j d.tree.device.mtu apart now x.state law.lists law.settings.quantum_low busy y.state s.notes s.by (after ∙ sym before) short in
    record {
      notes = s.notes;
      is = s.is;
      within = with-quantum x.state.settings.quantum y.state.settings.quantum quantum d.tree.device.mtu (bytes_given j s.notes) (flow_grants_to i s.notes) x.state y.state before after within;
    }
  where
    with-quantum : (p r q mtu a g : ℕ) (s t : FqState) → p ≡ q → r ≡ q → a + in_lists i j r mtu false t.new_flows t.old_flows ≤ in_lists i j p mtu false s.new_flows s.old_flows + g * (2 * p - 1)
        → a + in_lists i j q mtu false t.new_flows t.old_flows ≤ in_lists i j q mtu false s.new_flows s.old_flows + g * (2 * q - 1)
    with-quantum p r q mtu a g s t before after h =
        subst (λ n. a + in_lists i j n mtu false t.new_flows t.old_flows ≤ in_lists i j q mtu false s.new_flows s.old_flows + g * (2 * q - 1)) after
        (subst (λ n. a + in_lists i j r mtu false t.new_flows t.old_flows ≤ in_lists i j n mtu false s.new_flows s.old_flows + g * (2 * n - 1)) before h)

pub flow-bounded : (major i j quantum : ℕ) (d : DeviceState (List Note)) (e : Event) (x y : FqAt) → i ≢ j → IsKept d → IsEvent e
    → fq_in major d ≡ Some x → fq_in major (step history d e).device ≡ Some y
    → is_idle x.state.flows i ≡ false → x.state.settings.quantum ≡ quantum → y.state.settings.quantum ≡ quantum → FlowBounded i j d.tree.device.mtu quantum x y
flow-bounded major i j quantum d e x y apart kept range is at busy before after =
    let law = fq-lawful major d x kept (fq-node major d x is) in
    let now : ℕ = (step history d e).device.clock in
    let s = fq-step major d e x y kept range is at in
    let short = (sent_has_length major now d x kept is).1 in
    record {
      notes = s.notes;
      is = s.is;
      bounded = λ most least bound.
          with-quantum x.state.settings.quantum y.state.settings.quantum quantum d.tree.device.mtu (bytes_given j s.notes) y.state most before after
          (step-bounded i j d.tree.device.mtu apart now x.state law.lists law.settings.quantum_low busy y.state s.notes s.by (after ∙ sym before) short most
          (subst (λ n. n + (d.tree.device.mtu - 1) ≤ most) (sym before) least) (subst (λ n. reach_in i j n d.tree.device.mtu (lists_of x.state) ≤ most) (sym before) bound));
    }
  where
    with-quantum : (p r q mtu a : ℕ) (t : FqState) (most : ℕ) → p ≡ q → r ≡ q → a + in_lists i j r mtu false t.new_flows t.old_flows ≤ most + (p - 1)
        → a + in_lists i j q mtu false t.new_flows t.old_flows ≤ most + (q - 1)
    with-quantum p r q mtu a t most before after h =
        subst (λ n. a + in_lists i j n mtu false t.new_flows t.old_flows ≤ most + (q - 1)) after (subst (λ n. a + in_lists i j r mtu false t.new_flows t.old_flows ≤ most + (n - 1)) before h)

pub more-flow-against : (i j mtu quantum : ℕ) (x y z : FqAt) → FlowAgainst i j mtu quantum x y → FlowAgainst i j mtu quantum y z → FlowAgainst i j mtu quantum x z
more-flow-against i j mtu quantum x y z a b = record {
  notes = a.notes ++ b.notes;
  is = b.is ∙ ap (λ ns. ns ++ b.notes) a.is ∙ append_assoc x.noted a.notes b.notes;
  within =
      let first = a.within in
      let second = b.within in
      let product : flow_grants_to i (a.notes ++ b.notes) * (2 * quantum - 1) ≡ flow_grants_to i a.notes * (2 * quantum - 1) + flow_grants_to i b.notes * (2 * quantum - 1) =
      ap (λ k. k * (2 * quantum - 1)) (sum_by-append (flow_granted_by i) a.notes b.notes) ∙ add-mul (flow_grants_to i a.notes) (flow_grants_to i b.notes) (2 * quantum - 1) in
      omega (arith, first, second, sum_by-append (given_by j) a.notes b.notes, product);
}
