-- A flow of an fq_codel that waits in the new list with credits, until it gives a packet: only flows that stand before it there
-- give any (RFC 8290, section 4.2).
use Rattle.std.proofs.Common.{◌≡◌, ◌≢◌, ℕ, zero, suc, ◌+◌, ◌<◌, ◌≤◌, ◌⊎◌, inl, inr, ◌==◌, ℤ, pos, ◌<ℤ◌, Bool, true, false, if◌then◌else◌, List, [], ◌∷◌, ◌++◌, refl, sym, ap, ap₂, subst, ◌∙◌, Option, Some, None, IfSome, eq-eqb, arith}
use Rattle.std.proofs.lemmas.Bool.{cases_Bool, cases_eq, cond-true, cond-false, ne_eqb}
use Rattle.std.proofs.lemmas.Int.{ints}
use Rattle.std.proofs.lemmas.List.{append-nil, append_assoc}
use Rattle.std.proofs.lemmas.List.Sums.{sum_by-append}
use Rattle.std.proofs.lemmas.Option.{none-some, same_Some}
use Rattle.q_packet.specs.Descriptor.{Descriptor}
use Rattle.q_codel.specs.declared.codel.Taken.{Taken}
use Rattle.q_fqcodel.specs.Cleared.{adjust}
use Rattle.q_fqcodel.specs.Entry.{Entry}
use Rattle.q_fqcodel.specs.FqState.{FqState, is_idle, rested_flow}
use Rattle.q_fqcodel.specs.Lawful.{times, IsLawful}
use Rattle.q_fqcodel.specs.Laws.{credits_of}
use Rattle.q_fqcodel.specs.Put.{flow_of, is_listed, appended, cut_back, after_put}
use Rattle.q_fqcodel.specs.Quanta.{given}
use Rattle.q_fqcodel.specs.Take.{selected, front, paid, sent_from}
use Rattle.q_fqcodel.specs.Turns.{turns}
use Rattle.q_fqcodel.proofs.FlowLemmas.{is_idle-rested_flow}
use Rattle.q_fqcodel.proofs.InLemmas.{one_at}
use Rattle.q_fqcodel.proofs.LawfulLemmas.{times-cons, times-append, one_other}
use Rattle.q_fqcodel.proofs.ListedLemmas.{times_selected, times_sent}
use Rattle.q_fqcodel.proofs.PutLemmas.{listed_not, listed_yes}
use Rattle.q_fqcodel.proofs.SentLemmas.{flow-paid, paid_is, after_new_flows}
use Rattle.q_fqcodel.proofs.TurnLemmas.{LeadsOn, new_granted, new_moves, new_ready, first_in_front}
use Rattle.q_model.specs.declared.event.Event.{Event}
use Rattle.q_model.specs.Events.{IsEvent}
use Rattle.q_model.specs.Tally.{Note, history}
use Rattle.q_model.specs.Step.{DeviceState, step}
use Rattle.q_model.specs.Quanta.{flow_gave}
use Rattle.q_model.specs.Stretches.{given_by, bytes_given, reach, FqAt, fq_in}
use Rattle.q_invariants.proofs.flow.FlowAgainst.{gave-other, gave-own}
use Rattle.q_invariants.proofs.flow.FlowLists.{credits-here, credits-behind, paid-none}
use Rattle.q_invariants.proofs.flow.FlowMoves.{fq-node, fq-lawful, sent_has_length, fq-step}
use Rattle.q_invariants.proofs.flow.FlowSteps.{lists_of, SameLists, Takes, Changes}
use Rattle.q_invariants.proofs.flow.FlowVisits.{cases-credits}
use Rattle.q_invariants.proofs.Replays.{IsKept}

-- the credits of a flow that stands in front
credits-front : (n : ℕ) (xs ys : List Entry) (z : ℤ) → credits_of n xs ≡ Some z → credits_of n (xs ++ ys) ≡ Some z
credits-front n [] ys z is = absurd (none-some z is)
credits-front n (e ∷ xs) ys z is = elim (cases_Bool (e.flow == n)) [
  | inl own ↦ credits-here n e (xs ++ ys) own ∙ sym (credits-here n e xs own) ∙ is
  | inr other ↦ credits-behind n e (xs ++ ys) other ∙ credits-front n xs ys z (sym (credits-behind n e xs other) ∙ is)
]

credits-times : (n : ℕ) (xs : List Entry) (z : ℤ) → credits_of n xs ≡ Some z → 1 ≤ times n xs
credits-times n [] z is = absurd (none-some z is)
credits-times n (e ∷ xs) z is = elim (cases_eq e.flow n) [
  | inl own ↦ omega (arith, times-cons n e xs, one_at n e own)
  | inr other ↦ omega (arith, times-cons n e xs, credits-times n xs z (sym (credits-behind n e xs (ne_eqb e.flow n other)) ∙ is))
]

-- Flow j waits in the new list. What flow k may give before it: its reach where it stands before flow j, and else nothing.
module _ (j k mtu : ℕ) (apart : j ≢ k) where
  abbrev pub before : List Entry → ℕ
  before [] = 0
  before (e ∷ es) = if e.flow == j then 0 else (if e.flow == k then reach mtu e.credits else before es)

  before-own : (e : Entry) (es : List Entry) → e.flow ≡ j → before (e ∷ es) ≡ 0
  before-own e es own = cond-true (e.flow == j) 0 (if e.flow == k then reach mtu e.credits else before es) (eq-eqb e.flow j own)

  before-other : (e : Entry) (es : List Entry) → e.flow ≡ k → before (e ∷ es) ≡ reach mtu e.credits
  before-other e es own =
      cond-false (e.flow == j) 0 (if e.flow == k then reach mtu e.credits else before es) (ne_eqb e.flow j (λ same. apart (sym same ∙ own)))
      ∙ cond-true (e.flow == k) (reach mtu e.credits) (before es) (eq-eqb e.flow k own)

  before-third : (e : Entry) (es : List Entry) → e.flow ≢ j → e.flow ≢ k → before (e ∷ es) ≡ before es
  before-third e es far other =
      cond-false (e.flow == j) 0 (if e.flow == k then reach mtu e.credits else before es) (ne_eqb e.flow j far)
      ∙ cond-false (e.flow == k) (reach mtu e.credits) (before es) (ne_eqb e.flow k other)

  before-none : (es : List Entry) → times k es ≡ 0 → before es ≡ 0
  before-none [] none = refl
  before-none (e ∷ es) none = elim (cases_eq e.flow j) [
    | inl own ↦ before-own e es own
    | inr far ↦ before-third e es far (λ same. absurd (omega (arith, none, times-cons k e es, one_at k e same))) ∙ before-none es (omega (arith, none, times-cons k e es))
  ]

  -- the front goes from the list
  before-passed : (e : Entry) (es : List Entry) → times k (e ∷ es) ≤ 1 → e.flow ≢ j → before es ≤ before (e ∷ es)
  before-passed e es once far = elim (cases_eq e.flow k) [
    | inl own ↦ omega (arith, before-none es (omega (arith, once, times-cons k e es, one_at k e own)))
    | inr other ↦ omega (arith, before-third e es far other)
  ]

  -- a flow joins behind flow j
  before-end : (x : Entry) (es : List Entry) → 1 ≤ times j es → before (es ++ x ∷ []) ≡ before es
  before-end x [] there = absurd (omega (arith, there))
  before-end x (e ∷ es) there = elim (cases_eq e.flow j) [
    | inl own ↦ before-own e (es ++ x ∷ []) own ∙ sym (before-own e es own)
    | inr far ↦ elim (cases_eq e.flow k) [
      | inl own ↦ before-other e (es ++ x ∷ []) own ∙ sym (before-other e es own)
      | inr other ↦
          before-third e (es ++ x ∷ []) far other ∙ before-end x es (omega (arith, there, times-cons j e es, one_other j e far)) ∙ sym (before-third e es far other)
    ]
  ]

  -- flow j itself joins: flow k has its reach where it stands in the list, and else nothing
  before-joined : (x : Entry) (es : List Entry) (z : ℤ) → x.flow ≡ j → credits_of k es ≡ Some z → before (es ++ x ∷ []) ≤ reach mtu z
  before-joined x [] z own is = absurd (none-some z is)
  before-joined x (e ∷ es) z own is = elim (cases_eq e.flow j) [
    | inl first ↦ omega (arith, before-own e (es ++ x ∷ []) first)
    | inr far ↦ elim (cases_eq e.flow k) [
      | inl here ↦
          let same : e.credits ≡ z = same_Some e.credits z (sym (credits-here k e es (eq-eqb e.flow k here)) ∙ is) in
          omega (arith, before-other e (es ++ x ∷ []) here, ap (reach mtu) same)
      | inr other ↦ omega (arith, before-third e (es ++ x ∷ []) far other, before-joined x es z own (sym (credits-behind k e es (ne_eqb e.flow k other)) ∙ is))
    ]
  ]

  before-absent : (x : Entry) (es : List Entry) → x.flow ≡ j → times k es ≡ 0 → before (es ++ x ∷ []) ≡ 0
  before-absent x es own none =
      before-none (es ++ x ∷ []) (omega (arith, none, times-append k es (x ∷ []), times-cons k x [], one_other k x (λ same. apart (sym own ∙ same))))

  -- ---- the visits of a take

  record Goes (s t : FqState) : Type 0 where
    led : LeadsOn s t
    same_quantum : t.settings.quantum ≡ s.settings.quantum
    busy : is_idle t.flows j ≡ false
    credits : credits_of j t.new_flows ≡ credits_of j s.new_flows
    less : before t.new_flows ≤ before s.new_flows

  -- the flow in front of the new list sends
  record Stops (s : FqState) : Type 0 where
    chosen : selected s ≡ s
    first : Entry
    rest : List Entry
    is : s.new_flows ≡ first ∷ rest
    high : pos 0 <ℤ first.credits

  module _ (s : FqState) (lawful : IsLawful s) (positive : 1 ≤ s.settings.quantum) (busy : is_idle s.flows j ≡ false) (z : ℤ) (high : pos 0 <ℤ z) where
    at-new : (e : Entry) (rest : List Entry) → s.new_flows ≡ e ∷ rest → credits_of j s.new_flows ≡ Some z → ((t : FqState) × Goes s t) ⊎ Stops s
    at-new e rest is waits = elim (cases-credits e.credits) [
      | inl low ↦
          let far : e.flow ≢ j = λ own. absurd (omega (arith, ints, low, high, same_Some e.credits z (sym (credits-here j e rest (eq-eqb e.flow j own)) ∙ ap (credits_of j) (sym is) ∙ waits))) in
          inl (
            record s { new_flows = rest; old_flows = s.old_flows ++ given s.settings.quantum 1 e ∷ [] },
            record {
              led = new_granted s lawful e rest is positive low;
              same_quantum = refl;
              busy = busy;
              credits = sym (ap (credits_of j) is ∙ credits-behind j e rest (ne_eqb e.flow j far));
              less = passed far;
            },
          )
      | inr some ↦ elim (cases_Bool (is_idle s.flows e.flow)) [
        | inl empty ↦
            let far : e.flow ≢ j = λ own. absurd (true-false (sym empty ∙ ap (is_idle s.flows) own ∙ busy)) in
            inl (
              record s { flows = adjust rested_flow e.flow s.flows; new_flows = rest; old_flows = s.old_flows ++ e ∷ [] },
              record {
                led = new_moves s lawful e rest is some empty;
                same_quantum = refl;
                busy = ap (λ (f : ℕ → Bool). f j) (is_idle-rested_flow e.flow s.flows) ∙ busy;
                credits = sym (ap (credits_of j) is ∙ credits-behind j e rest (ne_eqb e.flow j far));
                less = passed far;
              },
            )
        | inr full ↦ inr (record { chosen = new_ready s lawful e rest is some full; first = e; rest = rest; is = is; high = some })
      ]
    ]
      where
        true-false : ◌≡◌ {A = Bool} true false → ⊥
        true-false e = cc

        passed : e.flow ≢ j → before rest ≤ before s.new_flows
        passed far =
            let once = lawful.once k in
            omega (
              arith,
              before-passed e rest (omega (arith, once, times-append k s.new_flows s.old_flows, ap (times k) is)) far,
              ap before is,
            )

    at-front : (new : List Entry) → s.new_flows ≡ new → credits_of j s.new_flows ≡ Some z → ((t : FqState) × Goes s t) ⊎ Stops s
    at-front [] is waits = absurd (none-some z (sym (ap (credits_of j) is) ∙ waits))
    at-front (e ∷ rest) is waits = at-new e rest is waits

  -- the flow that sends stands in the new list, and flow j still does
  record Chosen (s : FqState) (z : ℤ) : Type 0 where
    first : Entry
    rest : List Entry
    is : (selected s).new_flows ≡ first ∷ rest
    high : pos 0 <ℤ first.credits
    credits : credits_of j (selected s).new_flows ≡ Some z
    less : before (selected s).new_flows ≤ before s.new_flows

  chooses-within : (n : ℕ) (s : FqState) (z : ℤ) → turns s < n → IsLawful s → 1 ≤ s.settings.quantum → is_idle s.flows j ≡ false → pos 0 <ℤ z → credits_of j s.new_flows ≡ Some z → Chosen s z
  chooses-within zero s z h lawful positive busy high waits = absurd (omega arith)
  chooses-within (suc n) s z h lawful positive busy high waits =
      by (at-front s lawful positive busy z high s.new_flows refl waits)
      (λ t fewer later few full still. chooses-within n t z (omega (arith, h, fewer)) later few full high still)
    where
      by : ((t : FqState) × Goes s t) ⊎ Stops s
          → ((t : FqState) → turns t < turns s → IsLawful t → 1 ≤ t.settings.quantum → is_idle t.flows j ≡ false → credits_of j t.new_flows ≡ Some z
          → Chosen t z)
          → Chosen s z
      by (inr stop) rest = record {
        first = stop.first;
        rest = stop.rest;
        is = ap (λ (x : FqState). x.new_flows) stop.chosen ∙ stop.is;
        high = stop.high;
        credits = ap (λ (x : FqState). credits_of j x.new_flows) stop.chosen ∙ waits;
        less = omega (arith, ap (λ (x : FqState). before x.new_flows) stop.chosen);
      }
      by (inl (t, v)) rest =
          let c = rest t v.led.on.fewer v.led.lawful (subst (λ m. 1 ≤ m) (sym v.same_quantum) positive) v.busy (v.credits ∙ waits) in
          let same = v.led.on.same in
          record {
            first = c.first;
            rest = c.rest;
            is = ap (λ (x : FqState). x.new_flows) (sym same) ∙ c.is;
            high = c.high;
            credits = ap (λ (x : FqState). credits_of j x.new_flows) (sym same) ∙ c.credits;
            less = let less = c.less in let first = v.less in omega (arith, less, first, ap (λ (x : FqState). before x.new_flows) same);
          }

  -- ---- any event

  -- flow j still waits, with its credits, and flow k gave what it no longer may
  pub record Waits (s : FqState) (new : List Entry) (notes : List Note) (z : ℤ) : Type 0 where
    pub credits : credits_of j new ≡ Some z
    pub less : bytes_given k notes + before new ≤ before s.new_flows

  module _ (now : ℕ) (s : FqState) (law : IsLawful s) (positive : 1 ≤ s.settings.quantum) (busy : is_idle s.flows j ≡ false) (z : ℤ)
      (high : pos 0 <ℤ z) (waits : credits_of j s.new_flows ≡ Some z) where
    -- what gave nothing paid nothing
    paid-nothing : (e : Entry) (o : Option Taken) → e.flow ≡ j → bytes_given j (flow_gave (Some e) o) ≡ 0 → (paid o e).credits ≡ e.credits
    paid-nothing e None own none = ap (λ (x : Entry). x.credits) (paid-none e)
    paid-nothing e (Some t) own none =
        let gave : bytes_given j (flow_gave (Some e) (Some t)) ≡ t.packet.len = ap (λ (b : Bool). 0 + (if b then t.packet.len else 0)) (eq-eqb j e.flow (sym own)) ∙ omega arith in
        let credits = ap (λ (x : Entry). x.credits) (paid_is (Some t) t e refl) in
        omega (arith, ints, gave, none, credits)

    take-waits : (t : FqState) (notes : List Note) → Takes now s t notes → IfSome (sent_from now (selected s)) (λ t. t.packet.len ≤ mtu) → bytes_given j notes ≡ 0 → Waits s t.new_flows notes z
    take-waits t notes take short none =
        let c = chooses-within (suc (turns s)) s z (omega arith) law positive busy high waits in
        let e : Entry = c.first in
        let o : Option Taken = sent_from now (selected s) in
        let m : Entry = paid o e in
        let new : t.new_flows ≡ m ∷ c.rest = ap (λ (x : FqState). x.new_flows) (take.is ∙ after_new_flows (selected s) e c.rest now c.is) in
        let in_front : front (selected s) ≡ Some e = sym (first_in_front (selected s) e (c.rest ++ (selected s).old_flows) (ap (λ (l : List Entry). l ++ (selected s).old_flows) c.is)) in
        let gave : (n : ℕ) → bytes_given n notes ≡ bytes_given n (flow_gave (Some e) o) = λ n. take.bytes n ∙ ap (λ (f : Option Entry). bytes_given n (flow_gave f o)) in_front in
        let still : credits_of j (e ∷ c.rest) ≡ Some z = ap (credits_of j) (sym c.is) ∙ c.credits in
        let most : before (e ∷ c.rest) ≤ before s.new_flows = (let less = c.less in omega (arith, less, ap before c.is)) in
        let flow : m.flow ≡ e.flow = flow-paid o e in
        elim (cases_eq e.flow j) [
          | inl own ↦
              let kept : m.credits ≡ z = paid-nothing e o own (sym (gave j) ∙ none) ∙ same_Some e.credits z (sym (credits-here j e c.rest (eq-eqb e.flow j own)) ∙ still) in
              record {
                credits = ap (credits_of j) new ∙ credits-here j m c.rest (eq-eqb m.flow j (flow ∙ own)) ∙ ap Some kept;
                less = omega (arith, ap before new, before-own m c.rest (flow ∙ own), gave k, gave-other k e o (λ same. apart (sym own ∙ same)));
              }
          | inr far ↦ record {
            credits = ap (credits_of j) new ∙ credits-behind j m c.rest (ne_eqb m.flow j (λ same. far (sym flow ∙ same))) ∙ sym (credits-behind j e c.rest (ne_eqb e.flow j far)) ∙ still;
            less = elim (cases_eq e.flow k) [
              | inl own ↦
                  omega (arith, most, ap before new, gave k, before-other e c.rest own, before-other m c.rest (flow ∙ own), gave-own k mtu e o own c.high short)
              | inr other ↦
                  omega (
                    arith,
                    most,
                    ap before new,
                    gave k,
                    gave-other k e o other,
                    before-third e c.rest far other,
                    before-third m c.rest (λ same. far (sym flow ∙ same)) (λ same. other (sym flow ∙ same)),
                  )
            ];
          }
        ]

    put-waits : (p : Descriptor) (at : ℕ) (notes : List Note) → bytes_given k notes ≡ 0 → Waits s (after_put s p at).new_flows notes z
    unfolding appended cut_back
    put-waits p at notes none = by (is_listed (flow_of s p) (lists_of s))
      where
        x : Entry
        x = record { flow = flow_of s p; credits = pos s.settings.quantum }

        by : (t : Bool) → Waits s (if t then s.new_flows else s.new_flows ++ x ∷ []) notes z
        by true = record { credits = waits; less = omega (arith, none) }
        by false = record { credits = credits-front j s.new_flows (x ∷ []) z waits; less = omega (arith, none, before-end x s.new_flows (credits-times j s.new_flows z waits)) }

    pub step-waits : (t : FqState) (notes : List Note) → Changes now s t notes → IfSome (sent_from now (selected s)) (λ t. t.packet.len ≤ mtu) → bytes_given j notes ≡ 0 → Waits s t.new_flows notes z
    step-waits t notes (inr take) short none = take-waits t notes take short none
    step-waits t notes (inl quiet) short none = by quiet.lists
      where
        by : SameLists s t ⊎ ((p : Descriptor) × (at : ℕ) × (t ≡ after_put s p at)) → Waits s t.new_flows notes z
        by (inl same) = record { credits = ap (credits_of j) same.0 ∙ waits; less = omega (arith, quiet.no_bytes k, ap before same.0) }
        by (inr put) = subst (λ (x : FqState). Waits s x.new_flows notes z) (sym put.2) (put-waits put.0 put.1 notes (quiet.no_bytes k))

  -- ---- the event in which flow j joins

  pub record Joins (s t : FqState) (notes : List Note) : Type 0 where
    pub nothing : (n : ℕ) → bytes_given n notes ≡ 0
    pub in_new : (z : ℤ) → credits_of k s.new_flows ≡ Some z → before t.new_flows ≤ reach mtu z
    pub absent : times k s.new_flows ≡ 0 → before t.new_flows ≡ 0

  module _ (now : ℕ) (s t : FqState) (notes : List Note) (none : times j (lists_of s) ≡ 0) (some : 1 ≤ times j (lists_of t)) where
    put-joins : (p : Descriptor) (at : ℕ) → t ≡ after_put s p at → ((n : ℕ) → bytes_given n notes ≡ 0) → Joins s t notes
    unfolding appended cut_back
    put-joins p at is nothing = by (is_listed (flow_of s p) (lists_of s)) (ap (λ (y : FqState). y.new_flows) is) (omega (arith, some, ap (λ (y : FqState). times j (lists_of y)) is))
      where
        x : Entry
        x = record { flow = flow_of s p; credits = pos s.settings.quantum }

        by : (b : Bool) → t.new_flows ≡ (if b then s.new_flows else s.new_flows ++ x ∷ []) → 1 ≤ times j ((if b then s.new_flows else s.new_flows ++ x ∷ []) ++ s.old_flows) → Joins s t notes
        by true new listed = absurd (omega (arith, none, listed))
        by false new listed =
            let own : x.flow ≡ j = elim (cases_eq x.flow j) [
              | inl own ↦ own
              | inr other ↦
                  absurd (omega (
                    arith,
                    none,
                    listed,
                    times-append j s.new_flows s.old_flows,
                    times-append j (s.new_flows ++ x ∷ []) s.old_flows,
                    times-append j s.new_flows (x ∷ []),
                    times-cons j x [],
                    one_other j x other,
                  ))
            ] in
            record {
              nothing = nothing;
              in_new = λ z c. omega (arith, ap before new, before-joined x s.new_flows z own c);
              absent = λ gone. ap before new ∙ before-absent x s.new_flows own gone;
            }

    pub step-joins : Changes now s t notes → Joins s t notes
    step-joins (inr take) = absurd (omega (arith, none, some, ap (λ (x : FqState). times j (lists_of x)) take.is, times_sent j now (selected s), times_selected j s))
    step-joins (inl quiet) = by quiet.lists
      where
        by : SameLists s t ⊎ ((p : Descriptor) × (at : ℕ) × (t ≡ after_put s p at)) → Joins s t notes
        by (inl same) = absurd (omega (arith, none, some, ap (times j) (ap₂ (λ (a b : List Entry). a ++ b) same.0 same.1)))
        by (inr put) = put-joins put.0 put.1 put.2 quiet.no_bytes

-- ---- in a device

-- over some events in which flow j gave nothing
pub record FlowWaits (j k mtu : ℕ) (apart : j ≢ k) (z : ℤ) (x y : FqAt) : Type 0 where
  pub notes : List Note
  pub is : y.noted ≡ x.noted ++ notes
  pub waits : bytes_given j notes ≡ 0 → credits_of j x.state.new_flows ≡ Some z → Waits j k mtu apart x.state y.state.new_flows notes z

pub no-flow-waits : (j k mtu : ℕ) (apart : j ≢ k) (z : ℤ) (x : FqAt) → FlowWaits j k mtu apart z x x
no-flow-waits j k mtu apart z x = record { notes = []; is = sym (append-nil x.noted); waits = λ none credits. record { credits = credits; less = omega arith } }

pub more-flow-waits : (j k mtu : ℕ) (apart : j ≢ k) (z : ℤ) (x y w : FqAt) → FlowWaits j k mtu apart z x y → FlowWaits j k mtu apart z y w → FlowWaits j k mtu apart z x w
more-flow-waits j k mtu apart z x y w a b = record {
  notes = a.notes ++ b.notes;
  is = b.is ∙ ap (λ ns. ns ++ b.notes) a.is ∙ append_assoc x.noted a.notes b.notes;
  waits = λ none credits.
      let gave = sum_by-append (given_by j) a.notes b.notes in
      let first = a.waits (omega (arith, none, gave)) credits in
      let second = b.waits (omega (arith, none, gave)) first.credits in
      record { credits = second.credits; less = let one = first.less in let two = second.less in omega (arith, one, two, sum_by-append (given_by k) a.notes b.notes) };
}

pub flow-waits : (major j k : ℕ) (apart : j ≢ k) (z : ℤ) → pos 0 <ℤ z → (d : DeviceState (List Note)) (e : Event) (x y : FqAt) → IsKept d → IsEvent e
    → fq_in major d ≡ Some x → fq_in major (step history d e).device ≡ Some y
    → is_idle x.state.flows j ≡ false → FlowWaits j k d.tree.device.mtu apart z x y
flow-waits major j k apart z high d e x y kept range is at busy =
    let law = fq-lawful major d x kept (fq-node major d x is) in
    let now : ℕ = (step history d e).device.clock in
    let s = fq-step major d e x y kept range is at in
    let short = (sent_has_length major now d x kept is).1 in
    record {
      notes = s.notes;
      is = s.is;
      waits = λ none credits. step-waits j k d.tree.device.mtu apart now x.state law.lists law.settings.quantum_low busy z high credits y.state s.notes s.by short none;
    }

pub record FlowJoins (j k mtu : ℕ) (apart : j ≢ k) (x y : FqAt) : Type 0 where
  pub notes : List Note
  pub is : y.noted ≡ x.noted ++ notes
  pub joins : Joins j k mtu apart x.state y.state notes

pub flow-joins : (major j k mtu : ℕ) (apart : j ≢ k) (d : DeviceState (List Note)) (e : Event) (x y : FqAt) → IsKept d → IsEvent e
    → fq_in major d ≡ Some x → fq_in major (step history d e).device ≡ Some y
    → is_listed j (lists_of x.state) ≡ false → is_listed j (lists_of y.state) ≡ true → FlowJoins j k mtu apart x y
flow-joins major j k mtu apart d e x y kept range is at before after =
    let s = fq-step major d e x y kept range is at in
    record {
      notes = s.notes;
      is = s.is;
      joins = step-joins j k mtu apart (step history d e).device.clock x.state y.state s.notes (listed_not j (lists_of x.state) before) (listed_yes j (lists_of y.state) after) s.by;
    }
