-- Old flows that are visited from the front, so often each: one after the other, and the whole list.
use Rattle.std.proofs.Common.{◌≡◌, ℕ, suc, ◌+◌, ◌-◌, ◌<◌, ◌≤◌, ◌^◌, pos, ◌≤ℤ◌, ◌<ℤ◌, Bool, true, false, cond, List, [], ◌∷◌, ◌++◌, length, take, drop, get_or, refl, sym, ap, ap₂, ◌∙◌, subst, arith, add-one, append_assoc, append-nil, length-append}
use Rattle.std.specs.Prelude.{min, All, nat_lt, IfSome, slice_get}
use Rattle.std.proofs.lemmas.Bool.{cond-true, cond-false, lt-ltb, le-ltb, true_from_ne_false}
use Rattle.std.proofs.lemmas.List.{drop_all, drop_more, take_all, take_more}
use Rattle.std.proofs.lemmas.List.Elements.{All-cons, All-head, All-nil}
use Rattle.q_fqcodel.specs.Cleared.{adjust, clear}
use Rattle.q_fqcodel.specs.Entry.{Entry}
use Rattle.q_fqcodel.specs.FqState.{Flow, FqState, is_idle, packets_of, rested_flow}
use Rattle.q_fqcodel.specs.Quanta.{need, given, stay, leave}
use Rattle.q_fqcodel.specs.Rounds.{AllNeed, FrontNeeds, OldNeed, fewest, fewest_old, front_needs_then, rounds_given, visited}
use Rattle.q_fqcodel.proofs.ClearedLemmas.{clear-append, clear-cons, clear-nil}
use Rattle.q_fqcodel.proofs.FlowLemmas.{is_idle-rested_flow, packets_of-rested_flow}
use Rattle.q_fqcodel.proofs.QuantaLemmas.{stay-append, leave-append, stay_kept, stay_dropped, leave_kept, leave_dropped, stay-nil, leave-nil, flow-given, need_none, need_more}
use Rattle.q_fqcodel.proofs.RoundLemmas.{needs_one}

-- ---- flows that rest keep their packets

pub is_idle-clear : (ns : List ℕ) (flows : List Flow) → is_idle (clear rested_flow ns flows) ≡ is_idle flows
is_idle-clear [] flows = ap is_idle (clear-nil rested_flow flows)
is_idle-clear (n ∷ ns) flows =
    ap is_idle (clear-cons rested_flow n ns flows) ∙ is_idle-clear ns (adjust rested_flow n flows) ∙ is_idle-rested_flow n flows

pub packets_of-clear : (ns : List ℕ) (flows : List Flow) → packets_of (clear rested_flow ns flows) ≡ packets_of flows
packets_of-clear [] flows = ap packets_of (clear-nil rested_flow flows)
packets_of-clear (n ∷ ns) flows =
    ap packets_of (clear-cons rested_flow n ns flows) ∙ packets_of-clear ns (adjust rested_flow n flows) ∙ packets_of-rested_flow n flows

-- ---- the fewest quanta that a flow with a packet needs

fewest_if : (b : Bool) (k x y f : ℕ) → f ≡ min x y → cond b f (min k f) ≡ min (cond b x (min k x)) y
fewest_if true k x y f e = e
fewest_if false k x y f e = omega (arith, e)

within_if : (b : Bool) (k f : ℕ) → cond b f (min k f) ≤ f
within_if true k f = omega arith
within_if false k f = omega arith

fewest_most : (q : ℕ) (idle : ℕ → Bool) (es : List Entry) → fewest q idle es ≤ 2 ^ 64 - 1
fewest_most q idle [] = omega arith
fewest_most q idle (e ∷ es) = omega (arith, within_if (idle e.flow) (need q e) (fewest q idle es), fewest_most q idle es)

fewest-append : (q : ℕ) (idle : ℕ → Bool) (xs ys : List Entry) → fewest q idle (xs ++ ys) ≡ min (fewest q idle xs) (fewest q idle ys)
fewest-append q idle [] ys = omega (arith, fewest_most q idle ys)
fewest-append q idle (e ∷ xs) ys =
    fewest_if (idle e.flow) (need q e) (fewest q idle xs) (fewest q idle ys) (fewest q idle (xs ++ ys)) (fewest-append q idle xs ys)

pub fewest_needed : (q : ℕ) (idle : ℕ → Bool) (n : ℕ) (es : List Entry) → n ≤ fewest q idle es → AllNeed q idle n es
fewest_needed q idle n [] few = All-nil (λ (e : Entry). idle e.flow ≡ false → n ≤ need q e)
fewest_needed q idle n (e ∷ es) few =
    let rest : ℕ = fewest q idle es in
    All-cons (λ (e : Entry). idle e.flow ≡ false → n ≤ need q e) e es
    (λ busy. omega (arith, few, cond-false (idle e.flow) rest (min (need q e) rest) busy))
    (fewest_needed q idle n es (omega (arith, few, within_if (idle e.flow) (need q e) rest)))

-- ---- one flow after the other

pub no_entry : Entry
no_entry = record { flow = 0; credits = pos 0 }

pub visited_none : (n : ℕ) (s : FqState) → s ≡ visited n 0 s
visited_none n s =
    let q : ℕ = s.settings.quantum in
    ap₂ (λ (flows : List Flow) (es : List Entry). record s { flows = flows; old_flows = es })
    (sym (ap (λ (ns : List ℕ). clear rested_flow ns s.flows) (leave-nil q n) ∙ clear-nil rested_flow s.flows))
    (sym (ap (λ (es : List Entry). s.old_flows ++ es) (stay-nil q n) ∙ append-nil s.old_flows))

pub visited_all : (n p : ℕ) (s : FqState) → p ≡ length s.old_flows → visited n p s ≡ rounds_given n s
visited_all n p s all =
    let q : ℕ = s.settings.quantum in
    let taken : take p s.old_flows ≡ s.old_flows = take_all p s.old_flows (omega (arith, all)) in
    ap₂ (λ (flows : List Flow) (es : List Entry). record s { flows = flows; old_flows = es })
    (ap (λ (es : List Entry). clear rested_flow (leave q n es) s.flows) taken)
    (ap₂ (λ (es fs : List Entry). es ++ stay q n fs) (drop_all p s.old_flows (omega (arith, all))) taken)

-- the next flow is in front
pub visited_front : (n p : ℕ) (s : FqState) (d : Entry) → p < length s.old_flows
    → (visited n p s).old_flows ≡ get_or s.old_flows p d ∷ (drop (suc p) s.old_flows ++ stay s.settings.quantum n (take p s.old_flows))
visited_front n p s d within =
    ap (λ (es : List Entry). es ++ stay s.settings.quantum n (take p s.old_flows))
    (drop_more s.old_flows p d within ∙ ap (λ (i : ℕ). get_or s.old_flows p d ∷ drop i s.old_flows) (add-one p))

pub visited_some : (n p : ℕ) (s : FqState) → p < length s.old_flows → 0 < length (visited n p s).old_flows
visited_some n p s within = omega (arith, ap (λ (es : List Entry). length es) (visited_front n p s no_entry within))

pub visited_more : (n p : ℕ) (s : FqState) → p < length s.old_flows → visited n 1 (visited n p s) ≡ visited n (suc p) s
visited_more n p s within =
    let q : ℕ = s.settings.quantum in
    let x : Entry = get_or s.old_flows p no_entry in
    let rest : List Entry = drop (suc p) s.old_flows in
    let before : List Entry = take p s.old_flows in
    let front = visited_front n p s no_entry within in
    let taken : take (suc p) s.old_flows ≡ before ++ x ∷ [] = ap (λ (i : ℕ). take i s.old_flows) (sym (add-one p)) ∙ take_more s.old_flows p no_entry within in
    ap₂ (λ (flows : List Flow) (es : List Entry). record s { flows = flows; old_flows = es })
    (ap (λ (es : List Entry). clear rested_flow (leave q n (take 1 es)) (visited n p s).flows) front
    ∙ sym (clear-append rested_flow (leave q n before) (leave q n (x ∷ [])) s.flows)
    ∙ ap (λ (ns : List ℕ). clear rested_flow ns s.flows) (sym (ap (leave q n) taken ∙ leave-append q n before (x ∷ []))))
    (ap (λ (es : List Entry). drop 1 es ++ stay q n (take 1 es)) front
    ∙ append_assoc rest (stay q n before) (stay q n (x ∷ []))
    ∙ ap (λ (es : List Entry). rest ++ es) (sym (ap (stay q n) taken ∙ stay-append q n before (x ∷ []))))

pub front_needs : (n p : ℕ) (s : FqState) → p < length s.old_flows → OldNeed n s → FrontNeeds n (visited n p s)
front_needs n p s within all =
    let q : ℕ = s.settings.quantum in
    let P : Entry → Type 0 = λ e. is_idle s.flows e.flow ≡ false → n ≤ need q e in
    subst (λ (idle : ℕ → Bool). AllNeed q idle n (take 1 (visited n p s).old_flows)) (sym (is_idle-clear (leave q n (take p s.old_flows)) s.flows))
    (subst (λ (es : List Entry). AllNeed q (is_idle s.flows) n (take 1 es)) (sym (visited_front n p s no_entry within))
    (All-cons P (get_or s.old_flows p no_entry) [] (all p no_entry within) (All-nil P)))

-- the fewest that the flows need which were visited
pub fewest_begun : (q : ℕ) (idle : ℕ → Bool) (es : List Entry) → fewest q idle (stay q 1 (take 0 es)) ≡ 2 ^ 64 - 1
fewest_begun q idle es = ap (fewest q idle) (stay-nil q 1)

pub fewest_more : (p : ℕ) (s : FqState) → p < length s.old_flows
    → min (fewest s.settings.quantum (is_idle s.flows) (stay s.settings.quantum 1 (take p s.old_flows))) (front_needs_then (visited 1 p s))
    ≡ fewest s.settings.quantum (is_idle s.flows) (stay s.settings.quantum 1 (take (suc p) s.old_flows))
fewest_more p s within =
    let q : ℕ = s.settings.quantum in
    let idle : ℕ → Bool = is_idle s.flows in
    let x : Entry = get_or s.old_flows p no_entry in
    let before : List Entry = take p s.old_flows in
    let taken : take (suc p) s.old_flows ≡ before ++ x ∷ [] = ap (λ (i : ℕ). take i s.old_flows) (sym (add-one p)) ∙ take_more s.old_flows p no_entry within in
    ap₂ (λ (i : ℕ → Bool) (es : List Entry). min (fewest q idle (stay q 1 before)) (fewest q i (stay q 1 (take 1 es))))
    (is_idle-clear (leave q 1 before) s.flows) (visited_front 1 p s no_entry within)
    ∙ sym (ap (λ (es : List Entry). fewest q idle (stay q 1 es)) taken ∙ ap (fewest q idle) (stay-append q 1 before (x ∷ []))
    ∙ fewest-append q idle (stay q 1 before) (stay q 1 (x ∷ [])))

pub fewest_all : (p : ℕ) (s : FqState) → p ≡ length s.old_flows
    → fewest s.settings.quantum (is_idle s.flows) (stay s.settings.quantum 1 (take p s.old_flows)) ≡ fewest_old (rounds_given 1 s)
fewest_all p s all =
    let q : ℕ = s.settings.quantum in
    ap₂ (λ (idle : ℕ → Bool) (es : List Entry). fewest q idle (stay q 1 es)) (sym (is_idle-clear (leave q 1 s.old_flows) s.flows))
    (take_all p s.old_flows (omega (arith, all)))

-- ---- the flow in front, as the code treats it

module _ (n : ℕ) (s : FqState) (e : Entry) (rest : List Entry) (front : s.old_flows ≡ e ∷ rest) where
  pub visited_stays : n ≤ need s.settings.quantum e → record s { old_flows = rest ++ given s.settings.quantum n e ∷ [] } ≡ visited n 1 s
  visited_stays enough =
      let q : ℕ = s.settings.quantum in
      ap₂ (λ (flows : List Flow) (es : List Entry). record s { flows = flows; old_flows = es })
      (sym (ap (λ (es : List Entry). clear rested_flow (leave q n (take 1 es)) s.flows) front
      ∙ ap (λ (ns : List ℕ). clear rested_flow ns s.flows) (leave_kept q n e [] enough ∙ leave-nil q n) ∙ clear-nil rested_flow s.flows))
      (sym (ap (λ (es : List Entry). drop 1 es ++ stay q n (take 1 es)) front
      ∙ ap (λ (es : List Entry). rest ++ es) (stay_kept q n e [] enough ∙ ap (λ (es : List Entry). given q n e ∷ es) (stay-nil q n))))

  pub visited_leaves : need s.settings.quantum e < n → record s { flows = adjust rested_flow e.flow s.flows; old_flows = rest } ≡ visited n 1 s
  visited_leaves few =
      let q : ℕ = s.settings.quantum in
      ap₂ (λ (flows : List Flow) (es : List Entry). record s { flows = flows; old_flows = es })
      (sym (ap (λ (es : List Entry). clear rested_flow (leave q n (take 1 es)) s.flows) front
      ∙ ap (λ (ns : List ℕ). clear rested_flow ns s.flows) (leave_dropped q n e [] few ∙ ap (λ (ns : List ℕ). e.flow ∷ ns) (leave-nil q n))
      ∙ clear-cons rested_flow e.flow [] s.flows ∙ clear-nil rested_flow (adjust rested_flow e.flow s.flows)))
      (sym (ap (λ (es : List Entry). drop 1 es ++ stay q n (take 1 es)) front
      ∙ ap (λ (es : List Entry). rest ++ es) (stay_dropped q n e [] few ∙ stay-nil q n) ∙ append-nil rest))

-- one flow fewer waits at most
pub length-visited : (s : FqState) → length s.old_flows ≤ length (visited 1 1 s).old_flows + 1
length-visited s = by s.old_flows
  where
    by : (es : List Entry) → length es ≤ length (drop 1 es ++ stay s.settings.quantum 1 (take 1 es)) + 1
    by [] = omega arith
    by (e ∷ es) = omega (arith, length-append es (stay s.settings.quantum 1 (e ∷ [])))

-- whether a flow needs more than the quantum that it gets, where its credits say so
pub needs_two : (q : ℕ) (e : Entry) → 1 ≤ q → e.credits ≤ℤ pos 0 → (b : Bool) → (b ≡ true → (given q 1 e).credits ≤ℤ pos 0) → (b ≡ false → pos 0 <ℤ (given q 1 e).credits)
    → b ≡ nat_lt 1 (need q e)
needs_two q e positive low true spent enough =
    sym (lt-ltb 1 (need q e) (omega (arith, need_more q e positive low, needs_one q positive (given q 1 e) (spent refl))))
needs_two q e positive low false spent enough =
    sym (le-ltb 1 (need q e) (omega (arith, need_more q e positive low, need_none q (given q 1 e) (enough refl))))

pub front_needs_two : (s : FqState) (e : Entry) (rest : List Entry) (b : Bool) → s.old_flows ≡ e ∷ rest → b ≡ nat_lt 1 (need s.settings.quantum e)
    → IfSome (slice_get s.old_flows 0) (λ (e : Entry). b ≡ nat_lt 1 (need s.settings.quantum e))
front_needs_two s e rest b front is =
    subst (λ (es : List Entry). IfSome (slice_get es 0) (λ (e : Entry). b ≡ nat_lt 1 (need s.settings.quantum e))) (sym front) is

-- what the flow in front needs once it is visited
module _ (s : FqState) (e : Entry) (rest : List Entry) (front : s.old_flows ≡ e ∷ rest) where
  then_is : front_needs_then s ≡ fewest s.settings.quantum (is_idle s.flows) (stay s.settings.quantum 1 (e ∷ []))
  then_is = ap (λ (es : List Entry). fewest s.settings.quantum (is_idle s.flows) (stay s.settings.quantum 1 (take 1 es))) front

  pub then_gone : pos 0 <ℤ e.credits → front_needs_then s ≡ 2 ^ 64 - 1
  then_gone high =
      let q : ℕ = s.settings.quantum in
      then_is ∙ ap (fewest q (is_idle s.flows)) (stay_dropped q 1 e [] (omega (arith, need_none q e high)) ∙ stay-nil q 1)

  then_stays : 1 ≤ s.settings.quantum → e.credits ≤ℤ pos 0
      → front_needs_then s ≡ cond (is_idle s.flows e.flow) (2 ^ 64 - 1) (min (need s.settings.quantum (given s.settings.quantum 1 e)) (2 ^ 64 - 1))
  then_stays positive low =
      let q : ℕ = s.settings.quantum in
      then_is ∙ ap (fewest q (is_idle s.flows)) (stay_kept q 1 e [] (needs_one q positive e low) ∙ ap (λ (es : List Entry). given q 1 e ∷ es) (stay-nil q 1))
      ∙ ap (λ (n : ℕ). cond (is_idle s.flows n) (2 ^ 64 - 1) (min (need q (given q 1 e)) (2 ^ 64 - 1))) (flow-given q 1 e)

  pub then_empty : 1 ≤ s.settings.quantum → e.credits ≤ℤ pos 0 → is_idle s.flows e.flow ≡ true → front_needs_then s ≡ 2 ^ 64 - 1
  then_empty positive low empty = then_stays positive low ∙ cond-true (is_idle s.flows e.flow) _ _ empty

  pub then_needs : 1 ≤ s.settings.quantum → e.credits ≤ℤ pos 0 → is_idle s.flows e.flow ≡ false → need s.settings.quantum e < 2 ^ 64
      → front_needs_then s ≡ need s.settings.quantum e - 1
  then_needs positive low busy few =
      let q : ℕ = s.settings.quantum in
      then_stays positive low ∙ cond-false (is_idle s.flows e.flow) _ _ busy ∙ omega (arith, few, need_more q e positive low)

-- the flow in front is empty if it needs fewer than each with a packet does
pub few_empty : (n : ℕ) (s : FqState) (e : Entry) (rest : List Entry) → s.old_flows ≡ e ∷ rest → need s.settings.quantum e < n → FrontNeeds n s → is_idle s.flows e.flow ≡ true
few_empty n s e rest front few needed =
    let P : Entry → Type 0 = λ x. is_idle s.flows x.flow ≡ false → n ≤ need s.settings.quantum x in
    true_from_ne_false (is_idle s.flows e.flow)
    (λ busy. absurd (omega (arith, few, All-head P e [] (subst (λ (es : List Entry). All P (take 1 es)) front needed) busy)))
