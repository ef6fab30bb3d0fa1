-- A take of an fq_codel, visit by visit: how a flow that stays backlogged is granted, what another may give meanwhile, and that the
-- flow in front at the end has credits (RFC 8290, section 4.2).
use Rattle.std.proofs.Common.{◌≡◌, ◌≢◌, ℕ, zero, suc, ◌+◌, ◌-◌, ◌*◌, ◌<◌, ◌≤◌, ◌⊎◌, inl, inr, ℤ, pos, negsuc, ◌+ℤ◌, ◌≤ℤ◌, ◌<ℤ◌, Bool, true, false, List, [], ◌∷◌, ◌++◌, refl, sym, ap, ap₂, subst, ◌∙◌, Option, Some, IfSome, arith}
use Rattle.std.proofs.Math.Nat.{add-mul}
use Rattle.std.proofs.lemmas.Bool.{cases_Bool, cases_eq, eq-eqb, ne_eqb, true≢false}
use Rattle.std.proofs.lemmas.Int.{ints}
use Rattle.std.proofs.lemmas.List.{append-nil, append_assoc}
use Rattle.std.proofs.lemmas.Option.{same_Some}
use Rattle.q_fqcodel.specs.Cleared.{adjust}
use Rattle.q_fqcodel.specs.Entry.{Entry}
use Rattle.q_fqcodel.specs.FqState.{FqState, is_idle, rested_flow}
use Rattle.q_fqcodel.specs.Lawful.{times, IsLawful}
use Rattle.q_fqcodel.specs.Laws.{credits_of}
use Rattle.q_fqcodel.specs.Quanta.{given}
use Rattle.q_fqcodel.specs.Take.{selected, front}
use Rattle.q_fqcodel.specs.Turns.{turns}
use Rattle.q_fqcodel.proofs.FlowLemmas.{is_idle-rested_flow}
use Rattle.q_fqcodel.proofs.InLemmas.{one_at}
use Rattle.q_fqcodel.proofs.LawfulLemmas.{times-cons, one_other}
use Rattle.q_fqcodel.proofs.QuantaLemmas.{flow-given}
use Rattle.q_fqcodel.proofs.TurnLemmas.{LeadsOn, new_granted, new_moves, new_ready, old_granted, old_leaves, old_ready, none_left, first_in_front, none_in_front}
use Rattle.q_model.specs.Stretches.{reach}
use Rattle.q_invariants.proofs.flow.FlowBegins.{credits-last}
use Rattle.q_invariants.proofs.flow.FlowLists.{credits-here, credits-behind, credits-joined}
use Rattle.q_invariants.proofs.flow.FlowReach.{reach-more, reach-some, reach-granted, reach_in, reach-turns, reach-leaves, in_lists, lists-end, lists-last, lists-none, lists-turn, front-own, front-first, front-other, old-front-own, old-front-first, old-front-other}
use Rattle.q_invariants.proofs.flow.FlowSteps.{lists_of}

pub cases-credits : (z : ℤ) → (z ≤ℤ pos 0) ⊎ (pos 0 <ℤ z)
cases-credits (pos zero) = inl (omega (arith, ints))
cases-credits (pos (suc n)) = inr (omega (arith, ints))
cases-credits (negsuc n) = inl (omega (arith, ints))

given-credits : (q : ℕ) (e : Entry) → (given q 1 e).credits ≡ e.credits +ℤ pos q
unfolding given
given-credits q e = omega (arith, ints)

module _ (i j mtu : ℕ) (apart : i ≢ j) where
  abbrev pub may_give : FqState → ℕ
  may_give s = in_lists i j s.settings.quantum mtu false s.new_flows s.old_flows

  -- ---- the credits of flow i

  -- the front goes to the end, and is flow i or another
  turn-granted : (quantum : ℕ) (e m : Entry) (xs : List Entry) (z : ℤ) → times i (e ∷ xs) ≤ 1 → e.flow ≡ i → m.flow ≡ e.flow → m.credits ≡ e.credits +ℤ pos quantum → credits_of i (e ∷ xs) ≡ Some z
      → credits_of i (xs ++ m ∷ []) ≡ Some (z +ℤ pos (1 * quantum))
  turn-granted quantum e m xs z once own flow more is =
      let was : e.credits ≡ z = same_Some e.credits z (sym (credits-here i e xs (eq-eqb e.flow i own)) ∙ is) in
      credits-last i m xs (omega (arith, once, times-cons i e xs, one_at i e own)) (eq-eqb m.flow i (flow ∙ own)) ∙ ap Some (omega (arith, ints, was, more))

  turn-passed : (e m : Entry) (xs : List Entry) (z : ℤ) → e.flow ≢ i → m.flow ≡ e.flow → credits_of i (e ∷ xs) ≡ Some z → credits_of i (xs ++ m ∷ []) ≡ Some z
  turn-passed e m xs z far flow is =
      ap (credits_of i) (sym (append-nil (xs ++ m ∷ []))) ∙ credits-joined i m xs [] (ne_eqb m.flow i (λ same. far (sym flow ∙ same))) ∙ ap (credits_of i) (append-nil xs)
      ∙ sym (credits-behind i e xs (ne_eqb e.flow i far)) ∙ is

  once-none : (z : ℤ) (quantum : ℕ) → z ≡ z +ℤ pos (0 * quantum)
  once-none z quantum = omega (arith, ints)

  -- ---- one visit

  -- a visit that grants flow i so many quanta
  record Visit (s t : FqState) (k : ℕ) : Type 0 where
    led : LeadsOn s t
    same_quantum : t.settings.quantum ≡ s.settings.quantum
    busy : is_idle t.flows i ≡ false
    credits : (z : ℤ) → credits_of i (lists_of s) ≡ Some z → credits_of i (lists_of t) ≡ Some (z +ℤ pos (k * s.settings.quantum))
    less : may_give t ≤ may_give s + k * (2 * s.settings.quantum - 1)
    bounded : (most : ℕ) → s.settings.quantum + (mtu - 1) ≤ most → reach_in i j s.settings.quantum mtu (lists_of s) ≤ most → reach_in i j s.settings.quantum mtu (lists_of t) ≤ most

  -- a visit is made, or the flow in front sends
  abbrev Visited : FqState → Type 0
  Visited s = ((t : FqState) × (k : ℕ) × Visit s t k) ⊎ ((selected s ≡ s) × IfSome (front s) (λ (e : Entry). pos 0 <ℤ e.credits))

  module _ (s : FqState) (lawful : IsLawful s) (positive : 1 ≤ s.settings.quantum) (busy : is_idle s.flows i ≡ false) where
    abbrev q : ℕ
    q = s.settings.quantum

    listed : (e : Entry) (xs : List Entry) → lists_of s ≡ e ∷ xs → e.flow ≢ i → 1 ≤ times i xs
    listed e xs all other = omega (arith, lawful.busy i busy, ap (times i) all, times-cons i e xs, one_other i e other)

    absent : (n : ℕ) (e : Entry) (xs : List Entry) → lists_of s ≡ e ∷ xs → e.flow ≡ n → times n xs ≡ 0
    absent n e xs all own = (let most = lawful.once n in omega (arith, most, ap (times n) all, times-cons n e xs, one_at n e own))

    at-most-once : (e : Entry) (xs : List Entry) → lists_of s ≡ e ∷ xs → times i (e ∷ xs) ≤ 1
    at-most-once e xs all = (let most = lawful.once i in omega (arith, most, ap (times i) all))

    -- a bound on what flow j may give before it waits, where the front goes to the end
    turn-bounded : (most : ℕ) (e m : Entry) (xs : List Entry) → lists_of s ≡ e ∷ xs → m.flow ≡ e.flow
        → (reach mtu e.credits ≤ most → reach mtu m.credits ≤ most) → reach_in i j q mtu (lists_of s) ≤ most
        → reach_in i j q mtu (xs ++ m ∷ []) ≤ most
    turn-bounded most e m xs all flow keeps bound =
        reach-turns i j q mtu most e m xs flow (let once = lawful.once j in omega (arith, once, ap (times j) all)) keeps (omega (arith, bound, ap (reach_in i j q mtu) all))

    grant-bounded : (most : ℕ) (e : Entry) (xs : List Entry) → lists_of s ≡ e ∷ xs → e.credits ≤ℤ pos 0 → q + (mtu - 1) ≤ most → reach_in i j q mtu (lists_of s) ≤ most
        → reach_in i j q mtu (xs ++ given q 1 e ∷ []) ≤ most
    grant-bounded most e xs all low least bound =
        turn-bounded most e (given q 1 e) xs all (flow-given q 1 e) (λ kept. omega (arith, least, reach-granted mtu q e.credits (given q 1 e).credits low (given-credits q e))) bound

    ready : (e : Entry) (xs : List Entry) → lists_of s ≡ e ∷ xs → pos 0 <ℤ e.credits → IfSome (front s) (λ (e : Entry). pos 0 <ℤ e.credits)
    ready e xs all high = subst (λ (o : Option Entry). IfSome o (λ (e : Entry). pos 0 <ℤ e.credits)) (first_in_front s e xs all) high

    -- ---- the new list

    module _ (e : Entry) (rest : List Entry) (is : s.new_flows ≡ e ∷ rest) where
      all-new : lists_of s ≡ e ∷ (rest ++ s.old_flows)
      all-new = ap (λ (l : List Entry). l ++ s.old_flows) is

      may-new : may_give s ≡ in_lists i j q mtu false (e ∷ rest) s.old_flows
      may-new = ap (λ (l : List Entry). in_lists i j q mtu false l s.old_flows) is

      -- the front goes to the old list as m, and is not flow i
      new-passed : (m : Entry) → m.flow ≡ e.flow → reach mtu m.credits ≤ reach mtu e.credits + q → e.flow ≢ i → in_lists i j q mtu false rest (s.old_flows ++ m ∷ []) ≤ may_give s
      new-passed m flow more far = elim (cases_eq e.flow j) [
        | inl own ↦
            omega (
              arith,
              may-new,
              front-own i j q mtu e rest s.old_flows own,
              lists-last i j q mtu false m rest s.old_flows (flow ∙ own) (absent j e (rest ++ s.old_flows) all-new own) (inr (listed e (rest ++ s.old_flows) all-new far)),
              more,
            )
        | inr other ↦ omega (arith, may-new, front-other i j q mtu e rest s.old_flows other far, lists-end i j q mtu false m rest s.old_flows (λ same. other (sym flow ∙ same)))
      ]

      new-turned : (m : Entry) → (rest ++ (s.old_flows ++ m ∷ [])) ≡ (rest ++ s.old_flows) ++ m ∷ []
      new-turned m = sym (append_assoc rest s.old_flows (m ∷ []))

      fresh-spent : e.credits ≤ℤ pos 0 → Visited s
      fresh-spent low =
          let m : Entry = given q 1 e in
          let t : FqState = record s { new_flows = rest; old_flows = s.old_flows ++ m ∷ [] } in
          elim (cases_eq e.flow i) [
            | inl own ↦
                let other : e.flow ≢ j = λ same. apart (sym own ∙ same) in
                inl (
                  t,
                  1,
                  record {
                    led = new_granted s lawful e rest is positive low;
                    same_quantum = refl;
                    busy = busy;
                    credits = λ z c. ap (credits_of i) (new-turned m)
                        ∙ turn-granted q e m (rest ++ s.old_flows) z (at-most-once e (rest ++ s.old_flows) all-new) own (flow-given q 1 e) (given-credits q e) (ap (credits_of i) (sym all-new) ∙ c);
                    less = omega (
                      arith,
                      may-new,
                      front-first i j q mtu e rest s.old_flows other own,
                      lists-end i j q mtu false m rest s.old_flows (λ same. other (sym (flow-given q 1 e) ∙ same)),
                      lists-turn i j q mtu positive false rest s.old_flows,
                    );
                    bounded = λ most least bound. omega (arith, ap (reach_in i j q mtu) (new-turned m), grant-bounded most e (rest ++ s.old_flows) all-new low least bound);
                  },
                )
            | inr far ↦ inl (
              t,
              0,
              record {
                led = new_granted s lawful e rest is positive low;
                same_quantum = refl;
                busy = busy;
                credits = λ z c. ap (credits_of i) (new-turned m) ∙ turn-passed e m (rest ++ s.old_flows) z far (flow-given q 1 e) (ap (credits_of i) (sym all-new) ∙ c) ∙ ap Some (once-none z q);
                less = omega (arith, new-passed m (flow-given q 1 e) (reach-more mtu q e.credits m.credits (given-credits q e)) far);
                bounded = λ most least bound. omega (arith, ap (reach_in i j q mtu) (new-turned m), grant-bounded most e (rest ++ s.old_flows) all-new low least bound);
              },
            )
          ]

      fresh-empty : pos 0 <ℤ e.credits → is_idle s.flows e.flow ≡ true → Visited s
      fresh-empty high empty =
          let t : FqState = record s { flows = adjust rested_flow e.flow s.flows; new_flows = rest; old_flows = s.old_flows ++ e ∷ [] } in
          let far : e.flow ≢ i = λ own. true≢false (sym empty ∙ ap (is_idle s.flows) own ∙ busy) in
          inl (
            t,
            0,
            record {
              led = new_moves s lawful e rest is high empty;
              same_quantum = refl;
              busy = ap (λ (f : ℕ → Bool). f i) (is_idle-rested_flow e.flow s.flows) ∙ busy;
              credits = λ z c. ap (credits_of i) (new-turned e) ∙ turn-passed e e (rest ++ s.old_flows) z far refl (ap (credits_of i) (sym all-new) ∙ c) ∙ ap Some (once-none z q);
              less = omega (arith, new-passed e refl (omega arith) far);
              bounded = λ most least bound. omega (arith, ap (reach_in i j q mtu) (new-turned e), turn-bounded most e e (rest ++ s.old_flows) all-new refl (λ kept. kept) bound);
            },
          )

      at-new : Visited s
      at-new = elim (cases-credits e.credits) [
        | inl low ↦ fresh-spent low
        | inr high ↦ elim (cases_Bool (is_idle s.flows e.flow)) [
          | inl empty ↦ fresh-empty high empty
          | inr full ↦ inr (new_ready s lawful e rest is high full, ready e (rest ++ s.old_flows) all-new high)
        ]
      ]

    -- ---- the old list

    module _ (e : Entry) (rest : List Entry) (none : s.new_flows ≡ []) (is : s.old_flows ≡ e ∷ rest) where
      all-old : lists_of s ≡ e ∷ rest
      all-old = ap₂ (λ (l m : List Entry). l ++ m) none is

      may-old : may_give s ≡ in_lists i j q mtu false [] (e ∷ rest)
      may-old = ap₂ (λ (l m : List Entry). in_lists i j q mtu false l m) none is

      -- with the new list empty
      may-then : (old : List Entry) → in_lists i j q mtu false s.new_flows old ≡ in_lists i j q mtu false [] old
      may-then old = ap (λ (l : List Entry). in_lists i j q mtu false l old) none

      lists-then : (old : List Entry) → s.new_flows ++ old ≡ old
      lists-then old = ap (λ (l : List Entry). l ++ old) none

      stale-spent : e.credits ≤ℤ pos 0 → Visited s
      stale-spent low =
          let m : Entry = given q 1 e in
          let t : FqState = record s { old_flows = rest ++ m ∷ [] } in
          elim (cases_eq e.flow i) [
            | inl own ↦
                let other : e.flow ≢ j = λ same. apart (sym own ∙ same) in
                inl (
                  t,
                  1,
                  record {
                    led = old_granted s lawful e rest none is positive low;
                    same_quantum = refl;
                    busy = busy;
                    credits = λ z c. ap (credits_of i) (lists-then (rest ++ m ∷ []))
                        ∙ turn-granted q e m rest z (at-most-once e rest all-old) own (flow-given q 1 e) (given-credits q e) (ap (credits_of i) (sym all-old) ∙ c);
                    less = omega (
                      arith,
                      may-old,
                      may-then (rest ++ m ∷ []),
                      old-front-first i j q mtu e rest other own,
                      lists-end i j q mtu false m [] rest (λ same. other (sym (flow-given q 1 e) ∙ same)),
                      lists-turn i j q mtu positive false [] rest,
                    );
                    bounded = λ most least bound. omega (arith, ap (reach_in i j q mtu) (lists-then (rest ++ m ∷ [])), grant-bounded most e rest all-old low least bound);
                  },
                )
            | inr far ↦ inl (
              t,
              0,
              record {
                led = old_granted s lawful e rest none is positive low;
                same_quantum = refl;
                busy = busy;
                credits = λ z c. ap (credits_of i) (lists-then (rest ++ m ∷ [])) ∙ turn-passed e m rest z far (flow-given q 1 e) (ap (credits_of i) (sym all-old) ∙ c) ∙ ap Some (once-none z q);
                less = elim (cases_eq e.flow j) [
                  | inl own ↦
                      omega (
                        arith,
                        may-old,
                        may-then (rest ++ m ∷ []),
                        old-front-own i j q mtu e rest own,
                        lists-last i j q mtu false m [] rest (flow-given q 1 e ∙ own) (absent j e rest all-old own) (inr (listed e rest all-old far)),
                        reach-more mtu q e.credits m.credits (given-credits q e),
                      )
                  | inr other ↦
                      omega (arith, may-old, may-then (rest ++ m ∷ []), old-front-other i j q mtu e rest other far, lists-end i j q mtu false m [] rest (λ same. other (sym (flow-given q 1 e) ∙ same)))
                ];
                bounded = λ most least bound. omega (arith, ap (reach_in i j q mtu) (lists-then (rest ++ m ∷ [])), grant-bounded most e rest all-old low least bound);
              },
            )
          ]

      stale-empty : pos 0 <ℤ e.credits → is_idle s.flows e.flow ≡ true → Visited s
      stale-empty high empty =
          let t : FqState = record s { flows = adjust rested_flow e.flow s.flows; old_flows = rest } in
          let far : e.flow ≢ i = λ own. true≢false (sym empty ∙ ap (is_idle s.flows) own ∙ busy) in
          inl (
            t,
            0,
            record {
              led = old_leaves s lawful e rest none is high empty;
              same_quantum = refl;
              busy = ap (λ (f : ℕ → Bool). f i) (is_idle-rested_flow e.flow s.flows) ∙ busy;
              credits = λ z c. ap (credits_of i) (lists-then rest ∙ refl) ∙ sym (credits-behind i e rest (ne_eqb e.flow i far)) ∙ ap (credits_of i) (sym all-old) ∙ c ∙ ap Some (once-none z q);
              less = elim (cases_eq e.flow j) [
                | inl own ↦
                    omega (
                      arith,
                      may-old,
                      may-then rest,
                      old-front-own i j q mtu e rest own,
                      lists-none i j q mtu false [] rest (absent j e rest all-old own),
                      reach-some mtu e.credits high,
                      positive,
                    )
                | inr other ↦ omega (arith, may-old, may-then rest, old-front-other i j q mtu e rest other far)
              ];
              bounded = λ most least bound.
                  let once = lawful.once j in
                  omega (
                    arith,
                    ap (reach_in i j q mtu) (lists-then rest),
                    reach-leaves i j q mtu most e rest (omega (arith, once, ap (times j) all-old)) least (omega (arith, bound, ap (reach_in i j q mtu) all-old)),
                  );
            },
          )

      at-old : Visited s
      at-old = elim (cases-credits e.credits) [
        | inl low ↦ stale-spent low
        | inr high ↦ elim (cases_Bool (is_idle s.flows e.flow)) [
          | inl empty ↦ stale-empty high empty
          | inr full ↦ inr (old_ready s lawful e rest none is high full, ready e rest all-old high)
        ]
      ]

    at-front : (new old : List Entry) → s.new_flows ≡ new → s.old_flows ≡ old → Visited s
    at-front [] [] new old = inr (none_left s new old, subst (λ (o : Option Entry). IfSome o (λ (e : Entry). pos 0 <ℤ e.credits)) (none_in_front s new old) tt)
    at-front [] (e ∷ rest) new old = at-old e rest new old
    at-front (e ∷ rest) old_flows new old = at-new e rest new

  -- ---- all visits of a take

  -- flow i was granted k quanta until the flow that sends is in front
  pub record Selects (s : FqState) : Type 0 where
    pub quanta : ℕ
    pub credits : (z : ℤ) → credits_of i (lists_of s) ≡ Some z → credits_of i (lists_of (selected s)) ≡ Some (z +ℤ pos (quanta * s.settings.quantum))
    pub less : may_give (selected s) ≤ may_give s + quanta * (2 * s.settings.quantum - 1)
    pub ready : IfSome (front (selected s)) (λ (e : Entry). pos 0 <ℤ e.credits)
    pub bounded : (most : ℕ) → s.settings.quantum + (mtu - 1) ≤ most → reach_in i j s.settings.quantum mtu (lists_of s) ≤ most → reach_in i j s.settings.quantum mtu (lists_of (selected s)) ≤ most

  stops : (s : FqState) → selected s ≡ s → IfSome (front s) (λ (e : Entry). pos 0 <ℤ e.credits) → Selects s
  stops s same ready = record {
    quanta = 0;
    credits = λ z c. ap (λ (x : FqState). credits_of i (lists_of x)) same ∙ c ∙ ap Some (once-none z s.settings.quantum);
    less = omega (arith, ap may_give same);
    ready = subst (λ (x : FqState). IfSome (front x) (λ (e : Entry). pos 0 <ℤ e.credits)) (sym same) ready;
    bounded = λ most least bound. omega (arith, bound, ap (λ (x : FqState). reach_in i j s.settings.quantum mtu (lists_of x)) same);
  }

  goes-on : (s t : FqState) (k : ℕ) → Visit s t k → Selects t → Selects s
  goes-on s t k v r =
      let same : selected t ≡ selected s = v.led.on.same in
      let quantum : t.settings.quantum ≡ s.settings.quantum = v.same_quantum in
      let product : (k + r.quanta) * s.settings.quantum ≡ k * s.settings.quantum + r.quanta * t.settings.quantum =
      add-mul k r.quanta s.settings.quantum ∙ ap (λ n. k * s.settings.quantum + r.quanta * n) (sym quantum) in
      let gain : (k + r.quanta) * (2 * s.settings.quantum - 1) ≡ k * (2 * s.settings.quantum - 1) + r.quanta * (2 * t.settings.quantum - 1) =
      add-mul k r.quanta (2 * s.settings.quantum - 1) ∙ ap (λ n. k * (2 * s.settings.quantum - 1) + r.quanta * (2 * n - 1)) (sym quantum) in
      record {
        quanta = k + r.quanta;
        credits = λ z c. ap (λ (x : FqState). credits_of i (lists_of x)) (sym same) ∙ r.credits (z +ℤ pos (k * s.settings.quantum)) (v.credits z c)
            ∙ ap Some (omega (arith, ints, product));
        less = let first = v.less in let rest = r.less in omega (arith, first, rest, gain, ap may_give same);
        ready = subst (λ (x : FqState). IfSome (front x) (λ (e : Entry). pos 0 <ℤ e.credits)) same r.ready;
        bounded =
            λ most least bound. bound-on s.settings.quantum t.settings.quantum (lists_of t) (lists_of (selected t)) (lists_of (selected s)) most
            quantum (ap lists_of same) (r.bounded most) least (v.bounded most least bound);
      }
    where
      bound-on : (p r : ℕ) (xs ys zs : List Entry) (most : ℕ) → r ≡ p → ys ≡ zs
          → (r + (mtu - 1) ≤ most → reach_in i j r mtu xs ≤ most → reach_in i j r mtu ys ≤ most) → p + (mtu - 1) ≤ most → reach_in i j p mtu xs ≤ most
          → reach_in i j p mtu zs ≤ most
      bound-on p r xs ys zs most same lists on least bound =
          subst (λ (l : List Entry). reach_in i j p mtu l ≤ most) lists
          (subst (λ n. reach_in i j n mtu ys ≤ most) same (on (subst (λ n. n + (mtu - 1) ≤ most) (sym same) least) (subst (λ n. reach_in i j n mtu xs ≤ most) (sym same) bound)))

  selects-within : (n : ℕ) (s : FqState) → turns s < n → IsLawful s → 1 ≤ s.settings.quantum → is_idle s.flows i ≡ false → Selects s
  selects-within zero s h lawful positive busy = absurd (omega arith)
  selects-within (suc n) s h lawful positive busy =
      by (at-front s lawful positive busy s.new_flows s.old_flows refl refl)
      (λ t fewer later few full. selects-within n t (omega (arith, h, fewer)) later few full)
    where
      by : Visited s → ((t : FqState) → turns t < turns s → IsLawful t → 1 ≤ t.settings.quantum → is_idle t.flows i ≡ false → Selects t) → Selects s
      by (inr stop) rest = stops s stop.0 stop.1
      by (inl (t, k, v)) rest = goes-on s t k v (rest t v.led.on.fewer v.led.lawful (subst (λ m. 1 ≤ m) (sym v.same_quantum) positive) v.busy)

  pub selects : (s : FqState) → IsLawful s → 1 ≤ s.settings.quantum → is_idle s.flows i ≡ false → Selects s
  selects s lawful positive busy = selects-within (suc (turns s)) s (omega arith) lawful positive busy
