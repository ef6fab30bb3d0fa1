-- What a flow of an fq_codel may give before another, which stays backlogged, is granted again, by where the two stand in the
-- lists: over a packet that joins, and over each visit of the scheduler (RFC 8290, section 4.2).
use Rattle.std.proofs.Common.{◌≡◌, ◌≢◌, ℕ, suc, ◌+◌, ◌-◌, ◌*◌, ◌<◌, ◌≤◌, ◌⊎◌, inl, inr, ◌==◌, ◌||◌, ℤ, pos, negsuc, ◌+ℤ◌, ◌-ℤ◌, ◌≤ℤ◌, ◌<ℤ◌, Bool, true, false, if◌then◌else◌, List, [], ◌∷◌, ◌++◌, refl, sym, ap, ◌∙◌, Some, arith}
use Rattle.std.proofs.lemmas.Bool.{cases_eq, cond-true, cond-false, eq-eqb, ne_eqb}
use Rattle.std.proofs.lemmas.Int.{ints}
use Rattle.std.proofs.lemmas.Option.{none-some, same_Some}
use Rattle.q_fqcodel.specs.Entry.{Entry}
use Rattle.q_fqcodel.specs.Lawful.{times}
use Rattle.q_fqcodel.specs.Laws.{credits_of}
use Rattle.q_fqcodel.proofs.LawfulLemmas.{times-cons, one_other}
use Rattle.q_fqcodel.proofs.InLemmas.{one_at}
use Rattle.q_model.specs.Stretches.{reach}
use Rattle.q_invariants.proofs.flow.FlowLists.{credits-here, credits-behind}

-- ---- credits

reach-is : (mtu : ℕ) (z : ℤ) → (pos (reach mtu z) ≡ z +ℤ pos (mtu - 1)) ⊎ ((reach mtu z ≡ 0) × ((z +ℤ pos (mtu - 1)) ≤ℤ pos 0))
reach-is mtu (pos n) = inl (omega (arith, ints))
reach-is mtu (negsuc n) = elim (cases_le-of (suc n) (mtu - 1)) [
  | inl within ↦ inl (omega (arith, ints, within))
  | inr past ↦ inr (omega (arith, past), omega (arith, ints, past))
]
  where
    cases_le-of : (a b : ℕ) → (a ≤ b) ⊎ (b < a)
    cases_le-of a b = grind arith

pub reach-more : (mtu q : ℕ) (z after : ℤ) → after ≡ z +ℤ pos q → reach mtu after ≤ reach mtu z + q
reach-more mtu q z after is = elim (reach-is mtu z) [
  | inl a ↦ elim (reach-is mtu after) [ inl b ↦ omega (arith, ints, a, b, is) | inr b ↦ omega (arith, b.0) ]
  | inr a ↦ elim (reach-is mtu after) [ inl b ↦ omega (arith, ints, a.0, a.1, b, is) | inr b ↦ omega (arith, b.0) ]
]

pub reach-some : (mtu : ℕ) (z : ℤ) → pos 0 <ℤ z → 1 + (mtu - 1) ≤ reach mtu z
reach-some mtu z some = elim (reach-is mtu z) [ inl a ↦ omega (arith, ints, a, some) | inr a ↦ omega (arith, ints, a.1, some) ]

pub reach-granted : (mtu q : ℕ) (z after : ℤ) → z ≤ℤ pos 0 → after ≡ z +ℤ pos q → reach mtu after ≤ q + (mtu - 1)
reach-granted mtu q z after low is = elim (reach-is mtu after) [ inl b ↦ omega (arith, ints, b, is, low) | inr b ↦ omega (arith, b.0) ]

pub reach-paid : (mtu len : ℕ) (z after : ℤ) → pos 0 <ℤ z → len ≤ mtu → after ≡ z -ℤ pos len → len + reach mtu after ≤ reach mtu z
reach-paid mtu len z after some short is = elim (reach-is mtu z) [
  | inl a ↦ elim (reach-is mtu after) [ inl b ↦ omega (arith, ints, a, b, is) | inr b ↦ omega (arith, ints, a, b.0, some, short) ]
  | inr a ↦ absurd (omega (arith, ints, a.1, some))
]

-- ---- by the lists

-- Flow j against flow i, with quantum q: in the new list its reach; in the old one a quantum more, less a byte, where it stands before
-- flow i, since it may leave with a byte of credits and join anew; a quantum less where it stands behind, since flow i is granted
-- first; and in neither list what it has when it joins. `passed` says whether flow i stood before.
module _ (i j q mtu : ℕ) where
  abbrev in_place : Bool → ℤ → ℕ
  in_place passed z = if passed then reach mtu z - q else reach mtu z + (q - 1)

  abbrev pub in_old : Bool → List Entry → ℕ
  in_old passed [] = q + (mtu - 1)
  in_old passed (e ∷ es) = if e.flow == j then in_place passed e.credits else in_old (passed || (e.flow == i)) es

  abbrev pub in_lists : Bool → List Entry → List Entry → ℕ
  in_lists passed [] old = in_old passed old
  in_lists passed (e ∷ es) old = if e.flow == j then reach mtu e.credits else in_lists (passed || (e.flow == i)) es old

  old-own : (passed : Bool) (e : Entry) (es : List Entry) → e.flow ≡ j → in_old passed (e ∷ es) ≡ in_place passed e.credits
  old-own passed e es own = cond-true (e.flow == j) (in_place passed e.credits) (in_old (passed || (e.flow == i)) es) (eq-eqb e.flow j own)

  old-other : (passed : Bool) (e : Entry) (es : List Entry) → e.flow ≢ j → in_old passed (e ∷ es) ≡ in_old (passed || (e.flow == i)) es
  old-other passed e es other = cond-false (e.flow == j) (in_place passed e.credits) (in_old (passed || (e.flow == i)) es) (ne_eqb e.flow j other)

  new-own : (passed : Bool) (e : Entry) (es old : List Entry) → e.flow ≡ j → in_lists passed (e ∷ es) old ≡ reach mtu e.credits
  new-own passed e es old own = cond-true (e.flow == j) (reach mtu e.credits) (in_lists (passed || (e.flow == i)) es old) (eq-eqb e.flow j own)

  new-other : (passed : Bool) (e : Entry) (es old : List Entry) → e.flow ≢ j → in_lists passed (e ∷ es) old ≡ in_lists (passed || (e.flow == i)) es old
  new-other passed e es old other = cond-false (e.flow == j) (reach mtu e.credits) (in_lists (passed || (e.flow == i)) es old) (ne_eqb e.flow j other)

  -- past an entry of flow i, and of a third flow
  at-first : (passed : Bool) (e : Entry) → e.flow ≡ i → (passed || (e.flow == i)) ≡ true
  at-first true e own = refl
  at-first false e own = eq-eqb e.flow i own

  at-other : (passed : Bool) (e : Entry) → e.flow ≢ i → (passed || (e.flow == i)) ≡ passed
  at-other true e other = refl
  at-other false e other = ne_eqb e.flow i other

  -- flow i was passed, or is still to come
  abbrev pub Passes : Bool → List Entry → Type 0
  Passes passed es = (passed ≡ true) ⊎ (1 ≤ times i es)

  passes-on : (passed : Bool) (e : Entry) (es : List Entry) → Passes passed (e ∷ es) → Passes (passed || (e.flow == i)) es
  passes-on passed e es (inl was) = inl (ap (λ (t : Bool). t || (e.flow == i)) was)
  passes-on passed e es (inr comes) = elim (cases_eq e.flow i) [
    | inl own ↦ inl (at-first passed e own)
    | inr other ↦ inr (omega (arith, comes, times-cons i e es, one_other i e other))
  ]

  passed-none : (passed : Bool) → Passes passed [] → passed ≡ true
  passed-none passed (inl was) = was
  passed-none passed (inr comes) = absurd (omega (arith, comes))

  -- a flow other than j at the end
  old-end : (passed : Bool) (x : Entry) (es : List Entry) → x.flow ≢ j → in_old passed (es ++ x ∷ []) ≡ in_old passed es
  old-end passed x [] other = old-other passed x [] other
  old-end passed x (e ∷ es) other = elim (cases_eq e.flow j) [
    | inl own ↦ old-own passed e (es ++ x ∷ []) own ∙ sym (old-own passed e es own)
    | inr apart ↦ old-other passed e (es ++ x ∷ []) apart ∙ old-end (passed || (e.flow == i)) x es other ∙ sym (old-other passed e es apart)
  ]

  pub lists-end : (passed : Bool) (x : Entry) (new old : List Entry) → x.flow ≢ j → in_lists passed new (old ++ x ∷ []) ≡ in_lists passed new old
  lists-end passed x [] old other = old-end passed x old other
  lists-end passed x (e ∷ es) old other = elim (cases_eq e.flow j) [
    | inl own ↦ new-own passed e es (old ++ x ∷ []) own ∙ sym (new-own passed e es old own)
    | inr apart ↦ new-other passed e es (old ++ x ∷ []) apart ∙ lists-end (passed || (e.flow == i)) x es old other ∙ sym (new-other passed e es old apart)
  ]

  -- flow j at the end, behind flow i
  old-last : (passed : Bool) (x : Entry) (es : List Entry) → x.flow ≡ j → times j es ≡ 0 → Passes passed es → in_old passed (es ++ x ∷ []) ≡ reach mtu x.credits - q
  old-last passed x [] own none passes = old-own passed x [] own ∙ ap (λ (t : Bool). in_place t x.credits) (passed-none passed passes)
  old-last passed x (e ∷ es) own none passes =
      let apart : e.flow ≢ j = λ same. absurd (omega (arith, none, times-cons j e es, one_at j e same)) in
      old-other passed e (es ++ x ∷ []) apart ∙ old-last (passed || (e.flow == i)) x es own (omega (arith, none, times-cons j e es)) (passes-on passed e es passes)

  pub lists-last : (passed : Bool) (x : Entry) (new old : List Entry) → x.flow ≡ j → times j (new ++ old) ≡ 0 → Passes passed (new ++ old)
      → in_lists passed new (old ++ x ∷ []) ≡ reach mtu x.credits - q
  lists-last passed x [] old own none passes = old-last passed x old own none passes
  lists-last passed x (e ∷ es) old own none passes =
      let apart : e.flow ≢ j = λ same. absurd (omega (arith, none, times-cons j e (es ++ old), one_at j e same)) in
      new-other passed e es (old ++ x ∷ []) apart ∙ lists-last (passed || (e.flow == i)) x es old own (omega (arith, none, times-cons j e (es ++ old))) (passes-on passed e (es ++ old) passes)

  -- a flow that joins
  pub lists-join : (passed : Bool) (x : Entry) (new old : List Entry) → x.flow ≢ j → x.flow ≢ i → in_lists passed (new ++ x ∷ []) old ≡ in_lists passed new old
  lists-join passed x [] old other far = new-other passed x [] old other ∙ ap (λ (t : Bool). in_old t old) (at-other passed x far)
  lists-join passed x (e ∷ es) old other far = elim (cases_eq e.flow j) [
    | inl own ↦ new-own passed e (es ++ x ∷ []) old own ∙ sym (new-own passed e es old own)
    | inr apart ↦ new-other passed e (es ++ x ∷ []) old apart ∙ lists-join (passed || (e.flow == i)) x es old other far ∙ sym (new-other passed e es old apart)
  ]

  pub lists-joined : (passed : Bool) (x : Entry) (new old : List Entry) → x.flow ≡ j → times j new ≡ 0 → in_lists passed (new ++ x ∷ []) old ≡ reach mtu x.credits
  lists-joined passed x [] old own none = new-own passed x [] old own
  lists-joined passed x (e ∷ es) old own none =
      let apart : e.flow ≢ j = λ same. absurd (omega (arith, none, times-cons j e es, one_at j e same)) in
      new-other passed e (es ++ x ∷ []) old apart ∙ lists-joined (passed || (e.flow == i)) x es old own (omega (arith, none, times-cons j e es))

  -- a flow in neither list
  pub lists-none : (passed : Bool) (new old : List Entry) → times j (new ++ old) ≡ 0 → in_lists passed new old ≡ q + (mtu - 1)
  lists-none passed [] [] none = refl
  lists-none passed [] (e ∷ es) none =
      let apart : e.flow ≢ j = λ same. absurd (omega (arith, none, times-cons j e es, one_at j e same)) in
      old-other passed e es apart ∙ lists-none (passed || (e.flow == i)) [] es (omega (arith, none, times-cons j e es))
  lists-none passed (e ∷ es) old none =
      let apart : e.flow ≢ j = λ same. absurd (omega (arith, none, times-cons j e (es ++ old), one_at j e same)) in
      new-other passed e es old apart ∙ lists-none (passed || (e.flow == i)) es old (omega (arith, none, times-cons j e (es ++ old)))

  -- flow i goes from before the others to the end of them
  place-turns : (positive : 1 ≤ q) (passed : Bool) (z : ℤ) → in_place passed z ≤ in_place true z + (2 * q - 1)
  place-turns positive true z = omega arith
  place-turns positive false z = omega (arith, positive)

  old-turns : (positive : 1 ≤ q) (passed : Bool) (es : List Entry) → in_old passed es ≤ in_old true es + (2 * q - 1)
  old-turns positive passed [] = omega arith
  old-turns positive passed (e ∷ es) = elim (cases_eq e.flow j) [
    | inl own ↦ omega (arith, old-own passed e es own, old-own true e es own, place-turns positive passed e.credits)
    | inr apart ↦ omega (arith, old-other passed e es apart, old-other true e es apart, old-turns positive (passed || (e.flow == i)) es)
  ]

  pub lists-turn : (positive : 1 ≤ q) (passed : Bool) (new old : List Entry) → in_lists passed new old ≤ in_lists true new old + (2 * q - 1)
  lists-turn positive passed [] old = old-turns positive passed old
  lists-turn positive passed (e ∷ es) old = elim (cases_eq e.flow j) [
    | inl own ↦ omega (arith, new-own passed e es old own, new-own true e es old own)
    | inr apart ↦ omega (arith, new-other passed e es old apart, new-other true e es old apart, lists-turn positive (passed || (e.flow == i)) es old)
  ]

  -- the flow in front of the new list, and of the old one where the new one is empty
  pub front-own : (e : Entry) (es old : List Entry) → e.flow ≡ j → in_lists false (e ∷ es) old ≡ reach mtu e.credits
  front-own e es old own = new-own false e es old own

  pub front-first : (e : Entry) (es old : List Entry) → e.flow ≢ j → e.flow ≡ i → in_lists false (e ∷ es) old ≡ in_lists true es old
  front-first e es old apart own = new-other false e es old apart ∙ ap (λ (t : Bool). in_lists t es old) (at-first false e own)

  pub front-other : (e : Entry) (es old : List Entry) → e.flow ≢ j → e.flow ≢ i → in_lists false (e ∷ es) old ≡ in_lists false es old
  front-other e es old apart far = new-other false e es old apart ∙ ap (λ (t : Bool). in_lists t es old) (at-other false e far)

  pub old-front-own : (e : Entry) (es : List Entry) → e.flow ≡ j → in_lists false [] (e ∷ es) ≡ reach mtu e.credits + (q - 1)
  old-front-own e es own = old-own false e es own

  pub old-front-first : (e : Entry) (es : List Entry) → e.flow ≢ j → e.flow ≡ i → in_lists false [] (e ∷ es) ≡ in_lists true [] es
  old-front-first e es apart own = old-other false e es apart ∙ ap (λ (t : Bool). in_old t es) (at-first false e own)

  pub old-front-other : (e : Entry) (es : List Entry) → e.flow ≢ j → e.flow ≢ i → in_lists false [] (e ∷ es) ≡ in_lists false [] es
  old-front-other e es apart far = old-other false e es apart ∙ ap (λ (t : Bool). in_old t es) (at-other false e far)

  -- one that has paid and stays in front
  pub front-paid : (e m : Entry) (es old : List Entry) → m.flow ≡ e.flow → e.flow ≢ j → in_lists false (m ∷ es) old ≡ in_lists false (e ∷ es) old
  front-paid e m es old flow other =
      new-other false m es old (λ same. other (sym flow ∙ same)) ∙ ap (λ n. in_lists (n == i) es old) flow ∙ sym (new-other false e es old other)

  pub old-front-paid : (e m : Entry) (es : List Entry) → m.flow ≡ e.flow → e.flow ≢ j → in_lists false [] (m ∷ es) ≡ in_lists false [] (e ∷ es)
  old-front-paid e m es flow other = old-other false m es (λ same. other (sym flow ∙ same)) ∙ ap (λ n. in_old (n == i) es) flow ∙ sym (old-other false e es other)

  -- ---- by the credits of flow j

  pub lists-new : (passed : Bool) (new old : List Entry) (z : ℤ) → credits_of j new ≡ Some z → in_lists passed new old ≡ reach mtu z
  lists-new passed [] old z is = absurd (none-some z is)
  lists-new passed (e ∷ es) old z is = elim (cases_eq e.flow j) [
    | inl own ↦ new-own passed e es old own ∙ ap (reach mtu) (same_Some e.credits z (sym (credits-here j e es (eq-eqb e.flow j own)) ∙ is))
    | inr other ↦ new-other passed e es old other ∙ lists-new (passed || (e.flow == i)) es old z (sym (credits-behind j e es (ne_eqb e.flow j other)) ∙ is)
  ]

  -- ---- whatever the order

  -- what flow j may give before it waits for a quantum, or has when it joins
  abbrev pub reach_in : List Entry → ℕ
  reach_in [] = q + (mtu - 1)
  reach_in (e ∷ es) = if e.flow == j then reach mtu e.credits else reach_in es

  reach-own : (e : Entry) (es : List Entry) → e.flow ≡ j → reach_in (e ∷ es) ≡ reach mtu e.credits
  reach-own e es own = cond-true (e.flow == j) (reach mtu e.credits) (reach_in es) (eq-eqb e.flow j own)

  reach-other : (e : Entry) (es : List Entry) → e.flow ≢ j → reach_in (e ∷ es) ≡ reach_in es
  reach-other e es other = cond-false (e.flow == j) (reach mtu e.credits) (reach_in es) (ne_eqb e.flow j other)

  pub reach-none : (es : List Entry) → times j es ≡ 0 → reach_in es ≡ q + (mtu - 1)
  reach-none [] none = refl
  reach-none (e ∷ es) none =
      reach-other e es (λ same. absurd (omega (arith, none, times-cons j e es, one_at j e same))) ∙ reach-none es (omega (arith, none, times-cons j e es))

  reach-end : (x : Entry) (es : List Entry) → x.flow ≢ j → reach_in (es ++ x ∷ []) ≡ reach_in es
  reach-end x [] other = reach-other x [] other
  reach-end x (e ∷ es) other = elim (cases_eq e.flow j) [
    | inl own ↦ reach-own e (es ++ x ∷ []) own ∙ sym (reach-own e es own)
    | inr apart ↦ reach-other e (es ++ x ∷ []) apart ∙ reach-end x es other ∙ sym (reach-other e es apart)
  ]

  reach-last : (x : Entry) (es : List Entry) → x.flow ≡ j → times j es ≡ 0 → reach_in (es ++ x ∷ []) ≡ reach mtu x.credits
  reach-last x [] own none = reach-own x [] own
  reach-last x (e ∷ es) own none =
      reach-other e (es ++ x ∷ []) (λ same. absurd (omega (arith, none, times-cons j e es, one_at j e same))) ∙ reach-last x es own (omega (arith, none, times-cons j e es))

  -- a bound that holds of what joins holds after a visit: the front goes to the end as m, or leaves
  pub reach-turns : (most : ℕ) (e m : Entry) (es : List Entry) → m.flow ≡ e.flow → times j (e ∷ es) ≤ 1
      → (reach mtu e.credits ≤ most → reach mtu m.credits ≤ most) → reach_in (e ∷ es) ≤ most → reach_in (es ++ m ∷ []) ≤ most
  reach-turns most e m es flow once keeps bound = elim (cases_eq e.flow j) [
    | inl own ↦
        let kept = keeps (omega (arith, bound, reach-own e es own)) in
        omega (arith, kept, reach-last m es (flow ∙ own) (omega (arith, once, times-cons j e es, one_at j e own)))
    | inr other ↦ omega (arith, bound, reach-other e es other, reach-end m es (λ same. other (sym flow ∙ same)))
  ]

  pub reach-leaves : (most : ℕ) (e : Entry) (es : List Entry) → times j (e ∷ es) ≤ 1 → q + (mtu - 1) ≤ most → reach_in (e ∷ es) ≤ most → reach_in es ≤ most
  reach-leaves most e es once least bound = elim (cases_eq e.flow j) [
    | inl own ↦ omega (arith, least, reach-none es (omega (arith, once, times-cons j e es, one_at j e own)))
    | inr other ↦ omega (arith, bound, reach-other e es other)
  ]

  -- it is a quantum less a byte more, at most
  old-bound : (positive : 1 ≤ q) (passed : Bool) (es : List Entry) → in_old passed es ≤ reach_in es + (q - 1)
  old-bound positive passed [] = omega arith
  old-bound positive passed (e ∷ es) = elim (cases_eq e.flow j) [
    | inl own ↦ omega (arith, old-own passed e es own, reach-own e es own, place-bound passed e.credits)
    | inr other ↦ omega (arith, old-other passed e es other, reach-other e es other, old-bound positive (passed || (e.flow == i)) es)
  ]
    where
      place-bound : (passed : Bool) (z : ℤ) → in_place passed z ≤ reach mtu z + (q - 1)
      place-bound true z = omega arith
      place-bound false z = omega arith

  pub lists-bound : (positive : 1 ≤ q) (passed : Bool) (new old : List Entry) → in_lists passed new old ≤ reach_in (new ++ old) + (q - 1)
  lists-bound positive passed [] old = old-bound positive passed old
  lists-bound positive passed (e ∷ es) old = elim (cases_eq e.flow j) [
    | inl own ↦ omega (arith, new-own passed e es old own, reach-own e (es ++ old) own)
    | inr other ↦ omega (arith, new-other passed e es old other, reach-other e (es ++ old) other, lists-bound positive (passed || (e.flow == i)) es old)
  ]

  -- by the credits of flow j
  pub reach-listed : (es : List Entry) (z : ℤ) → credits_of j es ≡ Some z → reach_in es ≡ reach mtu z
  reach-listed [] z is = absurd (none-some z is)
  reach-listed (e ∷ es) z is = elim (cases_eq e.flow j) [
    | inl own ↦ reach-own e es own ∙ ap (reach mtu) (same_Some e.credits z (sym (credits-here j e es (eq-eqb e.flow j own)) ∙ is))
    | inr other ↦ reach-other e es other ∙ reach-listed es z (sym (credits-behind j e es (ne_eqb e.flow j other)) ∙ is)
  ]
