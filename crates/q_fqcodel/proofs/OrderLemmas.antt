-- The order of two flows with packets over a selection, and how many quanta each is given.
use Rattle.std.proofs.Common.{◌≡◌, ◌≢◌, ℕ, zero, suc, ◌+◌, ◌*◌, ◌<◌, ◌≤◌, ◌⊎◌, inl, inr, min, ◌==◌, Bool, true, false, if◌then◌else◌, List, [], ◌∷◌, ◌++◌, map, take, drop, Option, Some, None, refl, sym, ap, ◌∙◌, arith, ⊎_elim, subst, add-mul}
use Rattle.std.specs.Prelude.{slice_get}
use Rattle.std.proofs.Math.Nat.{mul-suc}
use Rattle.std.proofs.lemmas.Bool.{cases_Bool, cases_eq, cases_lt, cond-true, cond-false, eq-eqb, ne_eqb, true≢false}
use Rattle.std.proofs.lemmas.List.{append-nil, append_assoc, take-append-drop}
use Rattle.std.proofs.lemmas.List.Sums.{sum_by-cons}
use Rattle.std.proofs.lemmas.Option.{none-some}
use Rattle.q_packet.specs.Choice.{Choice, later, sooner}
use Rattle.q_fqcodel.specs.Entry.{Entry}
use Rattle.q_fqcodel.specs.Quanta.{need, given, stay}
use Rattle.q_fqcodel.specs.Selection.{chosen, turned, first_ready, moved, with_rest, arranged}
use Rattle.q_fqcodel.specs.FqState.{FqState, is_idle}
use Rattle.q_fqcodel.specs.Lawful.{times, IsLawful}
use Rattle.q_fqcodel.specs.Order.{stands_first, QuantaAreEven}
use Rattle.q_fqcodel.specs.QuantaGiven.{quanta_in, quanta_turned, passed_over, old_list, quanta_old, quanta_given}
use Rattle.q_fqcodel.specs.Take.{selected}
use Rattle.q_fqcodel.proofs.LawfulLemmas.{one, times-cons, times-append, one_other}
use Rattle.q_fqcodel.proofs.QuantaLemmas.{flow-given, stay-nil, stay_kept, stay_dropped}
use Rattle.q_fqcodel.proofs.InLemmas.{In, In_taken, In_dropped, one_at, at, at_own, at_other}
use Rattle.q_fqcodel.proofs.SelectionLemmas.{chosen-cons, first_passes}
use Rattle.q_fqcodel.proofs.GivenLemmas.{flow-moved, times-moved, turned_some, need_at, chosen_least}

abbrev pub one_if : Bool → ℕ
one_if true = 1
one_if false = 0

-- ---- the order of two flows

module _ (i j : ℕ) where
  pub order_other : (e : Entry) (es : List Entry) → e.flow ≢ i → e.flow ≢ j → stands_first i j (e ∷ es) ≡ stands_first i j es
  order_other e es not_i not_j =
      cond-false (e.flow == i) true (if e.flow == j then false else stands_first i j es) (ne_eqb e.flow i not_i)
      ∙ cond-false (e.flow == j) false (stands_first i j es) (ne_eqb e.flow j not_j)

  order_first : (e : Entry) (es : List Entry) → e.flow ≡ i → stands_first i j (e ∷ es) ≡ true
  order_first e es own = cond-true (e.flow == i) true (if e.flow == j then false else stands_first i j es) (eq-eqb e.flow i own)

  order_second : (e : Entry) (es : List Entry) → e.flow ≢ i → e.flow ≡ j → stands_first i j (e ∷ es) ≡ false
  order_second e es not_i own =
      cond-false (e.flow == i) true (if e.flow == j then false else stands_first i j es) (ne_eqb e.flow i not_i)
      ∙ cond-true (e.flow == j) false (stands_first i j es) (eq-eqb e.flow j own)

  -- lists whose entries are of the same flows
  pub order_same : (a b : Entry) (xs ys : List Entry) → a.flow ≡ b.flow → stands_first i j xs ≡ stands_first i j ys → stands_first i j (a ∷ xs) ≡ stands_first i j (b ∷ ys)
  order_same a b xs ys same rest =
      ap (λ (t : Bool). if a.flow == i then true else (if a.flow == j then false else t)) rest
      ∙ ap (λ (k : ℕ). if k == i then true else (if k == j then false else stands_first i j ys)) same

  pub order_front : (xs ys zs : List Entry) → stands_first i j ys ≡ stands_first i j zs → stands_first i j (xs ++ ys) ≡ stands_first i j (xs ++ zs)
  order_front [] ys zs same = same
  order_front (x ∷ xs) ys zs same = order_same x x (xs ++ ys) (xs ++ zs) refl (order_front xs ys zs same)

  stands_first-map : (f : Entry → Entry) → ((e : Entry) → (f e).flow ≡ e.flow) → (es : List Entry) → stands_first i j (map f es) ≡ stands_first i j es
  stands_first-map f same [] = refl
  stands_first-map f same (e ∷ es) = order_same (f e) e (map f es) es (same e) (stands_first-map f same es)

  -- visits that neither of the two leaves
  stands_first-stay : (q k : ℕ) (xs zs : List Entry) → ((e : Entry) → In e xs → (e.flow ≡ i) ⊎ (e.flow ≡ j) → k ≤ need q e)
      → stands_first i j (stay q k xs ++ zs) ≡ stands_first i j (xs ++ zs)
  stands_first-stay q k [] zs enough = ap (λ (l : List Entry). stands_first i j (l ++ zs)) (stay-nil q k)
  stands_first-stay q k (x ∷ xs) zs enough =
      let rest = stands_first-stay q k xs zs (λ e h own. enough e (inr h) own) in
      ⊎_elim
      (λ (few : need q x < k).
      ap (λ (l : List Entry). stands_first i j (l ++ zs)) (stay_dropped q k x xs few) ∙ rest
      ∙ sym (order_other x (xs ++ zs) (λ own. absurd (omega (arith, few, enough x (inl refl) (inl own)))) (λ own. absurd (omega (arith, few, enough x (inl refl) (inr own))))))
      (λ (more : k ≤ need q x).
      ap (λ (l : List Entry). stands_first i j (l ++ zs)) (stay_kept q k x xs more)
      ∙ order_same (given q k x) x (stay q k xs ++ zs) (xs ++ zs) (flow-given q k x) rest)
      (cases_lt (need q x) k)

  order_stayed : (q k : ℕ) (es : List Entry) → ((e : Entry) → In e es → (e.flow ≡ i) ⊎ (e.flow ≡ j) → k ≤ need q e) → stands_first i j (stay q k es) ≡ stands_first i j es
  order_stayed q k es enough = ap (stands_first i j) (sym (append-nil (stay q k es))) ∙ stands_first-stay q k es [] enough ∙ ap (stands_first i j) (append-nil es)

  -- where the front of a list goes to its end
  neither_front : (xs ys : List Entry) → times i xs ≡ 0 → times j xs ≡ 0 → stands_first i j (xs ++ ys) ≡ stands_first i j ys
  neither_front [] ys none_i none_j = refl
  neither_front (x ∷ xs) ys none_i none_j =
      order_other x (xs ++ ys) (λ own. absurd (omega (arith, none_i, times-cons i x xs, one_at i x own))) (λ own. absurd (omega (arith, none_j, times-cons j x xs, one_at j x own)))
      ∙ neither_front xs ys (omega (arith, none_i, times-cons i x xs)) (omega (arith, none_j, times-cons j x xs))

  both_front : (xs ys : List Entry) → 1 ≤ times i xs → 1 ≤ times j xs → stands_first i j (xs ++ ys) ≡ stands_first i j xs
  both_front [] ys some_i some_j = absurd (omega (arith, some_i))
  both_front (x ∷ xs) ys some_i some_j = elim (cases_eq x.flow i) [
    | inl own ↦ order_first x (xs ++ ys) own ∙ sym (order_first x xs own)
    | inr not_i ↦ elim (cases_eq x.flow j) [
      | inl own ↦ order_second x (xs ++ ys) not_i own ∙ sym (order_second x xs not_i own)
      | inr not_j ↦
          order_same x x (xs ++ ys) xs refl
          (both_front xs ys (omega (arith, some_i, times-cons i x xs, one_other i x not_i)) (omega (arith, some_j, times-cons j x xs, one_other j x not_j)))
    ]
  ]

  first_front : (xs ys : List Entry) → 1 ≤ times i xs → times j xs ≡ 0 → stands_first i j (xs ++ ys) ≡ true
  first_front [] ys some none = absurd (omega (arith, some))
  first_front (x ∷ xs) ys some none = elim (cases_eq x.flow i) [
    | inl own ↦ order_first x (xs ++ ys) own
    | inr not_i ↦
        order_other x (xs ++ ys) not_i (λ own. absurd (omega (arith, none, times-cons j x xs, one_at j x own)))
        ∙ first_front xs ys (omega (arith, some, times-cons i x xs, one_other i x not_i)) (omega (arith, none, times-cons j x xs))
  ]

  second_front : (xs ys : List Entry) → times i xs ≡ 0 → 1 ≤ times j xs → stands_first i j (xs ++ ys) ≡ false
  second_front [] ys none some = absurd (omega (arith, some))
  second_front (x ∷ xs) ys none some =
      let not_i : x.flow ≢ i = λ own. absurd (omega (arith, none, times-cons i x xs, one_at i x own)) in
      elim (cases_eq x.flow j) [
        | inl own ↦ order_second x (xs ++ ys) not_i own
        | inr not_j ↦ order_other x (xs ++ ys) not_i not_j ∙ second_front xs ys (omega (arith, none, times-cons i x xs)) (omega (arith, some, times-cons j x xs, one_other j x not_j))
      ]

  rotated : (xs ys : List Entry) → times i (xs ++ ys) ≡ 1 → times j (xs ++ ys) ≡ 1
      → times i xs + one_if (stands_first i j (ys ++ xs)) ≡ times j xs + one_if (stands_first i j (xs ++ ys))
  rotated xs ys once_i once_j =
      let split_i : times i (xs ++ ys) ≡ times i xs + times i ys = times-append i xs ys in
      let split_j : times j (xs ++ ys) ≡ times j xs + times j ys = times-append j xs ys in
      elim (cases_eq (times i xs) 0) [
        | inl none_i ↦ elim (cases_eq (times j xs) 0) [
          | inl none_j ↦
              omega (
                arith,
                none_i,
                none_j,
                ap one_if (both_front ys xs (omega (arith, once_i, split_i, none_i)) (omega (arith, once_j, split_j, none_j))),
                ap one_if (neither_front xs ys none_i none_j),
              )
          | inr some_j ↦
              omega (
                arith,
                none_i,
                once_j,
                split_j,
                some_j,
                ap one_if (first_front ys xs (omega (arith, once_i, split_i, none_i)) (omega (arith, once_j, split_j, some_j))),
                ap one_if (second_front xs ys none_i (omega (arith, some_j))),
              )
        ]
        | inr some_i ↦ elim (cases_eq (times j xs) 0) [
          | inl none_j ↦
              omega (
                arith,
                none_j,
                once_i,
                split_i,
                some_i,
                ap one_if (second_front ys xs (omega (arith, once_i, split_i, some_i)) (omega (arith, once_j, split_j, none_j))),
                ap one_if (first_front xs ys (omega (arith, some_i)) none_j),
              )
          | inr some_j ↦
              omega (
                arith,
                once_i,
                split_i,
                some_i,
                once_j,
                split_j,
                some_j,
                ap one_if (neither_front ys xs (omega (arith, once_i, split_i, some_i)) (omega (arith, once_j, split_j, some_j))),
                ap one_if (both_front xs ys (omega (arith, some_i)) (omega (arith, some_j))),
              )
        ]
      ]

-- ---- how many quanta a flow with packets needs

-- a flow that needs as many gets one a visit
quanta_in_by_times : (q n v : ℕ) (es : List Entry) → ((e : Entry) → In e es → e.flow ≡ n → v ≤ need q e) → quanta_in q n v es ≡ times n es * v
unfolding quanta_in
quanta_in_by_times q n v [] enough = omega arith
quanta_in_by_times q n v (x ∷ xs) enough =
    let f : Entry → ℕ = λ e. min v (need q e) in
    let rest = quanta_in_by_times q n v xs (λ e h own. enough e (inr h) own) in
    let product : times n (x ∷ xs) * v ≡ one n x * v + times n xs * v = ap (λ k. k * v) (times-cons n x xs) ∙ add-mul (one n x) (times n xs) v in
    elim (cases_eq x.flow n) [
      | inl own ↦
          let here : at n f x ≡ v = at_own n f x own ∙ omega (arith, enough x (inl refl) own) in
          let first : one n x * v ≡ v = ap (λ k. k * v) (one_at n x own) ∙ omega arith in
          omega (arith, sum_by-cons (at n f) x xs, here, rest, product, first)
      | inr other ↦
          let here : at n f x ≡ 0 = at_other n f x other in
          let first : one n x * v ≡ 0 = ap (λ k. k * v) (one_other n x other) ∙ omega arith in
          omega (arith, sum_by-cons (at n f) x xs, here, rest, product, first)
    ]

-- a new flow with packets that is passed over has no credits
passed_short : (q : ℕ) (idle : ℕ → Bool) (es : List Entry) (e : Entry) → In e (take (first_ready q idle es) es) → idle e.flow ≡ false → 1 ≤ need q e
passed_short q idle [] e h busy = absurd (In_taken e (first_ready q idle []) [] h)
passed_short q idle (x ∷ xs) e h busy =
    ⊎_elim
    (λ (ready : first_ready q idle (x ∷ xs) ≡ 0). absurd (subst (λ (p : ℕ). In e (take p (x ∷ xs))) ready h))
    (λ (r : (first_ready q idle (x ∷ xs) ≡ suc (first_ready q idle xs)) × (idle x.flow ≡ false → need q x ≡ 0 → ⊥)).
    let here : (x ≡ e) ⊎ In e (take (first_ready q idle xs) xs) = subst (λ (p : ℕ). In e (take p (x ∷ xs))) r.0 h in
    ⊎_elim
    (λ (same : x ≡ e). subst (λ (y : Entry). 1 ≤ need q y) same (let some = r.1 (ap (λ (y : Entry). idle y.flow) same ∙ busy) in omega (arith, some)))
    (λ (there : In e (take (first_ready q idle xs) xs)). passed_short q idle xs e there busy)
    here)
    (first_passes q idle x xs)

-- the places of the entries before and behind the chosen one
In_place : (e : Entry) (es : List Entry) → In e es → (k : ℕ) × (slice_get es k ≡ Some e)
In_place e [] h = absurd h
In_place e (x ∷ xs) h =
    ⊎_elim (λ (same : x ≡ e). (zero, ap Some same)) (λ (there : In e xs). let r = In_place e xs there in (suc r.0, r.1)) h

place_before : (e : Entry) (n : ℕ) (es : List Entry) → In e (take n es) → (k : ℕ) × (k < n) × (slice_get es k ≡ Some e)
place_before e n [] h = absurd (In_taken e n [] h)
place_before e zero (x ∷ xs) h = absurd h
place_before e (suc n) (x ∷ xs) h =
    ⊎_elim (λ (same : x ≡ e). (zero, omega arith, ap Some same))
    (λ (there : In e (take n xs)). let r = place_before e n xs there in (suc r.0, let l = r.1 in omega (arith, l), r.2)) h

place_behind : (e : Entry) (n : ℕ) (es : List Entry) → In e (drop n es) → (k : ℕ) × (n ≤ k) × (slice_get es k ≡ Some e)
place_behind e n [] h = absurd (In_dropped e n [] h)
place_behind e zero (x ∷ xs) h = let r = In_place e (x ∷ xs) h in (r.0, omega arith, r.1)
place_behind e (suc n) (x ∷ xs) h = let r = place_behind e n xs h in (suc r.0, let l = r.1 in omega (arith, l), r.2)

later_none : (o : Option Choice) → later o ≡ None → o ≡ None
later_none None h = refl
later_none (Some c) h = absurd (none-some (record { rounds = c.rounds; place = suc c.place }) (sym h))

-- where a listed flow has packets, one is chosen
some_chosen : (q : ℕ) (idle : ℕ → Bool) (es : List Entry) (n : ℕ) → 1 ≤ times n es → idle n ≡ false → chosen q idle es ≡ None → ⊥
some_chosen q idle [] n listed busy none = absurd (omega (arith, listed))
some_chosen q idle (x ∷ xs) n listed busy none =
    let o : Option Choice = chosen q idle xs in
    let is = sym (chosen-cons q idle x xs) ∙ none in
    ⊎_elim
    (λ (empty : idle x.flow ≡ true).
    let rest : o ≡ None = later_none o (sym (cond-true (idle x.flow) (later o) (Some (sooner (need q x) o)) empty) ∙ is) in
    let other : x.flow ≢ n = λ own. true≢false (sym empty ∙ ap idle own ∙ busy) in
    some_chosen q idle xs n (omega (arith, listed, times-cons n x xs, one_other n x other)) busy rest)
    (λ (full : idle x.flow ≡ false). absurd (none-some (sooner (need q x) o) (sym is ∙ cond-false (idle x.flow) (later o) (Some (sooner (need q x) o)) full)))
    (cases_Bool (idle x.flow))

-- ---- a whole selection, of lists that hold both flows once

module _ (i j q : ℕ) (idle : ℕ → Bool) (busy_i : idle i ≡ false) (busy_j : idle j ≡ false) where
  busy : (e : Entry) → (e.flow ≡ i) ⊎ (e.flow ≡ j) → idle e.flow ≡ false
  busy e h = ⊎_elim (λ (own : e.flow ≡ i). ap idle own ∙ busy_i) (λ (own : e.flow ≡ j). ap idle own ∙ busy_j) h

  module _ (es : List Entry) (c : Choice) (is : chosen q idle es ≡ Some c) where
    needs_before : (e : Entry) → In e (take c.place es) → idle e.flow ≡ false → suc c.rounds ≤ need q e
    needs_before e h full = let p = place_before e c.place es h in (chosen_least q idle es c is).first p.0 (need q e) p.1 (need_at q idle es p.0 e p.2 full)

    needs_behind : (e : Entry) → In e (drop c.place es) → idle e.flow ≡ false → c.rounds ≤ need q e
    needs_behind e h full = let p = place_behind e c.place es h in (chosen_least q idle es c is).least p.0 (need q e) (need_at q idle es p.0 e p.2 full)

    -- each visit is a quantum: one more for a flow before the chosen one
    turned_times : (n : ℕ) → idle n ≡ false → times n es ≡ 1 → quanta_turned q n es (Some c) ≡ c.rounds + times n (take c.place es)
    turned_times n full once =
        let behind = quanta_in_by_times q n c.rounds (drop c.place es) (λ e h own. needs_behind e h (ap idle own ∙ full)) in
        let before = quanta_in_by_times q n (suc c.rounds) (take c.place es) (λ e h own. needs_before e h (ap idle own ∙ full)) in
        let split : times n (take c.place es) + times n (drop c.place es) ≡ 1 = sym (times-append n (take c.place es) (drop c.place es)) ∙ ap (times n) (take-append-drop c.place es) ∙ once in
        let all : (times n (take c.place es) + times n (drop c.place es)) * c.rounds ≡ c.rounds = ap (λ k. k * c.rounds) split ∙ omega arith in
        let spread = add-mul (times n (take c.place es)) (times n (drop c.place es)) c.rounds in
        omega (arith, turned_some q n es c, behind, before, all, spread, mul-suc (times n (take c.place es)) c.rounds)

    turned_even : times i es ≡ 1 → times j es ≡ 1
        → quanta_turned q i es (Some c) + one_if (stands_first i j (turned q es (Some c)).old_flows) ≡ quanta_turned q j es (Some c) + one_if (stands_first i j es)
    unfolding turned
    turned_even once_i once_j =
        let before : List Entry = take c.place es in
        let behind : List Entry = drop c.place es in
        let whole : before ++ behind ≡ es = take-append-drop c.place es in
        let round = rotated i j before behind (ap (times i) whole ∙ once_i) (ap (times j) whole ∙ once_j) in
        let kept : stands_first i j (stay q c.rounds behind ++ stay q (suc c.rounds) before) ≡ stands_first i j (behind ++ before) =
        stands_first-stay i j q c.rounds behind (stay q (suc c.rounds) before) (λ e h own. needs_behind e h (busy e own))
        ∙ order_front i j behind (stay q (suc c.rounds) before) before (order_stayed i j q (suc c.rounds) before (λ e h own. needs_before e h (busy e own))) in
        omega (arith, turned_times i busy_i once_i, turned_times j busy_j once_j, round, ap one_if kept, ap (λ (l : List Entry). one_if (stands_first i j l)) whole)

  module _ (new_flows old_flows : List Entry) (once_i : times i (new_flows ++ old_flows) ≡ 1) (once_j : times j (new_flows ++ old_flows) ≡ 1) where
    over : List Entry
    over = take (first_ready q idle new_flows) new_flows

    left : List Entry
    left = drop (first_ready q idle new_flows) new_flows

    old : List Entry
    old = old_flows ++ map (moved q) over

    whole : over ++ (left ++ old_flows) ≡ new_flows ++ old_flows
    unfolding over left
    whole = sym (append_assoc over left old_flows) ∙ ap (λ (l : List Entry). l ++ old_flows) (take-append-drop (first_ready q idle new_flows) new_flows)

    passed_times : (n : ℕ) → idle n ≡ false → quanta_in q n 1 over ≡ times n over
    unfolding over
    passed_times n full = quanta_in_by_times q n 1 over (λ e h own. passed_short q idle new_flows e h (ap idle own ∙ full)) ∙ omega arith

    -- the new flows that are passed over
    passed_even : quanta_in q i 1 over + one_if (stands_first i j (left ++ old)) ≡ quanta_in q j 1 over + one_if (stands_first i j (new_flows ++ old_flows))
    unfolding old
    passed_even =
        let round = rotated i j over (left ++ old_flows) (ap (times i) whole ∙ once_i) (ap (times j) whole ∙ once_j) in
        let kept : stands_first i j (left ++ old) ≡ stands_first i j ((left ++ old_flows) ++ over) =
        order_front i j left old (old_flows ++ over) (order_front i j old_flows (map (moved q) over) over (stands_first-map i j (moved q) (flow-moved q) over))
        ∙ ap (stands_first i j) (sym (append_assoc left old_flows over)) in
        omega (arith, passed_times i busy_i, passed_times j busy_j, round, ap one_if kept, ap (λ (l : List Entry). one_if (stands_first i j l)) whole)

    old_once : (n : ℕ) → times n (new_flows ++ old_flows) ≡ 1 → left ≡ [] → times n old ≡ 1
    unfolding old
    old_once n once none =
        let all = sym (times-append n over (left ++ old_flows)) ∙ ap (times n) whole ∙ once in
        omega (arith, all, times-append n left old_flows, ap (times n) none, times-append n old_flows (map (moved q) over), times-moved q n over)

    -- and then the old list
    old_even : (o : Option Choice) → chosen q idle old ≡ o → left ≡ []
        → quanta_in q i 1 over + quanta_turned q i old o + one_if (stands_first i j ((turned q old o).new_flows ++ (turned q old o).old_flows))
        ≡ quanta_in q j 1 over + quanta_turned q j old o + one_if (stands_first i j (new_flows ++ old_flows))
    unfolding turned
    old_even None is none = absurd (some_chosen q idle old i (omega (arith, old_once i once_i none)) busy_i is)
    old_even (Some c) is none =
        let turn = turned_even old c is (old_once i once_i none) (old_once j once_j none) in
        omega (arith, passed_even, turn, ap (λ (l : List Entry). one_if (stands_first i j (l ++ old))) none)

    all_even : (rest : List Entry) → left ≡ rest
        → quanta_in q i 1 over + quanta_old q idle i rest old + one_if (stands_first i j ((with_rest q idle rest old).new_flows ++ (with_rest q idle rest old).old_flows))
        ≡ quanta_in q j 1 over + quanta_old q idle j rest old + one_if (stands_first i j (new_flows ++ old_flows))
    unfolding with_rest quanta_old
    all_even [] is = old_even (chosen q idle old) refl is
    all_even (r ∷ rs) is = omega (arith, passed_even, ap (λ (l : List Entry). one_if (stands_first i j (l ++ old))) is)

pub quanta_even : (s : FqState) (i j : ℕ) → IsLawful s → is_idle s.flows i ≡ false → is_idle s.flows j ≡ false
    → quanta_given s i + one_if (stands_first i j ((selected s).new_flows ++ (selected s).old_flows)) ≡ quanta_given s j + one_if (stands_first i j (s.new_flows ++ s.old_flows))
unfolding selected arranged quanta_given passed_over old_list over left old
quanta_even s i j lawful busy_i busy_j =
    let once_i : times i (s.new_flows ++ s.old_flows) ≡ 1 = (let most = lawful.once i in omega (arith, most, lawful.busy i busy_i)) in
    let once_j : times j (s.new_flows ++ s.old_flows) ≡ 1 = (let most = lawful.once j in omega (arith, most, lawful.busy j busy_j)) in
    let p : ℕ = first_ready s.settings.quantum (is_idle s.flows) s.new_flows in
    all_even i j s.settings.quantum (is_idle s.flows) busy_i busy_j s.new_flows s.old_flows once_i once_j (drop p s.new_flows) refl

pub quanta_are_even : QuantaAreEven
quanta_are_even s i j lawful busy_i busy_j =
    let even = quanta_even s i j lawful busy_i busy_j in
    record {
      same_order = λ e. omega (arith, even, ap one_if e);
      overtaken = λ e f. omega (arith, even, ap one_if e, ap one_if f);
      overtakes = λ e f. omega (arith, even, ap one_if e, ap one_if f);
    }
