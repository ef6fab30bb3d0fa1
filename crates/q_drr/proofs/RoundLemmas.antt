-- Rounds in which every class is granted, given at once: the take goes on as it would have.
use Rattle.std.proofs.Common.{◌≡◌, ℕ, zero, suc, ◌+◌, ◌-◌, ◌*◌, ◌<◌, ◌≤◌, ◌^◌, List, [], ◌∷◌, ◌++◌, map, length, take, drop, get_or, append_assoc, add-one, Option, Some, None, refl, sym, ap, ap₂, ◌∙◌, subst, subst₂, inl, inr, arith, option_map}
use Rattle.std.specs.Prelude.{All}
use Rattle.std.specs.List.{sum_by}
use Rattle.std.specs.Prelude.{Bool, false, nat_le, if◌then◌else◌, min, ◌/◌, ◌%◌}
use Rattle.std.proofs.Math.Nat.{mul-le-mul_left, mul-le-mul_right}
use Rattle.std.proofs.lemmas.Grind.{div_ceil_times}
use Rattle.q_packet.proofs.LeastLemmas.{least_gt, least_is}
use Rattle.std.proofs.lemmas.Bool.{cases_lt, le-leb, leb-false, lt-leb}
use Rattle.std.proofs.lemmas.List.{append-nil, drop_all, drop_more, length-map, length_push, map-append, take_all, take_more}
use Rattle.std.proofs.lemmas.List.Sums.{sum_by-cons}
use Rattle.std.proofs.lemmas.List.Elements.{All-push, All-head, All-tail, All-weaker, All-map, All-nil, All-cons}
use Rattle.q_packet.specs.Choice.{Choice, sooner, choose}
use Rattle.q_packet.proofs.ChoiceLemmas.{sooner_within, sooner_past}
use Rattle.q_drr.specs.Schedule.{Class, Entry, Schedule, quantum_of, after_grants, counted, IsLawful, IsEntry}
use Rattle.q_drr.specs.Take.{grants_for, need, needs, choice_of, granted, brought_up, turns_until, prepared}
use Rattle.std.specs.Prelude.{slice_get, option_and_then, IfSome}
use Rattle.q_drr.specs.Changes.{HeadsFit}
use Rattle.q_drr.specs.Schedule.{turn_answer, turned, front_of}
use Rattle.q_drr.specs.declared.active.Turn.TheVariants.{Send, Granted}
use Rattle.q_drr.specs.Take.{head_at}
use Rattle.q_drr.specs.Rounds.{rounds_given, AllNeed, HasGone, CanGo, IsRound, IsWithin, AreWithin, IsFrontWithin, need_in, front_need, front_given, passed}
use Rattle.q_drr.specs.declared.round.Round.{Round}
use Rattle.q_drr.proofs.ChangeLemmas.{turned_lawful}
use Rattle.q_drr.proofs.TakeLemmas.{Front, need_none, need_more, grants_more, granted_none, has_quantum, front_quantum, prepared_granted, measure_falls, named_after, need_falls, turned_granted}

-- ---- one class

-- grants lower the need by their number
pub need_less : (q : ℕ) (h : Option ℕ) (k d : ℕ) → 1 ≤ q → k ≤ grants_for q d h → grants_for q d h ≡ grants_for q (d + k * q) h + k
unfolding grants_for
need_less q None k d one within = omega (arith, within)
need_less q (Some len) zero d one within =
    let same : d + 0 * q ≡ d = omega arith in
    let e : grants_for q (d + 0 * q) (Some len) ≡ grants_for q d (Some len) = ap (λ m. grants_for q m (Some len)) same in
    omega (arith, e)
need_less q (Some len) (suc k) d one within = elim (cases_lt d len) [
  | inr covers ↦ absurd (omega (arith, within, need_none q d len covers))
  | inl short ↦
      let more : grants_for q d (Some len) ≡ suc (grants_for q (d + 1 * q) (Some len)) = need_more q d len one short in
      let rest = need_less q (Some len) k (d + 1 * q) one (omega (arith, within, more)) in
      let same : grants_for q (d + 1 * q + k * q) (Some len) ≡ grants_for q (d + suc k * q) (Some len) = ap (λ m. grants_for q m (Some len)) (omega arith) in
      omega (arith, more, rest, same)
]

-- grants in a row
grants_none_counted : (q r : ℕ) (e : Entry) → after_grants q r e ≡ after_grants q r (after_grants q 0 e)
grants_none_counted q r e = ap₂ (λ (d g : ℕ). record e { deficit = d; granted = g }) (omega arith) (omega arith)

pub grants_add : (q k r : ℕ) (e : Entry) → after_grants q (k + r) e ≡ after_grants q r (after_grants q k e)
grants_add q zero r e = ap (λ m. after_grants q m e) (omega arith) ∙ grants_none_counted q r e
grants_add q (suc k) r e =
    ap (λ m. after_grants q m e) (omega arith) ∙ grants_more q (k + r) e
    ∙ grants_add q k r (after_grants q 1 e) ∙ ap (after_grants q r) (sym (grants_more q k e))

-- ---- the list

granted_add : (quantum : ℕ → ℕ) (k r : ℕ) (es : List Entry) → granted quantum (k + r) es ≡ granted quantum r (granted quantum k es)
granted_add quantum k r [] = refl
granted_add quantum k r (e ∷ es) = ap₂ (λ (x : Entry) (xs : List Entry). x ∷ xs) (grants_add (quantum e.class) k r e) (granted_add quantum k r es)

-- a choice where each needs k more
abbrev pub lifted : ℕ → Choice → Choice
lifted k c = record { rounds = k + c.rounds; place = c.place }

sooner_lifted : (k m : ℕ) (o : Option Choice) → sooner (k + m) (option_map (lifted k) o) ≡ lifted k (sooner m o)
sooner_lifted k m None = refl
sooner_lifted k m (Some c) = elim (cases_lt c.rounds m) [
  | inl past ↦ sooner_past (k + m) (lifted k c) (omega (arith, past)) ∙ sym (ap (lifted k) (sooner_past m c past))
  | inr within ↦ sooner_within (k + m) (lifted k c) (omega (arith, within)) ∙ sym (ap (lifted k) (sooner_within m c within))
]

-- every quantum is a byte at least
abbrev pub Quanta : (ℕ → ℕ) → List Entry → Type 0
Quanta quantum es = All (λ (e : Entry). 1 ≤ quantum e.class) es

module _ (quantum : ℕ → ℕ) (heads : ℕ → Option ℕ) (k : ℕ) where
  need_granted : (e : Entry) → 1 ≤ quantum e.class → k ≤ need quantum heads e → need quantum heads e ≡ k + need quantum heads (after_grants (quantum e.class) k e)
  need_granted e one within = omega (arith, need_less (quantum e.class) (heads e.class) k e.deficit one within)

  pub choose_lifted : (es : List Entry) → Quanta quantum es → All (λ (e : Entry). k ≤ need quantum heads e) es
      → choose (needs quantum heads es) ≡ option_map (lifted k) (choose (needs quantum heads (granted quantum k es)))
  choose_lifted [] one within = refl
  choose_lifted (e ∷ es) one within =
      let after : Option Choice = choose (needs quantum heads (granted quantum k es)) in
      let n : ℕ = need quantum heads (after_grants (quantum e.class) k e) in
      ap₂ (λ (m : ℕ) (o : Option Choice). Some (sooner m o))
      (need_granted e (All-head (λ (e : Entry). 1 ≤ quantum e.class) e es one) (All-head (λ (e : Entry). k ≤ need quantum heads e) e es within))
      (choose_lifted es (All-tail (λ (e : Entry). 1 ≤ quantum e.class) e es one) (All-tail (λ (e : Entry). k ≤ need quantum heads e) e es within))
      ∙ ap Some (sooner_lifted k n after)

  -- each need falls, or stays where k is 0
  pub needs_fall : (es : List Entry) → Quanta quantum es → All (λ (e : Entry). k ≤ need quantum heads e) es
      → sum_by (need quantum heads) (granted quantum k es) ≤ sum_by (need quantum heads) es
  needs_fall [] one within = omega arith
  needs_fall (e ∷ es) one within =
      omega (
        arith,
        sum_by-cons (need quantum heads) (after_grants (quantum e.class) k e) (granted quantum k es),
        sum_by-cons (need quantum heads) e es,
        need_granted e (All-head (λ (e : Entry). 1 ≤ quantum e.class) e es one) (All-head (λ (e : Entry). k ≤ need quantum heads e) e es within),
        needs_fall es (All-tail (λ (e : Entry). 1 ≤ quantum e.class) e es one) (All-tail (λ (e : Entry). k ≤ need quantum heads e) e es within),
      )

  take_granted : (n : ℕ) (es : List Entry) → take n (granted quantum k es) ≡ granted quantum k (take n es)
  take_granted zero es = refl
  take_granted (suc n) [] = refl
  take_granted (suc n) (e ∷ es) = ap (λ xs. after_grants (quantum e.class) k e ∷ xs) (take_granted n es)

  drop_granted : (n : ℕ) (es : List Entry) → drop n (granted quantum k es) ≡ granted quantum k (drop n es)
  drop_granted zero es = refl
  drop_granted (suc n) [] = refl
  drop_granted (suc n) (e ∷ es) = drop_granted n es

  -- the same list comes of it
  brought_lifted : (o : Option Choice) (es : List Entry) → (o ≡ None → es ≡ []) → brought_up quantum (option_map (lifted k) o) es ≡ brought_up quantum o (granted quantum k es)
  brought_lifted None es empty = let none : es ≡ [] = empty refl in none ∙ sym (ap (granted quantum k) none)
  brought_lifted (Some c) es empty =
      ap₂ (λ (xs ys : List Entry). xs ++ ys)
      (granted_add quantum k c.rounds (drop c.place es) ∙ ap (granted quantum c.rounds) (sym (drop_granted c.place es)))
      (ap (λ m. granted quantum m (take c.place es)) (omega arith) ∙ granted_add quantum k (suc c.rounds) (take c.place es) ∙ ap (granted quantum (suc c.rounds)) (sym (take_granted c.place es)))

-- no class to choose
nobody_chosen : (quantum : ℕ → ℕ) (heads : ℕ → Option ℕ) (es : List Entry) → choose (needs quantum heads es) ≡ None → es ≡ []
nobody_chosen quantum heads [] e = refl
nobody_chosen quantum heads (x ∷ es) e = cc

granted_nobody : (quantum : ℕ → ℕ) (k : ℕ) (es : List Entry) → granted quantum k es ≡ [] → es ≡ []
granted_nobody quantum k [] e = refl
granted_nobody quantum k (x ∷ es) e = cc

-- the turns
rows_add : (k r n : ℕ) → (k + r) * n ≡ k * n + r * n
rows_add zero r n =
    let a : (0 + r) * n ≡ r * n = ap (λ (m : ℕ). m * n) (omega arith) in
    omega (arith, a)
rows_add (suc k) r n =
    let a : (suc k + r) * n ≡ suc (k + r) * n = ap (λ (m : ℕ). m * n) (omega arith) in
    omega (arith, a, rows_add k r n)

pub turns_lifted : (k n : ℕ) (o : Option Choice) → 0 < n → (o ≡ None → ⊥) → turns_until (option_map (lifted k) o) n ≡ k * n + turns_until o n
turns_lifted k n None some one = absurd (one refl)
turns_lifted k n (Some c) some one = omega (arith, rows_add k c.rounds n)

-- ---- the schedule

module _ (heads : ℕ → Option ℕ) (k : ℕ) (s : Schedule) (one : Quanta (λ (n : ℕ). quantum_of n s.classes) s.active) (within : AllNeed heads k s.classes s.active) where
  abbrev quantum : ℕ → ℕ
  quantum = λ n. quantum_of n s.classes

  pub choice_rounds : choice_of heads s ≡ option_map (lifted k) (choice_of heads (rounds_given k s))
  choice_rounds = choose_lifted quantum heads k s.active one within

  long_same : length (granted quantum k s.active) ≡ length s.active
  long_same = length-map s.active (λ (e : Entry). after_grants (quantum e.class) k e)

  turns_all : (es : List Entry) → s.active ≡ es → turns_until (choice_of heads s) (length s.active) + 0 ≡ turns_until (choice_of heads s) (length s.active)
  turns_all es e = omega arith

  pub until_rounds : turns_until (choice_of heads s) (length s.active) ≡ k * length s.active + turns_until (choice_of heads (rounds_given k s)) (length (rounds_given k s).active)
  until_rounds = by s.active refl
    where
      by : (es : List Entry) → s.active ≡ es → turns_until (choice_of heads s) (length s.active) ≡ k * length s.active + turns_until (choice_of heads (rounds_given k s)) (length (rounds_given k s).active)
      by [] none =
          let a : choice_of heads s ≡ None = ap (λ (xs : List Entry). choose (needs quantum heads xs)) none in
          let b : choice_of heads (rounds_given k s) ≡ None = ap (λ (xs : List Entry). choose (needs quantum heads (granted quantum k xs))) none in
          let c : k * length s.active ≡ 0 = ap (λ (xs : List Entry). k * length xs) none ∙ omega arith in
          omega (arith, c, ap (λ o. turns_until o (length s.active)) a, ap (λ o. turns_until o (length (rounds_given k s).active)) b)
      by (x ∷ es) some =
          let after : Option Choice = choice_of heads (rounds_given k s) in
          let there : after ≡ None → ⊥ = λ e.
          let none : s.active ≡ [] = granted_nobody quantum k s.active (nobody_chosen quantum heads (granted quantum k s.active) e) in
          let both : x ∷ es ≡ [] = sym some ∙ none in cc
          in
          ap (λ o. turns_until o (length s.active)) choice_rounds
          ∙ turns_lifted k (length s.active) after (omega (arith, ap length some)) there
          ∙ ap (λ n. k * length s.active + turns_until after n) (sym long_same)

  pub prepared_rounds : prepared heads (rounds_given k s) ≡ prepared heads s
  prepared_rounds =
      let after : Option Choice = choice_of heads (rounds_given k s) in
      let list : brought_up quantum (choice_of heads s) s.active ≡ brought_up quantum after (granted quantum k s.active) =
      ap (λ o. brought_up quantum o s.active) choice_rounds
      ∙ brought_lifted quantum heads k after s.active (λ e. granted_nobody quantum k s.active (nobody_chosen quantum heads (granted quantum k s.active) e)) in
      let turns : counted (counted (s.turns + k * length s.active) + turns_until after (length (rounds_given k s).active)) ≡ counted (s.turns + turns_until (choice_of heads s) (length s.active)) =
      omega (arith, until_rounds) in
      ap₂ (λ (es : List Entry) (m : ℕ). record s { active = es; turns = m }) (sym list) turns

  pub measure_rounds : sum_by (need quantum heads) (rounds_given k s).active ≤ sum_by (need quantum heads) s.active
  measure_rounds = needs_fall quantum heads k s.active one within

-- ---- a turn and the rounds after it

pub quanta_of : (s : Schedule) → IsLawful s → Quanta (λ (n : ℕ). quantum_of n s.classes) s.active
quanta_of s law = All-weaker (IsEntry s.max_len s.classes) (λ (e : Entry). 1 ≤ quantum_of e.class s.classes) (λ e i. has_quantum e.class s.classes law.quanta i.there) s.active law.entries

-- each needs none at least
pub none_needed : (heads : ℕ → Option ℕ) (classes : List Class) (es : List Entry) → AllNeed heads 0 classes es
none_needed heads classes [] = All-nil (λ (e : Entry). 0 ≤ need (λ (n : ℕ). quantum_of n classes) heads e)
none_needed heads classes (e ∷ es) = All-cons (λ (e : Entry). 0 ≤ need (λ (n : ℕ). quantum_of n classes) heads e) e es (omega arith) (none_needed heads classes es)

module _ (heads : ℕ → Option ℕ) (s t : Schedule) (n len : ℕ) (r : Round) (law : IsLawful s) (f : Front n s) (head : heads n ≡ Some len) (short : f.first.deficit < len) (fits : len ≤ s.max_len) (g : HasGone heads len s t r) where
  quanta_turned : Quanta (λ (n : ℕ). quantum_of n s.classes) (turned len s).active
  quanta_turned = quanta_of (turned len s) (turned_lawful s len law fits)

  pub prepared_gone : prepared heads t ≡ prepared heads s
  prepared_gone =
      ap (prepared heads) g.after ∙ prepared_rounds heads g.rounds (turned len s) quanta_turned g.needed
      ∙ prepared_granted heads s n len f head (front_quantum s n f law) short

  pub measure_gone : sum_by (need (λ m. quantum_of m t.classes) heads) t.active < sum_by (need (λ m. quantum_of m s.classes) heads) s.active
  measure_gone =
      let a : sum_by (need (λ m. quantum_of m t.classes) heads) t.active ≡ sum_by (need (λ m. quantum_of m s.classes) heads) (rounds_given g.rounds (turned len s)).active =
      ap (λ (v : Schedule). sum_by (need (λ m. quantum_of m v.classes) heads) v.active) g.after in
      omega (arith, a, measure_rounds heads g.rounds (turned len s) quanta_turned g.needed, measure_falls heads s n len f head (front_quantum s n f law) short)

  pub named_gone : (bound : ℕ) → All (λ (e : Entry). e.class < bound) s.active → All (λ (e : Entry). e.class < bound) t.active
  named_gone bound named =
      subst (λ (v : Schedule). All (λ (e : Entry). e.class < bound) v.active) (sym g.after)
      (All-map (λ (e : Entry). e.class < bound) (λ (e : Entry). after_grants (quantum_of e.class s.classes) g.rounds e) (turned len s).active (named_after bound len s n f short named))

-- heads by name, from a list of them
pub heads_fit : (heads : List (Option ℕ)) (most : ℕ) → All (λ (head : Option ℕ). IfSome head (λ len. len ≤ most)) heads → HeadsFit (head_at heads) most
heads_fit [] most all n len e = cc
heads_fit (h ∷ heads) most all zero len e = subst (λ (o : Option ℕ). IfSome o (λ len. len ≤ most)) e (All-head (λ (head : Option ℕ). IfSome head (λ len. len ≤ most)) h heads all)
heads_fit (h ∷ heads) most all (suc n) len e = heads_fit heads most (All-tail (λ (head : Option ℕ). IfSome head (λ len. len ≤ most)) h heads all) n len e

abbrev pub can_go : (heads : ℕ → Option ℕ) (s : Schedule) (n len : ℕ) (r : Round) → Some n ≡ front_of s → heads n ≡ Some len → HeadsFit heads s.max_len → IsRound heads r s → CanGo len r s
can_go heads s n len r first head fit round = record { heads = heads; fit = fit; shown = ap (option_and_then heads) (sym first) ∙ head; round = round }

-- ---- the need of the class in front

pub need_is : (q d len : ℕ) → 1 ≤ q → d < len → (len - d) / q + min 1 ((len - d) % q) ≡ grants_for q d (Some len)
unfolding grants_for
need_is q d len one short =
    let p : ℕ → Bool = λ k. nat_le len (d + k * q) in
    let m : ℕ = (len - d) / q + min 1 ((len - d) % q) in
    let bounds = div_ceil_times (len - d) q (omega (arith, one)) in
    let small : (k : ℕ) → k ≤ k * q = λ k. omega (arith, mul-le-mul_left k one) in
    let within : m ≤ len = elim (cases_lt len m) [
      | inr upto ↦ upto
      | inl past ↦
          let a : suc len * q ≤ m * q = mul-le-mul_right q past in
          absurd (omega (arith, a, bounds.1, small len, short))
    ] in
    sym (least_is p len m within
    (λ below. le-leb len (d + m * q) (omega (arith, bounds.0)))
    (λ i lower. let a : suc i * q ≤ m * q = mul-le-mul_right q lower in lt-leb len (d + i * q) (omega (arith, a, bounds.1, short))))

pub need_covered : (s : Schedule) (n len : ℕ) (f : Front n s) → len ≤ f.first.deficit → 0 ≡ front_need len s
need_covered s n len f covers = sym (ap (need_in len s.classes) f.is ∙ need_none (quantum_of f.first.class s.classes) f.first.deficit len covers)

pub need_short : (s : Schedule) (n len : ℕ) (f : Front n s) → IsLawful s → f.first.deficit < len
    → (len - f.first.deficit) / quantum_of n s.classes + min 1 ((len - f.first.deficit) % quantum_of n s.classes) ≡ front_need len s
need_short s n len f law short =
    need_is (quantum_of n s.classes) f.first.deficit len (front_quantum s n f law) short
    ∙ ap (λ (i : ℕ). grants_for (quantum_of i s.classes) f.first.deficit (Some len)) (sym f.class)
    ∙ sym (ap (need_in len s.classes) f.is)

-- ---- class by class

-- the first p classes granted, and behind the others
abbrev pub rounds_part : ℕ → ℕ → Schedule → Schedule
rounds_part k p s = record s {
  active = drop p s.active ++ granted (λ (n : ℕ). quantum_of n s.classes) k (take p s.active);
  turns = counted (s.turns + k * p);
}

pub rounds_start : (k : ℕ) (s : Schedule) → s.turns < 2 ^ 64 → s ≡ rounds_part k 0 s
rounds_start k s range = ap₂ (λ (es : List Entry) (m : ℕ). record s { active = es; turns = m }) (sym (append-nil s.active)) (omega (arith, range))

pub rounds_end : (k p : ℕ) (s : Schedule) → p ≡ length s.active → rounds_part k p s ≡ rounds_given k s
rounds_end k p s all =
    let quantum : ℕ → ℕ = λ n. quantum_of n s.classes in
    ap₂ (λ (es : List Entry) (m : ℕ). record s { active = es; turns = m })
    (ap₂ (λ (xs ys : List Entry). xs ++ granted quantum k ys) (drop_all p s.active (omega (arith, all))) (take_all p s.active (omega (arith, all))))
    (ap (λ (m : ℕ). counted (s.turns + k * m)) all)

-- the next class is in front
pub part_front : (k p : ℕ) (s : Schedule) (d : Entry) → p < length s.active
    → (rounds_part k p s).active ≡ get_or s.active p d ∷ (drop (suc p) s.active ++ granted (λ (n : ℕ). quantum_of n s.classes) k (take p s.active))
part_front k p s d within =
    let quantum : ℕ → ℕ = λ n. quantum_of n s.classes in
    ap (λ xs. xs ++ granted quantum k (take p s.active)) (drop_more s.active p d within ∙ ap (λ i. get_or s.active p d ∷ drop i s.active) (add-one p))

pub rounds_more : (k p : ℕ) (s : Schedule) (d : Entry) → p < length s.active → front_given k (rounds_part k p s) ≡ rounds_part k (suc p) s
rounds_more k p s d within =
    let quantum : ℕ → ℕ = λ n. quantum_of n s.classes in
    let x : Entry = get_or s.active p d in
    let rest : List Entry = drop (suc p) s.active in
    let before : List Entry = granted quantum k (take p s.active) in
    let y : Entry = after_grants (quantum x.class) k x in
    let taken : granted quantum k (take (suc p) s.active) ≡ before ++ y ∷ [] =
    ap (λ i. granted quantum k (take i s.active)) (sym (add-one p)) ∙ ap (granted quantum k) (take_more s.active p d within)
    ∙ map-append (λ (e : Entry). after_grants (quantum e.class) k e) (take p s.active) (x ∷ []) in
    ap₂ (λ (es : List Entry) (m : ℕ). record s { active = es; turns = m })
    (ap (passed k s.classes) (part_front k p s d within) ∙ append_assoc rest before (y ∷ []) ∙ ap (λ xs. rest ++ xs) (sym taken))
    (omega arith)

pub part_within : (k p : ℕ) (s : Schedule) (d : Entry) → p < length s.active → AreWithin k s → IsFrontWithin k (rounds_part k p s)
part_within k p s d within all =
    subst (λ (es : List Entry). All (IsWithin k s.max_len s.classes) (take 1 es)) (sym (part_front k p s d within))
    (All-cons (IsWithin k s.max_len s.classes) (get_or s.active p d) [] (all p d within) (All-nil (IsWithin k s.max_len s.classes)))

pub part_some : (k p : ℕ) (s : Schedule) (d : Entry) → p < length s.active → 0 < length (rounds_part k p s).active
part_some k p s d within = omega (arith, ap (λ (es : List Entry). length es) (part_front k p s d within))

-- ---- a turn in a round

-- no need to be granted where the deficit covers the head, and only there
pub need_zero : (s : Schedule) (n len : ℕ) (f : Front n s) → IsLawful s → 0 ≡ front_need len s → len ≤ f.first.deficit
need_zero s n len f law e = elim (cases_lt f.first.deficit len) [
  | inr covers ↦ covers
  | inl short ↦
      let q = quantum_of f.first.class s.classes in
      let one : 1 ≤ q = subst (λ (m : ℕ). 1 ≤ quantum_of m s.classes) (sym f.class) (front_quantum s n f law) in
      absurd (omega (arith, e, ap (need_in len s.classes) f.is, need_more q f.first.deficit len one short))
]

pub answer_covers : (s : Schedule) (n len : ℕ) (f : Front n s) → len ≤ f.first.deficit → turn_answer len s.active ≡ Send
answer_covers s n len f covers = ap (turn_answer len) f.is ∙ ap (λ (t : Bool). if t then Send else Granted) (le-leb len f.first.deficit covers)

pub answer_short : (s : Schedule) (n len : ℕ) (f : Front n s) → f.first.deficit < len → turn_answer len s.active ≡ Granted
answer_short s n len f short = ap (turn_answer len) f.is ∙ ap (λ (t : Bool). if t then Send else Granted) (lt-leb len f.first.deficit short)

pub front_some : (s : Schedule) → 0 < length s.active → (n : ℕ) × Front n s
front_some s some = by s.active refl
  where
    by : (es : List Entry) → s.active ≡ es → (n : ℕ) × Front n s
    by [] e = absurd (omega (arith, some, ap length e))
    by (x ∷ es) e = (x.class, record { first = x; rest = es; is = e; class = refl })

pub front_head : (heads : ℕ → Option ℕ) (s : Schedule) (n : ℕ) (f : Front n s) (len : ℕ) → option_and_then heads (front_of s) ≡ Some len → heads n ≡ Some len
front_head heads s n f len e = ap heads (sym f.class) ∙ sym (ap (λ es. option_and_then heads (slice_get (map (λ (e : Entry). e.class) es) 0)) f.is) ∙ e

-- grants that are needed leave a deficit within its bound
need_within : (q max_len : ℕ) (h : Option ℕ) (k d : ℕ) → k ≤ grants_for q d h → ((len : ℕ) → h ≡ Some len → len ≤ max_len) → d < q + max_len → d + k * q < q + max_len
unfolding grants_for
need_within q max_len h zero d within fit bounded = omega (arith, bounded)
need_within q max_len None (suc k) d within fit bounded = absurd (omega (arith, within))
need_within q max_len (Some len) (suc k) d within fit bounded =
    let p : ℕ → Bool = λ k. nat_le len (d + k * q) in
    let not_yet : nat_le len (d + k * q) ≡ false = least_gt p len k (omega (arith, within)) in
    let less : d + k * q < len = leb-false len (d + k * q) not_yet in
    omega (arith, less, fit len refl)

pub are_within : (heads : ℕ → Option ℕ) (k : ℕ) (s : Schedule) → IsLawful s → HeadsFit heads s.max_len → AllNeed heads k s.classes s.active → AreWithin k s
are_within heads k s law fit needed = λ i d below.
    let e : Entry = get_or s.active i d in
    need_within (quantum_of e.class s.classes) s.max_len (heads e.class) k e.deficit (needed i d below) (λ len is. fit e.class len is) (law.entries i d below).bounded

abbrev no_entries : List Entry
no_entries = []

drop_none : (m : ℕ) → drop m no_entries ≡ []
drop_none zero = refl
drop_none (suc m) = refl

all_pushed : (P : Entry → Type 0) (m : ℕ) (xs : List Entry) (y : Entry) → All P (drop m xs) → P y → All P (drop m (xs ++ y ∷ []))
all_pushed P zero xs y all last = All-push P xs y all last
all_pushed P (suc m) [] y all last = subst (All P) (sym (drop_none m)) (All-nil P)
all_pushed P (suc m) (x ∷ xs) y all last = all_pushed P m xs y all last

-- no grants at once
pub rounds_zero : (s : Schedule) → IsLawful s → s ≡ rounds_given 0 s
rounds_zero s law =
    ap₂ (λ (es : List Entry) (m : ℕ). record s { active = es; turns = m })
    (sym (granted_none (λ (n : ℕ). quantum_of n s.classes) s.active (All-weaker (IsEntry s.max_len s.classes) (λ e. e.granted < 2 ^ 64) (λ e i. i.in_range) s.active law.entries)))
    (omega (arith, law.counted_turns))

module _ (heads : ℕ → Option ℕ) (s : Schedule) (n len : ℕ) (f : Front n s) (law : IsLawful s) (head : heads n ≡ Some len) (short : f.first.deficit < len) (needed : ℕ) (is : needed ≡ front_need len s) where
  -- what the class in front needs once it was granted
  last_need : needed ≡ suc (need (λ (m : ℕ). quantum_of m s.classes) heads (after_grants (quantum_of f.first.class s.classes) 1 f.first))
  last_need =
      is ∙ ap (need_in len s.classes) f.is
      ∙ ap (grants_for (quantum_of f.first.class s.classes) f.first.deficit) (sym (ap heads f.class ∙ head))
      ∙ need_falls heads s n len f head (front_quantum s n f law) short

  -- one class more of the round
  pub round_more : (left left2 fewest fewest2 : ℕ) → left ≡ suc left2 → fewest2 ≡ min fewest (needed - 1) → AllNeed heads fewest s.classes (drop left s.active)
      → AllNeed heads fewest2 s.classes (drop left2 (turned len s).active)
  round_more left left2 fewest fewest2 one least all =
      let P : Entry → Type 0 = λ (e : Entry). fewest2 ≤ need (λ (m : ℕ). quantum_of m s.classes) heads e in
      let before : AllNeed heads fewest s.classes (drop left2 f.rest) = subst₂ (λ (m : ℕ) (es : List Entry). AllNeed heads fewest s.classes (drop m es)) one f.is all in
      subst (λ (es : List Entry). All P (drop left2 es)) (sym (turned_granted s n len f short))
      (all_pushed P left2 f.rest (after_grants (quantum_of f.first.class s.classes) 1 f.first)
      (All-weaker (λ (e : Entry). fewest ≤ need (λ (m : ℕ). quantum_of m s.classes) heads e) P (λ e h. omega (arith, h, least)) (drop left2 f.rest) before)
      (omega (arith, last_need, least)))

-- where a round begins
pub none_left : (heads : ℕ → Option ℕ) (fewest : ℕ) (s : Schedule) (left : ℕ) → left ≡ length s.active → AllNeed heads fewest s.classes (drop left s.active)
none_left heads fewest s left all = subst (AllNeed heads fewest s.classes) (sym (drop_all left s.active (omega (arith, all)))) (All-nil (λ (e : Entry). fewest ≤ need (λ (n : ℕ). quantum_of n s.classes) heads e))

pub turned_long : (s : Schedule) (n len : ℕ) (f : Front n s) → f.first.deficit < len → length (turned len s).active ≡ length s.active
turned_long s n len f short =
    ap length (turned_granted s n len f short) ∙ length_push f.rest (after_grants (quantum_of f.first.class s.classes) 1 f.first) ∙ add-one (length f.rest) ∙ sym (ap length f.is)
