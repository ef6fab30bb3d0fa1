-- A whole take: where the front's head may be sent nothing comes before it, and where it is granted the take goes on.
use Rattle.std.proofs.Common.{◌≡◌, ℕ, zero, suc, ◌+◌, ◌-◌, ◌*◌, ◌<◌, ◌≤◌, ◌^◌, Bool, true, eqb, ◌||◌, List, [], ◌∷◌, ◌++◌, map, length, take, drop, append_assoc, Option, Some, None, IfSome, refl, sym, ap, ◌∙◌, subst, inl, inr, arith, add-one}
use Rattle.std.specs.Prelude.{if◌then◌else◌, nat_le, slice_get, All}
use Rattle.std.specs.List.{sum_by}
use Rattle.std.proofs.Math.Nat.{mul-le-mul_left}
use Rattle.std.proofs.lemmas.Bool.{le-leb, lt-leb, cases_lt, cases_Bool, false≢true}
use Rattle.std.proofs.lemmas.List.{append-nil, map-append, take_at, drop_at, drop-append-le, take-append-le, length-map, length_push}
use Rattle.std.proofs.lemmas.List.Sums.{sum_by_push, sum_by-cons}
use Rattle.q_packet.specs.Choice.{Choice, sooner, choose}
use Rattle.q_packet.specs.Least.{least}
use Rattle.q_packet.proofs.ChoiceLemmas.{sooner_within, sooner_past, sooner_first, last_one, last_one_within, last_one_past, choose_end, choose_within}
use Rattle.q_packet.proofs.LeastLemmas.{least_here, least_later, least_is, least_le, least_holds, least_gt}
use Rattle.q_drr.specs.Schedule.{Class, Entry, Schedule, has_class, quantum_of, after_grants, turn_answer, active_after, turned, counted, front_of, IsEntry, IsLawful}
use Rattle.q_drr.specs.Take.{grants_for, need, needs, choice_of, granted, brought_up, turns_until, prepared, sent_by, sent_in, served, met_in, met}
use Rattle.q_drr.specs.declared.take.Met.{Met}
use Rattle.q_drr.specs.declared.active.Turn.TheVariants.{Send, Granted}
use Rattle.std.proofs.lemmas.List.Elements.{All-push, All-head, All-tail, All-weaker}
use Rattle.q_drr.proofs.LookupLemmas.{quantum_here, quantum_behind}

-- how many grants a class needs
pub need_none : (q d len : ℕ) → len ≤ d → grants_for q d (Some len) ≡ 0
unfolding grants_for
need_none q d len covers = least_here (λ k. nat_le len (d + k * q)) len (le-leb len (d + 0 * q) (omega arith))

need_more_at : (q d len : ℕ) → 1 ≤ q → d < suc len → grants_for q d (Some (suc len)) ≡ suc (grants_for q (d + 1 * q) (Some (suc len)))
unfolding grants_for
need_more_at q d len one short =
    let p : ℕ → Bool = λ k. nat_le (suc len) (d + k * q) in
    let after : ℕ → Bool = λ k. nat_le (suc len) ((d + 1 * q) + k * q) in
    let same : (i : ℕ) → after i ≡ p (suc i) = λ i. ap (nat_le (suc len)) (omega arith) in
    let m = least (λ i. p (suc i)) len in
    let found : least after (suc len) ≡ m =
    least_is after (suc len) m (omega (arith, least_le (λ i. p (suc i)) len))
    (λ below. elim (cases_lt m len) [
      | inl less ↦ same m ∙ least_holds (λ i. p (suc i)) len less
      | inr end ↦ le-leb (suc len) ((d + 1 * q) + m * q) (omega (arith, mul-le-mul_left m one))
    ])
    (λ i less. same i ∙ least_gt (λ j. p (suc j)) len i less) in
    least_later p len (lt-leb (suc len) (d + 0 * q) (omega arith)) ∙ ap suc (sym found)

pub need_more : (q d len : ℕ) → 1 ≤ q → d < len → grants_for q d (Some len) ≡ suc (grants_for q (d + 1 * q) (Some len))
need_more q d zero one short = absurd (omega arith)
need_more q d (suc len) one short = need_more_at q d len one short

-- grants in a row
same_entry : (n d d' g g' : ℕ) → d ≡ d' → g ≡ g' → ◌≡◌ {A = Entry} (record { class = n; deficit = d; granted = g }) (record { class = n; deficit = d'; granted = g' })
same_entry n d d' g g' e f = cc

pub grants_more : (q k : ℕ) (e : Entry) → after_grants q (suc k) e ≡ after_grants q k (after_grants q 1 e)
grants_more q k e = same_entry e.class _ _ _ _ (omega arith) (omega arith)

grants_none : (q : ℕ) (e : Entry) → e.granted < 2 ^ 64 → after_grants q 0 e ≡ e
grants_none q e range = same_entry e.class _ _ _ _ (omega arith) (omega arith)

pub granted_none : (quantum : ℕ → ℕ) (es : List Entry) → All (λ e. e.granted < 2 ^ 64) es → granted quantum 0 es ≡ es
granted_none quantum [] range = refl
granted_none quantum (e ∷ es) range =
    ap (λ x. x ∷ granted quantum 0 es) (grants_none (quantum e.class) e (All-head (λ e. e.granted < 2 ^ 64) e es range))
    ∙ ap (λ xs. e ∷ xs) (granted_none quantum es (All-tail (λ e. e.granted < 2 ^ 64) e es range))

-- the front granted once and sent to the end
abbrev pub once : (ℕ → ℕ) → Entry → Entry
once quantum e = after_grants (quantum e.class) 1 e

module _ (quantum : ℕ → ℕ) (e : Entry) (es : List Entry) where
  turned_first : (k : ℕ) → brought_up quantum (Some (record { rounds = suc k; place = 0 })) (e ∷ es) ≡ brought_up quantum (Some (record { rounds = k; place = length es })) (es ++ once quantum e ∷ [])
  turned_first k =
      append-nil (granted quantum (suc k) (e ∷ es))
      ∙ ap (λ x. x ∷ granted quantum (suc k) es) (grants_more (quantum e.class) k e)
      ∙ sym (ap (λ xs. granted quantum k xs ++ granted quantum (suc k) (take (length es) (es ++ once quantum e ∷ []))) (drop_at es (once quantum e ∷ []) (length es) refl)
      ∙ ap (λ xs. granted quantum k (once quantum e ∷ []) ++ granted quantum (suc k) xs) (take_at es (once quantum e ∷ []) (length es) refl))

  turned_other : (c : Choice) → c.place < length es
      → brought_up quantum (Some (record { rounds = c.rounds; place = suc c.place })) (e ∷ es) ≡ brought_up quantum (Some c) (es ++ once quantum e ∷ [])
  turned_other c within =
      ap (λ x. granted quantum c.rounds (drop c.place es) ++ x ∷ granted quantum (suc c.rounds) (take c.place es)) (grants_more (quantum e.class) c.rounds e)
      ∙ sym (ap (λ xs. granted quantum c.rounds xs ++ granted quantum (suc c.rounds) (take c.place (es ++ once quantum e ∷ []))) (drop-append-le c.place es (once quantum e ∷ []) (omega arith))
      ∙ ap (λ xs. granted quantum c.rounds (drop c.place es ++ once quantum e ∷ []) ++ granted quantum (suc c.rounds) xs) (take-append-le c.place es (once quantum e ∷ []) (omega arith))
      ∙ ap (λ xs. xs ++ granted quantum (suc c.rounds) (take c.place es)) (map-append (λ (x : Entry). after_grants (quantum x.class) c.rounds x) (drop c.place es) (once quantum e ∷ []))
      ∙ append_assoc (granted quantum c.rounds (drop c.place es)) (after_grants (quantum e.class) c.rounds (once quantum e) ∷ []) (granted quantum (suc c.rounds) (take c.place es)))

  -- the same list and one turn less, whatever is chosen among the others
  pub list_goes_on : (k : ℕ) (o : Option Choice) → IfSome o (λ c. c.place < length es)
      → brought_up quantum (Some (sooner (suc k) o)) (e ∷ es) ≡ brought_up quantum (Some (last_one k (length es) o)) (es ++ once quantum e ∷ [])
  list_goes_on k None within = turned_first k
  list_goes_on k (Some c) within = elim (cases_lt k c.rounds) [
    | inl less ↦ ap (λ (d : Choice). brought_up quantum (Some d) (e ∷ es)) (sooner_within (suc k) c (omega arith))
        ∙ turned_first k
        ∙ sym (ap (λ (d : Choice). brought_up quantum (Some d) (es ++ once quantum e ∷ [])) (last_one_past k (length es) c less))
    | inr more ↦ ap (λ (d : Choice). brought_up quantum (Some d) (e ∷ es)) (sooner_past (suc k) c (omega arith))
        ∙ turned_other c within
        ∙ sym (ap (λ (d : Choice). brought_up quantum (Some d) (es ++ once quantum e ∷ [])) (last_one_within k (length es) c more))
  ]

  pub turns_go_on : (k : ℕ) (o : Option Choice)
      → turns_until (Some (sooner (suc k) o)) (suc (length es)) ≡ suc (turns_until (Some (last_one k (length es) o)) (suc (length es)))
  turns_go_on k None = omega arith
  turns_go_on k (Some c) = elim (cases_lt k c.rounds) [
    | inl less ↦ ap (λ (d : Choice). turns_until (Some d) (suc (length es))) (sooner_within (suc k) c (omega arith))
        ∙ omega arith
        ∙ sym (ap (λ (d : Choice). suc (turns_until (Some d) (suc (length es)))) (last_one_past k (length es) c less))
    | inr more ↦ ap (λ (d : Choice). turns_until (Some d) (suc (length es))) (sooner_past (suc k) c (omega arith))
        ∙ omega arith
        ∙ sym (ap (λ (d : Choice). suc (turns_until (Some d) (suc (length es)))) (last_one_within k (length es) c more))
  ]

-- the class in front and the others
pub record Front (n : ℕ) (s : Schedule) : Type 0 where
  pub first : Entry
  pub rest : List Entry
  pub is : s.active ≡ first ∷ rest
  pub class : first.class ≡ n

front_in_list : (n : ℕ) (es : List Entry) → slice_get (map (λ (e : Entry). e.class) es) 0 ≡ Some n → (e : Entry) × (rest : List Entry) × (es ≡ e ∷ rest) × (e.class ≡ n)
front_in_list n [] h = cc
front_in_list n (e ∷ es) h = (e, es, refl, cc)

pub front_is : (n : ℕ) (s : Schedule) → Some n ≡ front_of s → Front n s
front_is n s h = let f = front_in_list n s.active (sym h) in record { first = f.0; rest = f.1; is = f.2; class = f.3 }

-- where nothing stands in the front's way, the take has come to its class
pub same_list : (s : Schedule) (es : List Entry) (turns : ℕ) → es ≡ s.active → turns ≡ s.turns → record s { active = es; turns = turns } ≡ s
same_list s es turns e f = ap (λ xs. record s { active = xs; turns = turns }) e ∙ ap (λ k. record s { turns = k }) f

-- the choice where the front needs no grant
pub choice_ready : (heads : ℕ → Option ℕ) (s : Schedule) (n : ℕ) (f : Front n s) → need (λ m. quantum_of m s.classes) heads f.first ≡ 0 → choice_of heads s ≡ Some (record { rounds = 0; place = 0 })
choice_ready heads s n f ready =
    let quantum : ℕ → ℕ = λ m. quantum_of m s.classes in
    let others = choose (needs quantum heads f.rest) in
    ap (λ es. choose (needs quantum heads es)) f.is ∙ ap (λ k. Some (sooner k others)) ready ∙ ap Some (sooner_first others)

pub prepared_ready : (heads : ℕ → Option ℕ) (s : Schedule) (n : ℕ) (f : Front n s) → IsLawful s → need (λ m. quantum_of m s.classes) heads f.first ≡ 0 → prepared heads s ≡ s
prepared_ready heads s n f law ready =
    let quantum : ℕ → ℕ = λ m. quantum_of m s.classes in
    let choice : choice_of heads s ≡ Some (record { rounds = 0; place = 0 }) = choice_ready heads s n f ready in
    let list : brought_up quantum (choice_of heads s) s.active ≡ s.active =
    ap (λ c. brought_up quantum c s.active) choice ∙ append-nil (granted quantum 0 s.active)
    ∙ granted_none quantum s.active (All-weaker (IsEntry s.max_len s.classes) (λ e. e.granted < 2 ^ 64) (λ e i. i.in_range) s.active law.entries) in
    let turns : counted (s.turns + turns_until (choice_of heads s) (length s.active)) ≡ s.turns =
    ap (λ c. counted (s.turns + turns_until c (length s.active))) choice ∙ omega (arith, law.counted_turns) in
    same_list s _ _ list turns

pub prepared_empty : (heads : ℕ → Option ℕ) (s : Schedule) → IsLawful s → s.active ≡ [] → prepared heads s ≡ s
prepared_empty heads s law none =
    let quantum : ℕ → ℕ = λ m. quantum_of m s.classes in
    let choice : choice_of heads s ≡ None = ap (λ es. choose (needs quantum heads es)) none in
    same_list s _ _ (ap (λ c. brought_up quantum c s.active) choice)
    (ap (λ c. counted (s.turns + turns_until c (length s.active))) choice ∙ omega (arith, law.counted_turns))

-- and where its class is granted, what comes is what would have come
pub turned_granted : (s : Schedule) (n len : ℕ) (f : Front n s) → f.first.deficit < len
    → active_after len s.classes s.active ≡ f.rest ++ after_grants (quantum_of f.first.class s.classes) 1 f.first ∷ []
turned_granted s n len f short =
    ap (active_after len s.classes) f.is
    ∙ ap (λ (t : Bool). if t then record f.first { deficit = f.first.deficit - len } ∷ f.rest else f.rest
    ++ after_grants (quantum_of f.first.class s.classes) 1 f.first ∷ []) (lt-leb len f.first.deficit short)

pub need_falls : (heads : ℕ → Option ℕ) (s : Schedule) (n len : ℕ) (f : Front n s) → heads n ≡ Some len → 1 ≤ quantum_of n s.classes → f.first.deficit < len
    → need (λ m. quantum_of m s.classes) heads f.first ≡ suc (need (λ m. quantum_of m s.classes) heads (after_grants (quantum_of f.first.class s.classes) 1 f.first))
need_falls heads s n len f head one short =
    let q = quantum_of f.first.class s.classes in
    let shows : heads f.first.class ≡ Some len = ap heads f.class ∙ head in
    ap (grants_for q f.first.deficit) shows
    ∙ need_more q f.first.deficit len (subst (λ m. 1 ≤ quantum_of m s.classes) (sym f.class) one) short
    ∙ ap (λ h. suc (grants_for q (f.first.deficit + 1 * q) h)) (sym shows)

-- the choice from the others and one more at the end
choice_end : (quantum : ℕ → ℕ) (heads : ℕ → Option ℕ) (es : List Entry) (x : Entry)
    → choose (needs quantum heads (es ++ x ∷ [])) ≡ Some (last_one (need quantum heads x) (length es) (choose (needs quantum heads es)))
choice_end quantum heads es x =
    let asked : Entry → Option ℕ = λ e. Some (need quantum heads e) in
    ap choose (map-append asked es (x ∷ [])) ∙ choose_end (needs quantum heads es) (need quantum heads x)
    ∙ ap (λ n. Some (last_one (need quantum heads x) n (choose (needs quantum heads es)))) (length-map es asked)

pub choice_within : (quantum : ℕ → ℕ) (heads : ℕ → Option ℕ) (es : List Entry) → IfSome (choose (needs quantum heads es)) (λ c. c.place < length es)
choice_within quantum heads es =
    let asked : Entry → Option ℕ = λ e. Some (need quantum heads e) in
    subst (λ n. IfSome (choose (needs quantum heads es)) (λ c. c.place < n)) (length-map es asked) (choose_within (needs quantum heads es))

-- the choice where the front is granted, and that among the same classes once it was
pub choice_before : (heads : ℕ → Option ℕ) (s : Schedule) (n len : ℕ) (f : Front n s) → heads n ≡ Some len → 1 ≤ quantum_of n s.classes → f.first.deficit < len
    → choice_of heads s ≡ Some (sooner (suc (need (λ m. quantum_of m s.classes) heads (once (λ m. quantum_of m s.classes) f.first))) (choose (needs (λ m. quantum_of m s.classes) heads f.rest)))
choice_before heads s n len f head one short =
    let quantum : ℕ → ℕ = λ m. quantum_of m s.classes in
    ap (λ es. choose (needs quantum heads es)) f.is ∙ ap (λ m. Some (sooner m (choose (needs quantum heads f.rest)))) (need_falls heads s n len f head one short)

pub choice_after : (heads : ℕ → Option ℕ) (s : Schedule) (n len : ℕ) (f : Front n s) → f.first.deficit < len
    → choice_of heads (turned len s) ≡ Some
    (last_one (need (λ m. quantum_of m s.classes) heads (once (λ m. quantum_of m s.classes) f.first)) (length f.rest)
    (choose (needs (λ m. quantum_of m s.classes) heads f.rest)))
choice_after heads s n len f short =
    let quantum : ℕ → ℕ = λ m. quantum_of m s.classes in
    ap (λ es. choose (needs quantum heads es)) (turned_granted s n len f short) ∙ choice_end quantum heads f.rest (once quantum f.first)

pub prepared_granted : (heads : ℕ → Option ℕ) (s : Schedule) (n len : ℕ) (f : Front n s) → heads n ≡ Some len → 1 ≤ quantum_of n s.classes → f.first.deficit < len
    → prepared heads (turned len s) ≡ prepared heads s
prepared_granted heads s n len f head one short =
    let quantum : ℕ → ℕ = λ m. quantum_of m s.classes in
    let last : Entry = once quantum f.first in
    let k : ℕ = need quantum heads last in
    let others : Option Choice = choose (needs quantum heads f.rest) in
    let before : choice_of heads s ≡ Some (sooner (suc k) others) = choice_before heads s n len f head one short in
    let granted_list : List Entry = active_after len s.classes s.active in
    let list : granted_list ≡ f.rest ++ last ∷ [] = turned_granted s n len f short in
    let after : choose (needs quantum heads granted_list) ≡ Some (last_one k (length f.rest) others) = choice_after heads s n len f short in
    let long : length granted_list ≡ suc (length f.rest) = ap length list ∙ length_push f.rest last ∙ add-one (length f.rest) in
    let active : brought_up quantum (choose (needs quantum heads granted_list)) granted_list ≡ brought_up quantum (choice_of heads s) s.active =
    ap (λ c. brought_up quantum c granted_list) after
    ∙ ap (brought_up quantum (Some (last_one k (length f.rest) others))) list
    ∙ sym (list_goes_on quantum f.first f.rest k others (choice_within quantum heads f.rest))
    ∙ sym (ap (λ c. brought_up quantum c s.active) before ∙ ap (brought_up quantum (Some (sooner (suc k) others))) f.is) in
    let a : turns_until (choice_of heads s) (length s.active) ≡ turns_until (Some (sooner (suc k) others)) (suc (length f.rest)) =
    ap (λ c. turns_until c (length s.active)) before ∙ ap (λ es. turns_until (Some (sooner (suc k) others)) (length es)) f.is in
    let b : turns_until (choose (needs quantum heads granted_list)) (length granted_list) ≡ turns_until (Some (last_one k (length f.rest) others)) (suc (length f.rest)) =
    ap (λ c. turns_until c (length granted_list)) after ∙ ap (turns_until (Some (last_one k (length f.rest) others))) long in
    let turns : counted (counted (s.turns + 1) + turns_until (choose (needs quantum heads granted_list)) (length granted_list))
    ≡ counted (s.turns + turns_until (choice_of heads s) (length s.active)) =
    omega (arith, a, b, turns_go_on quantum f.first f.rest k others) in
    ap (λ es. record s { active = es; turns = counted (counted (s.turns + 1) + turns_until (choose (needs quantum heads granted_list)) (length granted_list)) }) active
    ∙ ap (λ m. record s { active = brought_up quantum (choice_of heads s) s.active; turns = m }) turns

pub measure_falls : (heads : ℕ → Option ℕ) (s : Schedule) (n len : ℕ) (f : Front n s) → heads n ≡ Some len → 1 ≤ quantum_of n s.classes → f.first.deficit < len
    → sum_by (need (λ m. quantum_of m s.classes) heads) (turned len s).active < sum_by (need (λ m. quantum_of m s.classes) heads) s.active
measure_falls heads s n len f head one short =
    let g : Entry → ℕ = need (λ m. quantum_of m s.classes) heads in
    let last : Entry = after_grants (quantum_of f.first.class s.classes) 1 f.first in
    omega (arith, ap (sum_by g) (turned_granted s n len f short), ap (sum_by g) f.is, sum_by_push g f.rest last, sum_by-cons g f.first f.rest, need_falls heads s n len f head one short)

-- a class of the list has a quantum
pub has_quantum : (n : ℕ) (classes : List Class) → All (λ (c : Class). 1 ≤ c.quantum) classes → has_class n classes ≡ true → 1 ≤ quantum_of n classes
has_quantum n [] h there = absurd (false≢true there)
has_quantum n (c ∷ classes) h there = elim (cases_Bool (eqb n c.name)) [
  | inl e ↦ subst (λ k. 1 ≤ k) (sym (quantum_here n c classes e)) (All-head (λ (c : Class). 1 ≤ c.quantum) c classes h)
  | inr e ↦ subst (λ k. 1 ≤ k) (sym (quantum_behind n c classes e))
      (has_quantum n classes (All-tail (λ (c : Class). 1 ≤ c.quantum) c classes h) (sym (ap (λ t. t || has_class n classes) e) ∙ there))
]

pub front_quantum : (s : Schedule) (n : ℕ) (f : Front n s) → IsLawful s → 1 ≤ quantum_of n s.classes
front_quantum s n f law =
    let all : All (IsEntry s.max_len s.classes) (f.first ∷ f.rest) = subst (All (IsEntry s.max_len s.classes)) f.is law.entries in
    let first : IsEntry s.max_len s.classes f.first = All-head (IsEntry s.max_len s.classes) f.first f.rest all in
    has_quantum n s.classes law.quanta (ap (λ m. has_class m s.classes) (sym f.class) ∙ first.there)

-- what the front's turn answers
pub covers : (s : Schedule) (n len : ℕ) (f : Front n s) → Send ≡ turn_answer len s.active → len ≤ f.first.deficit
covers s n len f answer = elim (cases_lt f.first.deficit len) [
  | inl short ↦ let other : turn_answer len s.active ≡ Granted = ap (turn_answer len) f.is ∙ ap (λ (t : Bool). if t then Send else Granted) (lt-leb len f.first.deficit short) in cc
  | inr long ↦ long
]

pub falls_short : (s : Schedule) (n len : ℕ) (f : Front n s) → Granted ≡ turn_answer len s.active → f.first.deficit < len
falls_short s n len f answer = elim (cases_lt f.first.deficit len) [
  | inl short ↦ short
  | inr long ↦ let other : turn_answer len s.active ≡ Send = ap (turn_answer len) f.is ∙ ap (λ (t : Bool). if t then Send else Granted) (le-leb len f.first.deficit long) in cc
]

pub nothing_shown : (o : Option ℕ) → ((x : ℕ) → o ≡ Some x → ⊥) → o ≡ None
nothing_shown None no_value = refl
nothing_shown (Some x) no_value = absurd (no_value x refl)

-- the ends of a take
pub need_at : (heads : ℕ → Option ℕ) (s : Schedule) (n : ℕ) (f : Front n s) (h : Option ℕ) → heads n ≡ h
    → ((len : ℕ) → h ≡ Some len → len ≤ f.first.deficit) → need (λ m. quantum_of m s.classes) heads f.first ≡ 0
unfolding grants_for
need_at heads s n f None e covered = ap (grants_for (quantum_of f.first.class s.classes) f.first.deficit) (ap heads f.class ∙ e)
need_at heads s n f (Some len) e covered =
    ap (grants_for (quantum_of f.first.class s.classes) f.first.deficit) (ap heads f.class ∙ e) ∙ need_none (quantum_of f.first.class s.classes) f.first.deficit len (covered len refl)

pub come_to : (heads : ℕ → Option ℕ) (old s : Schedule) (n : ℕ) (f : Front n s) (h : Option ℕ) → heads n ≡ h → ((len : ℕ) → h ≡ Some len → len ≤ f.first.deficit)
    → IsLawful s → prepared heads s ≡ prepared heads old → prepared heads old ≡ s
come_to heads old s n f h e covered law same = sym same ∙ prepared_ready heads s n f law (need_at heads s n f h e covered)

pub met_at : (heads : ℕ → Option ℕ) (old s : Schedule) (n : ℕ) (f : Front n s) (h : Option ℕ) → heads n ≡ h → prepared heads old ≡ s
    → ◌≡◌ {A = Option Met} (Some (record { class = n; head = h })) (met heads old)
met_at heads old s n f h e ready = sym (
    ap (λ v. met_in heads v.active) ready ∙ ap (met_in heads) f.is
    ∙ ap (λ m. Some (record { class = m; head = heads m })) f.class ∙ ap (λ x. Some (record { class = n; head = x })) e
    )

pub served_nothing : (heads : ℕ → Option ℕ) (old s : Schedule) (n : ℕ) (f : Front n s) → heads n ≡ None → prepared heads old ≡ s → s ≡ served heads old
served_nothing heads old s n f e ready = sym (
    ap (λ v. sent_in heads v.active v) ready ∙ ap (λ es. sent_in heads es s) f.is ∙ ap (λ h. sent_by h f.first f.rest s) (ap heads f.class ∙ e)
    )

pub served_head : (heads : ℕ → Option ℕ) (old s : Schedule) (n len : ℕ) (f : Front n s) → heads n ≡ Some len → len ≤ f.first.deficit → prepared heads old ≡ s → turned len s ≡ served heads old
served_head heads old s n len f e long ready =
    let list : active_after len s.classes s.active ≡ record f.first { deficit = f.first.deficit - len } ∷ f.rest =
    ap (active_after len s.classes) f.is
    ∙ ap (λ (t : Bool). if t then record f.first { deficit = f.first.deficit - len } ∷ f.rest else f.rest
    ++ after_grants (quantum_of f.first.class s.classes) 1 f.first ∷ []) (le-leb len f.first.deficit long) in
    ap (λ es. record s { active = es; turns = counted (s.turns + 1) }) list
    ∙ sym (ap (λ v. sent_in heads v.active v) ready ∙ ap (λ es. sent_in heads es s) f.is ∙ ap (λ h. sent_by h f.first f.rest s) (ap heads f.class ∙ e))

nobody : (es : List Entry) → None ≡ slice_get (map (λ (e : Entry). e.class) es) 0 → es ≡ []
nobody [] e = refl
nobody (x ∷ es) e = cc

pub empty_front : (s : Schedule) → None ≡ front_of s → s.active ≡ []
empty_front s e = nobody s.active e

pub met_nobody : (heads : ℕ → Option ℕ) (old s : Schedule) → s.active ≡ [] → prepared heads old ≡ s → ◌≡◌ {A = Option Met} None (met heads old)
met_nobody heads old s none ready = sym (ap (λ v. met_in heads v.active) ready ∙ ap (met_in heads) none)

pub served_nobody : (heads : ℕ → Option ℕ) (old s : Schedule) → s.active ≡ [] → prepared heads old ≡ s → s ≡ served heads old
served_nobody heads old s none ready = sym (ap (λ v. sent_in heads v.active v) ready ∙ ap (λ es. sent_in heads es s) none)

pub named_after : (bound len : ℕ) (s : Schedule) (n : ℕ) (f : Front n s) → f.first.deficit < len → All (λ (e : Entry). e.class < bound) s.active
    → All (λ (e : Entry). e.class < bound) (turned len s).active
named_after bound len s n f short named =
    let P : Entry → Type 0 = λ e. e.class < bound in
    let all : All P (f.first ∷ f.rest) = subst (All P) f.is named in
    subst (All P) (sym (turned_granted s n len f short))
    (All-push P f.rest (after_grants (quantum_of f.first.class s.classes) 1 f.first) (All-tail P f.first f.rest all)
    (All-head P f.first f.rest all))

pub front_named : (bound : ℕ) (s : Schedule) (n : ℕ) (f : Front n s) → All (λ (e : Entry). e.class < bound) s.active → n < bound
front_named bound s n f named =
    let P : Entry → Type 0 = λ e. e.class < bound in
    subst (λ m. m < bound) f.class (All-head P f.first f.rest (subst (All P) f.is named))
