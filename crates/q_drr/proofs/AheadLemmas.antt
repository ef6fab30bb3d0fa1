-- What the other classes may send of their deficits before a packet of one of them: summed along the active list, and over the classes.
use Rattle.std.proofs.Common.{◌≡◌, ℕ, ◌+◌, ◌-◌, Bool, true, false, eqb, ◌||◌, List, [], ◌∷◌, ◌++◌, refl, sym, ap, ◌∙◌, inl, inr, arith, eq-eqb}
use Rattle.std.specs.Prelude.{All, ◌==◌, sum_by, if◌then◌else◌}
use Rattle.std.proofs.lemmas.Bool.{cases_Bool, cond-false, cond-true, eqb-true, false≢true, or_parts, true≢false}
use Rattle.std.proofs.lemmas.List.Elements.{All-cons, All-head, All-nil, All-tail, All-weaker}
use Rattle.std.proofs.lemmas.List.Sums.{sum_by-cons}
use Rattle.q_drr.specs.Schedule.{Class, Entry, Schedule, deficit_of, has_class, is_active, quantum_of, woken}
use Rattle.q_drr.specs.Stretch.{stands_first}
use Rattle.q_drr.specs.Waiting.{deficit_ahead, deficits_ahead, left_along, left_behind}
use Rattle.q_drr.proofs.DifferLemmas.{ClassesDiffer, EntriesDiffer}
use Rattle.q_drr.proofs.LookupLemmas.{deficit_behind, deficit_here, quantum_behind, quantum_here}
use Rattle.q_drr.proofs.NameLemmas.{eqb_swap}

-- ---- sums over the classes

sum-same : (f g : Class → ℕ) → ((c : Class) → f c ≡ g c) → (cs : List Class) → sum_by f cs ≡ sum_by g cs
sum-same f g same [] = refl
sum-same f g same (c ∷ cs) = omega (arith, sum_by-cons f c cs, sum_by-cons g c cs, same c, sum-same f g same cs)

sum-none : (f : Class → ℕ) → ((c : Class) → f c ≡ 0) → (cs : List Class) → sum_by f cs ≡ 0
sum-none f none [] = refl
sum-none f none (c ∷ cs) = omega (arith, sum_by-cons f c cs, none c, sum-none f none cs)

-- where two sums differ for one name alone
module _ (n x : ℕ) (f g : Class → ℕ) (others : (c : Class) → eqb n c.name ≡ false → f c ≡ g c) where
  sum-absent : (cs : List Class) → has_class n cs ≡ false → sum_by f cs ≡ sum_by g cs
  sum-absent [] none = refl
  sum-absent (c ∷ cs) none =
      let apart = or_parts (eqb n c.name) (has_class n cs) none in
      omega (arith, sum_by-cons f c cs, sum_by-cons g c cs, others c apart.0, sum-absent cs apart.1)

  abbrev IsMore : Class → Type 0
  IsMore c = eqb n c.name ≡ true → f c ≡ x + g c

  sum-there : (cs : List Class) → ClassesDiffer cs → All IsMore cs → has_class n cs ≡ true → sum_by f cs ≡ x + sum_by g cs
  sum-there [] differ own has = absurd (false≢true has)
  sum-there (c ∷ cs) differ own has = elim (cases_Bool (eqb n c.name)) [
    | inl here ↦
        let name : c.name ≡ n = sym (eqb-true n c.name here) in
        let rest = sum-absent cs (ap (λ m. has_class m cs) (sym name) ∙ differ.0) in
        let more = All-head IsMore c cs own here in
        omega (arith, sum_by-cons f c cs, sum_by-cons g c cs, more, rest)
    | inr there ↦
        let rest = sum-there cs differ.1 (All-tail IsMore c cs own) (sym (ap (λ t. t || has_class n cs) there) ∙ has) in
        omega (arith, sum_by-cons f c cs, sum_by-cons g c cs, others c there, rest)
  ]

-- ---- look-ups

absent-all : (n : ℕ) (cs : List Class) → has_class n cs ≡ false → All (λ (c : Class). eqb n c.name ≡ false) cs
absent-all n [] none = All-nil (λ (c : Class). eqb n c.name ≡ false)
absent-all n (c ∷ cs) none =
    let apart = or_parts (eqb n c.name) (has_class n cs) none in
    All-cons (λ (k : Class). eqb n k.name ≡ false) c cs apart.0 (absent-all n cs apart.1)

abbrev HasQuantum : ℕ → List Class → Class → Type 0
HasQuantum n classes c = eqb n c.name ≡ true → quantum_of n classes ≡ c.quantum

quantum-at : (n : ℕ) (cs : List Class) → ClassesDiffer cs → All (HasQuantum n cs) cs
quantum-at n [] differ = All-nil (HasQuantum n [])
quantum-at n (c ∷ cs) differ = elim (cases_Bool (eqb n c.name)) [
  | inl here ↦
      let name : c.name ≡ n = sym (eqb-true n c.name here) in
      All-cons (HasQuantum n (c ∷ cs)) c cs (quantum_here n c cs)
      (All-weaker (λ (k : Class). eqb n k.name ≡ false) (HasQuantum n (c ∷ cs)) (λ k apart is. absurd (true≢false (sym is ∙ apart))) cs
      (absent-all n cs (ap (λ m. has_class m cs) (sym name) ∙ differ.0)))
  | inr there ↦
      All-cons (HasQuantum n (c ∷ cs)) c cs (quantum_here n c cs)
      (All-weaker (HasQuantum n cs) (HasQuantum n (c ∷ cs)) (λ k own is. quantum_behind n c cs there ∙ own is) cs (quantum-at n cs differ.1))
]

deficit-absent : (n : ℕ) (active : List Entry) → is_active n active ≡ false → deficit_of n active ≡ 0
deficit-absent n [] none = refl
deficit-absent n (e ∷ active) none =
    let apart = or_parts (eqb n e.class) (is_active n active) none in
    deficit_behind n e active apart.0 ∙ deficit-absent n active apart.1

-- ---- along the active list

module _ (i : ℕ) (classes : List Class) (differ : ClassesDiffer classes) where
  abbrev AreThere : List Entry → Type 0
  AreThere active = All (λ (e : Entry). has_class e.class classes ≡ true) active

  -- what a class behind class i may send
  abbrev above : List Entry → Class → ℕ
  above active c = if i == c.name then 0 else deficit_of c.name active - c.quantum

  behind-sum : (active : List Entry) → EntriesDiffer active → AreThere active → is_active i active ≡ false
      → sum_by (above active) classes ≡ left_behind classes active
  behind-sum [] apart there absent = sum-none (above []) (λ c. none (i == c.name) c.quantum) classes
    where
      none : (t : Bool) (q : ℕ) → (if t then 0 else 0 - q) ≡ 0
      none true q = refl
      none false q = omega arith
  behind-sum (e ∷ active) apart there absent =
      let parts = or_parts (eqb i e.class) (is_active i active) absent in
      let rest = behind-sum active apart.1 (All-tail (λ (k : Entry). has_class k.class classes ≡ true) e active there) parts.1 in
      let first = sum_by-cons (λ (k : Entry). k.deficit - quantum_of k.class classes) e active in
      let all = sum-there e.class (e.deficit - quantum_of e.class classes) (above (e ∷ active)) (above active)
      (λ c far. ap (λ d. if i == c.name then 0 else d - c.quantum) (deficit_behind c.name e active (eqb_swap e.class c.name far))) classes differ
      (All-weaker (HasQuantum e.class classes) (IsMore e.class (e.deficit - quantum_of e.class classes) (above (e ∷ active)) (above active)
      (λ c far. ap (λ d. if i == c.name then 0 else d - c.quantum) (deficit_behind c.name e active (eqb_swap e.class c.name far))))
      (λ c quantum here. own c (sym (eqb-true e.class c.name here)) (quantum here) parts.0) classes (quantum-at e.class classes differ))
      (All-head (λ (k : Entry). has_class k.class classes ≡ true) e active there) in
      omega (arith, all, rest, first)
    where
      own : (c : Class) → c.name ≡ e.class → quantum_of e.class classes ≡ c.quantum → eqb i e.class ≡ false
          → above (e ∷ active) c ≡ (e.deficit - quantum_of e.class classes) + above active c
      own c name quantum far =
          let other : (i == c.name) ≡ false = ap (λ m. eqb i m) name ∙ far in
          let mine = deficit_here c.name e active (eq-eqb c.name e.class name) in
          let gone = deficit-absent c.name active (ap (λ m. is_active m active) name ∙ apart.0) in
          let whole : above (e ∷ active) c ≡ deficit_of c.name (e ∷ active) - c.quantum =
          ap (λ t. if t then 0 else deficit_of c.name (e ∷ active) - c.quantum) other in
          let least : above active c ≡ deficit_of c.name active - c.quantum = ap (λ t. if t then 0 else deficit_of c.name active - c.quantum) other in
          omega (arith, whole, least, mine, gone, quantum)

  abbrev ahead : List Entry → Class → ℕ
  ahead active c = if i == c.name then 0 else deficit_ahead i active c

  pub along-sum : (active : List Entry) → EntriesDiffer active → AreThere active → deficits_ahead i active classes ≡ left_along i classes active
  along-sum [] apart there = sum-none (ahead []) (λ c. none (i == c.name) c.quantum) classes
    where
      none : (t : Bool) (q : ℕ) → (if t then 0 else 0 - q) ≡ 0
      none true q = refl
      none false q = omega arith
  along-sum (e ∷ active) apart there = elim (cases_Bool (eqb i e.class)) [
    | inl here ↦
        sum-same (ahead (e ∷ active)) (above active) (at-own here) classes
        ∙ behind-sum active apart.1 (All-tail (λ (k : Entry). has_class k.class classes ≡ true) e active there)
        (ap (λ m. is_active m active) (eqb-true i e.class here) ∙ apart.0)
        ∙ sym (cond-true (eqb i e.class) (left_behind classes active) (e.deficit + left_along i classes active) here)
    | inr far ↦
        sum-there e.class e.deficit (ahead (e ∷ active)) (ahead active) (before far) classes differ
        (All-weaker (HasQuantum e.class classes) (IsMore e.class e.deficit (ahead (e ∷ active)) (ahead active) (before far))
        (λ c quantum is. own far c (sym (eqb-true e.class c.name is))) classes (quantum-at e.class classes differ))
        (All-head (λ (k : Entry). has_class k.class classes ≡ true) e active there)
        ∙ ap (λ n. e.deficit + n) (along-sum active apart.1 (All-tail (λ (k : Entry). has_class k.class classes ≡ true) e active there))
        ∙ sym (cond-false (eqb i e.class) (left_behind classes active) (e.deficit + left_along i classes active) far)
  ]
    where
      -- class i is in front
      at-own : eqb i e.class ≡ true → (c : Class) → ahead (e ∷ active) c ≡ above active c
      at-own here c = elim (cases_Bool (i == c.name)) [
        | inl same ↦ ap (λ t. if t then 0 else deficit_ahead i (e ∷ active) c) same ∙ sym (ap (λ t. if t then 0 else deficit_of c.name active - c.quantum) same)
        | inr other ↦
            let far : eqb c.name e.class ≡ false = ap (λ m. eqb c.name m) (sym (eqb-true i e.class here)) ∙ eqb_swap i c.name other in
            let order : stands_first c.name i (e ∷ active) ≡ false =
            cond-false (c.name == e.class) true (if i == e.class then false else stands_first c.name i active) far
            ∙ cond-true (i == e.class) false (stands_first c.name i active) here in
            ap (λ t. if t then 0 else deficit_ahead i (e ∷ active) c) other
            ∙ ap (λ t. if t then deficit_of c.name (e ∷ active) else deficit_of c.name (e ∷ active) - c.quantum) order
            ∙ ap (λ d. d - c.quantum) (deficit_behind c.name e active far)
            ∙ sym (ap (λ t. if t then 0 else deficit_of c.name active - c.quantum) other)
      ]

      -- another one is
      before : eqb i e.class ≡ false → (c : Class) → eqb e.class c.name ≡ false → ahead (e ∷ active) c ≡ ahead active c
      before far c other =
          let apart_from : eqb c.name e.class ≡ false = eqb_swap e.class c.name other in
          let order : stands_first c.name i (e ∷ active) ≡ stands_first c.name i active =
          cond-false (c.name == e.class) true (if i == e.class then false else stands_first c.name i active) apart_from
          ∙ cond-false (i == e.class) false (stands_first c.name i active) far in
          ap (λ t. if i == c.name then 0 else (if t then deficit_of c.name (e ∷ active) else deficit_of c.name (e ∷ active) - c.quantum)) order
          ∙ ap (λ d. if i == c.name then 0 else (if stands_first c.name i active then d else d - c.quantum)) (deficit_behind c.name e active apart_from)

      own : eqb i e.class ≡ false → (c : Class) → c.name ≡ e.class → ahead (e ∷ active) c ≡ e.deficit + ahead active c
      own far c name =
          let other : (i == c.name) ≡ false = ap (λ m. eqb i m) name ∙ far in
          let order : stands_first c.name i (e ∷ active) ≡ true =
          cond-true (c.name == e.class) true (if i == e.class then false else stands_first c.name i active) (eq-eqb c.name e.class name) in
          let gone = deficit-absent c.name active (ap (λ m. is_active m active) name ∙ apart.0) in
          let whole : ahead (e ∷ active) c ≡ e.deficit =
          ap (λ t. if t then 0 else deficit_ahead i (e ∷ active) c) other
          ∙ ap (λ t. if t then deficit_of c.name (e ∷ active) else deficit_of c.name (e ∷ active) - c.quantum) order
          ∙ deficit_here c.name e active (eq-eqb c.name e.class name) in
          let none : ahead active c ≡ 0 =
          ap (λ t. if t then 0 else deficit_ahead i active c) other
          ∙ ap (λ d. if stands_first c.name i active then d else d - c.quantum) gone ∙ nothing (stands_first c.name i active) c.quantum in
          omega (arith, whole, none)
        where
          nothing : (t : Bool) (q : ℕ) → (if t then 0 else 0 - q) ≡ 0
          nothing true q = refl
          nothing false q = omega arith

-- ---- a class that is woken goes to the end

module _ (i : ℕ) (last : Entry) (named : last.class ≡ i) where
  deficit-of-other : (n : ℕ) → eqb i n ≡ false → (active : List Entry) → deficit_of n (active ++ last ∷ []) ≡ deficit_of n active
  deficit-of-other n far [] = deficit_behind n last [] (ap (λ m. eqb n m) named ∙ eqb_swap i n far)
  deficit-of-other n far (e ∷ active) = elim (cases_Bool (eqb n e.class)) [
    | inl here ↦ deficit_here n e (active ++ last ∷ []) here ∙ sym (deficit_here n e active here)
    | inr there ↦
        deficit_behind n e (active ++ last ∷ []) there ∙ deficit-of-other n far active ∙ sym (deficit_behind n e active there)
  ]

  order-of-other : (n : ℕ) → eqb i n ≡ false → (active : List Entry) → stands_first n i (active ++ last ∷ []) ≡ stands_first n i active
  order-of-other n far [] =
      cond-false (n == last.class) true (if i == last.class then false else false) (ap (λ m. eqb n m) named ∙ eqb_swap i n far)
      ∙ cond-true (i == last.class) false false (eq-eqb i last.class (sym named))
  order-of-other n far (e ∷ active) =
      ap (λ t. if n == e.class then true else (if i == e.class then false else t)) (order-of-other n far active)

  pub ahead-woken : (classes : List Class) (active : List Entry) → deficits_ahead i (active ++ last ∷ []) classes ≡ deficits_ahead i active classes
  ahead-woken classes active =
      sum-same (λ (c : Class). if i == c.name then 0 else deficit_ahead i (active ++ last ∷ []) c)
      (λ (c : Class). if i == c.name then 0 else deficit_ahead i active c) same classes
    where
      same : (c : Class) → (if i == c.name then 0 else deficit_ahead i (active ++ last ∷ []) c) ≡ (if i == c.name then 0 else deficit_ahead i active c)
      same c = elim (cases_Bool (i == c.name)) [
        | inl it ↦ ap (λ t. if t then 0 else deficit_ahead i (active ++ last ∷ []) c) it ∙ sym (ap (λ t. if t then 0 else deficit_ahead i active c) it)
        | inr other ↦
            ap (λ t. if i == c.name then 0 else (if t then deficit_of c.name (active ++ last ∷ []) else deficit_of c.name (active ++ last ∷ []) - c.quantum))
            (order-of-other c.name other active)
            ∙ ap (λ d. if i == c.name then 0 else (if stands_first c.name i active then d else d - c.quantum)) (deficit-of-other c.name other active)
      ]

pub ahead-is-along : (i : ℕ) (s : Schedule) → ClassesDiffer s.classes → EntriesDiffer s.active → All (λ (e : Entry). has_class e.class s.classes ≡ true) s.active
    → deficits_ahead i (woken i s).active s.classes ≡ left_along i s.classes s.active
ahead-is-along i s differ apart there = elim (cases_Bool (is_active i s.active)) [
  | inl active ↦
      ap (λ (t : Schedule). deficits_ahead i t.active s.classes) (cond-true (is_active i s.active) s with_it active) ∙ along-sum i s.classes differ s.active apart there
  | inr asleep ↦
      ap (λ (t : Schedule). deficits_ahead i t.active s.classes) (cond-false (is_active i s.active) s with_it asleep)
      ∙ ahead-woken i (record { class = i; deficit = quantum_of i s.classes; granted = 0 }) refl s.classes s.active
      ∙ along-sum i s.classes differ s.active apart there
]
  where
    with_it : Schedule
    with_it = record s { active = s.active ++ record { class = i; deficit = quantum_of i s.classes; granted = 0 } ∷ [] }
