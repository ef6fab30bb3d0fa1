-- Changes of a drr's schedule that grant nothing and send nothing: what they leave of deficits and of the order of two classes.
use Rattle.std.proofs.Common.{◌≡◌, ℕ, ◌+◌, ◌-◌, min, Bool, true, false, eqb, ◌||◌, not, cond, List, [], ◌∷◌, ◌++◌, map, refl, sym, ap, ◌∙◌, inl, inr, Option, Some, None, arith}
use Rattle.std.specs.Prelude.{◌==◌, slice_get, if◌then◌else◌}
use Rattle.std.specs.List.{All}
use Rattle.std.specs.Option.{option_map_or}
use Rattle.std.proofs.lemmas.Bool.{cases_Bool, eqb-true, false≢true, or_from, or_parts, cond-true, cond-false}
use Rattle.std.proofs.lemmas.List.Elements.{All-head, All-tail}
use Rattle.q_drr.specs.Schedule.{Class, Entry, Schedule, has_class, is_active, quantum_of, deficit_of, asleep, woken, cut, with_quantum, IsEntry, IsLawful}
use Rattle.q_drr.specs.Stretch.{stands_first}
use Rattle.q_drr.proofs.LookupLemmas.{quantum_here, quantum_behind, deficit_here, deficit_behind}
use Rattle.q_drr.proofs.NameLemmas.{eqb_swap}
use Rattle.q_drr.proofs.KeyLemmas.{others, find_push, find_others, has_others}
use Rattle.q_drr.proofs.ChangeLemmas.{quantum_set}
use Rattle.q_drr.proofs.StretchLemmas.{deficit_last}
use Rattle.q_model.specs.Work.{settled_class}

abbrev name_of : Entry → ℕ
name_of e = e.class

-- classes that are active before and after, with one quantum, keep their deficits and their order, and one that wakes gets a
-- quantum and stands behind those that are active before and after
pub record SameTurns (s t : Schedule) : Type 0 where
  pub deficit : (c : ℕ) → is_active c s.active ≡ true → is_active c t.active ≡ true → quantum_of c t.classes ≡ quantum_of c s.classes → deficit_of c t.active ≡ deficit_of c s.active
  pub order : (i j : ℕ) → is_active i s.active ≡ true → is_active j s.active ≡ true → is_active i t.active ≡ true → is_active j t.active ≡ true
      → stands_first i j t.active ≡ stands_first i j s.active
  pub wakes : (c : ℕ) → is_active c s.active ≡ false → is_active c t.active ≡ true → deficit_of c t.active ≡ quantum_of c t.classes
  pub behind : (i j : ℕ) → is_active i s.active ≡ true → is_active j s.active ≡ false → stands_first j i t.active ≡ false

-- an absent class stands before none
pub absent-behind : (i j : ℕ) (es : List Entry) → is_active j es ≡ false → stands_first j i es ≡ false
absent-behind i j [] absent = refl
absent-behind i j (e ∷ es) absent =
    let parts = or_parts (eqb j e.class) (is_active j es) absent in
    ap (λ (t : Bool). if t then true else (if eqb i e.class then false else stands_first j i es)) parts.0
    ∙ elim (cases_Bool (eqb i e.class)) [
      | inl here ↦ ap (λ (t : Bool). if t then false else stands_first j i es) here
      | inr there ↦ ap (λ (t : Bool). if t then false else stands_first j i es) there ∙ absent-behind i j es parts.1
    ]

-- where no class wakes
still-asleep : (s t : Schedule) → ((c : ℕ) → is_active c t.active ≡ true → is_active c s.active ≡ true) → (j : ℕ) → is_active j s.active ≡ false → is_active j t.active ≡ false
still-asleep s t were j before = elim (cases_Bool (is_active j t.active)) [
  | inl after ↦ absurd (false≢true (sym before ∙ were j after))
  | inr asleep ↦ asleep
]

none-wakes : (s t : Schedule) → ((c : ℕ) → is_active c t.active ≡ true → is_active c s.active ≡ true) → (c : ℕ) → is_active c s.active ≡ false → is_active c t.active ≡ true
    → deficit_of c t.active ≡ quantum_of c t.classes
none-wakes s t were c before after = absurd (false≢true (sym before ∙ were c after))

pub same-all : (s t : Schedule) → t.active ≡ s.active → SameTurns s t
same-all s t e = record {
  deficit = λ c a b q. ap (deficit_of c) e;
  order = λ i j a b c d. ap (stands_first i j) e;
  wakes = none-wakes s t (λ c after. ap (is_active c) (sym e) ∙ after);
  behind = λ i j there absent. absent-behind i j t.active (still-asleep s t (λ c after. ap (is_active c) (sym e) ∙ after) j absent);
}

-- ---- one that falls asleep

module _ (m : ℕ) where
  gone-itself : (es : List Entry) → is_active m (others name_of m es) ≡ false
  gone-itself [] = refl
  gone-itself (e ∷ es) = elim (cases_Bool (eqb m e.class)) [
    | inl same ↦ ap (λ t. is_active m (cond (not t) (e ∷ others name_of m es) (others name_of m es))) same ∙ gone-itself es
    | inr apart ↦ ap (λ t. is_active m (cond (not t) (e ∷ others name_of m es) (others name_of m es))) apart ∙ or_from (eqb m e.class) (is_active m (others name_of m es)) apart (gone-itself es)
  ]

  -- one that is still active has another name
  other-name : (c : ℕ) (es : List Entry) → is_active c (others name_of m es) ≡ true → eqb m c ≡ false
  other-name c es there = elim (cases_Bool (eqb m c)) [
    | inl same ↦ absurd (false≢true (sym (gone-itself es) ∙ ap (λ k. is_active k (others name_of m es)) (eqb-true m c same) ∙ there))
    | inr apart ↦ apart
  ]

  order-others : (i j : ℕ) (es : List Entry) → eqb m i ≡ false → eqb m j ≡ false → stands_first i j (others name_of m es) ≡ stands_first i j es
  order-others i j [] not_i not_j = refl
  order-others i j (e ∷ es) not_i not_j = elim (cases_Bool (eqb m e.class)) [
    | inl same ↦
        let here : m ≡ e.class = eqb-true m e.class same in
        let far_i : eqb i e.class ≡ false = ap (eqb i) (sym here) ∙ eqb_swap m i not_i in
        let far_j : eqb j e.class ≡ false = ap (eqb j) (sym here) ∙ eqb_swap m j not_j in
        ap (λ t. stands_first i j (cond (not t) (e ∷ others name_of m es) (others name_of m es))) same ∙ order-others i j es not_i not_j
        ∙ sym (ap (λ (t : Bool). if t then true else (if eqb j e.class then false else stands_first i j es)) far_i ∙ ap (λ (t : Bool). if t then false else stands_first i j es) far_j)
    | inr apart ↦ ap (λ t. stands_first i j (cond (not t) (e ∷ others name_of m es) (others name_of m es))) apart
        ∙ ap (λ (t : Bool). if eqb i e.class then true else (if eqb j e.class then false else t)) (order-others i j es not_i not_j)
  ]

  deficit-others : (c : ℕ) (es : List Entry) → eqb m c ≡ false → deficit_of c (others name_of m es) ≡ deficit_of c es
  deficit-others c es apart = ap (λ (o : Option Entry). option_map_or (λ (e : Entry). e.deficit) o 0) (find_others name_of c m es apart)

  pub same-fewer : (s t : Schedule) → t.active ≡ others name_of m s.active → SameTurns s t
  same-fewer s t e = record {
    deficit = λ c before after q. ap (deficit_of c) e ∙ deficit-others c s.active (other-name c s.active (ap (is_active c) (sym e) ∙ after));
    order = λ i j a b c d. ap (stands_first i j) e
        ∙ order-others i j s.active (other-name i s.active (ap (is_active i) (sym e) ∙ c)) (other-name j s.active (ap (is_active j) (sym e) ∙ d));
    wakes = none-wakes s t were;
    behind = λ i j there absent. absent-behind i j t.active (still-asleep s t were j absent);
  }
    where
      were : (c : ℕ) → is_active c t.active ≡ true → is_active c s.active ≡ true
      were c after =
          let there : is_active c (others name_of m s.active) ≡ true = ap (is_active c) (sym e) ∙ after in
          sym (has_others name_of c m s.active (other-name c s.active there)) ∙ there

-- ---- one that wakes

order-push : (i j : ℕ) (x : Entry) (es : List Entry) → is_active i es ≡ true → is_active j es ≡ true → stands_first i j (es ++ x ∷ []) ≡ stands_first i j es
order-push i j x [] a b = absurd (false≢true a)
order-push i j x (e ∷ es) a b = elim (cases_Bool (eqb i e.class)) [
  | inl here ↦ ap (λ (t : Bool). if t then true else (if eqb j e.class then false else stands_first i j (es ++ x ∷ []))) here
      ∙ sym (ap (λ (t : Bool). if t then true else (if eqb j e.class then false else stands_first i j es)) here)
  | inr there ↦ elim (cases_Bool (eqb j e.class)) [
    | inl here ↦ ap (λ (t : Bool). if eqb i e.class then true else (if t then false else stands_first i j (es ++ x ∷ []))) here
        ∙ sym (ap (λ (t : Bool). if eqb i e.class then true else (if t then false else stands_first i j es)) here)
    | inr far ↦ ap (λ (t : Bool). if eqb i e.class then true else (if eqb j e.class then false else t))
        (order-push i j x es (sym (ap (λ t. t || is_active i es) there) ∙ a) (sym (ap (λ t. t || is_active j es) far) ∙ b))
  ]
]

absent-push : (c : ℕ) (x : Entry) (es : List Entry) → is_active c es ≡ false → eqb c x.class ≡ false → is_active c (es ++ x ∷ []) ≡ false
absent-push c x [] absent apart = or_from (eqb c x.class) false apart refl
absent-push c x (e ∷ es) absent apart =
    let parts = or_parts (eqb c e.class) (is_active c es) absent in
    or_from (eqb c e.class) (is_active c (es ++ x ∷ [])) parts.0 (absent-push c x es parts.1 apart)

-- one that wasn't there stands behind, where another or it itself goes to the end
pub push-behind : (i j : ℕ) (x : Entry) (es : List Entry) → is_active i es ≡ true → is_active j es ≡ false → stands_first j i (es ++ x ∷ []) ≡ false
push-behind i j x [] there absent = absurd (false≢true there)
push-behind i j x (e ∷ es) there absent =
    let parts = or_parts (eqb j e.class) (is_active j es) absent in
    ap (λ (t : Bool). if t then true else (if eqb i e.class then false else stands_first j i (es ++ x ∷ []))) parts.0
    ∙ elim (cases_Bool (eqb i e.class)) [
      | inl here ↦ ap (λ (t : Bool). if t then false else stands_first j i (es ++ x ∷ [])) here
      | inr far ↦ ap (λ (t : Bool). if t then false else stands_first j i (es ++ x ∷ [])) far ∙ push-behind i j x es (sym (ap (λ t. t || is_active i es) far) ∙ there) parts.1
    ]

same-more : (x : Entry) (s t : Schedule) → t.active ≡ s.active ++ x ∷ [] → x.deficit ≡ quantum_of x.class t.classes → SameTurns s t
same-more x s t e quantum = record {
  deficit = λ c before after q. ap (deficit_of c) e ∙ ap (λ (o : Option Entry). option_map_or (λ (e : Entry). e.deficit) o 0) (find_push name_of c x s.active before);
  order = λ i j a b c d. ap (stands_first i j) e ∙ order-push i j x s.active a b;
  wakes = λ c before after. elim (cases_Bool (eqb c x.class)) [
    | inl same ↦ ap (deficit_of c) e ∙ deficit_last c x s.active before same ∙ quantum ∙ ap (λ k. quantum_of k t.classes) (sym (eqb-true c x.class same))
    | inr apart ↦ absurd (false≢true (sym (absent-push c x s.active before apart) ∙ ap (is_active c) (sym e) ∙ after))
  ];
  behind = λ i j there absent. ap (stands_first j i) e ∙ push-behind i j x s.active there absent;
}

same-woken : (m : ℕ) (s : Schedule) → SameTurns s (woken m s)
same-woken m s = by (is_active m s.active)
  where
    by : (t : Bool) → SameTurns s (if t then s else record s { active = s.active ++ record { class = m; deficit = quantum_of m s.classes; granted = 0 } ∷ [] })
    by true = same-all s s refl
    by false =
        same-more (record { class = m; deficit = quantum_of m s.classes; granted = 0 }) s
        (record s { active = s.active ++ record { class = m; deficit = quantum_of m s.classes; granted = 0 } ∷ [] }) refl refl

pub same-settled : (i : ℕ) (emptied : Bool) (s : Schedule) → SameTurns s (settled_class i emptied s)
same-settled i emptied s = by (slice_get s.classes i)
  where
    settle : (c : Class) (t : Bool) → SameTurns s (if t then asleep c.name s else woken c.name s)
    settle c true = same-fewer c.name s (asleep c.name s) refl
    settle c false = same-woken c.name s

    by : (o : Option Class) → SameTurns s (option_map_or (λ (c : Class). if emptied then asleep c.name s else woken c.name s) o s)
    by None = same-all s s refl
    by (Some c) = settle c emptied

-- ---- another quantum

module _ (n q max_len : ℕ) where
  cut-name : (e : Entry) → (cut n q max_len e).class ≡ e.class
  cut-name e = elim (n == e.class) as (λ (t : Bool). (if t then record e { deficit = min e.deficit (q + max_len - 1) } else e).class ≡ e.class) [ true ↦ refl | false ↦ refl ]

  order-cut : (i j : ℕ) (es : List Entry) → stands_first i j (map (cut n q max_len) es) ≡ stands_first i j es
  order-cut i j [] = refl
  order-cut i j (e ∷ es) =
      ap (λ k. if eqb i k then true else (if eqb j k then false else stands_first i j (map (cut n q max_len) es))) (cut-name e)
      ∙ ap (λ t. if eqb i e.class then true else (if eqb j e.class then false else t)) (order-cut i j es)

  active-cut : (c : ℕ) (es : List Entry) → is_active c (map (cut n q max_len) es) ≡ is_active c es
  active-cut c [] = refl
  active-cut c (e ∷ es) = ap (λ k. eqb c k || is_active c (map (cut n q max_len) es)) (cut-name e) ∙ ap (λ t. eqb c e.class || t) (active-cut c es)

  -- the new quantum of the class itself
  set-here : (cs : List Class) → has_class n cs ≡ true → quantum_of n (map (quantum_set n q) cs) ≡ q
  set-here [] there = absurd (false≢true there)
  set-here (c ∷ cs) there = elim (cases_Bool (eqb n c.name)) [
    | inl same ↦
        let is : quantum_set n q c ≡ record c { quantum = q } = cond-true (eqb n c.name) (record c { quantum = q }) c same in
        quantum_here n (quantum_set n q c) (map (quantum_set n q) cs) (ap (λ (x : Class). eqb n x.name) is ∙ same) ∙ ap (λ (x : Class). x.quantum) is
    | inr apart ↦
        let is : quantum_set n q c ≡ c = cond-false (eqb n c.name) (record c { quantum = q }) c apart in
        quantum_behind n (quantum_set n q c) (map (quantum_set n q) cs) (ap (λ (x : Class). eqb n x.name) is ∙ apart)
        ∙ set-here cs (sym (ap (λ t. t || has_class n cs) apart) ∙ there)
  ]

  deficit-cut : (classes : List Class) (c : ℕ) (es : List Entry) → All (IsEntry max_len classes) es → (eqb n c ≡ true → has_class n classes ≡ true → q ≡ quantum_of n classes)
      → deficit_of c (map (cut n q max_len) es) ≡ deficit_of c es
  deficit-cut classes c [] h same = refl
  deficit-cut classes c (e ∷ es) h same = elim (cases_Bool (eqb c e.class)) [
    | inl here ↦
        let first : IsEntry max_len classes e = All-head (IsEntry max_len classes) e es h in
        deficit_here c (cut n q max_len e) (map (cut n q max_len) es) (ap (eqb c) (cut-name e) ∙ here) ∙ left first here ∙ sym (deficit_here c e es here)
    | inr there ↦ deficit_behind c (cut n q max_len e) (map (cut n q max_len) es) (ap (eqb c) (cut-name e) ∙ there)
        ∙ deficit-cut classes c es (All-tail (IsEntry max_len classes) e es h) same ∙ sym (deficit_behind c e es there)
  ]
    where
      left : IsEntry max_len classes e → eqb c e.class ≡ true → (cut n q max_len e).deficit ≡ e.deficit
      left first here = elim (cases_Bool (eqb n e.class)) [
        | inl own ↦
            let name : n ≡ e.class = eqb-true n e.class own in
            let equal : eqb n c ≡ true = ap (eqb n) (eqb-true c e.class here) ∙ own in
            let quantum : q ≡ quantum_of e.class classes = same equal (ap (λ k. has_class k classes) name ∙ first.there) ∙ ap (λ k. quantum_of k classes) name in
            ap (λ (x : Entry). x.deficit) (cond-true (eqb n e.class) (record e { deficit = min e.deficit (q + max_len - 1) }) e own) ∙ (let b = first.bounded in omega (arith, b, quantum))
        | inr other ↦ ap (λ (x : Entry). x.deficit) (cond-false (eqb n e.class) (record e { deficit = min e.deficit (q + max_len - 1) }) e other)
      ]

pub same-quantum : (n q : ℕ) (s : Schedule) → IsLawful s → SameTurns s (with_quantum n q s)
same-quantum n q s law = record {
  deficit = λ c before after quantum.
      deficit-cut n q s.max_len s.classes c s.active law.entries
      (λ equal there. sym (set-here n q s.max_len s.classes there) ∙ ap (λ k. quantum_of k (with_quantum n q s).classes) (eqb-true n c equal)
      ∙ quantum ∙ ap (λ k. quantum_of k s.classes) (sym (eqb-true n c equal)));
  order = λ i j a b c d. order-cut n q s.max_len i j s.active;
  wakes = none-wakes s (with_quantum n q s) (λ c after. sym (active-cut n q s.max_len c s.active) ∙ after);
  behind = λ i j there absent. absent-behind i j (with_quantum n q s).active (active-cut n q s.max_len j s.active ∙ absent);
}
