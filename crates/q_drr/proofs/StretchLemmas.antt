-- What one turn, and then any list of turns, does to an active class and to the order of two.
use Rattle.std.proofs.Common.{◌≡◌, ◌≢◌, ℕ, ◌+◌, ◌-◌, ◌*◌, ◌<◌, ◌≤◌, Bool, true, false, eqb, ◌||◌, List, [], ◌∷◌, ◌++◌, length, refl, sym, ap, ◌∙◌, subst, inl, inr, arith}
use Rattle.std.specs.Prelude.{◌^◌, if◌then◌else◌}
use Rattle.std.specs.List.{All}
use Rattle.std.proofs.Math.Nat.{add-mul}
use Rattle.std.proofs.lemmas.Bool.{eqb-true, ne_eqb, false≢true, or_parts, cases_Bool, le-leb, lt-leb, cases_lt}
use Rattle.std.proofs.lemmas.List.Elements.{All-head, All-tail}
use Rattle.q_drr.specs.Schedule.{Class, Entry, Schedule, quantum_of, after_grants, is_active, deficit_of, granted_of, counted, active_after, turned, IsEntry}
use Rattle.q_drr.specs.Stretch.{after_turns, grant_in, bytes_in, grants, sent, stands_first, EachSendsItsShare, GrantsAreCounted, TurnsAreCounted, AreEven, GrantsAreEven}
use Rattle.q_drr.proofs.DifferLemmas.{EntriesDiffer, entries_apart}
use Rattle.q_drr.proofs.KeyLemmas.{differ_push}
use Rattle.q_drr.proofs.LookupLemmas.{deficit_here, deficit_behind, granted_here, granted_behind}

or_exchange : (a b c : Bool) → (a || (b || c)) ≡ (b || (a || c))
or_exchange true true c = refl
or_exchange true false c = refl
or_exchange false true c = refl
or_exchange false false c = refl

active_push : (n : ℕ) (x : Entry) (es : List Entry) → is_active n (es ++ x ∷ []) ≡ (eqb n x.class || is_active n es)
active_push n x [] = refl
active_push n x (e ∷ es) = ap (λ t. eqb n e.class || t) (active_push n x es) ∙ or_exchange (eqb n e.class) (eqb n x.class) (is_active n es)

-- the deficit of a class once another, or it itself, has gone to the end
deficit_kept : (n : ℕ) (x : Entry) (es : List Entry) → is_active n es ≡ true → deficit_of n (es ++ x ∷ []) ≡ deficit_of n es
deficit_kept n x [] there = absurd (false≢true there)
deficit_kept n x (e ∷ es) there = elim (cases_Bool (eqb n e.class)) [
  | inl q ↦ deficit_here n e (es ++ x ∷ []) q ∙ sym (deficit_here n e es q)
  | inr q ↦ deficit_behind n e (es ++ x ∷ []) q ∙ deficit_kept n x es (sym (ap (λ t. t || is_active n es) q) ∙ there) ∙ sym (deficit_behind n e es q)
]

pub deficit_last : (n : ℕ) (x : Entry) (es : List Entry) → is_active n es ≡ false → eqb n x.class ≡ true → deficit_of n (es ++ x ∷ []) ≡ x.deficit
deficit_last n x [] absent same = deficit_here n x [] same
deficit_last n x (e ∷ es) absent same =
    let parts = or_parts (eqb n e.class) (is_active n es) absent in
    deficit_behind n e (es ++ x ∷ []) parts.0 ∙ deficit_last n x es parts.1 same

-- the same of the bytes granted
granted_kept : (n : ℕ) (x : Entry) (es : List Entry) → is_active n es ≡ true → granted_of n (es ++ x ∷ []) ≡ granted_of n es
granted_kept n x [] there = absurd (false≢true there)
granted_kept n x (e ∷ es) there = elim (cases_Bool (eqb n e.class)) [
  | inl q ↦ granted_here n e (es ++ x ∷ []) q ∙ sym (granted_here n e es q)
  | inr q ↦ granted_behind n e (es ++ x ∷ []) q ∙ granted_kept n x es (sym (ap (λ t. t || is_active n es) q) ∙ there) ∙ sym (granted_behind n e es q)
]

granted_last : (n : ℕ) (x : Entry) (es : List Entry) → is_active n es ≡ false → eqb n x.class ≡ true → granted_of n (es ++ x ∷ []) ≡ x.granted
granted_last n x [] absent same = granted_here n x [] same
granted_last n x (e ∷ es) absent same =
    let parts = or_parts (eqb n e.class) (is_active n es) absent in
    granted_behind n e (es ++ x ∷ []) parts.0 ∙ granted_last n x es parts.1 same

granted_in_range : (max_len : ℕ) (classes : List Class) (n : ℕ) (es : List Entry) → All (IsEntry max_len classes) es → granted_of n es < 2 ^ 64
granted_in_range max_len classes n [] h = omega arith
granted_in_range max_len classes n (e ∷ es) h = elim (cases_Bool (eqb n e.class)) [
  | inl q ↦
      let i : IsEntry max_len classes e = All-head (IsEntry max_len classes) e es h in
      omega (arith, i.in_range, granted_here n e es q)
  | inr q ↦ omega (arith, granted_in_range max_len classes n es (All-tail (IsEntry max_len classes) e es h), granted_behind n e es q)
]

-- a count to which no grant is added, and one to which grants are added twice
counted_none : (g k q : ℕ) → k ≡ 0 → g < 2 ^ 64 → g ≡ counted (g + k * q)
counted_none g k q none range = omega (arith, ap (λ k. k * q) none)

counted_twice : (g k l q : ℕ) → counted (counted (g + k * q) + l * q) ≡ counted (g + (k + l) * q)
counted_twice g k l q = omega (arith, add-mul k l q)

pub if_same : (t : Bool) → ◌≡◌ {A = ℕ} (if t then 0 else 0) 0
if_same true = refl
if_same false = refl

-- whether the class in front is granted
grant_short : (len : ℕ) (n : ℕ) (e : Entry) (es : List Entry) → e.deficit < len → grant_in n len (e ∷ es) ≡ (if eqb n e.class then 1 else 0)
grant_short len n e es short = ap (λ (t : Bool). if eqb n e.class then (if t then 0 else 1) else 0) (lt-leb len e.deficit short)

grant_covered : (len : ℕ) (n : ℕ) (e : Entry) (es : List Entry) → len ≤ e.deficit → grant_in n len (e ∷ es) ≡ 0
grant_covered len n e es covers = ap (λ (t : Bool). if eqb n e.class then (if t then 0 else 1) else 0) (le-leb len e.deficit covers) ∙ if_same (eqb n e.class)

-- one turn
module _ (len : ℕ) (classes : List Class) (e : Entry) (es : List Entry) where
  abbrev pub last : Entry
  last = after_grants (quantum_of e.class classes) 1 e

  abbrev pub less : Entry
  less = record e { deficit = e.deficit - len }

  sends : len ≤ e.deficit → active_after len classes (e ∷ es) ≡ less ∷ es
  sends covers = ap (λ (t : Bool). if t then less ∷ es else es ++ last ∷ []) (le-leb len e.deficit covers)

  grants_one : e.deficit < len → active_after len classes (e ∷ es) ≡ es ++ last ∷ []
  grants_one short = ap (λ (t : Bool). if t then less ∷ es else es ++ last ∷ []) (lt-leb len e.deficit short)

  turn_differ : EntriesDiffer (e ∷ es) → EntriesDiffer (active_after len classes (e ∷ es))
  turn_differ d = elim (cases_lt e.deficit len) [
    | inl short ↦ subst EntriesDiffer (sym (grants_one short)) (differ_push (λ (e : Entry). e.class) last es d.1 d.0)
    | inr covers ↦ subst EntriesDiffer (sym (sends covers)) d
  ]

  turn_active : (n : ℕ) → is_active n (active_after len classes (e ∷ es)) ≡ is_active n (e ∷ es)
  turn_active n = elim (cases_lt e.deficit len) [
    | inl short ↦ ap (is_active n) (grants_one short) ∙ active_push n last es
    | inr covers ↦ ap (is_active n) (sends covers)
  ]

  turn_books : (n : ℕ) → EntriesDiffer (e ∷ es) → is_active n (e ∷ es) ≡ true
      → bytes_in n len (e ∷ es) + deficit_of n (active_after len classes (e ∷ es)) ≡ grant_in n len (e ∷ es) * quantum_of n classes + deficit_of n (e ∷ es)
  turn_books n d there = elim (cases_lt e.deficit len) [
    | inl short ↦
        let list = ap (deficit_of n) (grants_one short) in
        let bytes : bytes_in n len (e ∷ es) ≡ (if eqb n e.class then 0 else 0) = ap (λ (t : Bool). if eqb n e.class then (if t then len else 0) else 0) (lt-leb len e.deficit short) in
        let grant = grant_short len n e es short in
        elim (cases_Bool (eqb n e.class)) [
          | inl q ↦
              let same : n ≡ e.class = eqb-true n e.class q in
              let b : bytes_in n len (e ∷ es) ≡ 0 = bytes ∙ ap (λ (t : Bool). if t then 0 else 0) q in
              let g : grant_in n len (e ∷ es) ≡ 1 = grant ∙ ap (λ (t : Bool). if t then 1 else 0) q in
              let after : deficit_of n (active_after len classes (e ∷ es)) ≡ e.deficit + 1 * quantum_of e.class classes = list ∙ deficit_last n last es (ap (λ m. is_active m es) same ∙ d.0) q in
              let before : deficit_of n (e ∷ es) ≡ e.deficit = deficit_here n e es q in
              let quantum : quantum_of n classes ≡ quantum_of e.class classes = ap (λ m. quantum_of m classes) same in
              ap (λ k. k + deficit_of n (active_after len classes (e ∷ es))) b ∙ omega (arith, after, before, quantum) ∙ ap (λ k. k * quantum_of n classes + deficit_of n (e ∷ es)) (sym g)
          | inr q ↦
              let b : bytes_in n len (e ∷ es) ≡ 0 = bytes ∙ ap (λ (t : Bool). if t then 0 else 0) q in
              let g : grant_in n len (e ∷ es) ≡ 0 = grant ∙ ap (λ (t : Bool). if t then 1 else 0) q in
              let after : deficit_of n (active_after len classes (e ∷ es)) ≡ deficit_of n es = list ∙ deficit_kept n last es (sym (ap (λ t. t || is_active n es) q) ∙ there) in
              let before : deficit_of n (e ∷ es) ≡ deficit_of n es = deficit_behind n e es q in
              ap (λ k. k + deficit_of n (active_after len classes (e ∷ es))) b ∙ omega (arith, after, before) ∙ ap (λ k. k * quantum_of n classes + deficit_of n (e ∷ es)) (sym g)
        ]
    | inr covers ↦
        let list = ap (deficit_of n) (sends covers) in
        let bytes : bytes_in n len (e ∷ es) ≡ (if eqb n e.class then len else 0) = ap (λ (t : Bool). if eqb n e.class then (if t then len else 0) else 0) (le-leb len e.deficit covers) in
        let grant : grant_in n len (e ∷ es) ≡ (if eqb n e.class then 0 else 0) = ap (λ (t : Bool). if eqb n e.class then (if t then 0 else 1) else 0) (le-leb len e.deficit covers) in
        elim (cases_Bool (eqb n e.class)) [
          | inl q ↦
              let b : bytes_in n len (e ∷ es) ≡ len = bytes ∙ ap (λ (t : Bool). if t then len else 0) q in
              let g : grant_in n len (e ∷ es) ≡ 0 = grant ∙ ap (λ (t : Bool). if t then 0 else 0) q in
              let after : deficit_of n (active_after len classes (e ∷ es)) ≡ e.deficit - len = list ∙ deficit_here n less es q in
              let before : deficit_of n (e ∷ es) ≡ e.deficit = deficit_here n e es q in
              ap (λ k. k + deficit_of n (active_after len classes (e ∷ es))) b ∙ omega (arith, after, before, covers) ∙ ap (λ k. k * quantum_of n classes + deficit_of n (e ∷ es)) (sym g)
          | inr q ↦
              let b : bytes_in n len (e ∷ es) ≡ 0 = bytes ∙ ap (λ (t : Bool). if t then len else 0) q in
              let g : grant_in n len (e ∷ es) ≡ 0 = grant ∙ ap (λ (t : Bool). if t then 0 else 0) q in
              let after : deficit_of n (active_after len classes (e ∷ es)) ≡ deficit_of n es = list ∙ deficit_behind n less es q in
              let before : deficit_of n (e ∷ es) ≡ deficit_of n es = deficit_behind n e es q in
              ap (λ k. k + deficit_of n (active_after len classes (e ∷ es))) b ∙ omega (arith, after, before) ∙ ap (λ k. k * quantum_of n classes + deficit_of n (e ∷ es)) (sym g)
        ]
  ]

  turn_counts : (n : ℕ) → EntriesDiffer (e ∷ es) → is_active n (e ∷ es) ≡ true → granted_of n (e ∷ es) < 2 ^ 64
      → granted_of n (active_after len classes (e ∷ es)) ≡ counted (granted_of n (e ∷ es) + grant_in n len (e ∷ es) * quantum_of n classes)
  turn_counts n d there range =
      let before : ℕ = granted_of n (e ∷ es) in
      elim (cases_lt e.deficit len) [
        | inl short ↦
            let list = ap (granted_of n) (grants_one short) in
            let grant = grant_short len n e es short in
            elim (cases_Bool (eqb n e.class)) [
              | inl q ↦
                  let same : n ≡ e.class = eqb-true n e.class q in
                  let after : granted_of n (active_after len classes (e ∷ es)) ≡ counted (e.granted + 1 * quantum_of e.class classes) =
                  list ∙ granted_last n last es (ap (λ m. is_active m es) same ∙ d.0) q in
                  after ∙ ap (λ m. counted (e.granted + 1 * quantum_of m classes)) (sym same)
                  ∙ ap (λ g. counted (g + 1 * quantum_of n classes)) (sym (granted_here n e es q))
                  ∙ ap (λ k. counted (granted_of n (e ∷ es) + k * quantum_of n classes)) (sym (grant ∙ ap (λ (t : Bool). if t then 1 else 0) q))
              | inr q ↦
                  list ∙ granted_kept n last es (sym (ap (λ t. t || is_active n es) q) ∙ there) ∙ sym (granted_behind n e es q)
                  ∙ counted_none before (grant_in n len (e ∷ es)) (quantum_of n classes) (grant ∙ ap (λ (t : Bool). if t then 1 else 0) q) range
            ]
        | inr covers ↦
            let kept : granted_of n (less ∷ es) ≡ granted_of n (e ∷ es) = elim (cases_Bool (eqb n e.class)) [
              | inl q ↦ granted_here n less es q ∙ sym (granted_here n e es q)
              | inr q ↦ granted_behind n less es q ∙ sym (granted_behind n e es q)
            ] in
            ap (granted_of n) (sends covers) ∙ kept
            ∙ counted_none before (grant_in n len (e ∷ es)) (quantum_of n classes) (grant_covered len n e es covers) range
      ]

-- any schedule's turn
pub list_differ : (len : ℕ) (classes : List Class) (es : List Entry) → EntriesDiffer es → EntriesDiffer (active_after len classes es)
list_differ len classes [] d = tt
list_differ len classes (e ∷ es) d = turn_differ len classes e es d

pub list_active : (len : ℕ) (classes : List Class) (es : List Entry) (n : ℕ) → is_active n (active_after len classes es) ≡ is_active n es
list_active len classes [] n = refl
list_active len classes (e ∷ es) n = turn_active len classes e es n

list_counts : (len : ℕ) (classes : List Class) (es : List Entry) (n : ℕ) → EntriesDiffer es → is_active n es ≡ true → granted_of n es < 2 ^ 64
    → granted_of n (active_after len classes es) ≡ counted (granted_of n es + grant_in n len es * quantum_of n classes)
list_counts len classes [] n d there range = absurd (false≢true there)
list_counts len classes (e ∷ es) n d there range = turn_counts len classes e es n d there range

list_books : (len : ℕ) (classes : List Class) (es : List Entry) (n : ℕ) → EntriesDiffer es → is_active n es ≡ true
    → bytes_in n len es + deficit_of n (active_after len classes es) ≡ grant_in n len es * quantum_of n classes + deficit_of n es
list_books len classes [] n d there = absurd (false≢true there)
list_books len classes (e ∷ es) n d there = turn_books len classes e es n d there

stretch_books : (lens : List ℕ) (s : Schedule) (n : ℕ) → EntriesDiffer s.active → is_active n s.active ≡ true
    → sent n lens s + deficit_of n (after_turns lens s).active ≡ grants n lens s * quantum_of n s.classes + deficit_of n s.active
stretch_books [] s n d there = omega arith
stretch_books (len ∷ lens) s n d there =
    let rest = stretch_books lens (turned len s) n (list_differ len s.classes s.active d) (list_active len s.classes s.active n ∙ there) in
    omega (arith, rest, list_books len s.classes s.active n d there)

pub each_sends_its_share : EachSendsItsShare
each_sends_its_share s lens n law there = stretch_books lens s n (entries_apart s.active law.entries_differ) there

stretch_counts : (lens : List ℕ) (s : Schedule) (n : ℕ) → EntriesDiffer s.active → is_active n s.active ≡ true → granted_of n s.active < 2 ^ 64
    → granted_of n (after_turns lens s).active ≡ counted (granted_of n s.active + grants n lens s * quantum_of n s.classes)
stretch_counts [] s n d there range = counted_none (granted_of n s.active) 0 (quantum_of n s.classes) refl range
stretch_counts (len ∷ lens) s n d there range =
    let one = list_counts len s.classes s.active n d there range in
    let rest = stretch_counts lens (turned len s) n (list_differ len s.classes s.active d) (list_active len s.classes s.active n ∙ there) (omega (arith, one)) in
    rest ∙ ap (λ g. counted (g + grants n lens (turned len s) * quantum_of n s.classes)) one
    ∙ counted_twice (granted_of n s.active) (grant_in n len s.active) (grants n lens (turned len s)) (quantum_of n s.classes)

pub grants_are_counted : GrantsAreCounted
grants_are_counted s lens n law there =
    stretch_counts lens s n (entries_apart s.active law.entries_differ) there (granted_in_range s.max_len s.classes n s.active law.entries)

stretch_turns : (lens : List ℕ) (s : Schedule) → s.turns < 2 ^ 64 → (after_turns lens s).turns ≡ counted (s.turns + length lens)
stretch_turns [] s range = omega arith
stretch_turns (len ∷ lens) s range = omega (arith, stretch_turns lens (turned len s) (omega arith))

pub turns_are_counted : TurnsAreCounted
turns_are_counted s lens law = stretch_turns lens s law.counted_turns

-- the order of two classes once another, or one of them, has gone to the end
module _ (i j : ℕ) where
  first_behind : (x : Entry) (es : List Entry) → eqb i x.class ≡ false → eqb j x.class ≡ false → stands_first i j (es ++ x ∷ []) ≡ stands_first i j es
  first_behind x [] not_i not_j =
      ap (λ (t : Bool). if t then true else (if eqb j x.class then false else false)) not_i ∙ ap (λ (t : Bool). if t then false else false) not_j
  first_behind x (e ∷ es) not_i not_j = ap (λ (t : Bool). if eqb i e.class then true else (if eqb j e.class then false else t)) (first_behind x es not_i not_j)

  first_gone : (x : Entry) (es : List Entry) → is_active i es ≡ false → is_active j es ≡ true → stands_first i j (es ++ x ∷ []) ≡ false
  first_gone x [] absent there = absurd (false≢true there)
  first_gone x (e ∷ es) absent there =
      let parts = or_parts (eqb i e.class) (is_active i es) absent in
      ap (λ (t : Bool). if t then true else (if eqb j e.class then false else stands_first i j (es ++ x ∷ []))) parts.0
      ∙ elim (cases_Bool (eqb j e.class)) [
        | inl q ↦ ap (λ (t : Bool). if t then false else stands_first i j (es ++ x ∷ [])) q
        | inr q ↦ ap (λ (t : Bool). if t then false else stands_first i j (es ++ x ∷ [])) q ∙ first_gone x es parts.1 (sym (ap (λ t. t || is_active j es) q) ∙ there)
      ]

  second_gone : (x : Entry) (es : List Entry) → is_active j es ≡ false → is_active i es ≡ true → stands_first i j (es ++ x ∷ []) ≡ true
  second_gone x [] absent there = absurd (false≢true there)
  second_gone x (e ∷ es) absent there =
      let parts = or_parts (eqb j e.class) (is_active j es) absent in
      elim (cases_Bool (eqb i e.class)) [
        | inl q ↦ ap (λ (t : Bool). if t then true else (if eqb j e.class then false else stands_first i j (es ++ x ∷ []))) q
        | inr q ↦ ap (λ (t : Bool). if t then true else (if eqb j e.class then false else stands_first i j (es ++ x ∷ []))) q
            ∙ ap (λ (t : Bool). if t then false else stands_first i j (es ++ x ∷ [])) parts.0
            ∙ second_gone x es parts.1 (sym (ap (λ t. t || is_active i es) q) ∙ there)
      ]

  -- one turn of two: a grant goes with the change of order
  head_of : Bool → ℕ
  head_of true = 1
  head_of false = 0

  turn_even : (len : ℕ) (classes : List Class) (e : Entry) (es : List Entry) → i ≢ j → EntriesDiffer (e ∷ es) → is_active i (e ∷ es) ≡ true → is_active j (e ∷ es) ≡ true
      → grant_in i len (e ∷ es) + head_of (stands_first i j (active_after len classes (e ∷ es))) ≡ grant_in j len (e ∷ es) + head_of (stands_first i j (e ∷ es))
  unfolding head_of
  turn_even len classes e es apart d there_i there_j = elim (cases_lt e.deficit len) [
    | inl short ↦
        let x : Entry = last len classes e es in
        let list : stands_first i j (active_after len classes (e ∷ es)) ≡ stands_first i j (es ++ x ∷ []) = ap (stands_first i j) (grants_one len classes e es short) in
        let gi = grant_short len i e es short in
        let gj = grant_short len j e es short in
        elim (cases_Bool (eqb i e.class)) [
          | inl qi ↦
              let same : i ≡ e.class = eqb-true i e.class qi in
              let qj : eqb j e.class ≡ false = ne_eqb j e.class (λ w. apart (same ∙ sym w)) in
              let absent : is_active i es ≡ false = ap (λ m. is_active m es) same ∙ d.0 in
              let there : is_active j es ≡ true = sym (ap (λ t. t || is_active j es) qj) ∙ there_j in
              let after : head_of (stands_first i j (active_after len classes (e ∷ es))) ≡ 0 = ap head_of (list ∙ first_gone x es absent there) in
              let before : head_of (stands_first i j (e ∷ es)) ≡ 1 = ap (λ (t : Bool). head_of (if t then true else (if eqb j e.class then false else stands_first i j es))) qi in
              omega (arith, after, before, gi ∙ ap (λ (t : Bool). if t then 1 else 0) qi, gj ∙ ap (λ (t : Bool). if t then 1 else 0) qj)
          | inr qi ↦ elim (cases_Bool (eqb j e.class)) [
            | inl qj ↦
                let same : j ≡ e.class = eqb-true j e.class qj in
                let absent : is_active j es ≡ false = ap (λ m. is_active m es) same ∙ d.0 in
                let there : is_active i es ≡ true = sym (ap (λ t. t || is_active i es) qi) ∙ there_i in
                let after : head_of (stands_first i j (active_after len classes (e ∷ es))) ≡ 1 = ap head_of (list ∙ second_gone x es absent there) in
                let before : head_of (stands_first i j (e ∷ es)) ≡ 0 =
                ap (λ (t : Bool). head_of (if t then true else (if eqb j e.class then false else stands_first i j es))) qi ∙ ap (λ (t : Bool). head_of (if t then false else stands_first i j es)) qj in
                omega (arith, after, before, gi ∙ ap (λ (t : Bool). if t then 1 else 0) qi, gj ∙ ap (λ (t : Bool). if t then 1 else 0) qj)
            | inr qj ↦
                let after : stands_first i j (active_after len classes (e ∷ es)) ≡ stands_first i j es = list ∙ first_behind x es qi qj in
                let before : stands_first i j (e ∷ es) ≡ stands_first i j es =
                ap (λ (t : Bool). if t then true else (if eqb j e.class then false else stands_first i j es)) qi ∙ ap (λ (t : Bool). if t then false else stands_first i j es) qj in
                omega (arith, ap head_of (after ∙ sym before), gi ∙ ap (λ (t : Bool). if t then 1 else 0) qi, gj ∙ ap (λ (t : Bool). if t then 1 else 0) qj)
          ]
        ]
    | inr covers ↦ omega (arith, ap (λ es. head_of (stands_first i j es)) (sends len classes e es covers), grant_covered len i e es covers, grant_covered len j e es covers)
  ]

  list_even : (len : ℕ) (classes : List Class) (es : List Entry) → i ≢ j → EntriesDiffer es → is_active i es ≡ true → is_active j es ≡ true
      → grant_in i len es + head_of (stands_first i j (active_after len classes es)) ≡ grant_in j len es + head_of (stands_first i j es)
  list_even len classes [] apart d there_i there_j = absurd (false≢true there_i)
  list_even len classes (e ∷ es) apart d there_i there_j = turn_even len classes e es apart d there_i there_j

  stretch_even : (lens : List ℕ) (s : Schedule) → i ≢ j → EntriesDiffer s.active → is_active i s.active ≡ true → is_active j s.active ≡ true
      → grants i lens s + head_of (stands_first i j (after_turns lens s).active) ≡ grants j lens s + head_of (stands_first i j s.active)
  stretch_even [] s apart d there_i there_j = refl
  stretch_even (len ∷ lens) s apart d there_i there_j =
      let rest = stretch_even lens (turned len s) apart (list_differ len s.classes s.active d) (list_active len s.classes s.active i ∙ there_i) (list_active len s.classes s.active j ∙ there_j) in
      omega (arith, rest, list_even len s.classes s.active apart d there_i there_j)

  head_small : (t : Bool) → head_of t ≤ 1
  unfolding head_of
  head_small true = omega arith
  head_small false = omega arith

  even : (lens : List ℕ) (s : Schedule) → i ≢ j → EntriesDiffer s.active → is_active i s.active ≡ true → is_active j s.active ≡ true → AreEven i j lens s
  unfolding head_of
  even lens s apart d there_i there_j =
      let books = stretch_even lens s apart d there_i there_j in
      record {
        same_order = λ e. omega (arith, books, ap head_of e);
        changed_order = λ e f. omega (arith, books, ap head_of e, ap head_of f);
        within_one = omega (arith, books, head_small (stands_first i j s.active));
      }

pub grants_are_even : GrantsAreEven
grants_are_even s lens i j law there_i there_j apart = even i j lens s apart (entries_apart s.active law.entries_differ) there_i there_j
