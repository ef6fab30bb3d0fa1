-- What a class of a drr may send before another, which stays active, is granted again: over a turn, over a whole take, and over
-- changes that grant nothing.
use Rattle.std.proofs.Common.{◌≡◌, ◌≢◌, ℕ, ◌+◌, ◌-◌, ◌*◌, ◌<◌, ◌≤◌, Bool, true, false, eqb, ◌||◌, List, [], ◌∷◌, ◌++◌, refl, sym, ap, ◌∙◌, inl, inr, Option, arith}
use Rattle.std.specs.Prelude.{if◌then◌else◌}
use Rattle.std.proofs.lemmas.Bool.{cases_Bool, cases_lt, eqb-true, ne_eqb, false≢true, or_parts, le-leb, lt-leb}
use Rattle.q_drr.specs.Schedule.{Class, Entry, Schedule, is_active, quantum_of, deficit_of, after_grants, active_after, turned, IsLawful}
use Rattle.q_drr.specs.Changes.{HeadsFit}
use Rattle.q_drr.specs.Stretch.{after_turns, grant_in, bytes_in, grants, sent, stands_first}
use Rattle.q_drr.specs.Take.{choice_of, served}
use Rattle.q_drr.specs.Turns.{grants_at, bytes_at}
use Rattle.q_drr.proofs.ServedLemmas.{takes_are_turns}
use Rattle.q_drr.proofs.StretchLemmas.{deficit_last, list_differ, list_active}
use Rattle.q_drr.proofs.DifferLemmas.{EntriesDiffer, entries_apart}
use Rattle.q_drr.proofs.LookupLemmas.{deficit_here, deficit_behind}
use Rattle.q_invariants.proofs.class.SameTurns.{SameTurns, push-behind}
use Rattle.q_invariants.proofs.class.TakeTurns.{Stands}

-- What is left of a deficit until the other class is granted: all of it where the class stands before that one, and what is above
-- a quantum where it stands behind.
abbrev left_of : Bool → ℕ → ℕ → ℕ
left_of ahead deficit quantum = if ahead then deficit else deficit - quantum

abbrev pub left_before : ℕ → ℕ → ℕ → List Entry → ℕ
left_before i j quantum es = left_of (stands_first j i es) (deficit_of j es) quantum

left-most : (ahead : Bool) (deficit quantum : ℕ) → left_of ahead deficit quantum ≤ deficit
left-most true deficit quantum = omega arith
left-most false deficit quantum = omega arith

-- a class that is asleep has no deficit
absent-deficit : (j : ℕ) (es : List Entry) → is_active j es ≡ false → deficit_of j es ≡ 0
absent-deficit j [] absent = refl
absent-deficit j (e ∷ es) absent =
    let parts = or_parts (eqb j e.class) (is_active j es) absent in
    deficit_behind j e es parts.0 ∙ absent-deficit j es parts.1

-- another that goes to the end
deficit-other : (j : ℕ) (x : Entry) (es : List Entry) → eqb j x.class ≡ false → deficit_of j (es ++ x ∷ []) ≡ deficit_of j es
deficit-other j x [] other = deficit_behind j x [] other
deficit-other j x (e ∷ es) other = elim (cases_Bool (eqb j e.class)) [
  | inl here ↦ deficit_here j e (es ++ x ∷ []) here ∙ sym (deficit_here j e es here)
  | inr there ↦ deficit_behind j e (es ++ x ∷ []) there ∙ deficit-other j x es other ∙ sym (deficit_behind j e es there)
]

order-other : (i j : ℕ) (x : Entry) (es : List Entry) → eqb i x.class ≡ false → eqb j x.class ≡ false → stands_first j i (es ++ x ∷ []) ≡ stands_first j i es
order-other i j x [] not_i not_j =
    ap (λ (t : Bool). if t then true else (if eqb i x.class then false else false)) not_j ∙ ap (λ (t : Bool). if t then false else false) not_i
order-other i j x (e ∷ es) not_i not_j = ap (λ (t : Bool). if eqb j e.class then true else (if eqb i e.class then false else t)) (order-other i j x es not_i not_j)

-- ---- turns

module _ (i j : ℕ) (apart : i ≢ j) where
  module _ (len : ℕ) (classes : List Class) (e : Entry) (es : List Entry) where
    abbrev quantum : ℕ
    quantum = quantum_of j classes

    abbrev last : Entry
    last = after_grants (quantum_of e.class classes) 1 e

    abbrev less : Entry
    less = record e { deficit = e.deficit - len }

    -- the order of the two where the class in front is j, is i, or is neither
    first-is : eqb j e.class ≡ true → stands_first j i (e ∷ es) ≡ true
    first-is here = ap (λ (t : Bool). if t then true else (if eqb i e.class then false else stands_first j i es)) here

    second-is : eqb j e.class ≡ false → eqb i e.class ≡ true → stands_first j i (e ∷ es) ≡ false
    second-is there here = ap (λ (t : Bool). if t then true else (if eqb i e.class then false else stands_first j i es)) there ∙ ap (λ (t : Bool). if t then false else stands_first j i es) here

    neither-is : eqb j e.class ≡ false → eqb i e.class ≡ false → stands_first j i (e ∷ es) ≡ stands_first j i es
    neither-is there far = ap (λ (t : Bool). if t then true else (if eqb i e.class then false else stands_first j i es)) there ∙ ap (λ (t : Bool). if t then false else stands_first j i es) far

    -- it sends
    sends-against : len ≤ e.deficit → bytes_in j len (e ∷ es) + left_before i j quantum (active_after len classes (e ∷ es)) ≤ grant_in i len (e ∷ es) * quantum + left_before i j quantum (e ∷ es)
    sends-against covers =
        let list : active_after len classes (e ∷ es) ≡ less ∷ es = ap (λ (t : Bool). if t then less ∷ es else es ++ last ∷ []) (le-leb len e.deficit covers) in
        let left : left_before i j quantum (active_after len classes (e ∷ es)) ≡ left_of (stands_first j i (e ∷ es)) (deficit_of j (less ∷ es)) quantum = ap (left_before i j quantum) list in
        let bytes : bytes_in j len (e ∷ es) ≡ (if eqb j e.class then len else 0) = ap (λ (t : Bool). if eqb j e.class then (if t then len else 0) else 0) (le-leb len e.deficit covers) in
        elim (cases_Bool (eqb j e.class)) [
          | inl here ↦
              let b : bytes_in j len (e ∷ es) ≡ len = bytes ∙ ap (λ (t : Bool). if t then len else 0) here in
              let after : left_before i j quantum (active_after len classes (e ∷ es)) ≡ e.deficit - len =
              left ∙ ap (λ (t : Bool). left_of t (deficit_of j (less ∷ es)) quantum) (first-is here) ∙ deficit_here j less es here in
              let before : left_before i j quantum (e ∷ es) ≡ e.deficit = ap (λ (t : Bool). left_of t (deficit_of j (e ∷ es)) quantum) (first-is here) ∙ deficit_here j e es here in
              omega (arith, b, after, before, covers)
          | inr there ↦
              let b : bytes_in j len (e ∷ es) ≡ 0 = bytes ∙ ap (λ (t : Bool). if t then len else 0) there in
              let same : deficit_of j (less ∷ es) ≡ deficit_of j (e ∷ es) = deficit_behind j less es there ∙ sym (deficit_behind j e es there) in
              let after : left_before i j quantum (active_after len classes (e ∷ es)) ≡ left_before i j quantum (e ∷ es) = left ∙ ap (λ d. left_of (stands_first j i (e ∷ es)) d quantum) same in
              omega (arith, b, after)
        ]

    -- it is granted, and goes to the end
    granted-against : e.deficit < len → EntriesDiffer (e ∷ es) → is_active i (e ∷ es) ≡ true
        → bytes_in j len (e ∷ es) + left_before i j quantum (active_after len classes (e ∷ es)) ≤ grant_in i len (e ∷ es) * quantum + left_before i j quantum (e ∷ es)
    granted-against short d there_i =
        let list : active_after len classes (e ∷ es) ≡ es ++ last ∷ [] = ap (λ (t : Bool). if t then less ∷ es else es ++ last ∷ []) (lt-leb len e.deficit short) in
        let left : left_before i j quantum (active_after len classes (e ∷ es)) ≡ left_before i j quantum (es ++ last ∷ []) = ap (left_before i j quantum) list in
        let none : bytes_in j len (e ∷ es) ≡ 0 = ap (λ (t : Bool). if eqb j e.class then (if t then len else 0) else 0) (lt-leb len e.deficit short) ∙ zero-either (eqb j e.class) in
        elim (cases_Bool (eqb j e.class)) [
          | inl here ↦
              let same : j ≡ e.class = eqb-true j e.class here in
              let far : eqb i e.class ≡ false = ne_eqb i e.class (λ w. apart (w ∙ sym same)) in
              let absent : is_active j es ≡ false = ap (λ m. is_active m es) same ∙ d.0 in
              let there : is_active i es ≡ true = sym (ap (λ t. t || is_active i es) far) ∙ there_i in
              let after : left_before i j quantum (es ++ last ∷ []) ≡ deficit_of j (es ++ last ∷ []) - quantum =
              ap (λ (t : Bool). left_of t (deficit_of j (es ++ last ∷ [])) quantum) (push-behind i j last es there absent) in
              let more : deficit_of j (es ++ last ∷ []) ≡ e.deficit + 1 * quantum_of e.class classes = deficit_last j last es absent here in
              let before : left_before i j quantum (e ∷ es) ≡ e.deficit = ap (λ (t : Bool). left_of t (deficit_of j (e ∷ es)) quantum) (first-is here) ∙ deficit_here j e es here in
              let own : quantum ≡ quantum_of e.class classes = ap (λ m. quantum_of m classes) same in
              omega (arith, none, left, after, more, before, own)
          | inr there ↦ elim (cases_Bool (eqb i e.class)) [
            | inl here ↦
                let one : grant_in i len (e ∷ es) ≡ 1 =
                ap (λ (t : Bool). if eqb i e.class then (if t then 0 else 1) else 0) (lt-leb len e.deficit short)
                ∙ ap (λ (t : Bool). if t then 1 else 0) here in
                let product : grant_in i len (e ∷ es) * quantum ≡ quantum = ap (λ g. g * quantum) one ∙ omega arith in
                let same : deficit_of j (es ++ last ∷ []) ≡ deficit_of j (e ∷ es) = deficit-other j last es there ∙ sym (deficit_behind j e es there) in
                let before : left_before i j quantum (e ∷ es) ≡ deficit_of j (e ∷ es) - quantum = ap (λ (t : Bool). left_of t (deficit_of j (e ∷ es)) quantum) (second-is there here) in
                omega (arith, none, left, product, same, before, left-most (stands_first j i (es ++ last ∷ [])) (deficit_of j (es ++ last ∷ [])) quantum)
            | inr far ↦
                let same : deficit_of j (es ++ last ∷ []) ≡ deficit_of j (e ∷ es) = deficit-other j last es there ∙ sym (deficit_behind j e es there) in
                let order : stands_first j i (es ++ last ∷ []) ≡ stands_first j i (e ∷ es) = order-other i j last es far there ∙ sym (neither-is there far) in
                let after : left_before i j quantum (es ++ last ∷ []) ≡ left_before i j quantum (e ∷ es) =
                ap (λ (t : Bool). left_of t (deficit_of j (es ++ last ∷ [])) quantum) order ∙ ap (λ m. left_of (stands_first j i (e ∷ es)) m quantum) same in
                omega (arith, none, left, after)
          ]
        ]
      where
        zero-either : (t : Bool) → ◌≡◌ {A = ℕ} (if t then 0 else 0) 0
        zero-either true = refl
        zero-either false = refl

  turn-against : (len : ℕ) (classes : List Class) (es : List Entry) → EntriesDiffer es → is_active i es ≡ true
      → bytes_in j len es + left_before i j (quantum_of j classes) (active_after len classes es) ≤ grant_in i len es * quantum_of j classes + left_before i j (quantum_of j classes) es
  turn-against len classes [] d there = absurd (false≢true there)
  turn-against len classes (e ∷ es) d there = elim (cases_lt e.deficit len) [
    | inl short ↦ granted-against len classes e es short d there
    | inr covers ↦ sends-against len classes e es covers
  ]

  turns-against : (lens : List ℕ) (s : Schedule) → EntriesDiffer s.active → is_active i s.active ≡ true
      → sent j lens s + left_before i j (quantum_of j s.classes) (after_turns lens s).active ≤ grants i lens s * quantum_of j s.classes + left_before i j (quantum_of j s.classes) s.active
  turns-against [] s d there = omega arith
  turns-against (len ∷ lens) s d there =
      let rest = turns-against lens (turned len s) (list_differ len s.classes s.active d) (list_active len s.classes s.active i ∙ there) in
      omega (arith, rest, turn-against len s.classes s.active d there)

  -- ---- a whole take

  module _ (s : Schedule) (heads : ℕ → Option ℕ) (law : IsLawful s) (fits : HeadsFit heads s.max_len) where
    pub take-against : (p : Stands i s.active) (q : Stands j s.active) → is_active i s.active ≡ true
        → bytes_at (choice_of heads s) q.place (heads j) + left_before i j (quantum_of j s.classes) (served heads s).active
        ≤ grants_at (choice_of heads s) p.place * quantum_of j s.classes + left_before i j (quantum_of j s.classes) s.active
    take-against p q there =
        let t = takes_are_turns s heads law fits in
        let lens : List ℕ = t.0 in
        let g : grants i lens s ≡ grants_at (choice_of heads s) p.place = ap (λ k. grants k lens s) (sym p.name) ∙ t.1.granted p.place p.entry p.there in
        let b : sent j lens s ≡ bytes_at (choice_of heads s) q.place (heads j) =
        ap (λ k. sent k lens s) (sym q.name) ∙ t.1.bytes q.place q.entry q.there ∙ ap (λ k. bytes_at (choice_of heads s) q.place (heads k)) q.name in
        let books = turns-against lens s (entries_apart s.active law.entries_differ) there in
        let after : left_before i j (quantum_of j s.classes) (after_turns lens s).active ≡ left_before i j (quantum_of j s.classes) (served heads s).active =
        ap (λ (x : Schedule). left_before i j (quantum_of j s.classes) x.active) t.1.after in
        let product : grants i lens s * quantum_of j s.classes ≡ grants_at (choice_of heads s) p.place * quantum_of j s.classes = ap (λ k. k * quantum_of j s.classes) g in
        omega (arith, b, books, after, product)

-- ---- where it is asleep, and changes that grant nothing

pub asleep-left : (i j quantum : ℕ) (es : List Entry) → is_active j es ≡ false → left_before i j quantum es ≡ 0
asleep-left i j quantum es absent =
    omega (arith, left-most (stands_first j i es) (deficit_of j es) quantum, absent-deficit j es absent)

pub quiet-against : (i j : ℕ) (s t : Schedule) → SameTurns s t → is_active i s.active ≡ true → is_active i t.active ≡ true → quantum_of j t.classes ≡ quantum_of j s.classes
    → left_before i j (quantum_of j s.classes) t.active ≤ left_before i j (quantum_of j s.classes) s.active
quiet-against i j s t same before after quantum = elim (cases_Bool (is_active j t.active)) [
  | inr asleep ↦ omega (arith, asleep-left i j (quantum_of j s.classes) t.active asleep)
  | inl active ↦ elim (cases_Bool (is_active j s.active)) [
    | inl was ↦
        let kept : left_before i j (quantum_of j s.classes) t.active ≡ left_before i j (quantum_of j s.classes) s.active =
        ap (λ (b : Bool). left_of b (deficit_of j t.active) (quantum_of j s.classes)) (same.order j i was before active after)
        ∙ ap (λ d. left_of (stands_first j i s.active) d (quantum_of j s.classes)) (same.deficit j was active quantum) in
        omega (arith, kept)
    | inr slept ↦
        let behind : left_before i j (quantum_of j s.classes) t.active ≡ deficit_of j t.active - quantum_of j s.classes =
        ap (λ (b : Bool). left_of b (deficit_of j t.active) (quantum_of j s.classes)) (same.behind i j before slept) in
        omega (arith, behind, same.wakes j slept active, quantum)
  ]
]

pub left-at-most : (i j quantum : ℕ) (es : List Entry) → left_before i j quantum es ≤ deficit_of j es
left-at-most i j quantum es = left-most (stands_first j i es) (deficit_of j es) quantum

pub left-behind : (i j quantum : ℕ) (es : List Entry) → stands_first j i es ≡ false → left_before i j quantum es ≡ deficit_of j es - quantum
left-behind i j quantum es behind = ap (λ (t : Bool). left_of t (deficit_of j es) quantum) behind
