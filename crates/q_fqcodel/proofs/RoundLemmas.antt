-- Rounds of the old list in which no flow sends, given at once: the selection goes on as it would have.
use Rattle.std.proofs.Common.{◌≡◌, ◌⊎◌, inl, inr, ℕ, zero, suc, ◌≤◌, ℤ, pos, negsuc, ◌≤ℤ◌, ◌<ℤ◌, Bool, true, false, List, [], ◌∷◌, ◌++◌, refl, sym, ap, ap₂, ◌∙◌, arith, append_assoc, append-nil, subst, subst₂}
use Rattle.std.proofs.lemmas.Int.{ints}
use Rattle.std.proofs.lemmas.Bool.{cases_Bool}
use Rattle.std.proofs.lemmas.List.Elements.{All-head, All-tail, All-cons, All-nil, All-weaker}
use Rattle.q_fqcodel.specs.Cleared.{adjust, clear}
use Rattle.q_fqcodel.specs.Entry.{Entry}
use Rattle.q_fqcodel.specs.Quanta.{need, given, stay, leave}
use Rattle.q_fqcodel.specs.Rounds.{AllNeed}
use Rattle.q_fqcodel.specs.Selection.{Lists, chosen, turned}
use Rattle.q_fqcodel.proofs.ClearedLemmas.{clear-adjust, clear-append, clear-cons, clear-nil}
use Rattle.q_fqcodel.proofs.QuantaLemmas.{need_none, need_more, flow-given, stay-append, leave-append, stay_kept, stay_dropped, leave_kept, leave_dropped, stay-nil, leave-nil, stay_shift, leave_shift, stay_none, leave_none}
use Rattle.q_fqcodel.proofs.SelectionLemmas.{Agree, same_lists, turned_granted, turned_leaves}

sign : (z : ℤ) → (z ≤ℤ pos 0) ⊎ (pos 0 <ℤ z)
sign (pos zero) = inl (omega (arith, ints))
sign (pos (suc n)) = inr (omega (arith, ints))
sign (negsuc n) = inl (omega (arith, ints))

-- the order of two batches does not matter
clear_comm : {F : Type 0} (r : F → F) (ms ns : List ℕ) (xs : List F) → clear r ms (clear r ns xs) ≡ clear r ns (clear r ms xs)
clear_comm r [] ns xs = clear-nil r (clear r ns xs) ∙ ap (clear r ns) (sym (clear-nil r xs))
clear_comm r (m ∷ ms) ns xs =
    clear-cons r m ms (clear r ns xs) ∙ ap (clear r ms) (sym (clear-adjust r ns m xs)) ∙ clear_comm r ms ns (adjust r m xs)
    ∙ ap (clear r ns) (sym (clear-cons r m ms xs))

agree_on : {F : Type 0} (r : F → F) (fs gs hs : List F) (a b c : Lists) → Agree r fs gs a b → Agree r gs hs b c → Agree r fs hs a c
agree_on r fs gs hs a b c x y = record { new_flows = x.new_flows ∙ y.new_flows; old_flows = x.old_flows ∙ y.old_flows; flows = x.flows ∙ y.flows }

abbrev sel : ℕ → (ℕ → Bool) → List Entry → Lists
sel q idle es = turned q es (chosen q idle es)

pub needs_one : (q : ℕ) → 1 ≤ q → (e : Entry) → e.credits ≤ℤ pos 0 → 1 ≤ need q e
needs_one q positive e low = omega (arith, need_more q e positive low)

module _ {F : Type 0} (r : F → F) (q : ℕ) (idle : ℕ → Bool) (positive : 1 ≤ q) where
  is_idle : (e : Entry) → pos 0 <ℤ e.credits → (idle e.flow ≡ false → 1 ≤ need q e) → idle e.flow ≡ true
  is_idle e high some = elim (cases_Bool (idle e.flow)) [
    | inl empty ↦ empty
    | inr busy ↦ absurd (omega (arith, some busy, need_none q e high))
  ]

  -- the flows of xs visited once each, and behind the others
  visited : (xs ys : List Entry) → AllNeed q idle 1 xs → (flows : List F)
      → Agree r flows (clear r (leave q 1 xs) flows) (sel q idle (xs ++ ys)) (sel q idle (ys ++ stay q 1 xs))
  visited [] ys some flows =
      subst₂ (λ (gs : List F) (es : List Entry). Agree r flows gs (sel q idle ys) (sel q idle es))
      (sym (ap (λ (ns : List ℕ). clear r ns flows) (leave-nil q 1) ∙ clear-nil r flows)) (sym (ap (λ (es : List Entry). ys ++ es) (stay-nil q 1) ∙ append-nil ys))
      (same_lists r flows (sel q idle ys) (sel q idle ys) refl)
  visited (x ∷ xs) ys some flows =
      let rest : AllNeed q idle 1 xs = All-tail (λ (e : Entry). idle e.flow ≡ false → 1 ≤ need q e) x xs some in
      elim (sign x.credits) [
        | inl low ↦
            let y : Entry = given q 1 x in
            let first : Agree r flows flows (sel q idle (x ∷ (xs ++ ys))) (sel q idle ((xs ++ ys) ++ y ∷ [])) = turned_granted r q positive x low (xs ++ ys) idle flows in
            let moved : Agree r flows flows (sel q idle (x ∷ (xs ++ ys))) (sel q idle (xs ++ (ys ++ y ∷ []))) =
            subst (λ (es : List Entry). Agree r flows flows (sel q idle (x ∷ (xs ++ ys))) (sel q idle es)) (append_assoc xs ys (y ∷ [])) first in
            let gone : leave q 1 xs ≡ leave q 1 (x ∷ xs) = sym (leave_kept q 1 x xs (needs_one q positive x low)) in
            let kept : (ys ++ y ∷ []) ++ stay q 1 xs ≡ ys ++ stay q 1 (x ∷ xs) =
            append_assoc ys (y ∷ []) (stay q 1 xs) ∙ ap (λ (es : List Entry). ys ++ es) (sym (stay_kept q 1 x xs (needs_one q positive x low))) in
            subst₂ (λ (ns : List ℕ) (es : List Entry). Agree r flows (clear r ns flows) (sel q idle (x ∷ (xs ++ ys))) (sel q idle es)) gone kept
            (agree_on r flows flows (clear r (leave q 1 xs) flows) (sel q idle (x ∷ (xs ++ ys))) (sel q idle (xs ++ (ys ++ y ∷ []))) (sel q idle ((ys ++ y ∷ []) ++ stay q 1 xs))
            moved (visited xs (ys ++ y ∷ []) rest flows))
        | inr high ↦
            let zero_need : need q x ≡ 0 = need_none q x high in
            let empty : idle x.flow ≡ true = is_idle x high (All-head (λ (e : Entry). idle e.flow ≡ false → 1 ≤ need q e) x xs some) in
            let first : Agree r flows (adjust r x.flow flows) (sel q idle (x ∷ (xs ++ ys))) (sel q idle (xs ++ ys)) = turned_leaves r q x (xs ++ ys) zero_need idle empty flows in
            let gone : clear r (leave q 1 xs) (adjust r x.flow flows) ≡ clear r (leave q 1 (x ∷ xs)) flows =
            sym (ap (λ (ns : List ℕ). clear r ns flows) (leave_dropped q 1 x xs (omega (arith, zero_need))) ∙ clear-cons r x.flow (leave q 1 xs) flows) in
            let kept : ys ++ stay q 1 xs ≡ ys ++ stay q 1 (x ∷ xs) = ap (λ (es : List Entry). ys ++ es) (sym (stay_dropped q 1 x xs (omega (arith, zero_need)))) in
            subst₂ (λ (gs : List F) (es : List Entry). Agree r flows gs (sel q idle (x ∷ (xs ++ ys))) (sel q idle es)) gone kept
            (agree_on r flows (adjust r x.flow flows) (clear r (leave q 1 xs) (adjust r x.flow flows)) (sel q idle (x ∷ (xs ++ ys))) (sel q idle (xs ++ ys)) (sel q idle (ys ++ stay q 1 xs))
            first (visited xs ys rest (adjust r x.flow flows)))
      ]

  whole_round : (es : List Entry) → AllNeed q idle 1 es → (flows : List F) → Agree r flows (clear r (leave q 1 es) flows) (sel q idle es) (sel q idle (stay q 1 es))
  whole_round es some flows = subst (λ (xs : List Entry). Agree r flows (clear r (leave q 1 es) flows) (sel q idle xs) (sel q idle (stay q 1 es))) (append-nil es) (visited es [] some flows)

  -- one visit and then m are m + 1
  stay_add : (m : ℕ) (es : List Entry) → stay q (suc m) es ≡ stay q m (stay q 1 es)
  stay_add m [] = stay-nil q (suc m) ∙ sym (ap (stay q m) (stay-nil q 1) ∙ stay-nil q m)
  stay_add m (x ∷ xs) = elim (sign x.credits) [
    | inl low ↦
        stay-append q (suc m) (x ∷ []) xs
        ∙ ap₂ (λ (us vs : List Entry). us ++ vs) (stay_shift q m x positive low) (stay_add m xs)
        ∙ sym (stay-append q m (given q 1 x ∷ []) (stay q 1 xs))
        ∙ ap (stay q m) (sym (stay_kept q 1 x xs (needs_one q positive x low)))
    | inr high ↦
        let zero_need : need q x ≡ 0 = need_none q x high in
        stay_dropped q (suc m) x xs (omega (arith, zero_need)) ∙ stay_add m xs ∙ ap (stay q m) (sym (stay_dropped q 1 x xs (omega (arith, zero_need))))
  ]

  clear_add : (m : ℕ) (es : List Entry) (flows : List F) → clear r (leave q (suc m) es) flows ≡ clear r (leave q m (stay q 1 es)) (clear r (leave q 1 es) flows)
  clear_add m [] flows =
      ap (λ (ns : List ℕ). clear r ns flows) (leave-nil q (suc m)) ∙ clear-nil r flows
      ∙ sym (ap₂ (λ (ns ks : List ℕ). clear r ns (clear r ks flows)) (ap (leave q m) (stay-nil q 1) ∙ leave-nil q m) (leave-nil q 1) ∙ clear-nil r (clear r [] flows) ∙ clear-nil r flows)
  clear_add m (x ∷ xs) flows = elim (sign x.credits) [
    | inl low ↦
        let a : List ℕ = leave q m (given q 1 x ∷ []) in
        let b : List ℕ = leave q m (stay q 1 xs) in
        let c : List ℕ = leave q 1 xs in
        let left : leave q (suc m) (x ∷ xs) ≡ a ++ leave q (suc m) xs =
        leave-append q (suc m) (x ∷ []) xs ∙ ap (λ (ns : List ℕ). ns ++ leave q (suc m) xs) (leave_shift q m x positive low) in
        let right : leave q m (stay q 1 (x ∷ xs)) ≡ a ++ b = ap (leave q m) (stay_kept q 1 x xs (needs_one q positive x low)) ∙ leave-append q m (given q 1 x ∷ []) (stay q 1 xs) in
        let gone : leave q 1 (x ∷ xs) ≡ c = leave_kept q 1 x xs (needs_one q positive x low) in
        ap (λ (ns : List ℕ). clear r ns flows) left ∙ clear-append r a (leave q (suc m) xs) flows
        ∙ clear_add m xs (clear r a flows)
        ∙ ap (clear r b) (clear_comm r c a flows)
        ∙ sym (clear-append r a b (clear r c flows))
        ∙ ap₂ (λ (ns ks : List ℕ). clear r ns (clear r ks flows)) (sym right) (sym gone)
    | inr high ↦
        let zero_need : need q x ≡ 0 = need_none q x high in
        ap (λ (ns : List ℕ). clear r ns flows) (leave_dropped q (suc m) x xs (omega (arith, zero_need))) ∙ clear-cons r x.flow (leave q (suc m) xs) flows
        ∙ clear_add m xs (adjust r x.flow flows)
        ∙ ap (clear r (leave q m (stay q 1 xs))) (sym (clear-cons r x.flow (leave q 1 xs) flows))
        ∙ ap₂ (λ (es : List Entry) (ns : List ℕ). clear r (leave q m es) (clear r ns flows)) (sym (stay_dropped q 1 x xs (omega (arith, zero_need)))) (sym (leave_dropped q 1 x xs (omega (arith, zero_need))))
  ]

  need_left : (m : ℕ) (es : List Entry) → AllNeed q idle (suc m) es → AllNeed q idle m (stay q 1 es)
  need_left m [] some = subst (AllNeed q idle m) (sym (stay-nil q 1)) (All-nil (λ (e : Entry). idle e.flow ≡ false → m ≤ need q e))
  need_left m (x ∷ xs) some =
      let P : ℕ → Entry → Type 0 = λ k e. idle e.flow ≡ false → k ≤ need q e in
      let rest : AllNeed q idle m (stay q 1 xs) = need_left m xs (All-tail (P (suc m)) x xs some) in
      let here : P (suc m) x = All-head (P (suc m)) x xs some in
      elim (sign x.credits) [
        | inl low ↦
            subst (AllNeed q idle m) (sym (stay_kept q 1 x xs (needs_one q positive x low)))
            (All-cons (P m) (given q 1 x) (stay q 1 xs)
            (λ busy. omega (arith, here (ap idle (sym (flow-given q 1 x)) ∙ busy), need_more q x positive low)) rest)
        | inr high ↦ subst (AllNeed q idle m) (sym (stay_dropped q 1 x xs (omega (arith, need_none q x high)))) rest
      ]

  -- m rounds at once
  pub rounds_turned : (m : ℕ) (es : List Entry) → AllNeed q idle m es → (flows : List F)
      → Agree r flows (clear r (leave q m es) flows) (turned q es (chosen q idle es)) (turned q (stay q m es) (chosen q idle (stay q m es)))
  rounds_turned zero es some flows =
      subst₂ (λ (gs : List F) (xs : List Entry). Agree r flows gs (sel q idle es) (sel q idle xs))
      (sym (ap (λ (ns : List ℕ). clear r ns flows) (leave_none q es) ∙ clear-nil r flows)) (sym (stay_none q es))
      (same_lists r flows (sel q idle es) (sel q idle es) refl)
  rounds_turned (suc m) es some flows =
      let one : AllNeed q idle 1 es = All-weaker (λ (e : Entry). idle e.flow ≡ false → suc m ≤ need q e) (λ (e : Entry). idle e.flow ≡ false → 1 ≤ need q e) (λ e h busy. omega (arith, h busy)) es some in
      subst₂ (λ (gs : List F) (xs : List Entry). Agree r flows gs (sel q idle es) (sel q idle xs)) (sym (clear_add m es flows)) (sym (stay_add m es))
      (agree_on r flows (clear r (leave q 1 es) flows) (clear r (leave q m (stay q 1 es)) (clear r (leave q 1 es) flows)) (sel q idle es) (sel q idle (stay q 1 es)) (sel q idle (stay q m (stay q 1 es)))
      (whole_round es one flows) (rounds_turned m (stay q 1 es) (need_left m es some) (clear r (leave q 1 es) flows)))
