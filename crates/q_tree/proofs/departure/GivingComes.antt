-- Where a packet can be given with nothing lost or marked, it is given.
use Rattle.std.proofs.Common.{◌≡◌, ℕ, ◌+◌, ◌≤◌, ◌∙◌, List, [], ◌∷◌, length, refl, sym, ap, subst, Some, arith}
use Rattle.std.specs.Prelude.{Bool, true, false, nat_lt, option_map, slice_get}
use Rattle.std.proofs.lemmas.Bool.{ltb-false, ltb-true}
use Rattle.std.proofs.lemmas.Option.{none-some, same_Some, slice_get_past}
use Rattle.q_bucket.specs.Level.{TokenBucket, allows}
use Rattle.q_packet.specs.Descriptor.{Descriptor}
use Rattle.q_model.specs.Node as spec
use Rattle.q_model.specs.Node.{Node}
use Rattle.q_model.specs.Pop.{pop}
use Rattle.q_tree.specs.departure.GiveSteps.{CanSpendHead, HasFirstHead}
use Rattle.q_tree.specs.departure.PopSteps.{HasHead, HasHeadIn}
use Rattle.q_tree.specs.disciplines.EmptyFifo.{IsEmptyFifo, IsEmptyIn}
use Rattle.q_tree.specs.Kept.{Kept}

-- ---- the bands of a prio

-- a fifo with a head is not empty
head-not_empty : (n : Node Kept) → HasHead n → IsEmptyFifo n → ⊥
head-not_empty n h e = by n.own.discipline h.head e.empty
  where
    by : (d : spec.Discipline) → HasHeadIn d → IsEmptyIn d → ⊥
    by (spec.Fifo limit packets) head empty = omega (arith, head, empty)
    by (spec.Prio priomap) head empty = head
    by (spec.Tbf bucket limit) head empty = head
    by (spec.Drr s) head empty = head
    by (spec.FqCodel s) head empty = head

-- the band that has the head is this one, or a later one
at-band : (ns : List (Node Kept)) (i : ℕ) (c : Node Kept) (h : HasFirstHead ns) → slice_get ns i ≡ Some c → i ≡ h.place → HasHead c
at-band ns i c h at same = subst HasHead (same_Some h.band c (sym h.there ∙ ap (λ (k : ℕ). slice_get ns k) (sym same) ∙ at)) h.head

pub band-passed : (ns : List (Node Kept)) (i : ℕ) (c : Node Kept) (h : HasFirstHead ns) → i ≤ h.place → slice_get ns i ≡ Some c → IsEmptyFifo c → i + 1 ≤ h.place
band-passed ns i c h within at empty = by (nat_lt i h.place) refl
  where
    by : (b : Bool) → nat_lt i h.place ≡ b → i + 1 ≤ h.place
    by true less = omega (arith, ltb-true i h.place less)
    by false less = absurd (head-not_empty c (at-band ns i c h at (omega (arith, within, ltb-false i h.place less))) empty)

pub band-decides : (ns : List (Node Kept)) (i : ℕ) (c : Node Kept) (h : HasFirstHead ns) → i ≤ h.place → slice_get ns i ≡ Some c → (IsEmptyFifo c → ⊥) → HasHead c
band-decides ns i c h within at not_empty = by (nat_lt i h.place) refl
  where
    by : (b : Bool) → nat_lt i h.place ≡ b → HasHead c
    by true less = absurd (not_empty (h.idle i c (ltb-true i h.place less) at))
    by false less = at-band ns i c h at (omega (arith, within, ltb-false i h.place less))

pub no-band : (ns : List (Node Kept)) (i : ℕ) (h : HasFirstHead ns) → i ≤ h.place → length ns ≤ i → ⊥
no-band ns i h within past = none-some h.band (sym (slice_get_past ns h.place (omega (arith, within, past))) ∙ h.there)

-- ---- the child of a tbf

module _ (now : ℕ) (bucket : TokenBucket) (child : Node Kept) (h : CanSpendHead now bucket (child ∷ [])) where
  same : child ≡ h.child
  same = same_Some child h.child h.there

  pub spends-head : HasHead child
  spends-head = subst HasHead (sym same) h.head

  pub spends : (len : ℕ) → option_map (λ (p : Descriptor). p.len) (pop child).shown ≡ Some len → allows bucket now len ≡ true
  spends len is =
      let shown : Some h.packet.len ≡ Some len = sym (ap (option_map (λ (p : Descriptor). p.len)) h.shown) ∙ ap (λ (n : Node Kept). option_map (λ (p : Descriptor). p.len) (pop n).shown) (sym same) ∙ is in
      subst (λ (n : ℕ). allows bucket now n ≡ true) (same_Some h.packet.len len shown) h.allowed
