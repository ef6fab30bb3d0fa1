-- What a poll takes of a tbf from its one child, and what a drr takes from the child of a class.
use Rattle.std.proofs.Common.{◌≡◌, ℕ, ◌+◌, ◌≤◌, ◌⊎◌, inl, inr, Bool, true, false, List, [], ◌∷◌, ◌++◌, map, set, refl, sym, ap, subst, Option, Some, None, option_to_list, arith}
use Rattle.std.specs.Prelude.{slice_get, if◌then◌else◌}
use Rattle.std.specs.Option.{option_map_or}
use Rattle.std.proofs.lemmas.List.Sums.{sum_by-append}
use Rattle.q_packet.specs.Descriptor.{Descriptor}
use Rattle.q_bucket.specs.Level.{TokenBucket, allows, after_spend}
use Rattle.q_drr.specs.Schedule.{Schedule}
use Rattle.q_model.specs.Tally.{Sent, Spent}
use Rattle.q_model.specs.Node.{Discipline, Tbf, Drr, Own, side_by_side}
use Rattle.q_model.specs.Work.{Worked}
use Rattle.q_model.specs.Ask.{Asked, holding, Dequeue, dequeued, waits, spends, ask_tbf, service_of, place_met, gives_nothing, class_gives, class_serves, ask_discipline, ask_own, since_shown}
use Rattle.q_model.specs.Stretches.{spent_by, bytes_spent, length_held}
use Rattle.q_invariants.proofs.ask.AskStages.{IsStageOf}
use Rattle.q_invariants.proofs.bucket.BucketSteps.{given-bytes}
use Rattle.q_invariants.proofs.sums.NoteSums.{AreRisen, sum-risen, past-spent}

-- a node as it is left, of which so many bytes were taken
abbrev pub Leaves : Asked → Worked → ℕ → Type 0
Leaves a w taken = ((w ≡ a.before) × (taken ≡ 0)) ⊎ ((w ≡ a.peeked) × (taken ≡ 0)) ⊎ ((w ≡ a.taken) × (taken ≡ length_held a.shown))

-- ---- a tbf takes of its child what its bucket pays for

pub record TakesOf (a : Asked) (w : Worked) : Type 0 where
  pub child : Worked
  pub below_is : w.below ≡ side_by_side (child ∷ [])
  pub leaves : Leaves a child (bytes_spent w.memory)

module _ (now : ℕ) (own : Own) (a : Asked) (rises : AreRisen a.rises) where
  as-was : (w : Worked) → w.below ≡ side_by_side (a.before ∷ []) → bytes_spent w.memory ≡ 0 → TakesOf a w
  as-was w below none = record { child = a.before; below_is = below; leaves = inl (refl, none) }

  holds-takes : (p : Descriptor) (w : Worked) → IsStageOf (holding own (a ∷ []) p) w → TakesOf a w
  holds-takes p w (inl e) = subst (TakesOf a) (sym e) (as-was (holding own (a ∷ []) p).before refl refl)
  holds-takes p w (inr (inl e)) = subst (TakesOf a) (sym e) (as-was (holding own (a ∷ []) p).peeked refl refl)
  holds-takes p w (inr (inr e)) = subst (TakesOf a) (sym e) (as-was (holding own (a ∷ []) p).taken refl (omega arith))

  dequeued-takes : (d : Dequeue) (child : Worked) (paid : ℕ) → d.children ≡ child ∷ [] → d.rises ≡ a.rises → bytes_spent d.mine ≡ paid
      → Leaves a child paid → (w : Worked) → IsStageOf (dequeued own (a ∷ []) d) w → TakesOf a w
  dequeued-takes d child paid children risen mine leaves w stage =
      let past = sum-risen spent_by past-spent d.rises (subst AreRisen (sym risen) rises) in
      let all = sum_by-append spent_by d.rises d.mine in
      let more = sum_by-append spent_by (d.rises ++ d.mine) (map Sent (option_to_list d.packet)) in
      let given = given-bytes d.packet in
      let peeked : bytes_spent (dequeued own (a ∷ []) d).peeked.memory ≡ paid = omega (arith, past, all, mine) in
      let taken : bytes_spent (dequeued own (a ∷ []) d).taken.memory ≡ paid = omega (arith, past, all, mine, more, given.1) in
      by stage peeked taken
    where
      by : IsStageOf (dequeued own (a ∷ []) d) w → bytes_spent (dequeued own (a ∷ []) d).peeked.memory ≡ paid → bytes_spent (dequeued own (a ∷ []) d).taken.memory ≡ paid → TakesOf a w
      by (inl e) peeked taken = subst (TakesOf a) (sym e) (as-was (dequeued own (a ∷ []) d).before refl refl)
      by (inr (inl e)) peeked taken = subst (TakesOf a) (sym e) (record { child = child; below_is = ap side_by_side children; leaves = subst (Leaves a child) (sym peeked) leaves })
      by (inr (inr e)) peeked taken = subst (TakesOf a) (sym e) (record { child = child; below_is = ap side_by_side children; leaves = subst (Leaves a child) (sym taken) leaves })

  waits-takes : (w : Worked) → IsStageOf (waits own (a ∷ []) a) w → TakesOf a w
  waits-takes w stage =
      dequeued-takes (record { after = own; children = a.peeked ∷ []; rises = a.rises; mine = []; packet = None; since = 0 }) a.peeked 0 refl refl refl (inr (inl (refl, refl))) w stage

  tbf-takes : (b : TokenBucket) (limit : ℕ) (w : Worked) → IsStageOf (ask_tbf now own (a ∷ []) b limit) w → TakesOf a w
  tbf-takes b limit w stage = by a.shown refl stage
    where
      may : (p : Descriptor) → a.shown ≡ Some p → (ok : Bool) → IsStageOf (if ok then spends own (a ∷ []) b limit now a p else waits own (a ∷ []) a) w → TakesOf a w
      may p e false st = waits-takes w st
      may p e true st =
          dequeued-takes (record {
            after = record own { discipline = Tbf (after_spend b now p.len) limit };
            children = a.taken ∷ [];
            rises = a.rises;
            mine = Spent p.len ∷ [];
            packet = Some p;
            since = since_shown a;
          }) a.taken p.len refl refl (omega arith) (inr (inr (refl, sym (ap length_held e)))) w st

      by : (o : Option Descriptor) → a.shown ≡ o
          → IsStageOf (option_map_or (λ (p : Descriptor). if allows b now p.len then spends own (a ∷ []) b limit now a p else waits own (a ∷ []) a) o
          (waits own (a ∷ []) a)) w
          → TakesOf a w
      by None e st = waits-takes w st
      by (Some p) e st = may p e (allows b now p.len) st

  pub root-takes : (b : TokenBucket) (limit : ℕ) → own.discipline ≡ Tbf b limit → (w : Worked) → IsStageOf (ask_own now own (a ∷ [])) w → TakesOf a w
  root-takes b limit is w stage = by own.held stage
    where
      by : (o : Option Descriptor) → IsStageOf (option_map_or (holding own (a ∷ [])) o (ask_discipline now own (a ∷ []) own.discipline)) w → TakesOf a w
      by (Some p) st = holds-takes p w st
      by None st = tbf-takes b limit w (subst (λ (d : Discipline). IsStageOf (ask_discipline now own (a ∷ []) d) w) is st)

-- ---- a drr takes of the child of a class what it gives or holds

-- the class at this place gave what it showed
pub record GaveAt (s : Schedule) (below : List Asked) (w : Worked) (taken : ℕ) : Type 0 where
  pub place : ℕ
  pub answer : Asked
  pub placed : place_met s below ≡ Some place
  pub there : slice_get below place ≡ Some answer
  pub below_is : w.below ≡ side_by_side (set (service_of s below).below place answer.taken)
  pub gives : taken + length_held w.own.held ≤ length_held answer.shown

module _ (now : ℕ) (own : Own) (below : List Asked) (s : Schedule) (is : own.discipline ≡ Drr s) where
  abbrev Takes : Worked → ℕ → Type 0
  Takes w taken = (taken + length_held w.own.held ≤ length_held own.held) ⊎ GaveAt s below w taken

  pub held-takes : (p : Descriptor) → own.held ≡ Some p → (w : Worked) (taken : ℕ) → Leaves (holding own below p) w taken
      → taken + length_held w.own.held ≤ length_held own.held
  held-takes p e w taken (inl h) = omega (arith, h.1, ap (λ (x : Worked). length_held x.own.held) h.0)
  held-takes p e w taken (inr (inl h)) = omega (arith, h.1, ap (λ (x : Worked). length_held x.own.held) h.0)
  held-takes p e w taken (inr (inr h)) =
      let held : length_held own.held ≡ p.len = ap length_held e in
      let after : length_held w.own.held ≡ 0 = ap (λ (x : Worked). length_held x.own.held) h.0 in
      let given : taken ≡ p.len = h.1 in
      omega (arith, held, after, given)

  abbrev nothing : Asked
  nothing = gives_nothing own below (service_of s below)

  none-takes : own.held ≡ None → (w : Worked) (taken : ℕ) → Leaves nothing w taken → Takes w taken
  none-takes e w taken (inl h) = inl (omega (arith, h.1, ap (λ (x : Worked). length_held x.own.held) h.0))
  none-takes e w taken (inr (inl h)) =
      let after : length_held w.own.held ≡ 0 = ap (λ (x : Worked). length_held x.own.held) h.0 in inl (omega (arith, h.1, after))
  none-takes e w taken (inr (inr h)) =
      let after : length_held w.own.held ≡ 0 = ap (λ (x : Worked). length_held x.own.held) h.0 in
      let given : taken ≡ 0 = h.1 in
      inl (omega (arith, after, given))

  gives-takes : own.held ≡ None → (i : ℕ) (a : Asked) (p : Descriptor) → place_met s below ≡ Some i → slice_get below i ≡ Some a → a.shown ≡ Some p
      → (w : Worked) (taken : ℕ) → Leaves (class_gives own below (service_of s below) i a p) w taken → Takes w taken
  gives-takes e i a p placed there shows w taken (inl h) = inl (omega (arith, h.1, ap (λ (x : Worked). length_held x.own.held) h.0))
  gives-takes e i a p placed there shows w taken (inr (inl h)) =
      let after : length_held w.own.held ≡ p.len = ap (λ (x : Worked). length_held x.own.held) h.0 in
      let shown : length_held a.shown ≡ p.len = ap length_held shows in
      inr (record { place = i; answer = a; placed = placed; there = there; below_is = ap (λ (x : Worked). x.below) h.0; gives = omega (arith, h.1, after, shown) })
  gives-takes e i a p placed there shows w taken (inr (inr h)) =
      let after : length_held w.own.held ≡ 0 = ap (λ (x : Worked). length_held x.own.held) h.0 in
      let shown : length_held a.shown ≡ p.len = ap length_held shows in
      let given : taken ≡ p.len = h.1 in
      inr (record { place = i; answer = a; placed = placed; there = there; below_is = ap (λ (x : Worked). x.below) h.0; gives = omega (arith, given, after, shown) })

  pub drr-takes : (w : Worked) (taken : ℕ) → Leaves (ask_own now own below) w taken → Takes w taken
  drr-takes w taken leaves = by own.held refl leaves
    where
      shows : own.held ≡ None → (i : ℕ) (a : Asked) (o : Option Descriptor) → place_met s below ≡ Some i → slice_get below i ≡ Some a → a.shown ≡ o
          → Leaves (option_map_or (class_gives own below (service_of s below) i a) o nothing) w taken → Takes w taken
      shows e i a None placed there shown h = none-takes e w taken h
      shows e i a (Some p) placed there shown h = gives-takes e i a p placed there shown w taken h

      child : own.held ≡ None → (i : ℕ) (o : Option Asked) → place_met s below ≡ Some i → slice_get below i ≡ o
          → Leaves (option_map_or (class_serves own below (service_of s below) i) o nothing) w taken → Takes w taken
      child e i None placed there h = none-takes e w taken h
      child e i (Some a) placed there h = shows e i a a.shown placed there refl h

      met : own.held ≡ None → (o : Option ℕ) → place_met s below ≡ o
          → Leaves (option_map_or (λ i. option_map_or (class_serves own below (service_of s below) i) (slice_get below i) nothing) o nothing) w taken → Takes w taken
      met e None placed h = none-takes e w taken h
      met e (Some i) placed h = child e i (slice_get below i) placed refl h

      by : (o : Option Descriptor) → own.held ≡ o → Leaves (option_map_or (holding own below) o (ask_discipline now own below own.discipline)) w taken → Takes w taken
      by (Some p) e h = inl (held-takes p e w taken h)
      by None e h = met e (place_met s below) refl (subst (λ (d : Discipline). Leaves (ask_discipline now own below d) w taken) is h)
