-- The choice by least need: that it is the chosen place, and what one more need at either end makes of it.
use Rattle.std.proofs.Common.{◌≡◌, ℕ, zero, suc, ◌<◌, ◌≤◌, nat_le, Bool, true, false, cond, List, [], ◌∷◌, ◌++◌, length, Option, Some, None, IfSome, refl, sym, ap, ◌∙◌, arith, inl, inr, subst}
use Rattle.std.specs.Prelude.{slice_index_or}
use Rattle.std.proofs.lemmas.Bool.{cases_lt, le-leb, lt-leb, cond-true, cond-false}
use Rattle.q_packet.specs.Choice.{Choice, later, sooner, choose, IsChosen}

-- ---- the one in front

pub sooner_none : (k : ℕ) → sooner k None ≡ record { rounds = k; place = 0 }
sooner_none k = refl

pub sooner_within : (k : ℕ) (c : Choice) → k ≤ c.rounds → sooner k (Some c) ≡ record { rounds = k; place = 0 }
sooner_within k c h = cond-true (nat_le k c.rounds) _ _ (le-leb _ _ h)

pub sooner_past : (k : ℕ) (c : Choice) → c.rounds < k → sooner k (Some c) ≡ record { rounds = c.rounds; place = suc c.place }
sooner_past k c h = cond-false (nat_le k c.rounds) _ _ (lt-leb _ _ h)

-- one that needs nothing is chosen before all that stand behind it
pub sooner_first : (o : Option Choice) → sooner 0 o ≡ record { rounds = 0; place = 0 }
sooner_first None = sooner_none 0
sooner_first (Some c) = sooner_within 0 c (omega arith)

-- one in front that may be chosen or not, as a test says
pub choose_if : (b : Bool) (k : ℕ) (needs : List (Option ℕ)) → choose (cond b None (Some k) ∷ needs) ≡ cond b (later (choose needs)) (Some (sooner k (choose needs)))
choose_if true k needs = refl
choose_if false k needs = refl

-- ---- one more at the end

-- the choice from a list of this length, once one more stands at its end, which needs k grants
abbrev pub last_one : ℕ → ℕ → Option Choice → Choice
last_one k len None = record { rounds = k; place = len }
last_one k len (Some c) = cond (nat_le c.rounds k) c (record { rounds = k; place = len })

pub last_one_within : (k len : ℕ) (c : Choice) → c.rounds ≤ k → last_one k len (Some c) ≡ c
last_one_within k len c h = cond-true (nat_le c.rounds k) _ _ (le-leb _ _ h)

pub last_one_past : (k len : ℕ) (c : Choice) → k < c.rounds → last_one k len (Some c) ≡ record { rounds = k; place = len }
last_one_past k len c h = cond-false (nat_le c.rounds k) _ _ (lt-leb _ _ h)

pub later_if : (b : Bool) (c d : Choice) → later (Some (cond b c d)) ≡ Some (cond b (record { rounds = c.rounds; place = suc c.place }) (record { rounds = d.rounds; place = suc d.place }))
later_if true c d = refl
later_if false c d = refl

pub later_end : (k len : ℕ) (o : Option Choice) → later (Some (last_one k len o)) ≡ Some (last_one k (suc len) (later o))
later_end k len None = refl
later_end k len (Some c) = later_if (nat_le c.rounds k) c (record { rounds = k; place = len })

pub sooner_end : (j k len : ℕ) (o : Option Choice) → sooner j (Some (last_one k len o)) ≡ last_one k (suc len) (Some (sooner j o))
sooner_end j k len None = elim (cases_lt k j) [
  | inl after ↦ sooner_past j (record { rounds = k; place = len }) after ∙ sym (last_one_past k (suc len) (record { rounds = j; place = 0 }) after)
  | inr before ↦ sooner_within j (record { rounds = k; place = len }) before ∙ sym (last_one_within k (suc len) (record { rounds = j; place = 0 }) before)
]
sooner_end j k len (Some c) =
    let at_j : Choice = record { rounds = j; place = 0 } in
    let behind : Choice = record { rounds = c.rounds; place = suc c.place } in
    let at_k : Choice = record { rounds = k; place = len } in
    elim (cases_lt k c.rounds) [
      | inl far ↦
          ap (λ (d : Choice). sooner j (Some d)) (last_one_past k len c far)
          ∙ elim (cases_lt k j) [
            | inl after ↦ sooner_past j at_k after ∙ sym (elim (cases_lt c.rounds j) [
              | inl second ↦ ap (λ (d : Choice). last_one k (suc len) (Some d)) (sooner_past j c second) ∙ last_one_past k (suc len) behind far
              | inr first ↦ ap (λ (d : Choice). last_one k (suc len) (Some d)) (sooner_within j c first) ∙ last_one_past k (suc len) at_j after
            ])
            | inr before ↦ sooner_within j at_k before
                ∙ sym (ap (λ (d : Choice). last_one k (suc len) (Some d)) (sooner_within j c (omega arith)) ∙ last_one_within k (suc len) at_j before)
          ]
      | inr near ↦
          ap (λ (d : Choice). sooner j (Some d)) (last_one_within k len c near)
          ∙ elim (cases_lt c.rounds j) [
            | inl second ↦ sooner_past j c second
                ∙ sym (ap (λ (d : Choice). last_one k (suc len) (Some d)) (sooner_past j c second) ∙ last_one_within k (suc len) behind near)
            | inr first ↦ sooner_within j c first
                ∙ sym (ap (λ (d : Choice). last_one k (suc len) (Some d)) (sooner_within j c first) ∙ last_one_within k (suc len) at_j (omega arith))
          ]
    ]

pub choose_end : (needs : List (Option ℕ)) (k : ℕ) → choose (needs ++ Some k ∷ []) ≡ Some (last_one k (length needs) (choose needs))
choose_end [] k = refl
choose_end (None ∷ needs) k = ap later (choose_end needs k) ∙ later_end k (length needs) (choose needs)
choose_end (Some j ∷ needs) k = ap (λ o. Some (sooner j o)) (choose_end needs k) ∙ ap Some (sooner_end j k (length needs) (choose needs))

-- one at the end that cannot be chosen
pub choose_end_none : (needs : List (Option ℕ)) → choose (needs ++ None ∷ []) ≡ choose needs
choose_end_none [] = refl
choose_end_none (None ∷ needs) = ap later (choose_end_none needs)
choose_end_none (Some j ∷ needs) = ap (λ o. Some (sooner j o)) (choose_end_none needs)

-- one at the end that may be chosen or not, as a test says
pub choose_end_if : (b : Bool) (k : ℕ) (needs : List (Option ℕ)) → choose (needs ++ cond b None (Some k) ∷ []) ≡ cond b (choose needs) (Some (last_one k (length needs) (choose needs)))
choose_end_if true k needs = choose_end_none needs
choose_end_if false k needs = choose_end needs k

-- ---- the choice is the place that `IsChosen` says, and there is no other

-- what a choice from the rest makes of one that cannot be chosen in front
chosen_later : (needs : List (Option ℕ)) (c : Choice) → IsChosen needs c → IsChosen (None ∷ needs) (record { rounds = c.rounds; place = suc c.place })
chosen_later needs c h = record { inside = omega (arith, h.inside); needed = h.needed; least = least; first = first } where
  least : (i k : ℕ) → slice_index_or (None ∷ needs) i None ≡ Some k → c.rounds ≤ k
  least zero k e = cc
  least (suc i) k e = h.least i k e

  first : (i k : ℕ) → i < suc c.place → slice_index_or (None ∷ needs) i None ≡ Some k → c.rounds < k
  first zero k before e = cc
  first (suc i) k before e = h.first i k (omega arith) e

-- and of one in front that needs j grants
chosen_behind : (j : ℕ) (needs : List (Option ℕ)) (c : Choice) → c.rounds < j → IsChosen needs c → IsChosen (Some j ∷ needs) (record { rounds = c.rounds; place = suc c.place })
chosen_behind j needs c fewer h = record { inside = omega (arith, h.inside); needed = h.needed; least = least; first = first } where
  least : (i k : ℕ) → slice_index_or (Some j ∷ needs) i None ≡ Some k → c.rounds ≤ k
  least zero k e = let same : j ≡ k = cc in omega arith
  least (suc i) k e = h.least i k e

  first : (i k : ℕ) → i < suc c.place → slice_index_or (Some j ∷ needs) i None ≡ Some k → c.rounds < k
  first zero k before e = let same : j ≡ k = cc in omega arith
  first (suc i) k before e = h.first i k (omega arith) e

chosen_front : (j : ℕ) (needs : List (Option ℕ)) → ((i k : ℕ) → slice_index_or needs i None ≡ Some k → j ≤ k) → IsChosen (Some j ∷ needs) (record { rounds = j; place = 0 })
chosen_front j needs more = record { inside = omega arith; needed = refl; least = least; first = λ i k before e. absurd (omega arith) } where
  least : (i k : ℕ) → slice_index_or (Some j ∷ needs) i None ≡ Some k → j ≤ k
  least zero k e = let same : j ≡ k = cc in omega arith
  least (suc i) k e = more i k e

-- that none can be chosen
abbrev pub NoneNeeds : List (Option ℕ) → Type 0
NoneNeeds needs = (i : ℕ) → slice_index_or needs i None ≡ None

-- a choice, or that there is none to be made
abbrev pub IsChoiceOf : List (Option ℕ) → Option Choice → Type 0
IsChoiceOf needs None = NoneNeeds needs
IsChoiceOf needs (Some c) = IsChosen needs c

later_is : (needs : List (Option ℕ)) (o : Option Choice) → IsChoiceOf needs o → IsChoiceOf (None ∷ needs) (later o)
later_is needs None h = λ i. elim i as (λ (i : ℕ). slice_index_or (None ∷ needs) i None ≡ None) [ zero ↦ refl | suc i ↦ h i ]
later_is needs (Some c) h = chosen_later needs c h

sooner_is : (j : ℕ) (needs : List (Option ℕ)) (o : Option Choice) → IsChoiceOf needs o → IsChosen (Some j ∷ needs) (sooner j o)
sooner_is j needs None h = chosen_front j needs (λ i k e. let none = h i in cc)
sooner_is j needs (Some c) h = elim (cases_lt c.rounds j) [
  | inl fewer ↦ subst (IsChosen (Some j ∷ needs)) (sym (sooner_past j c fewer)) (chosen_behind j needs c fewer h)
  | inr enough ↦ subst (IsChosen (Some j ∷ needs)) (sym (sooner_within j c enough)) (chosen_front j needs (λ i k e. omega (arith, h.least i k e)))
]

pub choice_is : (needs : List (Option ℕ)) → IsChoiceOf needs (choose needs)
choice_is [] = λ i. refl
choice_is (None ∷ needs) = later_is needs (choose needs) (choice_is needs)
choice_is (Some j ∷ needs) = sooner_is j needs (choose needs) (choice_is needs)

pub chosen_is : (needs : List (Option ℕ)) (c : Choice) → choose needs ≡ Some c → IsChosen needs c
chosen_is needs c e = subst (IsChoiceOf needs) e (choice_is needs)

-- the choice stands within its list
pub choose_within : (needs : List (Option ℕ)) → IfSome (choose needs) (λ c. c.place < length needs)
choose_within needs = within (choose needs) (choice_is needs) where
  within : (o : Option Choice) → IsChoiceOf needs o → IfSome o (λ c. c.place < length needs)
  within None h = tt
  within (Some c) h = h.inside
