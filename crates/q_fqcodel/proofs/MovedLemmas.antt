-- One packet leaves and another joins: that is as if the second had joined first, where the first was there.
use Rattle.std.proofs.Common.{◌≡◌, ◌≢◌, ℕ, ◌<◌, ◌≤◌, List, [], ◌∷◌, ◌++◌, length, get_or, set, take, drop, sym, refl, ap, ap₂, ◌∙◌, arith, ⊎_elim}
use Rattle.std.proofs.lemmas.Bool.{cases_eq}
use Rattle.std.proofs.lemmas.List.{length-set, set-set, set_comm, get_or-set_same, get_or-set_other}
use Rattle.q_packet.specs.Totals.{count, size}
use Rattle.q_packet.proofs.TotalsLemmas.{size-cons, size_push}
use Rattle.q_packet.specs.declared.stamped.Stamped.{Stamped}
use Rattle.q_fqcodel.specs.Pool.{moved, sizes}
use Rattle.q_fqcodel.proofs.PooledLemmas.{flow_with, sizes-set}

drop_first : (q : List Stamped) (s : Stamped) → 0 < count q → drop 1 (q ++ s ∷ []) ≡ drop 1 q ++ s ∷ []
drop_first [] s h = absurd (omega (arith, h))
drop_first (x ∷ q) s h = refl

first_same : (q : List Stamped) (s : Stamped) → 0 < count q → take 1 (q ++ s ∷ []) ≡ take 1 q
first_same [] s h = absurd (omega (arith, h))
first_same (x ∷ q) s h = refl

size_rest : (q : List Stamped) → size (drop 1 q) ≤ size q
size_rest [] = omega arith
size_rest (x ∷ q) = omega (arith, size-cons x q)

module _ (qs : List (List Stamped)) (from flow : ℕ) (s : Stamped) (some : 0 < count (get_or qs from [])) (within : flow < length qs) where
  -- the queues once the packet has joined
  abbrev pub fuller : List (List Stamped)
  fuller = set qs flow (get_or qs flow [] ++ s ∷ [])

  abbrev rest : List Stamped
  rest = drop 1 (get_or qs from [])

  abbrev own : List Stamped
  own = get_or (set qs from rest) flow [] ++ s ∷ []

  from_within : from < length qs
  from_within = flow_with qs from some

  own_same : from ≡ flow → own ≡ rest ++ s ∷ []
  own_same e = ap (λ (q : List Stamped). q ++ s ∷ []) (ap (get_or (set qs from rest) flow) refl ∙ ap (λ (n : ℕ). get_or (set qs from rest) n []) (sym e) ∙ get_or-set_same qs from rest [] from_within)

  own_other : from ≢ flow → own ≡ get_or qs flow [] ++ s ∷ []
  own_other ne = ap (λ (q : List Stamped). q ++ s ∷ []) (get_or-set_other qs from flow rest [] (λ e. ne (sym e)))

  fuller_same : from ≡ flow → get_or fuller from [] ≡ get_or qs from [] ++ s ∷ []
  fuller_same e =
      ap (λ (n : ℕ). get_or fuller n []) e
      ∙ get_or-set_same qs flow (get_or qs flow [] ++ s ∷ []) [] within
      ∙ ap (λ (n : ℕ). get_or qs n [] ++ s ∷ []) (sym e)

  fuller_other : from ≢ flow → get_or fuller from [] ≡ get_or qs from []
  fuller_other ne = get_or-set_other qs flow from (get_or qs flow [] ++ s ∷ []) [] ne

  pub moved_is : moved from flow s qs ≡ set fuller from (drop 1 (get_or fuller from []))
  moved_is =
      ⊎_elim
      (λ (e : from ≡ flow).
      ap (set (set qs from rest) flow) (own_same e)
      ∙ ap (λ (n : ℕ). set (set qs n rest) flow (rest ++ s ∷ [])) e
      ∙ set-set qs flow rest (rest ++ s ∷ [])
      ∙ sym (set-set qs flow (get_or qs flow [] ++ s ∷ []) (rest ++ s ∷ []))
      ∙ ap₂ (λ (n : ℕ) (q : List Stamped). set fuller n q) (sym e) (sym (ap (drop 1) (fuller_same e) ∙ drop_first (get_or qs from []) s some)))
      (λ (ne : from ≢ flow).
      ap (set (set qs from rest) flow) (own_other ne)
      ∙ set_comm qs from flow rest (get_or qs flow [] ++ s ∷ []) ne
      ∙ ap (λ (q : List Stamped). set fuller from (drop 1 q)) (sym (fuller_other ne)))
      (cases_eq from flow)

  -- the packet in front is the same
  pub first_kept : take 1 (get_or fuller from []) ≡ take 1 (get_or qs from [])
  first_kept =
      ⊎_elim
      (λ (e : from ≡ flow). ap (take 1) (fuller_same e) ∙ first_same (get_or qs from []) s some)
      (λ (ne : from ≢ flow). ap (take 1) (fuller_other ne))
      (cases_eq from flow)

  -- ---- the bytes of each flow

  module _ (new : List (List Stamped)) (is : new ≡ moved from flow s qs) where
    new_within : flow < length (set qs from rest)
    new_within = omega (arith, within, length-set qs from rest)

    new_own : get_or new flow [] ≡ own
    new_own = ap (λ (l : List (List Stamped)). get_or l flow []) is ∙ get_or-set_same (set qs from rest) flow own [] new_within

    new_sizes : sizes new ≡ set (set (sizes qs) from (size rest)) flow (size own)
    new_sizes = ap sizes is ∙ sizes-set (set qs from rest) flow own ∙ ap (λ (l : List ℕ). set l flow (size own)) (sizes-set qs from rest)

    new_from : from ≢ flow → get_or new from [] ≡ rest
    new_from ne =
        ap (λ (l : List (List Stamped)). get_or l from []) is
        ∙ get_or-set_other (set qs from rest) flow from own [] ne
        ∙ get_or-set_same qs from rest [] from_within

    -- the one has grown, and the other has not
    pub grown : (held : ℕ) → held ≡ size (get_or new flow []) → from ≢ flow → size (get_or qs flow []) ≤ held
    grown held read ne = omega (arith, read, ap size new_own, ap size (own_other ne), size_push (get_or qs flow []) s)

    pub fallen : (left : ℕ) → left ≡ size (get_or new from []) → from ≢ flow → left ≤ size (get_or qs from [])
    fallen left read ne = omega (arith, read, ap size (new_from ne), size_rest (get_or qs from []))

    module _ (ws : List ℕ) (held : ℕ) (told : ws ≡ set (sizes qs) flow held) (read : held ≡ size (get_or new flow [])) where
      is_told : ws ≡ set (sizes qs) flow (size own)
      is_told = told ∙ ap (set (sizes qs) flow) (read ∙ ap size new_own)

      pub one_told : from ≡ flow → ws ≡ sizes new
      one_told e =
          is_told
          ∙ sym (set-set (sizes qs) flow (size rest) (size own))
          ∙ ap (λ (n : ℕ). set (set (sizes qs) n (size rest)) flow (size own)) (sym e)
          ∙ sym new_sizes

      pub both_told : (ws2 : List ℕ) (left : ℕ) → ws2 ≡ set ws from left → left ≡ size (get_or new from []) → from ≢ flow → ws2 ≡ sizes new
      both_told ws2 left told2 read2 ne =
          told2
          ∙ ap₂ (λ (l : List ℕ) (n : ℕ). set l from n) is_told (read2 ∙ ap size (new_from ne))
          ∙ sym (set_comm (sizes qs) from flow (size rest) (size own) ne)
          ∙ sym new_sizes
