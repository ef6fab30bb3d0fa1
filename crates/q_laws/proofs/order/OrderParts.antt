-- The packets of one flow among those that wait in lists side by side: at the children of a node, or in the flows of an fq_codel.
use Rattle.std.proofs.Common.{◌≡◌, ℕ, zero, suc, ◌⊎◌, inl, inr, refl, sym, ap, subst, ◌∙◌, List, [], ◌∷◌, ◌++◌, map, set, Some}
use Rattle.std.specs.Prelude.{filter, slice_get}
use Rattle.std.specs.List.{flat_map}
use Rattle.std.proofs.lemmas.List.{append-nil, append_assoc, map-append}
use Rattle.std.proofs.lemmas.List.Elements.{filter-append}
use Rattle.std.proofs.lemmas.Option.{none-some, same_Some}
use Rattle.q_packet.specs.Descriptor.{Descriptor}
use Rattle.q_packet.specs.declared.ecn.Ecn.TheVariants.{NotEct}
use Rattle.q_laws.specs.order.Order.{is_alike, flow_among, IsPartOf}
use Rattle.q_laws.proofs.order.PartLemmas.{part-refl, part-none, part-append, part-trans, part-behind}

abbrev pub flat : List (List Descriptor) → List Descriptor
flat below = flat_map (λ (packets : List Descriptor). packets) below

module _ (c : Descriptor) where
  pub flow-append : (ps qs : List Descriptor) → flow_among c (ps ++ qs) ≡ flow_among c ps ++ flow_among c qs
  flow-append ps qs =
      ap (map (λ (p : Descriptor). record p { ecn = NotEct })) (filter-append (is_alike c) ps qs)
      ∙ map-append (λ (p : Descriptor). record p { ecn = NotEct }) (filter (is_alike c) ps) (filter (is_alike c) qs)

  -- those of the flow after it are a part of those before it
  abbrev pub IsLess : List Descriptor → List Descriptor → Type 0
  IsLess after before = IsPartOf (flow_among c after) (flow_among c before)

  pub less-append : (qs ps us vs : List Descriptor) → IsLess qs ps → IsLess us vs → IsLess (qs ++ us) (ps ++ vs)
  less-append qs ps us vs h k =
      subst (λ xs. IsPartOf xs (flow_among c (ps ++ vs))) (sym (flow-append qs us))
      (subst (IsPartOf (flow_among c qs ++ flow_among c us)) (sym (flow-append ps vs)) (part-append (flow_among c qs) (flow_among c ps) (flow_among c us) (flow_among c vs) h k))

  pub less-none : (qs ps : List Descriptor) → IsLess qs ps → flow_among c ps ≡ [] → flow_among c qs ≡ []
  less-none qs ps h e = part-none (flow_among c qs) (subst (IsPartOf (flow_among c qs)) e h)

  pub less-behind : (ps qs rs : List Descriptor) → IsLess (ps ++ qs) rs → IsLess qs rs
  less-behind ps qs rs h =
      part-trans (flow_among c qs) (flow_among c ps ++ flow_among c qs) (flow_among c rs) (part-behind (flow_among c ps) (flow_among c qs))
      (subst (λ xs. IsPartOf xs (flow_among c rs)) (flow-append ps qs) h)

  no-front : (xs ys : List Descriptor) → xs ++ ys ≡ [] → xs ≡ []
  no-front [] ys e = refl
  no-front (x ∷ xs) ys e = cc

  no-rest : (xs ys : List Descriptor) → xs ++ ys ≡ [] → ys ≡ []
  no-rest [] ys e = e
  no-rest (x ∷ xs) ys e = cc

  pub none-front : (ps qs : List Descriptor) → flow_among c (ps ++ qs) ≡ [] → flow_among c ps ≡ []
  none-front ps qs e = no-front (flow_among c ps) (flow_among c qs) (sym (flow-append ps qs) ∙ e)

  pub none-rest : (ps qs : List Descriptor) → flow_among c (ps ++ qs) ≡ [] → flow_among c qs ≡ []
  none-rest ps qs e = no-rest (flow_among c ps) (flow_among c qs) (sym (flow-append ps qs) ∙ e)

  pub skip-front : (ps qs : List Descriptor) → flow_among c ps ≡ [] → flow_among c (ps ++ qs) ≡ flow_among c qs
  skip-front ps qs e = flow-append ps qs ∙ ap (λ (xs : List Descriptor). xs ++ flow_among c qs) e

  pub skip-rest : (ps qs : List Descriptor) → flow_among c qs ≡ [] → flow_among c (ps ++ qs) ≡ flow_among c ps
  skip-rest ps qs e = flow-append ps qs ∙ ap (λ (xs : List Descriptor). flow_among c ps ++ xs) e ∙ append-nil (flow_among c ps)

  -- ---- lists side by side

  -- all lists but that in this place are without the flow
  abbrev pub OnlyAt : ℕ → List (List Descriptor) → Type 0
  OnlyAt i [] = Unit {0}
  OnlyAt zero (ps ∷ below) = flow_among c (flat below) ≡ []
  OnlyAt (suc i) (ps ∷ below) = (flow_among c ps ≡ []) × OnlyAt i below

  pub none-only : (i : ℕ) (below : List (List Descriptor)) → flow_among c (flat below) ≡ [] → OnlyAt i below
  none-only i [] e = tt
  none-only zero (ps ∷ below) e = none-rest ps (flat below) e
  none-only (suc i) (ps ∷ below) e = (none-front ps (flat below) e, none-only i below (none-rest ps (flat below) e))

  -- each list has less
  abbrev pub AreLess : List (List Descriptor) → List (List Descriptor) → Type 0
  AreLess [] [] = Unit {0}
  AreLess [] (ps ∷ below) = ⊥
  AreLess (qs ∷ after) [] = ⊥
  AreLess (qs ∷ after) (ps ∷ below) = IsLess qs ps × AreLess after below

  pub are-less-refl : (below : List (List Descriptor)) → AreLess below below
  are-less-refl [] = tt
  are-less-refl (ps ∷ below) = (part-refl (flow_among c ps), are-less-refl below)

  pub less-flat : (after below : List (List Descriptor)) → AreLess after below → IsLess (flat after) (flat below)
  less-flat [] [] h = tt
  less-flat [] (ps ∷ below) h = absurd h
  less-flat (qs ∷ after) [] h = absurd h
  less-flat (qs ∷ after) (ps ∷ below) h = less-append qs ps (flat after) (flat below) h.0 (less-flat after below h.1)

  pub less-only : (i : ℕ) (after below : List (List Descriptor)) → AreLess after below → OnlyAt i below → OnlyAt i after
  less-only i [] [] h o = tt
  less-only i [] (ps ∷ below) h o = absurd h
  less-only i (qs ∷ after) [] h o = absurd h
  less-only zero (qs ∷ after) (ps ∷ below) h o = less-none (flat after) (flat below) (less-flat after below h.1) o
  less-only (suc i) (qs ∷ after) (ps ∷ below) h o = (less-none qs ps h.0 o.0, less-only i after below h.1 o.1)

  -- one of the lists gives these packets from its front, and the others have less
  abbrev pub Gives : List Descriptor → List (List Descriptor) → List (List Descriptor) → Type 0
  Gives given [] [] = flow_among c given ≡ []
  Gives given [] (ps ∷ below) = ⊥
  Gives given (qs ∷ after) [] = ⊥
  Gives given (qs ∷ after) (ps ∷ below) = (IsLess (given ++ qs) ps × AreLess after below) ⊎ (IsLess qs ps × Gives given after below)

  pub gives-less : (given : List Descriptor) (after below : List (List Descriptor)) → Gives given after below → AreLess after below
  gives-less given [] [] h = tt
  gives-less given [] (ps ∷ below) h = absurd h
  gives-less given (qs ∷ after) [] h = absurd h
  gives-less given (qs ∷ after) (ps ∷ below) (inl h) = (less-behind given qs ps h.0, h.1)
  gives-less given (qs ∷ after) (ps ∷ below) (inr h) = (h.0, gives-less given after below h.1)

  pub less-gives : (given : List Descriptor) (after below : List (List Descriptor)) → flow_among c given ≡ [] → AreLess after below → Gives given after below
  less-gives given [] [] e h = e
  less-gives given [] (ps ∷ below) e h = absurd h
  less-gives given (qs ∷ after) [] e h = absurd h
  less-gives given (qs ∷ after) (ps ∷ below) e h = inr (h.0, less-gives given after below e h.1)

  -- what is given stands before all that is left
  pub gives-flat : (given : List Descriptor) (i : ℕ) (after below : List (List Descriptor)) → OnlyAt i below → Gives given after below → IsLess (given ++ flat after) (flat below)
  gives-flat given i [] [] o h = subst (λ xs. IsPartOf xs []) (sym (skip-rest given [] refl ∙ h)) tt
  gives-flat given i [] (ps ∷ below) o h = absurd h
  gives-flat given i (qs ∷ after) [] o h = absurd h
  gives-flat given i (qs ∷ after) (ps ∷ below) o (inl h) =
      subst (λ (xs : List Descriptor). IsLess xs (ps ++ flat below)) (append_assoc given qs (flat after)) (less-append (given ++ qs) ps (flat after) (flat below) h.0 (less-flat after below h.1))
  gives-flat given zero (qs ∷ after) (ps ∷ below) o (inr h) =
      let rest : flow_among c (given ++ flat after) ≡ [] = less-none (given ++ flat after) (flat below) (gives-flat given zero after below (none-only zero below o) h.1) o in
      let all : IsLess (qs ++ flat after) (ps ++ flat below) = less-append qs ps (flat after) (flat below) h.0 (less-flat after below (gives-less given after below h.1)) in
      subst (λ xs. IsPartOf xs (flow_among c (ps ++ flat below))) (sym (skip-front given (qs ++ flat after) (none-front given (flat after) rest))) all
  gives-flat given (suc i) (qs ∷ after) (ps ∷ below) o (inr h) =
      let here : flow_among c qs ≡ [] = less-none qs ps h.0 o.0 in
      let rest : IsLess (given ++ flat after) (flat below) = gives-flat given i after below o.1 h.1 in
      let same : flow_among c (given ++ (qs ++ flat after)) ≡ flow_among c (given ++ flat after) =
      flow-append given (qs ++ flat after) ∙ ap (λ (xs : List Descriptor). flow_among c given ++ xs) (skip-front qs (flat after) here) ∙ sym (flow-append given (flat after)) in
      subst (λ xs. IsPartOf xs (flow_among c (ps ++ flat below))) (sym same) (subst (IsPartOf (flow_among c (given ++ flat after))) (sym (skip-front ps (flat below) o.0)) rest)

  -- ---- one of the lists becomes another

  pub less-set : (below : List (List Descriptor)) (i : ℕ) (ps qs : List Descriptor) → slice_get below i ≡ Some ps → IsLess qs ps → AreLess (set below i qs) below
  less-set [] i ps qs e h = absurd (none-some ps e)
  less-set (rs ∷ below) zero ps qs e h = (subst (IsLess qs) (sym (same_Some rs ps e)) h, are-less-refl below)
  less-set (rs ∷ below) (suc i) ps qs e h = (part-refl (flow_among c rs), less-set below i ps qs e h)

  pub only-set : (below : List (List Descriptor)) (i : ℕ) (qs : List Descriptor) → OnlyAt i below → OnlyAt i (set below i qs)
  only-set [] i qs o = tt
  only-set (rs ∷ below) zero qs o = o
  only-set (rs ∷ below) (suc i) qs o = (o.0, only-set below i qs o.1)

  -- the list in whose place the flow is gets these packets more, at its end
  pub flat-set : (below : List (List Descriptor)) (i : ℕ) (ps qs more : List Descriptor) → slice_get below i ≡ Some ps → OnlyAt i below
      → IsLess qs (ps ++ more) → IsLess (flat (set below i qs)) (flat below ++ more)
  flat-set [] i ps qs more e o h = absurd (none-some ps e)
  flat-set (rs ∷ below) zero ps qs more e o h =
      let here : IsLess qs (rs ++ more) = subst (λ (xs : List Descriptor). IsLess qs (xs ++ more)) (sym (same_Some rs ps e)) h in
      let left : flow_among c (qs ++ flat below) ≡ flow_among c qs = skip-rest qs (flat below) o in
      let right : flow_among c ((rs ++ flat below) ++ more) ≡ flow_among c (rs ++ more) =
      flow-append (rs ++ flat below) more ∙ ap (λ (xs : List Descriptor). xs ++ flow_among c more) (skip-rest rs (flat below) o) ∙ sym (flow-append rs more) in
      subst (λ xs. IsPartOf xs (flow_among c ((rs ++ flat below) ++ more))) (sym left) (subst (IsPartOf (flow_among c qs)) (sym right) here)
  flat-set (rs ∷ below) (suc i) ps qs more e o h =
      let rest : IsLess (flat (set below i qs)) (flat below ++ more) = flat-set below i ps qs more e o.1 h in
      let right : flow_among c ((rs ++ flat below) ++ more) ≡ flow_among c (flat below ++ more) =
      ap (flow_among c) (append_assoc rs (flat below) more) ∙ skip-front rs (flat below ++ more) o.0 in
      subst (λ xs. IsPartOf xs (flow_among c ((rs ++ flat below) ++ more))) (sym (skip-front rs (flat (set below i qs)) o.0)) (subst (IsPartOf (flow_among c (flat (set below i qs)))) (sym right) rest)
