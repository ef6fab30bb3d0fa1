-- Parts of a list, in its order.
use Rattle.std.proofs.Common.{◌≡◌, inl, inr, refl, ◌∙◌, List, [], ◌∷◌, ◌++◌}
use Rattle.q_laws.specs.order.Order.{IsPartOf}

module _ {X : Type 0} where
  pub part-refl : (xs : List X) → IsPartOf xs xs
  part-refl [] = tt
  part-refl (x ∷ xs) = inl (refl, part-refl xs)

  pub part-skip : (xs : List X) (y : X) (ys : List X) → IsPartOf xs ys → IsPartOf xs (y ∷ ys)
  part-skip [] y ys h = tt
  part-skip (x ∷ xs) y ys h = inr h

  pub part-none : (xs : List X) → IsPartOf xs [] → xs ≡ []
  part-none [] h = refl
  part-none (x ∷ xs) h = absurd h

  pub part-append : (xs ys us vs : List X) → IsPartOf xs ys → IsPartOf us vs → IsPartOf (xs ++ us) (ys ++ vs)
  part-append [] [] us vs h k = k
  part-append (x ∷ xs) [] us vs h k = absurd h
  part-append [] (y ∷ ys) us vs h k = part-skip us y (ys ++ vs) (part-append [] ys us vs tt k)
  part-append (x ∷ xs) (y ∷ ys) us vs (inl h) k = inl (h.0, part-append xs ys us vs h.1 k)
  part-append (x ∷ xs) (y ∷ ys) us vs (inr h) k = inr (part-append (x ∷ xs) ys us vs h k)

  pub part-trans : (xs ys zs : List X) → IsPartOf xs ys → IsPartOf ys zs → IsPartOf xs zs
  part-trans [] ys zs h k = tt
  part-trans (x ∷ xs) [] zs h k = absurd h
  part-trans (x ∷ xs) (y ∷ ys) [] h k = absurd k
  part-trans (x ∷ xs) (y ∷ ys) (z ∷ zs) (inl h) (inl k) = inl (h.0 ∙ k.0, part-trans xs ys zs h.1 k.1)
  part-trans (x ∷ xs) (y ∷ ys) (z ∷ zs) (inr h) (inl k) = inr (part-trans (x ∷ xs) ys zs h k.1)
  part-trans (x ∷ xs) (y ∷ ys) (z ∷ zs) (inl h) (inr k) = inr (part-trans (x ∷ xs) (y ∷ ys) zs (inl h) k)
  part-trans (x ∷ xs) (y ∷ ys) (z ∷ zs) (inr h) (inr k) = inr (part-trans (x ∷ xs) (y ∷ ys) zs (inr h) k)

  pub part-behind : (xs ys : List X) → IsPartOf ys (xs ++ ys)
  part-behind [] ys = part-refl ys
  part-behind (x ∷ xs) ys = part-skip ys x (xs ++ ys) (part-behind xs ys)

  pub part-front : (xs ys : List X) → IsPartOf xs (xs ++ ys)
  part-front [] ys = tt
  part-front (x ∷ xs) ys = inl (refl, part-front xs ys)
