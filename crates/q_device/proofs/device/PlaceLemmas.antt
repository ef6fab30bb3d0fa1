-- Lent places that are filled from the first on.
use Rattle.std.proofs.Common.{◌≡◌, ℕ, zero, suc, ◌+◌, ◌<◌, ◌≤◌, List, [], ◌∷◌, ◌++◌, refl, sym, ap, arith, ◌∙◌, true≢false, Bool, true, false, Option, Some, None}
use Rattle.std.specs.Prelude.{drop, length, map, replicate, set, slice_get, take}

abbrev is_there : {A : Type 0} → Option A → Bool
is_there None = false
is_there (Some x) = true

pub none-is-none : {A : Type 0} {x : A} → None ≡ Some x → ⊥
none-is-none e = true≢false (sym (ap is_there e))

pub some-is-none : {A : Type 0} {x : A} → Some x ≡ None → ⊥
some-is-none e = true≢false (ap is_there e)

abbrev item_or : {A : Type 0} → A → Option A → A
item_or x None = x
item_or x (Some y) = y

pub some-item : {A : Type 0} {x y : A} → Some x ≡ Some y → x ≡ y
some-item {x = x} e = ap (item_or x) e

pub length-more : {A : Type 0} (xs : List A) (x : A) → length (xs ++ x ∷ []) ≡ suc (length xs)
length-more [] x = refl
length-more (w ∷ xs) x = ap suc (length-more xs x)

-- the first ones are filled with `xs`, and `x` comes next
pub filled-more : {A : Type 0} (xs ys : List A) (x : A) → length xs < length ys → set (xs ++ drop (length xs) ys) (length xs) x ≡ (xs ++ x ∷ []) ++ drop (suc (length xs)) ys
filled-more [] (y ∷ ys) x lt = refl
filled-more (w ∷ xs) (y ∷ ys) x lt = ap (λ zs. w ∷ zs) (filled-more xs ys x (omega (arith, lt)))
filled-more [] [] x lt = absurd (omega (arith, lt))
filled-more (w ∷ xs) [] x lt = absurd (omega (arith, lt))

-- ---- the next of a list, behind its first ones

pub next-taken : {A : Type 0} (i : ℕ) (xs : List A) (x : A) → slice_get (drop i xs) 0 ≡ Some x → take (suc i) xs ≡ take i xs ++ x ∷ []
next-taken zero [] x e = absurd (none-is-none e)
next-taken zero (w ∷ xs) x e = ap (λ y. y ∷ []) (some-item e)
next-taken (suc i) [] x e = absurd (none-is-none e)
next-taken (suc i) (w ∷ xs) x e = ap (λ ys. w ∷ ys) (next-taken i xs x e)

pub next-dropped : {A : Type 0} (i : ℕ) (xs : List A) → drop 1 (drop i xs) ≡ drop (suc i) xs
next-dropped zero xs = refl
next-dropped (suc i) [] = refl
next-dropped (suc i) (w ∷ xs) = next-dropped i xs

pub next-counted : {A : Type 0} (i : ℕ) (xs : List A) (x : A) → slice_get (drop i xs) 0 ≡ Some x → length (take 1 (drop i xs)) ≡ 1
next-counted zero [] x e = absurd (none-is-none e)
next-counted zero (w ∷ xs) x e = refl
next-counted (suc i) [] x e = absurd (none-is-none e)
next-counted (suc i) (w ∷ xs) x e = next-counted i xs x e

pub some-left : {A : Type 0} (i : ℕ) (xs : List A) (x : A) → slice_get (drop i xs) 0 ≡ Some x → i < length xs
some-left zero [] x e = absurd (none-is-none e)
some-left zero (w ∷ xs) x e = omega arith
some-left (suc i) [] x e = absurd (none-is-none e)
some-left (suc i) (w ∷ xs) x e = let ih = some-left i xs x e in omega (arith, ih)

pub none-left : {A : Type 0} (i : ℕ) (xs : List A) → slice_get (drop i xs) 0 ≡ None → length xs ≤ i
none-left zero [] e = omega arith
none-left zero (w ∷ xs) e = absurd (some-is-none e)
none-left (suc i) [] e = omega arith
none-left (suc i) (w ∷ xs) e = let ih = none-left i xs e in omega (arith, ih)

pub map-more : {A B : Type 0} (f : A → B) (xs : List A) (x : A) → map f (xs ++ x ∷ []) ≡ map f xs ++ f x ∷ []
map-more f [] x = refl
map-more f (w ∷ xs) x = ap (λ ys. f w ∷ ys) (map-more f xs x)

pub length-taken : {A B : Type 0} (i : ℕ) (xs : List A) (f : A → B) → i ≤ length xs → length (map f (take i xs)) ≡ i
length-taken zero xs f le = refl
length-taken (suc i) [] f le = absurd (omega (arith, le))
length-taken (suc i) (w ∷ xs) f le = ap suc (length-taken i xs f (omega (arith, le)))

pub all-dropped : {A : Type 0} (i : ℕ) (xs : List A) → length xs ≤ i → drop i xs ≡ []
all-dropped zero [] le = refl
all-dropped zero (w ∷ xs) le = absurd (omega (arith, le))
all-dropped (suc i) [] le = refl
all-dropped (suc i) (w ∷ xs) le = all-dropped i xs (omega (arith, le))

pub length-front : {A : Type 0} (i : ℕ) (xs : List A) → i ≤ length xs → length (take i xs) ≡ i
length-front zero xs le = refl
length-front (suc i) [] le = absurd (omega (arith, le))
length-front (suc i) (w ∷ xs) le = ap suc (length-front i xs (omega (arith, le)))

-- the first ones are all the same, and so is the next
pub same-more : {A : Type 0} (i : ℕ) (x y : A) (ys : List A) → i < length ys → y ≡ x → set (replicate i x ++ drop i ys) i y ≡ replicate (i + 1) x ++ drop (i + 1) ys
same-more {A = A} i x y ys lt is =
    let next : suc i ≡ i + 1 = omega arith in
    ap (λ (z : A). set (replicate i x ++ drop i ys) i z) is ∙ (by i ys lt ∙ ap (λ (k : ℕ). replicate k x ++ drop k ys) next)
  where
    by : (n : ℕ) (zs : List A) → n < length zs → set (replicate n x ++ drop n zs) n x ≡ replicate (suc n) x ++ drop (suc n) zs
    by zero [] l = absurd (omega (arith, l))
    by zero (z ∷ zs) l = refl
    by (suc n) [] l = absurd (omega (arith, l))
    by (suc n) (z ∷ zs) l = ap (λ ws. x ∷ ws) (by n zs (omega (arith, l)))
