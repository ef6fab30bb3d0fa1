-- The numbers of lines at which memory was refused: those of earlier lines and those of later ones.
use Rattle.std.proofs.Common.{◌≡◌, ℕ, suc, ◌<◌, ◌≤◌, Bool, true, false, ◌||◌, ◌==◌, List, [], ◌∷◌, ◌++◌, refl, ap, ◌∙◌, arith, eq-eqb, ne_eqb}
use Rattle.q_script.specs.Script.{is_starved}

abbrev pub AllBelow : ℕ → List ℕ → Type 0
AllBelow k [] = Unit {0}
AllBelow k (n ∷ ns) = (n < k) × AllBelow k ns

abbrev pub AllFrom : ℕ → List ℕ → Type 0
AllFrom k [] = Unit {0}
AllFrom k (n ∷ ns) = (k ≤ n) × AllFrom k ns

pub below-later : (k : ℕ) (ns : List ℕ) → AllBelow k ns → AllBelow (suc k) ns
below-later k [] h = tt
below-later k (n ∷ ns) h = (omega arith, below-later k ns h.1)

pub below-push : (k : ℕ) (ns : List ℕ) → AllBelow k ns → AllBelow (suc k) (ns ++ k ∷ [])
below-push k [] h = (omega arith, tt)
below-push k (n ∷ ns) h = (omega arith, below-push k ns h.1)

pub from-earlier : (k : ℕ) (ns : List ℕ) → AllFrom (suc k) ns → AllFrom k ns
from-earlier k [] h = tt
from-earlier k (n ∷ ns) h = (omega arith, from-earlier k ns h.1)

pub starved-here : (k : ℕ) (ns later : List ℕ) → is_starved (ns ++ k ∷ later) k ≡ true
starved-here k [] later = ap (λ b. b || is_starved later k) (eq-eqb k k refl)
starved-here k (n ∷ ns) later = ap (λ b. (n == k) || b) (starved-here k ns later) ∙ or-true (n == k)
  where
    or-true : (b : Bool) → (b || true) ≡ true
    or-true true = refl
    or-true false = refl

pub starved-not : (k : ℕ) (ns later : List ℕ) → AllBelow k ns → AllFrom (suc k) later → is_starved (ns ++ later) k ≡ false
starved-not k [] [] b f = refl
starved-not k [] (n ∷ later) b f = ap (λ t. t || is_starved later k) (ne_eqb n k (λ e. omega arith)) ∙ starved-not k [] later tt f.1
starved-not k (n ∷ ns) later b f = ap (λ t. t || is_starved (ns ++ later) k) (ne_eqb n k (λ e. omega arith)) ∙ starved-not k ns later b.1 f
