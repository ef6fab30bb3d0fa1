-- A text that is put together from pieces, one behind the other.
use Rattle.std.proofs.Common.{◌≡◌, ℕ, List, ◌++◌, ap, ◌∙◌, append_assoc}

pub two_put : (old new t a b : List ℕ) → old ≡ t ++ a → new ≡ old ++ b → new ≡ t ++ (a ++ b)
two_put old new t a b e f = f ∙ ap (λ l. l ++ b) e ∙ append_assoc t a b
