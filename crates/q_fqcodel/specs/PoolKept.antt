-- A flow's queue is a view of the packets of all: what the view leaves alone, it leaves alone over several steps.
-- The laws that the view of a flow's queue owes as a queue.
use Rattle.std.specs.Prelude.{◌≡◌, ℕ, List, [], get_or, set}
use Rattle.std.proofs.Common.{◌∙◌, sym, ap, subst}
use Rattle.std.proofs.lemmas.List.{set-set, set-get_or}
use Rattle.q_packet.specs.declared.stamped.Stamped.{Stamped}
use Rattle.q_fqcodel.specs.Pool.{SameBeside}

pub kept_same : (n : ℕ) (xs : List (List Stamped)) → SameBeside n xs xs
kept_same n xs = sym (set-get_or xs n [])

pub kept_on : (n n' : ℕ) (xs ys zs : List (List Stamped)) → n' ≡ n → SameBeside n xs ys → SameBeside n' ys zs → SameBeside n xs zs
kept_on n n' xs ys zs e a b' =
    let b : SameBeside n ys zs = subst (λ (m : ℕ). SameBeside m ys zs) e b' in
    b ∙ ap (λ (l : List (List Stamped)). set l n (get_or zs n [])) a ∙ set-set xs n (get_or ys n []) (get_or zs n [])
