-- What the flows of a new list may give before one that joins, computed from the definition.
use Rattle.std.proofs.Common.{◌≡◌, ℕ, ℤ, pos, negsuc, [], ◌∷◌, refl}
use Rattle.q_fqcodel.specs.Entry.{Entry}
use Rattle.q_laws.specs.new_flow.NewFlow.{reaches}

flow : ℕ → ℤ → Entry
flow n credits = record { flow = n; credits = credits }

-- one that begins with a quantum
fresh : reaches 1514 (flow 1 (pos 1514) ∷ []) ≡ 3027
unfolding flow
fresh = refl

-- a byte of credit lets a flow give a longest packet
byte : reaches 1514 (flow 1 (pos 1) ∷ []) ≡ 1514
unfolding flow
byte = refl

-- none lets it give nothing
spent : reaches 1514 (flow 1 (pos 0) ∷ flow 2 (negsuc 0) ∷ flow 3 (negsuc 1512) ∷ []) ≡ 0
unfolding flow
spent = refl

five : reaches 1514 (flow 1 (pos 1514) ∷ flow 2 (pos 1514) ∷ flow 3 (pos 1514) ∷ flow 4 (pos 1514) ∷ flow 5 (pos 1514) ∷ []) ≡ 15135
unfolding flow
five = refl
