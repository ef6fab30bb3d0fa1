-- The list of sent packets, to which each poll writes at the place where its packet is to stand.
use Rattle.std.proofs.Common.{◌≡◌, ℕ, List, [], ◌∷◌, ◌++◌, length, set, take, sym, ap, ◌∙◌}
use Rattle.std.proofs.Math.Seq.{set-append_seam}
use Rattle.std.proofs.lemmas.List.{take-set, take_at}
use Rattle.q_packet.specs.Descriptor.{Descriptor}

-- a packet is written where another was appended for it
pub written-there : (given : List Descriptor) (s p : Descriptor) (n : ℕ) → length given ≡ n → set (given ++ s ∷ []) n p ≡ given ++ p ∷ []
written-there given s p n many = ap (λ (k : ℕ). set (given ++ s ∷ []) k p) (sym many) ∙ set-append_seam given s [] p

-- the same, cut off again
pub cut-off : (given : List Descriptor) (s p : Descriptor) (n : ℕ) → length given ≡ n → take n (set (given ++ s ∷ []) n p) ≡ given
cut-off given s p n many = take-set (given ++ s ∷ []) n p ∙ take_at given (s ∷ []) n many
