-- Placing packets batch by batch.
use Rattle.std.proofs.Common.{◌≡◌, ◌∙◌, ℕ, zero, suc, ◌+◌, ◌<◌, ◌≤◌, List, [], ◌∷◌, ◌++◌, length, get_or, take, drop, refl, sym, ap, ap₂, subst, arith}
use Rattle.std.proofs.Math.Seq.{take-add}
use Rattle.std.proofs.lemmas.List.{append-nil, get_or-drop, get_or-take}
use Rattle.std.proofs.lemmas.List.Sums.{fold-append}
use Rattle.std.specs.List.{fold}
use Rattle.q_packet.specs.Descriptor.{Descriptor}
use Rattle.q_ports.specs.Offered.{MayBeFull}
use Rattle.q_ports.specs.Placed.{PortSeen, placing, port_seen}

-- so many of the packets stand in the batch as the port places them
abbrev pub AreWritten : PortSeen → ℕ → List Descriptor → List Descriptor → Type 0
AreWritten v at packets batch = fold placing v (take at packets) ≡ port_seen v.index v.ring (v.placed ++ take at batch)

pub written-none : (v : PortSeen) (packets batch : List Descriptor) → AreWritten v 0 packets batch
written-none v packets batch = ap (λ (ps : List Descriptor). port_seen v.index v.ring ps) (sym (append-nil v.placed))

take-first : {X : Type 0} (n m : ℕ) (xs : List X) → n ≤ length (take m xs) → take n (take m xs) ≡ take n xs
take-first zero m xs h = refl
take-first (suc n) zero xs h = absurd (omega (arith, h))
take-first (suc n) (suc m) [] h = refl
take-first (suc n) (suc m) (x ∷ xs) h = ap (λ ys. x ∷ ys) (take-first n m xs (omega (arith, h)))

-- a batch more, of at most m packets, of which n were placed
pub placed-more : (v u w : PortSeen) (packets : List Descriptor) (a m n : ℕ) → u ≡ fold placing v (take a packets)
    → n ≤ length (take m (drop a packets)) → w ≡ fold placing u (take n (take m (drop a packets))) → w ≡ fold placing v (take (a + n) packets)
placed-more v u w packets a m n before few more =
    more
    ∙ (ap₂ (λ (x : PortSeen) (ps : List Descriptor). fold placing x ps) before (take-first n m (drop a packets) few)
    ∙ (sym (fold-append placing v (take a packets) (take n (drop a packets))) ∙ ap (λ (ps : List Descriptor). fold placing v ps) (sym (take-add a n packets))))

-- the packet at which the batch ended
pub full-there : (w : PortSeen) (packets : List Descriptor) (a m n : ℕ) (d : Descriptor) → n < m → MayBeFull w (get_or (take m (drop a packets)) n d) → MayBeFull w (get_or packets (a + n) d)
full-there w packets a m n d h full = subst (λ (p : Descriptor). MayBeFull w p) (get_or-take m (drop a packets) n d h ∙ get_or-drop a packets n d) full
