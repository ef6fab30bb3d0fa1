-- Lengths of packets that weigh no more than others do: they are in the same bounds.
use Rattle.std.proofs.Common.{ℕ, ◌≤◌, List, arith}
use Rattle.std.specs.Prelude.{Bool, not, ◌&&◌, nat_le, All}
use Rattle.std.proofs.lemmas.Bool.{le-leb, leb-true, and_from, and_parts, not_from_true, not-false}
use Rattle.std.proofs.lemmas.List.Elements.{All-weaker}
use Rattle.q_packet.specs.Descriptor.{Descriptor}
use Rattle.q_model.specs.Numbers.{IsWithin}
use Rattle.q_invariants.specs.Weights.{weigh}
use Rattle.q_invariants.proofs.sums.Weights.{IsNone, none-among}

abbrev pub HasLength : ℕ → Descriptor → Type 0
HasLength mtu p = IsWithin 1 mtu p.len

abbrev out_of : ℕ → ℕ → Descriptor → Bool
out_of least most p = not (nat_le least p.len && nat_le p.len most)

in_bounds : (least most : ℕ) (p : Descriptor) → IsWithin least most p.len → IsNone (out_of least most) p
in_bounds least most p h = not_from_true (nat_le least p.len && nat_le p.len most) (and_from (nat_le least p.len) (nat_le p.len most) (le-leb least p.len h.0) (le-leb p.len most h.1))

bounds_of : (least most : ℕ) (p : Descriptor) → IsNone (out_of least most) p → IsWithin least most p.len
bounds_of least most p h =
    let both = and_parts (nat_le least p.len) (nat_le p.len most) (not-false (nat_le least p.len && nat_le p.len most) h) in
    (leb-true least p.len both.0, leb-true p.len most both.1)

within-among : (least most : ℕ) (ps qs : List Descriptor) → ((w : Descriptor → ℕ) → weigh w qs ≤ weigh w ps)
    → All (λ (p : Descriptor). IsWithin least most p.len) ps → All (λ (p : Descriptor). IsWithin least most p.len) qs
within-among least most ps qs fewer h =
    All-weaker (IsNone (out_of least most)) (λ (p : Descriptor). IsWithin least most p.len) (bounds_of least most) qs
    (none-among (out_of least most) ps qs fewer (All-weaker (λ (p : Descriptor). IsWithin least most p.len) (IsNone (out_of least most)) (in_bounds least most) ps h))

pub lengths-among : (mtu : ℕ) (ps qs : List Descriptor) → ((w : Descriptor → ℕ) → weigh w qs ≤ weigh w ps) → All (HasLength mtu) ps → All (HasLength mtu) qs
lengths-among mtu ps qs fewer h = within-among 1 mtu ps qs fewer h

-- packets of which none is longer than this
abbrev pub IsShort : ℕ → Descriptor → Type 0
IsShort most p = p.len ≤ most

pub short-among : (most : ℕ) (ps qs : List Descriptor) → ((w : Descriptor → ℕ) → weigh w qs ≤ weigh w ps) → All (IsShort most) ps → All (IsShort most) qs
short-among most ps qs fewer h =
    All-weaker (λ (p : Descriptor). IsWithin 0 most p.len) (IsShort most) (λ p b. b.1) qs
    (within-among 0 most ps qs fewer (All-weaker (IsShort most) (λ (p : Descriptor). IsWithin 0 most p.len) (λ p b. (omega arith, b)) ps h))
