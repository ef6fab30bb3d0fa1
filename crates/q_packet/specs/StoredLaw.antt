-- A packet that is stored in range is what its descriptor says.
use Rattle.std.proofs.Common.{◌≡◌, ℕ, zero, suc, ◌+◌, ◌*◌, ◌/◌, ◌%◌, ◌^◌, ◌<◌, ◌≤◌, arith, refl, ap}
use Rattle.q_packet.specs.Ecn.{codepoint, ecn_of}
use Rattle.q_packet.specs.Stored.{descriptor, stored_of, IsStored}
use Rattle.q_packet.specs.declared.stored_packet.StoredPacket.{StoredPacket}

high_back : (h l : ℕ) → l < 2 ^ 64 → (h * 2 ^ 64 + l) / 2 ^ 64 ≡ h
high_back h l low = omega arith

low_back : (h l : ℕ) → l < 2 ^ 64 → (h * 2 ^ 64 + l) % 2 ^ 64 ≡ l
low_back h l low = omega arith

ecn_back : (n : ℕ) → n ≤ 3 → codepoint (ecn_of n) ≡ n
ecn_back zero few = refl
ecn_back (suc zero) few = refl
ecn_back (suc (suc zero)) few = refl
ecn_back (suc (suc (suc zero))) few = refl
ecn_back (suc (suc (suc (suc n)))) few = absurd (omega arith)

record Halves : Type 0 where
  a : ℕ
  b : ℕ
  c : ℕ
  d : ℕ
  e : ℕ

abbrev with_halves : StoredPacket → Halves → StoredPacket
with_halves s h = record s { src_high = h.a; src_low = h.b; dst_high = h.c; dst_low = h.d; ecn = h.e }

halves : {a a' b b' c c' d d' e e' : ℕ} → a ≡ a' → b ≡ b' → c ≡ c' → d ≡ d' → e ≡ e'
    → ◌≡◌ {A = Halves} (record { a = a; b = b; c = c; d = d; e = e }) (record { a = a'; b = b'; c = c'; d = d'; e = e' })
halves p q r s t i = record { a = p i; b = q i; c = r i; d = s i; e = t i }

pub stored-descriptor : (c : StoredPacket) → IsStored c → stored_of (descriptor c) ≡ c
stored-descriptor c h = ap (with_halves c) (halves
    (high_back c.src_high c.src_low h.src_low) (low_back c.src_high c.src_low h.src_low)
    (high_back c.dst_high c.dst_low h.dst_low) (low_back c.dst_high c.dst_low h.dst_low)
    (ecn_back c.ecn h.ecn))
