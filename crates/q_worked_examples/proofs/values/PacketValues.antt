-- The definitions, computed on examples.
use Rattle.std.proofs.Common.{◌≡◌, ℕ, ◌*◌, List, [], ◌∷◌, drop, take, refl}
use Rattle.std.specs.Prelude.{nat_le}
use Rattle.q_packet.specs.Ecn.{ecn_of}
use Rattle.q_packet.specs.Head.{head, ipv4_head, zero_head}
use Rattle.q_packet.specs.Key.{key_bytes, zero_key}
use Rattle.q_packet.specs.Least.{least}
use Rattle.q_packet.specs.OneAtATime.{finished, mixed, one_at_a_time}
use Rattle.q_packet.specs.declared.ecn.Ecn.TheVariants.{NotEct, Ect1}

-- the root of 90, rounded up
root_of_90 : least (λ i. nat_le 90 (i * i)) 90 ≡ 10
root_of_90 = refl

-- no square below 3 * 3 reaches 90
none_below_3 : least (λ i. nat_le 90 (i * i)) 3 ≡ 3
none_below_3 = refl

hash_of_a : one_at_a_time 0 (97 ∷ []) ≡ 0xca2e9442
unfolding one_at_a_time mixed finished
hash_of_a = refl

hash_of_nothing : one_at_a_time 1 [] ≡ 0x48009
unfolding one_at_a_time mixed finished
hash_of_nothing = refl

hash_of_zero_key : one_at_a_time 0 (key_bytes zero_key) ≡ 0
unfolding one_at_a_time mixed finished key_bytes
hash_of_zero_key = refl

-- a datagram of IPv4 from 10.0.0.1 port 53 to 10.0.0.2 port 54
datagram : List ℕ
datagram = 0x45 ∷ 0 ∷ 0 ∷ 40 ∷ 0 ∷ 0 ∷ 0 ∷ 0 ∷ 64 ∷ 17 ∷ 0 ∷ 0 ∷ 10 ∷ 0 ∷ 0 ∷ 1 ∷ 10 ∷ 0 ∷ 0 ∷ 2 ∷ 0 ∷ 53 ∷ 0 ∷ 54 ∷ []

datagram_whole : head datagram ≡ record {
  key = record { family = 4; proto = 17; src = 0x0a000001; dst = 0x0a000002; sport = 53; dport = 54 };
  prio = 0;
  ecn = NotEct;
}
unfolding head ipv4_head datagram
datagram_whole = refl

datagram_cut : head (take 23 datagram) ≡ record {
  key = record { family = 4; proto = 17; src = 0x0a000001; dst = 0x0a000002; sport = 0; dport = 0 };
  prio = 0;
  ecn = NotEct;
}
unfolding head ipv4_head datagram
datagram_cut = refl

datagram_headless : head (take 19 datagram) ≡ zero_head
unfolding head datagram
datagram_headless = refl

-- the same behind the other version's number is not whole
datagram_of_6 : head (0x65 ∷ drop 1 datagram) ≡ zero_head
unfolding head datagram
datagram_of_6 = refl

traffic_0xb9 : ecn_of 0xb9 ≡ Ect1
traffic_0xb9 = refl
