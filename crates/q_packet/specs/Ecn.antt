-- The ECN codepoint in the traffic byte of a packet, its low two bits.
-- The codepoints are those of RFC 3168, section 5.
use Rattle.std.specs.Prelude.{ℕ, ◌%◌, ◌==◌, Bool, true, false, if◌then◌else◌}
use Rattle.q_packet.specs.declared.ecn.Ecn.{Ecn}
use Rattle.q_packet.specs.declared.ecn.Ecn.TheVariants.{NotEct, Ect1, Ect0, Ce}

-- the two bits that stand for it
abbrev pub codepoint : Ecn → ℕ
codepoint NotEct = 0
codepoint Ect1 = 1
codepoint Ect0 = 2
codepoint Ce = 3

-- what the low two bits of a traffic byte stand for
abbrev pub ecn_of : ℕ → Ecn
ecn_of traffic = if traffic % 4 == 0 then NotEct else if traffic % 4 == 1 then Ect1 else if traffic % 4 == 2 then Ect0 else Ce

-- whether the transport takes part in ECN
abbrev pub is_capable : Ecn → Bool
is_capable NotEct = false
is_capable Ect1 = true
is_capable Ect0 = true
is_capable Ce = true
