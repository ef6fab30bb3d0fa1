-- What CoDel reads of a packet that waits (RFC 8289, section 5.6): when it was queued, its length, and its codepoint.
use Rattle.std.specs.Prelude.{◌≡◌, List, Some, option_map, slice_get}
use Rattle.q_packet.specs.declared.stamped.Stamped.{Stamped}
use Rattle.q_codel.specs.declared.front.Front.{Front}

abbrev pub front_of : Stamped → Front
front_of s = record { at = s.at; len = s.packet.len; ecn = s.packet.ecn }

-- what is in front of a queue, which is not empty
abbrev pub IsFront : Front → List Stamped → Type 0
IsFront front queue = Some front ≡ option_map front_of (slice_get queue 0)
