-- What a node holds of a packet that it shows: the packet with the time at which it arrived.
-- That tbf, drr and fq_codel hold what they show is this project's choice.
use Rattle.std.specs.Prelude.{ℕ, Option, Some, None, option_map}
use Rattle.std.specs.Option.{option_map_or}
use Rattle.q_packet.specs.Descriptor.{Descriptor}
use Rattle.q_packet.specs.declared.stamped.Stamped.{Stamped}

-- a packet that arrived at this time, if there is one
abbrev pub held_with : Option Descriptor → ℕ → Option Stamped
held_with None at = None
held_with (Some p) at = Some (record { packet = p; at = at })

-- what is held, and since when, apart
abbrev pub packet_held : Option Stamped → Option Descriptor
packet_held held = option_map (λ (s : Stamped). s.packet) held

abbrev pub since_held : Option Stamped → ℕ
since_held held = option_map_or (λ (s : Stamped). s.at) held 0
