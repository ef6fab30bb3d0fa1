-- The loads of the senders: each has as many equal packets as are asked for, whose hash is the index of its port.
use Rattle.std.specs.Prelude.{◌≡◌, ℕ, ◌<◌, List, [], length, get_or, replicate}
use Rattle.q_packet.specs.Descriptor.{Descriptor}
use Rattle.q_packet.specs.Key.{zero_key}
use Rattle.q_packet.specs.declared.ecn.Ecn.TheVariants.{NotEct}
use Rattle.q_drive.specs.Drive.{Drive}

-- a packet of a port: all that is not its length or hash is 0
abbrev pub packet_of : ℕ → ℕ → Descriptor
packet_of len port = record { port = 0; number = 0; buf = 0; len = len; key = zero_key; hash = port; prio = 0; ecn = NotEct }

abbrev pub load_of : Drive → ℕ → List Descriptor
load_of s port = replicate s.count (packet_of s.len port)

-- a load for each of so many ports, by index
pub record AreLoads (s : Drive) (n : ℕ) (loads : List (List Descriptor)) : Type 0 where
  pub count : length loads ≡ n
  pub each : (port : ℕ) → port < n → get_or loads port [] ≡ load_of s port
