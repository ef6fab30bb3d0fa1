-- What a contract sees of a packet: the fields of its descriptor.
-- Lengths are 1 to 65535 bytes and priorities 0 to 15; the type `Packet` keeps both.
use Rattle.std.specs.Prelude.{ℕ}
use Rattle.q_packet.specs.Key.{Key}
use Rattle.q_packet.specs.declared.ecn.Ecn.{Ecn}

pub record Descriptor : Type 0 where
  pub port : ℕ
  pub number : ℕ
  pub buf : ℕ
  pub len : ℕ
  pub key : Key
  pub hash : ℕ
  pub prio : ℕ
  pub ecn : Ecn
