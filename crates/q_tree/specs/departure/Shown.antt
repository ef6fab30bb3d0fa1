-- What asking a node came to: the packet that it shows, and what CoDel dropped and marked for that.
use Rattle.std.specs.Prelude.{ℕ, Option}
use Rattle.std.specs.Option.{option_map_or}
use Rattle.q_packet.specs.Descriptor.{Descriptor}
use Rattle.q_model.specs.declared.totals.Totals.{Totals}

pub record Shown : Type 0 where
  pub packet : Option Descriptor
  pub dropped : Totals
  pub marked : Totals

-- the length of a packet in bytes, 0 for none
abbrev pub length_of : Option Descriptor → ℕ
length_of shown = option_map_or (λ (p : Descriptor). p.len) shown 0
