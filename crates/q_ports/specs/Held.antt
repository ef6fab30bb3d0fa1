-- What a permit holds: parts of the right to let packets in, and what was let in with it.
-- A book is the sum over its permits. Nothing here is of a standard.
use Rattle.std.specs.Prelude.{ℕ, ◌+◌}
use Rattle.q_packet.specs.Descriptor.{Descriptor}
use Rattle.q_model.specs.declared.totals.Totals.{Totals}

pub record Held : Type 0 where
  pub parts : ℕ
  pub packets : ℕ
  pub bytes : ℕ

abbrev pub held : ℕ → ℕ → ℕ → Held
held parts packets bytes = record { parts = parts; packets = packets; bytes = bytes }

-- a packet more was let in
abbrev pub booking : Held → Descriptor → Held
booking h p = held h.parts (h.packets + 1) (h.bytes + p.len)

abbrev pub joined : Held → Held → Held
joined a b = held (a.parts + b.parts) (a.packets + b.packets) (a.bytes + b.bytes)

-- the permit that has every part, with this let in
abbrev pub whole : Totals → Held
whole t = held 65 t.packets t.bytes
