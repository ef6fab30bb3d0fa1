-- The number of a fate, as C has it: 0 where the packet is kept, else that of the cause.
-- The numbers are this project's own.
use Rattle.std.specs.Prelude.{ℕ}
use Rattle.q_packet.specs.Cause.{cause_number}
use Rattle.q_model.specs.declared.fate.Fate.{Fate}
use Rattle.q_model.specs.declared.fate.Fate.TheVariants.{Kept, Lost}

abbrev pub fate_number : Fate → ℕ
fate_number Kept = 0
fate_number (Lost cause) = cause_number cause
