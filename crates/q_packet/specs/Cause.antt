-- The name of each cause of a loss, as reports write it, its number, and which causes refuse a packet on arrival.
-- The causes are this project's own.
use Rattle.std.specs.Prelude.{ℕ, Bool, true, false, List, codes}
use Rattle.q_packet.specs.declared.cause.Cause.{Cause}
use Rattle.q_packet.specs.declared.cause.Cause.TheVariants.{TooLong, NoClass, OverLimit, CoDel, FatFlow, Purged}

-- the bytes of its name
abbrev pub cause_name : Cause → List ℕ
cause_name TooLong = codes "TooLong"
cause_name NoClass = codes "NoClass"
cause_name OverLimit = codes "OverLimit"
cause_name CoDel = codes "CoDel"
cause_name FatFlow = codes "FatFlow"
cause_name Purged = codes "Purged"

-- the packet was refused on arrival, and never queued
abbrev pub is_refusal : Cause → Bool
is_refusal TooLong = true
is_refusal NoClass = true
is_refusal OverLimit = true
is_refusal CoDel = false
is_refusal FatFlow = false
is_refusal Purged = false

-- its number, where causes are numbered
abbrev pub cause_number : Cause → ℕ
cause_number TooLong = 1
cause_number NoClass = 2
cause_number OverLimit = 3
cause_number CoDel = 4
cause_number FatFlow = 5
cause_number Purged = 6
