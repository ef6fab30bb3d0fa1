-- What an fq_codel notes of its flows at a take: the quanta that each was given, and the bytes that the one in front hands out.
-- RFC 8290, section 4.2.
use Rattle.std.specs.Prelude.{List, [], ◌∷◌, ◌++◌, map, Option, Some, None}
use Rattle.q_codel.specs.declared.codel.Taken.{Taken}
use Rattle.q_fqcodel.specs.Entry.{Entry}
use Rattle.q_fqcodel.specs.FqState.{FqState}
use Rattle.q_fqcodel.specs.QuantaGiven.{Grant, grants}
use Rattle.q_fqcodel.specs.Take.{front}
use Rattle.q_model.specs.Tally.{Note, FlowGranted, FlowGave}

abbrev pub flows_granted : FqState → List Note
flows_granted s = map (λ (g : Grant). FlowGranted g.flow g.quanta) (grants s)

-- the flow in front hands out what it sends
abbrev pub flow_gave : Option Entry → Option Taken → List Note
flow_gave (Some e) (Some t) = FlowGave e.flow t.packet.len ∷ []
flow_gave (Some e) None = []
flow_gave None taken = []

abbrev pub flow_notes : FqState → FqState → Option Taken → List Note
flow_notes s chosen taken = flows_granted s ++ flow_gave (front chosen) taken
