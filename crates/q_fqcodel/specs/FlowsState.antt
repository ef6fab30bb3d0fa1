-- All flows with their packets and what CoDel knows of each, apart from the lists of new and old flows.
-- RFC 8290, section 4: each flow is a queue of its own, managed by CoDel.
use Rattle.std.specs.Prelude.{ℕ, List}
use Rattle.q_fqcodel.specs.Entry.{Entry}
use Rattle.q_fqcodel.specs.FqState.{FqSettings, Flow, FqState}

pub record FlowsState : Type 0 where
  pub flows : List Flow
  pub places : ℕ

-- an fq_codel of these flows, with these lists
abbrev pub state_of : FqSettings → FlowsState → List Entry → List Entry → FqState
state_of settings flows new_flows old_flows = record { settings = settings; flows = flows.flows; new_flows = new_flows; old_flows = old_flows }
