-- Worked replays at which the premises of the laws about the flows of an fq_codel hold, and what they say there.
use Rattle.q_device.specs.Sharing.{AreGrantedEvenly, GivesItsShare, device_after}
use Rattle.q_fqcodel.specs.FqState.{Flow}
use Rattle.q_fqcodel.specs.Laws.{credits_of}
use Rattle.q_fqcodel.specs.Put.{is_listed}
use Rattle.q_law_examples.specs.Replays.{flow_joins, flows_before, flows_during, flows_granting, flows_then, settings}
use Rattle.q_laws.specs.new_flow.NewFlow.{all_given, reaches}
use Rattle.q_laws.specs.new_flow.Rest.{IsSparing}
use Rattle.q_laws.specs.share.Service.{GivesNoMore, GoesFirst, IsQueuedFlow, credits_in}
use Rattle.q_model.specs.Events.{IsEvent}
use Rattle.q_model.specs.Stretches.{FqAt, IsBackloggedFlow, Throughout, bytes_given, flow_grants_to, fq_in, reach}
use Rattle.std.specs.Prelude.{All, Some, [], false, max, pos, slice_get, true, ℕ, ◌++◌, ◌+◌, ◌-◌, ◌∷◌, ◌≡◌, ◌≢◌, ◌≤◌}

-- the second flow beside the first, which stays backlogged
abbrev pub FlowAgainstAnother : Type 0
FlowAgainstAnother =
    (first : FqAt)
    × (last : FqAt)
    × (◌≢◌ {A = ℕ} 1 2)
    × All IsEvent flows_before
    × All IsEvent (flows_granting ∷ flows_during)
    × Throughout (IsBackloggedFlow 1 1 1000) settings flows_before (flows_granting ∷ flows_during)
    × (fq_in 1 (device_after settings flows_before) ≡ Some first)
    × (fq_in 1 (device_after settings (flows_before ++ (flows_granting ∷ flows_during))) ≡ Some last)
    × GivesNoMore 1 2 1000 settings.mtu first last

-- from the grant of a flow on
abbrev pub FlowIsNotStarved : Type 0
FlowIsNotStarved =
    (first : FqAt)
    × (next : FqAt)
    × (last : FqAt)
    × (◌≢◌ {A = ℕ} 1 2)
    × All IsEvent flows_before
    × IsEvent flows_granting
    × All IsEvent flows_during
    × Throughout (IsBackloggedFlow 1 1 1000) settings flows_before (flows_granting ∷ flows_during)
    × (fq_in 1 (device_after settings flows_before) ≡ Some first)
    × (fq_in 1 (device_after settings (flows_before ++ flows_granting ∷ [])) ≡ Some next)
    × (fq_in 1 (device_after settings (flows_before ++ flows_granting ∷ flows_during)) ≡ Some last)
    × (flow_grants_to 1 last.noted ≡ flow_grants_to 1 next.noted)
    × (bytes_given 2 last.noted ≤ bytes_given 2 first.noted + max (reach settings.mtu (pos 1000)) (reach settings.mtu (credits_in 2 first)) +
    (1000 - 1))

-- a flow joins, and another one is in the new list
abbrev pub JoinsFirst : Type 0
JoinsFirst =
    (first : FqAt)
    × (next : FqAt)
    × (last : FqAt)
    × (◌≢◌ {A = ℕ} 3 2)
    × All IsEvent flows_before
    × IsEvent flow_joins
    × All IsEvent flows_then
    × (fq_in 1 (device_after settings flows_before) ≡ Some first)
    × (fq_in 1 (device_after settings (flows_before ++ flow_joins ∷ [])) ≡ Some next)
    × (fq_in 1 (device_after settings (flows_before ++ flow_joins ∷ flows_then)) ≡ Some last)
    × (is_listed 3 (first.state.new_flows ++ first.state.old_flows) ≡ false)
    × (is_listed 3 (next.state.new_flows ++ next.state.old_flows) ≡ true)
    × Throughout (IsQueuedFlow 1 3) settings (flows_before ++ flow_joins ∷ []) flows_then
    × (bytes_given 3 last.noted ≡ bytes_given 3 first.noted)
    × GoesFirst 2 settings.mtu first last

-- and all that goes before it
abbrev pub JoinsBefore : Type 0
JoinsBefore =
    (first : FqAt)
    × (next : FqAt)
    × (last : FqAt)
    × All IsEvent flows_before
    × IsEvent flow_joins
    × All IsEvent flows_then
    × (fq_in 1 (device_after settings flows_before) ≡ Some first)
    × (fq_in 1 (device_after settings (flows_before ++ flow_joins ∷ [])) ≡ Some next)
    × (fq_in 1 (device_after settings (flows_before ++ flow_joins ∷ flows_then)) ≡ Some last)
    × (is_listed 3 (first.state.new_flows ++ first.state.old_flows) ≡ false)
    × (is_listed 3 (next.state.new_flows ++ next.state.old_flows) ≡ true)
    × Throughout (IsQueuedFlow 1 3) settings (flows_before ++ flow_joins ∷ []) flows_then
    × (bytes_given 3 last.noted ≡ bytes_given 3 first.noted)
    × (all_given last.noted ≤ all_given first.noted + reaches settings.mtu first.state.new_flows)

-- and what CoDel remembers of it
abbrev pub JoinsSpared : Type 0
JoinsSpared =
    (first : FqAt)
    × (next : FqAt)
    × (last : FqAt)
    × (f : Flow)
    × All IsEvent flows_before
    × IsEvent flow_joins
    × All IsEvent flows_then
    × (fq_in 1 (device_after settings flows_before) ≡ Some first)
    × (fq_in 1 (device_after settings (flows_before ++ flow_joins ∷ [])) ≡ Some next)
    × (fq_in 1 (device_after settings ((flows_before ++ flow_joins ∷ []) ++ flows_then)) ≡ Some last)
    × (is_listed 3 (first.state.new_flows ++ first.state.old_flows) ≡ false)
    × (is_listed 3 (next.state.new_flows ++ next.state.old_flows) ≡ true)
    × Throughout (IsQueuedFlow 1 3) settings (flows_before ++ flow_joins ∷ []) flows_then
    × (bytes_given 3 last.noted ≡ bytes_given 3 first.noted)
    × (slice_get last.state.flows 3 ≡ Some f)
    × IsSparing f.codel

-- what a flow gives is its grants and what its credits fell
abbrev pub FlowShare : Type 0
FlowShare =
    (first : FqAt)
    × (last : FqAt)
    × All IsEvent flows_before
    × All IsEvent (flows_granting ∷ flows_during)
    × Throughout (IsBackloggedFlow 1 1 1000) settings flows_before (flows_granting ∷ flows_during)
    × (fq_in 1 (device_after settings flows_before) ≡ Some first)
    × (fq_in 1 (device_after settings (flows_before ++ (flows_granting ∷ flows_during))) ≡ Some last)
    × GivesItsShare 1 1000 first last

-- the flow that joins has a quantum
abbrev pub FlowBeginsNew : Type 0
FlowBeginsNew =
    (fq : FqAt)
    × (next : FqAt)
    × All IsEvent flows_before
    × IsEvent flow_joins
    × (fq_in 1 (device_after settings flows_before) ≡ Some fq)
    × (fq_in 1 (device_after settings (flows_before ++ flow_joins ∷ [])) ≡ Some next)
    × (is_listed 3 (fq.state.new_flows ++ fq.state.old_flows) ≡ false)
    × (is_listed 3 (next.state.new_flows ++ next.state.old_flows) ≡ true)
    × (credits_of 3 next.state.new_flows ≡ Some (pos next.state.settings.quantum))

-- both flows stay backlogged
abbrev pub GrantedEvenly : Type 0
GrantedEvenly =
    (first : FqAt)
    × (last : FqAt)
    × All IsEvent flows_before
    × All IsEvent (flows_granting ∷ flows_during)
    × Throughout (IsBackloggedFlow 1 1 1000) settings flows_before (flows_granting ∷ flows_during)
    × Throughout (IsBackloggedFlow 1 2 1000) settings flows_before (flows_granting ∷ flows_during)
    × (fq_in 1 (device_after settings flows_before) ≡ Some first)
    × (fq_in 1 (device_after settings (flows_before ++ (flows_granting ∷ flows_during))) ≡ Some last)
    × AreGrantedEvenly 1 2 first last
