-- The premises of the laws about flows, computed for worked replays, and with them the laws.
use Rattle.q_device.specs.Sharing.{FlowsAreGrantedEvenly, FlowsBeginNew, FlowsGiveTheirShares, device_after}
use Rattle.q_fqcodel.specs.FqState.{Flow}
use Rattle.q_fqcodel.specs.Put.{is_listed}
use Rattle.q_law_examples.proofs.ByTest.{Found, both, by-test, found, passes, passes-left, passes-right, value-of}
use Rattle.q_law_examples.proofs.Fits.{event-fits, events-fit}
use Rattle.q_law_examples.proofs.Rules.{all_rules}
use Rattle.q_law_examples.proofs.StateTests.{flow-there, flow_test, queued-flow-there, queued_flow_test}
use Rattle.q_law_examples.specs.Flows.{FlowAgainstAnother, FlowBeginsNew, FlowIsNotStarved, FlowShare, GrantedEvenly, JoinsBefore, JoinsFirst, JoinsSpared}
use Rattle.q_law_examples.specs.Replays.{flow_joins, flows_before, flows_during, flows_granting, flows_then, settings}
use Rattle.q_laws.specs.new_flow.NewFlow.{NewFlowsGoBefore}
use Rattle.q_laws.specs.new_flow.Rest.{JoiningFlowsAreSpared}
use Rattle.q_laws.specs.share.Service.{FlowAgainstAny, IsQueuedFlow, NewFlowFirst, NoFlowStarves}
use Rattle.q_model.specs.Events.{IsEvent}
use Rattle.q_model.specs.Replay.{replay}
use Rattle.q_model.specs.Stretches.{FqAt, IsBackloggedFlow, Throughout, bytes_given, flow_grants_to, fq_in}
use Rattle.q_model.specs.Tally.{history}
use Rattle.std.proofs.Common.{Some, arith, refl, subst, sym, ◌∙◌, ◌≡◌}
use Rattle.std.specs.Prelude.{All, [], false, option_and_then, slice_get, true, ℕ, ◌++◌, ◌∷◌, ◌≢◌}

fq-before : Found FqAt (fq_in 1 (device_after settings flows_before))
unfolding all_rules
fq-before = found (fq_in 1 (device_after settings flows_before)) refl

fq-after : Found FqAt (fq_in 1 (device_after settings (flows_before ++ (flows_granting ∷ flows_during))))
unfolding all_rules
fq-after = found (fq_in 1 (device_after settings (flows_before ++ (flows_granting ∷ flows_during)))) refl

apart : ◌≢◌ {A = ℕ} 1 2
unfolding all_rules
apart = λ e. omega (arith, e)

flows-before-fits : All IsEvent flows_before
unfolding all_rules
flows-before-fits = events-fit flows_before refl

events-fit-there : All IsEvent (flows_granting ∷ flows_during)
unfolding all_rules
events-fit-there = events-fit (flows_granting ∷ flows_during) refl

fq-granted : Found FqAt (fq_in 1 (device_after settings (flows_before ++ flows_granting ∷ [])))
unfolding all_rules
fq-granted = found (fq_in 1 (device_after settings (flows_before ++ flows_granting ∷ []))) refl

fq-ungranted : Found FqAt (fq_in 1 (device_after settings (flows_before ++ flows_granting ∷ flows_during)))
unfolding all_rules
fq-ungranted = found (fq_in 1 (device_after settings (flows_before ++ flows_granting ∷ flows_during))) refl

event-fits-there : IsEvent flows_granting
unfolding all_rules
event-fits-there = event-fits flows_granting refl

flows-during-fits : All IsEvent flows_during
unfolding all_rules
flows-during-fits = events-fit flows_during refl

fq-joined : Found FqAt (fq_in 1 (device_after settings (flows_before ++ flow_joins ∷ [])))
unfolding all_rules
fq-joined = found (fq_in 1 (device_after settings (flows_before ++ flow_joins ∷ []))) refl

fq-then : Found FqAt (fq_in 1 (device_after settings (flows_before ++ flow_joins ∷ flows_then)))
unfolding all_rules
fq-then = found (fq_in 1 (device_after settings (flows_before ++ flow_joins ∷ flows_then))) refl

apart-2 : ◌≢◌ {A = ℕ} 3 2
unfolding all_rules
apart-2 = λ e. omega (arith, e)

event-fits-there-2 : IsEvent flow_joins
unfolding all_rules
event-fits-there-2 = event-fits flow_joins refl

flows-then-fits : All IsEvent flows_then
unfolding all_rules
flows-then-fits = events-fit flows_then refl

fq-spared : Found FqAt (fq_in 1 (device_after settings ((flows_before ++ flow_joins ∷ []) ++ flows_then)))
unfolding all_rules
fq-spared = found (fq_in 1 (device_after settings ((flows_before ++ flow_joins ∷ []) ++ flows_then))) refl

flow-then : Found Flow (option_and_then (λ (s : FqAt). slice_get s.state.flows 3) (fq_in 1 (device_after settings ((flows_before ++ flow_joins ∷ [])
    ++ flows_then))))
unfolding all_rules
flow-then =
    found (option_and_then (λ (s : FqAt). slice_get s.state.flows 3) (fq_in 1 (device_after settings ((flows_before ++ flow_joins ∷ []) ++
    flows_then)))) refl

tests-pass : passes (both (flow_test 1 1 1000) (flow_test 1 2 1000)) (replay history settings flows_before) (flows_granting ∷ flows_during) ≡ true
unfolding all_rules
tests-pass = refl

queued-flow : Throughout (IsBackloggedFlow 1 1 1000) settings flows_before (flows_granting ∷ flows_during)
queued-flow =
    by-test (IsBackloggedFlow 1 1 1000) (flow_test 1 1 1000) (flow-there 1 1 1000) settings flows_before (flows_granting ∷ flows_during)
    (passes-left (flow_test 1 1 1000) (flow_test 1 2 1000) (replay history settings flows_before) (flows_granting ∷ flows_during) tests-pass)

other-tests : passes (flow_test 1 2 1000) (replay history settings flows_before) (flows_granting ∷ flows_during) ≡ true
other-tests = passes-right (flow_test 1 1 1000) (flow_test 1 2 1000) (replay history settings flows_before) (flows_granting ∷ flows_during) tests-pass

queued-flow-2 : Throughout (IsBackloggedFlow 1 2 1000) settings flows_before (flows_granting ∷ flows_during)
queued-flow-2 =
    by-test (IsBackloggedFlow 1 2 1000) (flow_test 1 2 1000) (flow-there 1 2 1000) settings flows_before (flows_granting ∷ flows_during)
    other-tests

tests-pass-2 : passes (queued_flow_test 1 3) (replay history settings (flows_before ++ flow_joins ∷ [])) flows_then ≡ true
unfolding all_rules
tests-pass-2 = refl

flow-stays : Throughout (IsQueuedFlow 1 3) settings (flows_before ++ flow_joins ∷ []) flows_then
flow-stays =
    by-test (IsQueuedFlow 1 3) (queued_flow_test 1 3) (queued-flow-there 1 3) settings (flows_before ++ flow_joins ∷ []) flows_then tests-pass-2

no-grant : flow_grants_to 1 fq-ungranted.value.noted ≡ flow_grants_to 1 fq-granted.value.noted
unfolding all_rules
no-grant =
    value-of (λ (s : FqAt). flow_grants_to 1 s.noted) (fq_in 1 (device_after settings (flows_before ++ flows_granting ∷ flows_during)))
    fq-ungranted.value 1 fq-ungranted.is refl ∙ sym (value-of (λ (s : FqAt). flow_grants_to 1 s.noted) (fq_in 1 (device_after settings
    (flows_before ++ flows_granting ∷ []))) fq-granted.value 1 fq-granted.is refl)

not-listed : is_listed 3 (fq-before.value.state.new_flows ++ fq-before.value.state.old_flows) ≡ false
unfolding all_rules
not-listed =
    value-of (λ (s : FqAt). is_listed 3 (s.state.new_flows ++ s.state.old_flows)) (fq_in 1 (device_after settings flows_before)) fq-before.value
    false fq-before.is refl

listed : is_listed 3 (fq-joined.value.state.new_flows ++ fq-joined.value.state.old_flows) ≡ true
unfolding all_rules
listed =
    value-of (λ (s : FqAt). is_listed 3 (s.state.new_flows ++ s.state.old_flows)) (fq_in 1 (device_after settings (flows_before ++ flow_joins ∷
    []))) fq-joined.value true fq-joined.is refl

gave-nothing : bytes_given 3 fq-then.value.noted ≡ bytes_given 3 fq-before.value.noted
unfolding all_rules
gave-nothing =
    value-of (λ (s : FqAt). bytes_given 3 s.noted) (fq_in 1 (device_after settings (flows_before ++ flow_joins ∷ flows_then))) fq-then.value 0
    fq-then.is refl ∙ sym (value-of (λ (s : FqAt). bytes_given 3 s.noted) (fq_in 1 (device_after settings flows_before)) fq-before.value 0
    fq-before.is refl)

gave-nothing-then : bytes_given 3 fq-spared.value.noted ≡ bytes_given 3 fq-before.value.noted
unfolding all_rules
gave-nothing-then =
    value-of (λ (s : FqAt). bytes_given 3 s.noted) (fq_in 1 (device_after settings ((flows_before ++ flow_joins ∷ []) ++ flows_then)))
    fq-spared.value 0 fq-spared.is refl ∙ sym (value-of (λ (s : FqAt). bytes_given 3 s.noted) (fq_in 1 (device_after settings flows_before))
    fq-before.value 0 fq-before.is refl)

flow-there-then : slice_get fq-spared.value.state.flows 3 ≡ Some flow-then.value
unfolding all_rules
flow-there-then = subst (λ o. option_and_then (λ (s : FqAt). slice_get s.state.flows 3) o ≡ Some flow-then.value) fq-spared.is flow-then.is

pub flow-against-another : FlowAgainstAny settings → FlowAgainstAnother
flow-against-another law = (
  fq-before.value,
  fq-after.value,
  apart,
  flows-before-fits,
  events-fit-there,
  queued-flow,
  fq-before.is,
  fq-after.is,
  law flows_before
      (flows_granting ∷ flows_during) 1 1 2 1000 fq-before.value fq-after.value apart flows-before-fits events-fit-there queued-flow fq-before.is
      fq-after.is,
)

pub flow-is-not-starved : NoFlowStarves settings → FlowIsNotStarved
flow-is-not-starved law = (
  fq-before.value,
  fq-granted.value,
  fq-ungranted.value,
  apart,
  flows-before-fits,
  event-fits-there,
  flows-during-fits,
  queued-flow,
  fq-before.is,
  fq-granted.is,
  fq-ungranted.is,
  no-grant,
  law flows_before flows_granting flows_during 1 1 2 1000 fq-before.value
      fq-granted.value fq-ungranted.value apart flows-before-fits event-fits-there flows-during-fits queued-flow fq-before.is fq-granted.is
      fq-ungranted.is no-grant,
)

pub joins-first : NewFlowFirst settings → JoinsFirst
joins-first law = (
  fq-before.value,
  fq-joined.value,
  fq-then.value,
  apart-2,
  flows-before-fits,
  event-fits-there-2,
  flows-then-fits,
  fq-before.is,
  fq-joined.is,
  fq-then.is,
  not-listed,
  listed,
  flow-stays,
  gave-nothing,
  law flows_before flow_joins flows_then 1 3 2 fq-before.value fq-joined.value
      fq-then.value apart-2 flows-before-fits event-fits-there-2 flows-then-fits fq-before.is fq-joined.is fq-then.is not-listed listed flow-stays
      gave-nothing,
)

pub joins-before : NewFlowsGoBefore settings → JoinsBefore
joins-before law = (
  fq-before.value,
  fq-joined.value,
  fq-then.value,
  flows-before-fits,
  event-fits-there-2,
  flows-then-fits,
  fq-before.is,
  fq-joined.is,
  fq-then.is,
  not-listed,
  listed,
  flow-stays,
  gave-nothing,
  law flows_before flow_joins flows_then 1 3 fq-before.value fq-joined.value
      fq-then.value flows-before-fits event-fits-there-2 flows-then-fits fq-before.is fq-joined.is fq-then.is not-listed listed flow-stays
      gave-nothing,
)

pub joins-spared : JoiningFlowsAreSpared settings → JoinsSpared
joins-spared law = (
  fq-before.value,
  fq-joined.value,
  fq-spared.value,
  flow-then.value,
  flows-before-fits,
  event-fits-there-2,
  flows-then-fits,
  fq-before.is,
  fq-joined.is,
  fq-spared.is,
  not-listed,
  listed,
  flow-stays,
  gave-nothing-then,
  flow-there-then,
  law flows_before flow_joins flows_then 1 3
      fq-before.value fq-joined.value fq-spared.value flow-then.value flows-before-fits event-fits-there-2 flows-then-fits fq-before.is fq-joined.is
      fq-spared.is not-listed listed flow-stays gave-nothing-then flow-there-then,
)

pub flow-share : FlowsGiveTheirShares settings → FlowShare
flow-share law = (
  fq-before.value,
  fq-after.value,
  flows-before-fits,
  events-fit-there,
  queued-flow,
  fq-before.is,
  fq-after.is,
  law flows_before
      (flows_granting ∷ flows_during) 1 1 1000 fq-before.value fq-after.value flows-before-fits events-fit-there queued-flow fq-before.is
      fq-after.is,
)

pub flow-begins-new : FlowsBeginNew settings → FlowBeginsNew
flow-begins-new law = (
  fq-before.value,
  fq-joined.value,
  flows-before-fits,
  event-fits-there-2,
  fq-before.is,
  fq-joined.is,
  not-listed,
  listed,
  law flows_before
      flow_joins 1 3 fq-before.value fq-joined.value flows-before-fits event-fits-there-2 fq-before.is fq-joined.is not-listed listed,
)

pub granted-evenly : FlowsAreGrantedEvenly settings → GrantedEvenly
granted-evenly law = (
  fq-before.value,
  fq-after.value,
  flows-before-fits,
  events-fit-there,
  queued-flow,
  queued-flow-2,
  fq-before.is,
  fq-after.is,
  law flows_before
      (flows_granting ∷ flows_during) 1 1 2 1000 fq-before.value fq-after.value flows-before-fits events-fit-there queued-flow queued-flow-2
      fq-before.is fq-after.is,
)
