-- The premises of the laws about a rate, computed for a worked replay, and with them the laws.
use Rattle.q_device.specs.Sharing.{BucketsAreBounded, device_after}
use Rattle.q_law_examples.proofs.ByTest.{Found, InEach, both, by-test, found, in-each, passes, passes-left, passes-right}
use Rattle.q_law_examples.proofs.EventTests.{drained-there, never-late-there, nowhere-cut-there}
use Rattle.q_law_examples.proofs.Fits.{event-fits, events-fit}
use Rattle.q_law_examples.proofs.Rules.{all_rules}
use Rattle.q_law_examples.proofs.StateTests.{queued-link-there, queued_link_test, tbf-there, tbf_test}
use Rattle.q_law_examples.specs.Rates.{BoundedBucket, DeliveredRate, NeverLate, PaidInTime, SpentRate}
use Rattle.q_law_examples.specs.Replays.{line_at_times, line_before, line_during, line_next, rate_of_link, settings}
use Rattle.q_laws.specs.rate.Delay.{BytesArePaidInTime, IsLeft}
use Rattle.q_laws.specs.rate.Rate.{HasRoom, IsBackloggedLink, IsDrained, IsNeverLate, IsNowhereCut, IsPolledOut, NeverLateIsDrained, RateIsDelivered, RateIsSpent}
use Rattle.q_model.specs.Events.{IsEvent}
use Rattle.q_model.specs.Replay.{replay}
use Rattle.q_model.specs.Step.{DeviceState}
use Rattle.q_model.specs.Stretches.{IsTbf, TbfAt, Throughout, tbf_in}
use Rattle.q_model.specs.Tally.{Note, history}
use Rattle.std.proofs.Common.{List, refl, ◌≡◌}
use Rattle.std.proofs.lemmas.Bool.{leb-true}
use Rattle.std.specs.Prelude.{All, [], true, ◌++◌, ◌∷◌}

tbf-before : Found TbfAt (tbf_in 1 (device_after settings line_before))
unfolding all_rules
tbf-before = found (tbf_in 1 (device_after settings line_before)) refl

tbf-after : Found TbfAt (tbf_in 1 (device_after settings (line_before ++ line_during)))
unfolding all_rules
tbf-after = found (tbf_in 1 (device_after settings (line_before ++ line_during))) refl

line-before-fits : All IsEvent line_before
unfolding all_rules
line-before-fits = events-fit line_before refl

line-during-fits : All IsEvent line_during
unfolding all_rules
line-during-fits = events-fit line_during refl

nowhere-cut : IsNowhereCut 1 (device_after settings line_before) line_during
unfolding all_rules
nowhere-cut = nowhere-cut-there 1 (device_after settings line_before) line_during refl

has-room : HasRoom settings.mtu 1000 rate_of_link 2000
unfolding all_rules
has-room = leb-true _ _ refl

drained : IsDrained 1000 (device_after settings line_before) line_during
unfolding all_rules
drained = drained-there 1000 (device_after settings line_before) line_during refl

polled-out : IsPolledOut (device_after settings line_before)
unfolding all_rules
polled-out = refl

polled-out-2 : IsPolledOut (device_after settings (line_before ++ line_during))
unfolding all_rules
polled-out-2 = refl

polls-never-late : IsNeverLate (device_after settings line_before) line_at_times
unfolding all_rules
polls-never-late = never-late-there (device_after settings line_before) line_at_times refl

event-fits-there : IsEvent line_next
unfolding all_rules
event-fits-there = event-fits line_next refl

drained-2 : IsDrained 1000 (device_after settings line_before) (line_during ++ line_next ∷ [])
unfolding all_rules
drained-2 = drained-there 1000 (device_after settings line_before) (line_during ++ line_next ∷ []) refl

tests-pass : passes (both (tbf_test 1 rate_of_link 2000) (queued_link_test 1 rate_of_link 2000)) (replay history settings line_before) line_during ≡
    true
unfolding all_rules
tests-pass = refl

tbf : Throughout (IsTbf 1 rate_of_link 2000) settings line_before line_during
tbf =
    by-test (IsTbf 1 rate_of_link 2000) (tbf_test 1 rate_of_link 2000) (tbf-there 1 rate_of_link 2000) settings line_before line_during
    (passes-left (tbf_test 1 rate_of_link 2000) (queued_link_test 1 rate_of_link 2000) (replay history settings line_before) line_during
    tests-pass)

other-tests : passes (queued_link_test 1 rate_of_link 2000) (replay history settings line_before) line_during ≡ true
other-tests =
    passes-right (tbf_test 1 rate_of_link 2000) (queued_link_test 1 rate_of_link 2000) (replay history settings line_before) line_during
    tests-pass

queued-link : Throughout (IsBackloggedLink 1 rate_of_link 2000) settings line_before line_during
queued-link =
    by-test (IsBackloggedLink 1 rate_of_link 2000) (queued_link_test 1 rate_of_link 2000) (queued-link-there 1 rate_of_link 2000) settings
    line_before line_during other-tests

abbrev Stays : DeviceState (List Note) → Type 0
Stays d = IsLeft 1 2000 (device_after settings line_before) d

states : InEach Stays (replay history settings line_before) line_during
unfolding all_rules
states = ((λ t from most. leb-true _ _ refl), ((λ t from most. leb-true _ _ refl), (λ t from most. leb-true _ _ refl)))

left : Throughout (IsLeft 1 2000 (device_after settings line_before)) settings line_before line_during
left = λ seen later e. (in-each Stays settings line_before line_during states seen later e)

pub spent-rate : RateIsSpent settings → SpentRate
spent-rate law = (
  tbf-before.value,
  tbf-after.value,
  line-before-fits,
  line-during-fits,
  tbf,
  nowhere-cut,
  tbf-before.is,
  tbf-after.is,
  law line_before
      line_during 1 rate_of_link 2000 tbf-before.value tbf-after.value line-before-fits line-during-fits tbf nowhere-cut tbf-before.is tbf-after.is,
)

pub delivered-rate : RateIsDelivered settings → DeliveredRate
delivered-rate law = (
  tbf-before.value,
  tbf-after.value,
  line-before-fits,
  line-during-fits,
  has-room,
  queued-link,
  drained,
  polled-out,
  polled-out-2,
  tbf-before.is,
  tbf-after.is,
  law line_before line_during 1 rate_of_link 2000 1000 tbf-before.value tbf-after.value line-before-fits
      line-during-fits has-room queued-link drained polled-out polled-out-2 tbf-before.is tbf-after.is,
)

pub never-late : NeverLateIsDrained → NeverLate
never-late law = (polls-never-late, law (device_after settings line_before) line_at_times polls-never-late)

pub bounded-bucket : BucketsAreBounded settings → BoundedBucket
bounded-bucket law = (
  tbf-before.value,
  tbf-after.value,
  line-before-fits,
  line-during-fits,
  tbf,
  tbf-before.is,
  tbf-after.is,
  law line_before line_during 1
      rate_of_link 2000 tbf-before.value tbf-after.value line-before-fits line-during-fits tbf tbf-before.is tbf-after.is,
)

pub paid-in-time : BytesArePaidInTime settings → PaidInTime
paid-in-time law = (
  tbf-before.value,
  line-before-fits,
  line-during-fits,
  event-fits-there,
  has-room,
  queued-link,
  left,
  drained-2,
  tbf-before.is,
  law
      line_before line_during line_next 1 rate_of_link 2000 1000 2000 tbf-before.value line-before-fits line-during-fits event-fits-there has-room
      queued-link left drained-2 tbf-before.is,
)
