-- The premises of the laws about a line, computed for worked replays, and with them the laws.
use Rattle.q_device.specs.Laws.{given_in}
use Rattle.q_device.specs.promises.Latest.{latest_of}
use Rattle.q_device.specs.promises.Worst.{worst_on}
use Rattle.q_device.specs.Sharing.{device_after}
use Rattle.q_law_examples.proofs.ByTest.{Found, both, by-test, found, passes, passes-left, passes-right}
use Rattle.q_law_examples.proofs.EventTests.{drained-there}
use Rattle.q_law_examples.proofs.Fits.{event-fits, events-fit}
use Rattle.q_law_examples.proofs.Rules.{all_rules}
use Rattle.q_law_examples.proofs.StateTests.{alone-there, alone_test, in-line-there, in_line_test, link-there, link_test}
use Rattle.q_law_examples.specs.Lines.{EnoughForWorst, EnoughInLine, LatestInLine, LimitIsDelay, LineInTime, LineKeepsLimit, RisesNoFaster, StandsInLine, ToldBefore, WorstInTime}
use Rattle.q_law_examples.specs.Replays.{first_lane, five_thousand, in_line, line_before, line_during, line_latest, line_next, line_told, line_worst, link_of_tree, one_more, rate_of_link, settings}
use Rattle.q_laws.specs.line.Latest.{LatestIsEnough, LatestIsInTime, LatestIsToldBefore, LatestRisesNoFaster, LatestStandsAsItFills, at_best}
use Rattle.q_laws.specs.line.Line.{IsAlone, IsInLine, IsLink, KeepLine, LimitsAreDelays, LinesLeaveInTime, bytes_in, line_at_root, line_below_root}
use Rattle.q_laws.specs.line.Worst.{IsKeptAt, LinesKeepLimits, WorstIsEnough, WorstIsInTime, with_arrival}
use Rattle.q_laws.specs.order.Order.{answers}
use Rattle.q_laws.specs.rate.Rate.{HasRoom, IsDrained}
use Rattle.q_model.specs.Events.{IsEvent}
use Rattle.q_model.specs.Replay.{replay}
use Rattle.q_model.specs.Stretches.{TbfAt, Throughout, tbf_in}
use Rattle.q_model.specs.Tally.{history}
use Rattle.q_tree.specs.answers.Lanes.{lane_to}
use Rattle.std.proofs.Common.{Some, refl, ◌≡◌}
use Rattle.std.proofs.lemmas.Bool.{leb-true, ltb-true}
use Rattle.std.specs.List.{filter_map}
use Rattle.std.specs.Prelude.{All, [], max, true, ◌++◌, ◌+◌, ◌-◌, ◌<◌, ◌^◌, ◌∷◌, ◌≤◌}
use Rattle.q_model.specs.declared.event.Event.TheVariants as event

tbf-before : Found TbfAt (tbf_in 1 (device_after settings line_before))
unfolding all_rules
tbf-before = found (tbf_in 1 (device_after settings line_before)) refl

line-before-fits : All IsEvent line_before
unfolding all_rules
line-before-fits = events-fit line_before refl

line-during-fits : All IsEvent line_during
unfolding all_rules
line-during-fits = events-fit line_during refl

event-fits-there : IsEvent line_next
unfolding all_rules
event-fits-there = event-fits line_next refl

has-room : HasRoom settings.mtu 1000 rate_of_link 2000
unfolding all_rules
has-room = leb-true _ _ refl

line-kept : KeepLine line_below_root (device_after settings line_before) line_during
unfolding all_rules
line-kept = (tt, (tt, tt))

drained : IsDrained 1000 (device_after settings line_before) (line_during ++ line_next ∷ [])
unfolding all_rules
drained = drained-there 1000 (device_after settings line_before) (line_during ++ line_next ∷ []) refl

within : bytes_in (line_below_root (device_after settings line_before)) ≤ 5000
unfolding all_rules
within = leb-true _ _ refl

event-fits-there-2 : IsEvent (event.Arrive one_more 0)
unfolding all_rules
event-fits-there-2 = event-fits (event.Arrive one_more 0) refl

holds : lane_to in_line (device_after settings line_before).tree.root ≡ Some first_lane
unfolding all_rules
holds = refl

kept : IsKeptAt in_line one_more 0 (device_after settings line_before)
unfolding all_rules
kept = record { goes = refl; kept = refl }

holds-2 : worst_on settings.mtu first_lane ≡ Some line_worst
unfolding all_rules
holds-2 = refl

line-kept-2 : KeepLine line_at_root (device_after settings (with_arrival line_before one_more 0)) line_during
unfolding all_rules
line-kept-2 = (tt, (tt, tt))

holds-3 : lane_to in_line (device_after settings line_before).tree.root ≡ Some (record { link = Some link_of_tree; limit = five_thousand })
unfolding all_rules
holds-3 = refl

holds-4 : worst_on settings.mtu (record { link = Some link_of_tree; limit = five_thousand }) ≡ Some line_worst
unfolding all_rules
holds-4 = refl

holds-5 : line_worst.ns ≡ Some 5000000
unfolding all_rules
holds-5 = refl

holds-6 : line_worst.late ≡ Some 999999
unfolding all_rules
holds-6 = refl

within-2 : 1000 ≤ 999999
unfolding all_rules
within-2 = leb-true _ _ refl

drained-2 : IsDrained 1000 (device_after settings (with_arrival line_before one_more 0)) (line_during ++ line_next ∷ [])
unfolding all_rules
drained-2 = drained-there 1000 (device_after settings (with_arrival line_before one_more 0)) (line_during ++ line_next ∷ []) refl

below : bytes_in (filter_map given_in (answers (device_after settings (with_arrival line_before one_more 0)) line_during)) < bytes_in (line_at_root
    (device_after settings (with_arrival line_before one_more 0)))
unfolding all_rules
below = ltb-true _ _ refl

holds-7 : latest_of history in_line 0 settings.mtu (device_after settings line_before) ≡ Some line_latest
unfolding all_rules
holds-7 = refl

line-kept-3 : KeepLine line_at_root (device_after settings line_before) line_during
unfolding all_rules
line-kept-3 = (tt, (tt, tt))

holds-8 : line_latest.at ≡ Some 2000000
unfolding all_rules
holds-8 = refl

holds-9 : line_latest.late ≡ Some 999999
unfolding all_rules
holds-9 = refl

below-2 : bytes_in (filter_map given_in (answers (device_after settings line_before) line_during)) < line_latest.bytes
unfolding all_rules
below-2 = ltb-true _ _ refl

holds-10 : latest_of history in_line one_more.len settings.mtu (device_after settings line_before) ≡ Some line_told
unfolding all_rules
holds-10 = refl

within-3 : 0 ≤ (device_after settings line_before).clock
unfolding all_rules
within-3 = leb-true _ _ refl

event-fits-there-3 : IsEvent (event.Arrive one_more 500)
unfolding all_rules
event-fits-there-3 = event-fits (event.Arrive one_more 500) refl

kept-2 : IsKeptAt in_line one_more 500 (device_after settings line_before)
unfolding all_rules
kept-2 = record { goes = refl; kept = refl }

holds-11 : line_told.at ≡ Some 3000000
unfolding all_rules
holds-11 = refl

within-4 : 3000000 + (500 - (device_after settings line_before).clock) ≤ 2 ^ 62
unfolding all_rules
within-4 = leb-true _ _ refl

within-5 : max 3000000 (at_best settings.mtu (max (device_after settings line_before).clock 500) link_of_tree line_told.bytes) ≤ 2 ^ 62
unfolding all_rules
within-5 = leb-true _ _ refl

tests-pass : passes (both (link_test 1 rate_of_link 2000) (both (in_line_test 1 (device_after settings line_before)) (both (alone_test) (link_test
    link_of_tree.handle link_of_tree.rate link_of_tree.burst)))) (replay history settings line_before) line_during ≡ true
unfolding all_rules
tests-pass = refl

link : Throughout (IsLink 1 rate_of_link 2000) settings line_before line_during
link =
    by-test (IsLink 1 rate_of_link 2000) (link_test 1 rate_of_link 2000) (link-there 1 rate_of_link 2000) settings line_before line_during
    (passes-left (link_test 1 rate_of_link 2000) (both (in_line_test 1 (device_after settings line_before)) (both (alone_test) (link_test
    link_of_tree.handle link_of_tree.rate link_of_tree.burst))) (replay history settings line_before) line_during tests-pass)

other-tests : passes (both (in_line_test 1 (device_after settings line_before)) (both (alone_test) (link_test link_of_tree.handle link_of_tree.rate
    link_of_tree.burst))) (replay history settings line_before) line_during ≡ true
other-tests =
    passes-right (link_test 1 rate_of_link 2000) (both (in_line_test 1 (device_after settings line_before)) (both (alone_test) (link_test
    link_of_tree.handle link_of_tree.rate link_of_tree.burst))) (replay history settings line_before) line_during tests-pass

in-line : Throughout (IsInLine 1 (device_after settings line_before)) settings line_before line_during
in-line =
    by-test (IsInLine 1 (device_after settings line_before)) (in_line_test 1 (device_after settings line_before)) (in-line-there 1 (device_after
    settings line_before)) settings line_before line_during (passes-left (in_line_test 1 (device_after settings line_before)) (both (alone_test)
    (link_test link_of_tree.handle link_of_tree.rate link_of_tree.burst)) (replay history settings line_before) line_during other-tests)

other-tests-2 : passes (both (alone_test) (link_test link_of_tree.handle link_of_tree.rate link_of_tree.burst)) (replay history settings line_before)
    line_during ≡ true
other-tests-2 =
    passes-right (in_line_test 1 (device_after settings line_before)) (both (alone_test) (link_test link_of_tree.handle link_of_tree.rate
    link_of_tree.burst)) (replay history settings line_before) line_during other-tests

alone-2 : Throughout IsAlone settings line_before line_during
alone-2 =
    by-test IsAlone (alone_test) alone-there settings line_before line_during (passes-left (alone_test) (link_test link_of_tree.handle
    link_of_tree.rate link_of_tree.burst) (replay history settings line_before) line_during other-tests-2)

other-tests-3 : passes (link_test link_of_tree.handle link_of_tree.rate link_of_tree.burst) (replay history settings line_before) line_during ≡ true
other-tests-3 =
    passes-right (alone_test) (link_test link_of_tree.handle link_of_tree.rate link_of_tree.burst) (replay history settings line_before)
    line_during other-tests-2

link-3 : Throughout (IsLink link_of_tree.handle link_of_tree.rate link_of_tree.burst) settings line_before line_during
link-3 =
    by-test (IsLink link_of_tree.handle link_of_tree.rate link_of_tree.burst) (link_test link_of_tree.handle link_of_tree.rate link_of_tree.burst)
    (link-there link_of_tree.handle link_of_tree.rate link_of_tree.burst) settings line_before line_during other-tests-3

tests-pass-2 : passes (both (alone_test) (link_test link_of_tree.handle link_of_tree.rate link_of_tree.burst)) (replay history settings (with_arrival
    line_before one_more 0)) line_during ≡ true
unfolding all_rules
tests-pass-2 = refl

alone : Throughout IsAlone settings (with_arrival line_before one_more 0) line_during
alone =
    by-test IsAlone (alone_test) alone-there settings (with_arrival line_before one_more 0) line_during (passes-left (alone_test) (link_test
    link_of_tree.handle link_of_tree.rate link_of_tree.burst) (replay history settings (with_arrival line_before one_more 0)) line_during
    tests-pass-2)

other-tests-4 : passes (link_test link_of_tree.handle link_of_tree.rate link_of_tree.burst) (replay history settings (with_arrival line_before
    one_more 0)) line_during ≡ true
other-tests-4 =
    passes-right (alone_test) (link_test link_of_tree.handle link_of_tree.rate link_of_tree.burst) (replay history settings (with_arrival
    line_before one_more 0)) line_during tests-pass-2

link-2 : Throughout (IsLink link_of_tree.handle link_of_tree.rate link_of_tree.burst) settings (with_arrival line_before one_more 0) line_during
link-2 =
    by-test (IsLink link_of_tree.handle link_of_tree.rate link_of_tree.burst) (link_test link_of_tree.handle link_of_tree.rate link_of_tree.burst)
    (link-there link_of_tree.handle link_of_tree.rate link_of_tree.burst) settings (with_arrival line_before one_more 0) line_during other-tests-4

pub line-in-time : LinesLeaveInTime settings → LineInTime
line-in-time law = (
  tbf-before.value,
  line-before-fits,
  line-during-fits,
  event-fits-there,
  has-room,
  link,
  in-line,
  line-kept,
  drained,
  tbf-before.is,
  law
      line_before line_during line_next 1 rate_of_link 2000 1000 tbf-before.value line-before-fits line-during-fits event-fits-there has-room link
      in-line line-kept drained tbf-before.is,
)

pub limit-is-delay : LimitsAreDelays settings → LimitIsDelay
limit-is-delay law = (
  line-before-fits,
  line-during-fits,
  event-fits-there,
  has-room,
  link,
  in-line,
  line-kept,
  drained,
  within,
  law line_before line_during
      line_next 1 rate_of_link 2000 1000 5000 line-before-fits line-during-fits event-fits-there has-room link in-line line-kept drained within,
)

pub line-keeps-limit : LinesKeepLimits settings → LineKeepsLimit
line-keeps-limit law = (
  line-before-fits,
  event-fits-there-2,
  holds,
  kept,
  law line_before one_more 0 in_line first_lane line-before-fits event-fits-there-2 holds
      kept,
)

pub enough-for-worst : WorstIsEnough settings → EnoughForWorst
enough-for-worst law = (
  line-before-fits,
  event-fits-there-2,
  line-during-fits,
  holds,
  holds-2,
  kept,
  alone,
  line-kept-2,
  law line_before line_during one_more 0
      in_line first_lane line_worst line-before-fits event-fits-there-2 line-during-fits holds holds-2 kept alone line-kept-2,
)

pub worst-in-time : WorstIsInTime settings → WorstInTime
worst-in-time law = (
  line-before-fits,
  event-fits-there-2,
  line-during-fits,
  event-fits-there,
  holds-3,
  holds-4,
  holds-5,
  holds-6,
  within-2,
  kept,
  link-2,
  line-kept-2,
  drained-2,
  below,
  law line_before line_during line_next one_more 0 in_line link_of_tree five_thousand line_worst 5000000 999999
      1000 line-before-fits event-fits-there-2 line-during-fits event-fits-there holds-3 holds-4 holds-5 holds-6 within-2 kept link-2 line-kept-2
      drained-2 below,
)

pub enough-in-line : LatestIsEnough settings → EnoughInLine
enough-in-line law = (
  line-before-fits,
  line-during-fits,
  holds,
  holds-7,
  alone-2,
  line-kept-3,
  law line_before line_during in_line first_lane line_latest
      line-before-fits line-during-fits holds holds-7 alone-2 line-kept-3,
)

pub latest-in-line : LatestIsInTime settings → LatestInLine
latest-in-line law = (
  line-before-fits,
  line-during-fits,
  event-fits-there,
  holds-3,
  holds-7,
  holds-8,
  holds-9,
  within-2,
  link-3,
  line-kept-3,
  drained,
  below-2,
  law line_before line_during line_next in_line link_of_tree five_thousand line_latest 2000000 999999 1000 line-before-fits line-during-fits
      event-fits-there holds-3 holds-7 holds-8 holds-9 within-2 link-3 line-kept-3 drained below-2,
)

pub told-before : LatestIsToldBefore settings → ToldBefore
told-before law = (
  line-before-fits,
  event-fits-there-2,
  holds-10,
  kept,
  within-3,
  law line_before one_more 0 in_line line_told line-before-fits
      event-fits-there-2 holds-10 kept within-3,
)

pub rises-no-faster : LatestRisesNoFaster settings → RisesNoFaster
rises-no-faster law = (
  line-before-fits,
  event-fits-there-3,
  holds-10,
  kept-2,
  holds-11,
  within-4,
  law line_before one_more 500 in_line line_told 3000000
      line-before-fits event-fits-there-3 holds-10 kept-2 holds-11 within-4,
)

pub stands-in-line : LatestStandsAsItFills settings → StandsInLine
stands-in-line law = (
  line-before-fits,
  event-fits-there-3,
  holds-3,
  holds-10,
  kept-2,
  holds-11,
  within-5,
  law line_before one_more 500 in_line link_of_tree
      five_thousand line_told 3000000 line-before-fits event-fits-there-3 holds-3 holds-10 kept-2 holds-11 within-5,
)
