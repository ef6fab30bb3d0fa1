-- Worked replays at which the premises of the laws about the rate of a tbf hold, and what they say there.
use Rattle.q_bucket.specs.Level.{level_at}
use Rattle.q_device.specs.Sharing.{IsBounded, device_after}
use Rattle.q_law_examples.specs.Replays.{line_at_times, line_before, line_during, line_next, rate_of_link, settings}
use Rattle.q_laws.specs.rate.Delay.{IsLeft, PaysInTime, latest, level_counted}
use Rattle.q_laws.specs.rate.Rate.{DeliversItsRate, HasRoom, IsBackloggedLink, IsDrained, IsNeverLate, IsNowhereCut, IsPolledOut, SpendsWhatComes}
use Rattle.q_model.specs.Events.{IsEvent}
use Rattle.q_model.specs.Step.{step}
use Rattle.q_model.specs.Stretches.{IsTbf, TbfAt, Throughout, tbf_in}
use Rattle.q_model.specs.Tally.{history}
use Rattle.std.specs.Prelude.{All, Some, [], ◌++◌, ◌∷◌, ◌≡◌}

-- the level is nowhere cut
abbrev pub SpentRate : Type 0
SpentRate =
    (first : TbfAt)
    × (last : TbfAt)
    × All IsEvent line_before
    × All IsEvent line_during
    × Throughout (IsTbf 1 rate_of_link 2000) settings line_before line_during
    × IsNowhereCut 1 (device_after settings line_before) line_during
    × (tbf_in 1 (device_after settings line_before) ≡ Some first)
    × (tbf_in 1 (device_after settings (line_before ++ line_during)) ≡ Some last)
    × SpendsWhatComes rate_of_link (device_after settings line_before).clock (device_after settings (line_before ++ line_during)).clock first last

-- polls come at most a microsecond late
abbrev pub DeliveredRate : Type 0
DeliveredRate =
    (first : TbfAt)
    × (last : TbfAt)
    × All IsEvent line_before
    × All IsEvent line_during
    × HasRoom settings.mtu 1000 rate_of_link 2000
    × Throughout (IsBackloggedLink 1 rate_of_link 2000) settings line_before line_during
    × IsDrained 1000 (device_after settings line_before) line_during
    × IsPolledOut (device_after settings line_before)
    × IsPolledOut (device_after settings (line_before ++ line_during))
    × (tbf_in 1 (device_after settings line_before) ≡ Some first)
    × (tbf_in 1 (device_after settings (line_before ++ line_during)) ≡ Some last)
    × DeliversItsRate rate_of_link settings.mtu (device_after settings line_before).clock (device_after settings (line_before ++
    line_during)).clock first last

-- each poll comes at the time that is said right before it
abbrev pub NeverLate : Type 0
NeverLate =
    IsNeverLate (device_after settings line_before) line_at_times
    × IsDrained 0 (device_after settings line_before) line_at_times

-- what the bucket pays
abbrev pub BoundedBucket : Type 0
BoundedBucket =
    (first : TbfAt)
    × (last : TbfAt)
    × All IsEvent line_before
    × All IsEvent line_during
    × Throughout (IsTbf 1 rate_of_link 2000) settings line_before line_during
    × (tbf_in 1 (device_after settings line_before) ≡ Some first)
    × (tbf_in 1 (device_after settings (line_before ++ line_during)) ≡ Some last)
    × IsBounded rate_of_link 2000 (device_after settings line_before).clock (device_after settings (line_before ++ line_during)).clock first last

-- 2000 bytes are left, and a packet of them in each state
abbrev pub PaidInTime : Type 0
PaidInTime =
    (first : TbfAt)
    × All IsEvent line_before
    × All IsEvent line_during
    × IsEvent line_next
    × HasRoom settings.mtu 1000 rate_of_link 2000
    × Throughout (IsBackloggedLink 1 rate_of_link 2000) settings line_before line_during
    × Throughout (IsLeft 1 2000 (device_after settings line_before)) settings line_before line_during
    × IsDrained 1000 (device_after settings line_before) (line_during ++ line_next ∷ [])
    × (tbf_in 1 (device_after settings line_before) ≡ Some first)
    × PaysInTime (latest (device_after settings line_before).clock rate_of_link (level_counted 1000 rate_of_link 2000 (level_at first.bucket
    (device_after settings line_before).clock)) 2000) 1000 (device_after settings (line_before ++ line_during)) (step history (device_after
    settings (line_before ++ line_during)) line_next).device
