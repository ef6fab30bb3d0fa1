-- Worked replays at which the premises of the laws about a fifo in line below a tbf hold, and what they say there.
use Rattle.q_bucket.specs.Level.{level_at, units_in_byte}
use Rattle.q_device.specs.Laws.{given_in}
use Rattle.q_device.specs.promises.Latest.{latest_of}
use Rattle.q_device.specs.promises.Worst.{most_bytes, worst_on}
use Rattle.q_device.specs.Sharing.{device_after}
use Rattle.q_law_examples.specs.Replays.{first_lane, five_thousand, in_line, line_before, line_during, line_latest, line_next, line_told, line_worst, link_of_tree, one_more, rate_of_link, settings}
use Rattle.q_laws.specs.line.Latest.{IsToldBy, at_best}
use Rattle.q_laws.specs.line.Line.{BeginsWith, IsAlone, IsInLine, IsLink, KeepLine, bytes_in, line_at_root, line_below_root}
use Rattle.q_laws.specs.line.Worst.{EndsWithin, IsKeptAt, LeavesWithin, with_arrival}
use Rattle.q_laws.specs.order.Order.{answers}
use Rattle.q_laws.specs.rate.Delay.{PaysInTime, latest, level_counted}
use Rattle.q_laws.specs.rate.Rate.{HasRoom, IsDrained}
use Rattle.q_model.specs.Events.{IsEvent}
use Rattle.q_model.specs.Step.{step}
use Rattle.q_model.specs.Stretches.{TbfAt, Throughout, tbf_in}
use Rattle.q_model.specs.Tally.{history}
use Rattle.q_tree.specs.answers.Lanes.{lane_to}
use Rattle.std.specs.Int.{div_ceil}
use Rattle.std.specs.List.{filter_map}
use Rattle.std.specs.Prelude.{All, Some, [], max, ◌*◌, ◌++◌, ◌+◌, ◌-◌, ◌<◌, ◌^◌, ◌∷◌, ◌≡◌, ◌≤◌}
use Rattle.q_model.specs.declared.event.Event.TheVariants as event

-- what is in line leaves in time
abbrev pub LineInTime : Type 0
LineInTime =
    (first : TbfAt)
    × All IsEvent line_before
    × All IsEvent line_during
    × IsEvent line_next
    × HasRoom settings.mtu 1000 rate_of_link 2000
    × Throughout (IsLink 1 rate_of_link 2000) settings line_before line_during
    × Throughout (IsInLine 1 (device_after settings line_before)) settings line_before line_during
    × KeepLine line_below_root (device_after settings line_before) line_during
    × IsDrained 1000 (device_after settings line_before) (line_during ++ line_next ∷ [])
    × (tbf_in 1 (device_after settings line_before) ≡ Some first)
    × PaysInTime (latest (device_after settings line_before).clock rate_of_link (level_counted 1000 rate_of_link 2000 (level_at first.bucket
    (device_after settings line_before).clock)) (bytes_in (line_below_root (device_after settings line_before)))) 1000 (device_after settings
    (line_before ++ line_during)) (step history (device_after settings (line_before ++ line_during)) line_next).device

-- whatever the level is
abbrev pub LimitIsDelay : Type 0
LimitIsDelay =
    All IsEvent line_before
    × All IsEvent line_during
    × IsEvent line_next
    × HasRoom settings.mtu 1000 rate_of_link 2000
    × Throughout (IsLink 1 rate_of_link 2000) settings line_before line_during
    × Throughout (IsInLine 1 (device_after settings line_before)) settings line_before line_during
    × KeepLine line_below_root (device_after settings line_before) line_during
    × IsDrained 1000 (device_after settings line_before) (line_during ++ line_next ∷ [])
    × (bytes_in (line_below_root (device_after settings line_before)) ≤ 5000)
    × PaysInTime ((device_after settings line_before).clock + div_ceil (5000 * units_in_byte) rate_of_link) 1000 (device_after settings
    (line_before ++ line_during)) (step history (device_after settings (line_before ++ line_during)) line_next).device

-- one packet more is kept
abbrev pub LineKeepsLimit : Type 0
LineKeepsLimit =
    All IsEvent line_before
    × IsEvent (event.Arrive one_more 0)
    × (lane_to in_line (device_after settings line_before).tree.root ≡ Some first_lane)
    × IsKeptAt in_line one_more 0 (device_after settings line_before)
    × EndsWithin (most_bytes settings.mtu first_lane.limit) one_more (line_at_root (device_after settings (with_arrival line_before one_more 0)))

-- what the device answers of the fifo
abbrev pub EnoughForWorst : Type 0
EnoughForWorst =
    All IsEvent line_before
    × IsEvent (event.Arrive one_more 0)
    × All IsEvent line_during
    × (lane_to in_line (device_after settings line_before).tree.root ≡ Some first_lane)
    × (worst_on settings.mtu first_lane ≡ Some line_worst)
    × IsKeptAt in_line one_more 0 (device_after settings line_before)
    × Throughout IsAlone settings (with_arrival line_before one_more 0) line_during
    × KeepLine line_at_root (device_after settings (with_arrival line_before one_more 0)) line_during
    × LeavesWithin line_worst.bytes one_more (filter_map given_in (answers (device_after settings (with_arrival line_before one_more 0))
    line_during) ++ line_at_root (device_after settings (with_arrival line_before one_more 0 ++ line_during)))

-- and by when the packet has left
abbrev pub WorstInTime : Type 0
WorstInTime =
    All IsEvent line_before
    × IsEvent (event.Arrive one_more 0)
    × All IsEvent line_during
    × IsEvent line_next
    × (lane_to in_line (device_after settings line_before).tree.root ≡ Some (record { link = Some link_of_tree; limit = five_thousand }))
    × (worst_on settings.mtu (record { link = Some link_of_tree; limit = five_thousand }) ≡ Some line_worst)
    × (line_worst.ns ≡ Some 5000000)
    × (line_worst.late ≡ Some 999999)
    × (1000 ≤ 999999)
    × IsKeptAt in_line one_more 0 (device_after settings line_before)
    × Throughout (IsLink link_of_tree.handle link_of_tree.rate link_of_tree.burst) settings (with_arrival line_before one_more 0) line_during
    × KeepLine line_at_root (device_after settings (with_arrival line_before one_more 0)) line_during
    × IsDrained 1000 (device_after settings (with_arrival line_before one_more 0)) (line_during ++ line_next ∷ [])
    × (bytes_in (filter_map given_in (answers (device_after settings (with_arrival line_before one_more 0)) line_during)) < bytes_in (line_at_root
    (device_after settings (with_arrival line_before one_more 0))))
    × PaysInTime ((device_after settings (with_arrival line_before one_more 0)).clock + 5000000) 1000 (device_after settings (with_arrival
    line_before one_more 0 ++ line_during)) (step history (device_after settings (with_arrival line_before one_more 0 ++ line_during))
    line_next).device

-- what it answers of the packet that was queued last
abbrev pub EnoughInLine : Type 0
EnoughInLine =
    All IsEvent line_before
    × All IsEvent line_during
    × (lane_to in_line (device_after settings line_before).tree.root ≡ Some first_lane)
    × (latest_of history in_line 0 settings.mtu (device_after settings line_before) ≡ Some line_latest)
    × Throughout IsAlone settings line_before line_during
    × KeepLine line_at_root (device_after settings line_before) line_during
    × ((bytes_in (line_at_root (device_after settings line_before)) ≡ line_latest.bytes) × BeginsWith (line_at_root (device_after settings
    line_before)) (filter_map given_in (answers (device_after settings line_before) line_during) ++ line_at_root (device_after settings
    (line_before ++ line_during))))

-- and by when that has left
abbrev pub LatestInLine : Type 0
LatestInLine =
    All IsEvent line_before
    × All IsEvent line_during
    × IsEvent line_next
    × (lane_to in_line (device_after settings line_before).tree.root ≡ Some (record { link = Some link_of_tree; limit = five_thousand }))
    × (latest_of history in_line 0 settings.mtu (device_after settings line_before) ≡ Some line_latest)
    × (line_latest.at ≡ Some 2000000)
    × (line_latest.late ≡ Some 999999)
    × (1000 ≤ 999999)
    × Throughout (IsLink link_of_tree.handle link_of_tree.rate link_of_tree.burst) settings line_before line_during
    × KeepLine line_at_root (device_after settings line_before) line_during
    × IsDrained 1000 (device_after settings line_before) (line_during ++ line_next ∷ [])
    × (bytes_in (filter_map given_in (answers (device_after settings line_before) line_during)) < line_latest.bytes)
    × PaysInTime 2000000 1000 (device_after settings (line_before ++ line_during)) (step history (device_after settings (line_before ++
    line_during)) line_next).device

-- what it answers of a packet that is to come next
abbrev pub ToldBefore : Type 0
ToldBefore =
    All IsEvent line_before
    × IsEvent (event.Arrive one_more 0)
    × (latest_of history in_line one_more.len settings.mtu (device_after settings line_before) ≡ Some line_told)
    × IsKeptAt in_line one_more 0 (device_after settings line_before)
    × (0 ≤ (device_after settings line_before).clock)
    × (latest_of history in_line 0 settings.mtu (device_after settings (with_arrival line_before one_more 0)) ≡ Some line_told)

-- if that comes later
abbrev pub RisesNoFaster : Type 0
RisesNoFaster =
    All IsEvent line_before
    × IsEvent (event.Arrive one_more 500)
    × (latest_of history in_line one_more.len settings.mtu (device_after settings line_before) ≡ Some line_told)
    × IsKeptAt in_line one_more 500 (device_after settings line_before)
    × (line_told.at ≡ Some 3000000)
    × (3000000 + (500 - (device_after settings line_before).clock) ≤ 2 ^ 62)
    × IsToldBy (3000000 + (500 - (device_after settings line_before).clock)) line_told (latest_of history in_line 0 settings.mtu (device_after
    settings (with_arrival line_before one_more 500)))

-- while the bucket fills
abbrev pub StandsInLine : Type 0
StandsInLine =
    All IsEvent line_before
    × IsEvent (event.Arrive one_more 500)
    × (lane_to in_line (device_after settings line_before).tree.root ≡ Some (record { link = Some link_of_tree; limit = five_thousand }))
    × (latest_of history in_line one_more.len settings.mtu (device_after settings line_before) ≡ Some line_told)
    × IsKeptAt in_line one_more 500 (device_after settings line_before)
    × (line_told.at ≡ Some 3000000)
    × (max 3000000 (at_best settings.mtu (max (device_after settings line_before).clock 500) link_of_tree line_told.bytes) ≤ 2 ^ 62)
    × IsToldBy (max 3000000 (at_best settings.mtu (max (device_after settings line_before).clock 500) link_of_tree line_told.bytes)) line_told
    (latest_of history in_line 0 settings.mtu (device_after settings (with_arrival line_before one_more 500)))
