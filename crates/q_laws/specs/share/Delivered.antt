-- That what a class of a drr is promised is what it gets, over every interval of every replay: q_device's specs/promises/Promise.antt has the
-- numbers, which are those of specs/share/InTime.antt, rounded against the class. tc-tbf(8) and tc-drr(8).
use Rattle.std.specs.Prelude.{◌≡◌, ℕ, ◌+◌, ◌-◌, ◌*◌, ◌^◌, ◌<◌, ◌≤◌, List, ◌∷◌, ◌++◌, map, length, All, Option, Some, None, IfSome}
use Rattle.q_bucket.specs.Level.{units_in_byte}
use Rattle.q_model.specs.declared.event.Event.{Event}
use Rattle.q_model.specs.Events.{IsEvent}
use Rattle.q_model.specs.Settings.{DeviceSettings}
use Rattle.q_model.specs.Step.{DeviceState}
use Rattle.q_model.specs.Stretches.{IsBackloggedClass, Throughout}
use Rattle.q_model.specs.Tally.{Note}
use Rattle.q_tree.specs.declared.answers.ways.Link.{Link}
use Rattle.q_tree.specs.declared.answers.ways.Share.{Share}
use Rattle.q_tree.specs.answers.Ways.{DrrClass, share_of, shares_of, way_to}
use Rattle.q_device.specs.promises.Promise.{Promise, lack_of_link, part_of, promise_on}
use Rattle.q_device.specs.Sharing.{device_after}
use Rattle.q_laws.specs.rate.Rate.{HasRoom, IsDrained, IsPolledOut}
use Rattle.q_laws.specs.share.InTime.{Level, last_level, quanta_on, sums_on, lacks_on, sent_at}
use Rattle.q_laws.specs.share.Service.{all_sent}

-- a class on the path, and all of them
abbrev pub level_of : DrrClass → Level
level_of d = record { major = d.major; minor = d.class.name; quantum = d.class.quantum; classes = d.classes }

abbrev pub levels_of : List DrrClass → List Level
levels_of ds = map level_of ds

-- a quantum has a byte at least, and is one of those that are summed
pub record IsPart (s : Share) : Type 0 where
  pub positive : 1 ≤ s.quantum
  pub part : s.quantum ≤ s.quanta

-- The slack is what the law says that may lack, rounded up: by less than a byte for each drr on the path.
pub record IsSlack (mtu lack slack : ℕ) (l : Level) (levels : List Level) : Type 0 where
  pub enough : lack * quanta_on l levels + lacks_on mtu l levels ≤ slack * sums_on l levels
  pub no_more : slack * sums_on l levels < lack * quanta_on l levels + lacks_on mtu l levels + (length levels + 1) * sums_on l levels

-- The class is the last one on the path, and something is queued in it.
abbrev pub IsServed : DrrClass → List DrrClass → Option Link → DeviceState (List Note) → Type 0
IsServed d ds link state =
    let last = last_level (level_of d) (levels_of ds) in
    (way_to (record { major = last.major; minor = last.minor }) state.tree.root ≡ Some (record { link = link; drrs = d ∷ ds }))
    × IsBackloggedClass last.major last.minor last.quantum state

-- In this time it sends at least that part of the rate, but for the slack.
pub record GetsItsService (rate time sent : ℕ) (p : Promise) (l : Level) (levels : List Level) : Type 0 where
  pub exact : rate * time * quanta_on l levels < (sent + p.slack) * sums_on l levels * units_in_byte
  pub rounded : part_of p.shares rate * time < (sent + p.slack) * units_in_byte

-- As long as the path to a class stays as it is and something is queued in the class, and the device is polled no later than is promised for.
-- That path is there only while no other tbf is below the one at the root.
abbrev pub ServiceIsDelivered : DeviceSettings → Type 0
ServiceIsDelivered settings =
    (before during : List Event) (link : Link) (d : DrrClass) (ds : List DrrClass) (p : Promise) → All IsEvent before → All IsEvent during
    → promise_on settings.mtu (Some link) (shares_of (record { link = Some link; drrs = d ∷ ds })) ≡ Some p
    → Throughout (IsServed d ds (Some link)) settings before during → IfSome p.late (λ late. IsDrained late (device_after settings before) during)
    → IsPolledOut (device_after settings before) → IsPolledOut (device_after settings (before ++ during))
    → GetsItsService link.rate ((device_after settings (before ++ during)).clock - (device_after settings before).clock)
    (sent_at (last_level (level_of d) (levels_of ds)) (device_after settings before) during) p (level_of d) (levels_of ds)

-- The same below a drr at the root, of what its classes send, at whatever times it is polled.
pub record GetsItsShare (all sent : ℕ) (p : Promise) (l : Level) (levels : List Level) : Type 0 where
  pub exact : all * quanta_on l levels ≤ (sent + p.slack) * sums_on l levels
  pub rounded : part_of p.shares all ≤ sent + p.slack

abbrev pub ShareIsDelivered : DeviceSettings → Type 0
ShareIsDelivered settings =
    (before during : List Event) (d : DrrClass) (ds : List DrrClass) (p : Promise) → All IsEvent before → All IsEvent during
    → promise_on settings.mtu None (shares_of (record { link = None; drrs = d ∷ ds })) ≡ Some p → Throughout (IsServed d ds None) settings before during
    → GetsItsShare (all_sent d.major d.classes (device_after settings before) during) (sent_at (last_level (level_of d) (levels_of ds)) (device_after settings before) during) p
    (level_of d) (levels_of ds)

-- and the slack is the law's
abbrev pub SlackIsTheLaws : DeviceSettings → Type 0
SlackIsTheLaws settings =
    (link : Option Link) (d : DrrClass) (ds : List DrrClass) (p : Promise) → All IsPart (map share_of (d ∷ ds))
    → promise_on settings.mtu link (shares_of (record { link = link; drrs = d ∷ ds })) ≡ Some p
    → IsSlack settings.mtu (lack_of_link settings.mtu link) p.slack (level_of d) (levels_of ds)

-- The lateness that is promised for is the greatest for which the burst has room, up to the end of time.
pub record IsGreatestLateness (mtu : ℕ) (link : Link) (p : Promise) : Type 0 where
  pub late : ℕ
  pub promised : p.late ≡ Some late
  pub enough : HasRoom mtu late link.rate link.burst
  pub no_more : late < 2 ^ 62 → HasRoom mtu (late + 1) link.rate link.burst → ⊥

-- a rate is one bit a second at least
abbrev pub LatenessIsTheGreatest : DeviceSettings → Type 0
LatenessIsTheGreatest settings =
    (link : Link) (shares : List Share) (p : Promise) → 1 ≤ link.rate → promise_on settings.mtu (Some link) shares ≡ Some p → IsGreatestLateness settings.mtu link p
