-- A packet that comes later finds a bucket that has filled meanwhile: what a device answers of it then.
use Rattle.std.proofs.Common.{◌≡◌, ℕ, ◌+◌, ◌-◌, ◌*◌, ◌≤◌, ◌^◌, inl, inr, max, min, refl, sym, ap, subst, ◌∙◌, List, [], ◌∷◌, Option, Some, None, option_map, option_and_then, arith}
use Rattle.std.specs.Prelude.{All, Bool, true, false, slice_get, if◌then◌else◌}
use Rattle.std.specs.Int.{div_ceil}
use Rattle.std.proofs.Math.Nat.{mul-add, mul-le-mul_left, mul_comm}
use Rattle.std.proofs.lemmas.Bool.{cases_lt}
use Rattle.std.proofs.lemmas.Grind.{div_ceil_times}
use Rattle.std.proofs.lemmas.Option.{none-some, same_Some}
use Rattle.q_bucket.specs.Level.{TokenBucket, capacity, level_at, units_in_byte}
use Rattle.q_codel.specs.declared.limit.Limit.{Limit}
use Rattle.q_model.specs.Beneath.{beneath_own}
use Rattle.q_model.specs.Find.{place_path}
use Rattle.q_model.specs.Lawful.{IsLawfulDiscipline}
use Rattle.q_model.specs.Node.{Discipline, Fifo, Prio, Tbf, Drr, FqCodel, Node, children, each}
use Rattle.q_model.specs.Settings.{DeviceSettings, IsInRange}
use Rattle.q_model.specs.Step.{DeviceState}
use Rattle.q_model.specs.Tally.{Note}
use Rattle.q_model.specs.declared.event.Event.{Event}
use Rattle.q_model.specs.declared.place.Place.{Place}
use Rattle.q_model.specs.Events.{IsEvent}
use Rattle.q_invariants.proofs.Replays.{replay-kept}
use Rattle.q_tree.specs.declared.answers.lanes.Lane.{Lane}
use Rattle.q_tree.specs.declared.answers.ways.Link.{Link}
use Rattle.q_tree.specs.answers.Lanes.{lane_below, lane_from, lane_to, level_of, limit_along}
use Rattle.q_tree.specs.answers.Ways.{has_tbf}
use Rattle.q_device.specs.declared.promises.latest.Latest.{Latest}
use Rattle.q_device.specs.promises.Latest.{counted_level, latest_on, paid_at}
use Rattle.q_device.specs.promises.Promise.{late_on}
use Rattle.q_device.specs.Sharing.{device_after}
use Rattle.q_laws.specs.line.Latest.{IsToldBy, LatestStandsAsItFills, at_best}
use Rattle.q_laws.specs.line.Line.{bytes_in, line_at_root}
use Rattle.q_laws.proofs.line.LatestArrives.{becomes, told-at, was}
use Rattle.q_laws.proofs.line.LatestKept.{below-is, fits}
use Rattle.q_laws.proofs.line.LineDelay.{ceil-rises, ceil-under}

-- ---- the bucket of a lane

pub record IsItsBucket (d : Discipline) (link : Link) : Type 0 where
  pub bucket : TokenBucket
  pub most : ℕ
  pub is : d ≡ Tbf bucket most
  pub rate : bucket.rate ≡ link.rate
  pub burst : bucket.burst ≡ link.burst

link-of : (link : Option Link) (path : List ℕ) (n : Node (List Note)) (lane : Lane) → lane_below link path n ≡ Some lane → link ≡ lane.link
link-of link path n lane e = by (has_tbf n) (limit_along path n) e
  where
    by : (t : Bool) (o : Option Limit) → (if t then None else option_map (λ (limit : Limit). record { link = link; limit = limit }) o) ≡ Some lane
        → link ≡ lane.link
    by true o e = absurd (none-some lane e)
    by false None e = absurd (none-some lane e)
    by false (Some limit) e = ap (λ (l : Lane). l.link) (same_Some (record { link = link; limit = limit }) lane e)

its-bucket : (root : Node (List Note)) (path : List ℕ) (d : Discipline) (lane : Lane) (link : Link) → lane_from path root d ≡ Some lane
    → lane.link ≡ Some link → IsItsBucket d link
its-bucket root [] (Tbf b most) lane link e is = absurd (none-some lane e)
its-bucket root (i ∷ rest) (Tbf b most) lane link e is = by root.own.handle e
  where
    child : (h : ℕ) (o : Option (Node (List Note))) → option_and_then
        (lane_below (Some (record { handle = h; rate = b.rate; burst = b.burst })) rest) o ≡ Some lane → IsItsBucket (Tbf b most) link
    child h None e = absurd (none-some lane e)
    child h (Some c) e =
        let own : Link = record { handle = h; rate = b.rate; burst = b.burst } in
        let same : own ≡ link = same_Some own link (link-of (Some own) rest c lane e ∙ is) in
        record { bucket = b; most = most; is = refl; rate = ap (λ (l : Link). l.rate) same; burst = ap (λ (l : Link). l.burst) same }

    by : (o : Option ℕ) → option_and_then (λ h. option_and_then (lane_below (Some (record { handle = h; rate = b.rate; burst = b.burst })) rest)
        (slice_get (children root) i)) o ≡ Some lane
        → IsItsBucket (Tbf b most) link
    by None e = absurd (none-some lane e)
    by (Some h) e = child h (slice_get (children root) i) e
its-bucket root path (Fifo limit queue) lane link e is = absurd (none-some link (link-of None path root lane e ∙ is))
its-bucket root path (Prio priomap) lane link e is = absurd (none-some link (link-of None path root lane e ∙ is))
its-bucket root path (Drr s) lane link e is = absurd (none-some link (link-of None path root lane e ∙ is))
its-bucket root path (FqCodel s) lane link e is = absurd (none-some link (link-of None path root lane e ∙ is))

bucket-to : (root : Node (List Note)) (place : Place) (lane : Lane) (link : Link) → lane_to place root ≡ Some lane → lane.link ≡ Some link
    → IsItsBucket root.own.discipline link
bucket-to root place lane link e is = by (place_path place root) e
  where
    by : (o : Option (List ℕ)) → option_and_then (λ path. lane_from path root root.own.discipline) o ≡ Some lane
        → IsItsBucket root.own.discipline link
    by None e = absurd (none-some lane e)
    by (Some path) e = its-bucket root path root.own.discipline lane link e is

-- ---- the numbers

-- what its rate brings fills a bucket
level-fills : (b : TokenBucket) (clock now : ℕ) → b.last ≤ clock → clock ≤ now
    → min (capacity b) (level_at b clock + b.rate * (now - clock)) ≤ level_at b now
level-fills b clock now old later =
    let parts : now - b.last ≡ (clock - b.last) + (now - clock) = omega (arith, old, later) in
    let brings : b.rate * (now - b.last) ≡ b.rate * (clock - b.last) + b.rate * (now - clock) = ap (λ n. b.rate * n) parts
    ∙ mul-add b.rate (clock - b.last) (now - clock) in
    omega (arith, brings)

-- the time for what is missing, some time later
ceil-later : (x y z wait r : ℕ) → 1 ≤ r → x ≤ max y (z - r * wait) → div_ceil x r ≤ max (div_ceil y r) (div_ceil z r - wait)
ceil-later x y z wait r some less = elim (cases_lt y x) [
  | inl over ↦
      let whole = (div_ceil_times z r (omega (arith, some))).0 in
      elim (cases_lt (div_ceil z r) wait) [
        | inl past ↦
            let rises : r * div_ceil z r ≤ r * wait = mul-le-mul_left r (omega (arith, past)) in
            let none : div_ceil x r ≤ 0 = ceil-under x 0 r some (omega (arith, over, less, whole, rises, mul_comm r (div_ceil z r))) in
            omega (arith, none)
        | inr within ↦
            let q : ℕ = div_ceil z r - wait in
            let parts : div_ceil z r ≡ q + wait = omega (arith, within) in
            let brings : r * div_ceil z r ≡ r * q + r * wait = ap (λ n. r * n) parts ∙ mul-add r q wait in
            let under : div_ceil x r ≤ q = ceil-under x q r some (omega (arith, over, less, whole, brings, mul_comm r (div_ceil z r))) in
            omega (arith, under)
      ]
  | inr below ↦ let under = ceil-rises x y r some (omega (arith, below)) in omega (arith, under)
]

-- ---- the law

-- What is answered of so many bytes then, whatever the device answers it of.
module _ (settings : DeviceSettings) (range : IsInRange settings) (before : List Event) (moment : ℕ) (all_before : All IsEvent before)
    (link : Link) (bytes : ℕ) (w : Latest) (at : ℕ) where
  abbrev start : DeviceState (List Note)
  start = device_after settings before

  abbrev now : ℕ
  now = max (device_after settings before).clock moment

  abbrev by : ℕ
  by = max at (at_best settings.mtu (max (device_after settings before).clock moment) link w.bytes)

  pub stands-on : IsItsBucket start.tree.root.own.discipline link
      → latest_on settings.mtu start.clock bytes (level_of start.clock start.tree.root.own.discipline) (Some link) ≡ Some w → w.at ≡ Some at → by ≤ 2 ^ 62
      → IsToldBy by w (latest_on settings.mtu now bytes (level_of now start.tree.root.own.discipline) (Some link))
  stands-on its told timed early = on (level_of start.clock start.tree.root.own.discipline) refl told
    where
      on : (level : Option ℕ) → level_of start.clock start.tree.root.own.discipline ≡ level
          → latest_on settings.mtu start.clock bytes level (Some link) ≡ Some w
          → IsToldBy by w (latest_on settings.mtu now bytes (level_of now start.tree.root.own.discipline) (Some link))
      on None is e = absurd (none-some w (fits settings.mtu start.clock bytes None (Some link) w e).is)
      on (Some level) is e =
          let root : Node (List Note) = start.tree.root in
          let law = subst (IsLawfulDiscipline start.tree.device.mtu start.clock (each beneath_own root.below)) its.is
          (replay-kept settings before range all_before).lawful.0.discipline in
          let told_is = fits settings.mtu start.clock bytes (Some level) (Some link) w e in
          let numbers = below-is settings.mtu start.clock bytes level link w told_is.is in
          let late : ℕ = late_on settings.mtu link in
          let most : ℕ = link.burst * units_in_byte - link.rate * late in
          let higher : ℕ = level_at its.bucket now in
          let level_is : level_at its.bucket start.clock ≡ level =
          same_Some (level_at its.bucket start.clock) level (sym (ap (level_of start.clock) its.is) ∙ is) in
          let some : 1 ≤ max link.rate 1 = omega arith in
          let rate : its.bucket.rate ≡ max link.rate 1 = let from = law.level.rate_from in let same = its.rate in omega (arith, from, same) in
          let wait : ℕ = now - start.clock in
          let rises = level-fills its.bucket start.clock now law.last (omega arith) in
          let brings : its.bucket.rate * wait ≡ max link.rate 1 * wait = ap (λ r. r * wait) rate in
          let burst = its.burst in
          let missing : ℕ = bytes * units_in_byte - counted_level late link level in
          let less : bytes * units_in_byte - counted_level late link higher ≤ max (bytes * units_in_byte - most) (missing - max link.rate 1 * wait) =
          omega (arith, rises, brings, burst, level_is) in
          let ceil = ceil-later (bytes * units_in_byte - counted_level late link higher) (bytes * units_in_byte - most) missing wait
          (max link.rate 1) some less in
          let same : at ≡ start.clock + div_ceil (bytes * units_in_byte - counted_level late link level) (max link.rate 1) =
          same_Some at (paid_at start.clock link (counted_level late link level) bytes) (sym timed ∙ numbers.at) in
          let best : at_best settings.mtu now link w.bytes ≡ now + div_ceil (bytes * units_in_byte - most) (max link.rate 1) =
          ap (at_best settings.mtu now link) numbers.bytes_are in
          subst (λ (l : Option ℕ). IsToldBy by w (latest_on settings.mtu now bytes l (Some link))) (sym (ap (level_of now) its.is))
          (told-at settings.mtu start.clock now bytes level higher by link w (omega (arith, ceil, same, best)) early told_is.small numbers)

pub latest-stands-as-it-fills : (settings : DeviceSettings) → IsInRange settings → LatestStandsAsItFills settings
latest-stands-as-it-fills settings range before p moment place link limit w at all_before comes found answered kept timed early =
    let start : DeviceState (List Note) = device_after settings before in
    let lane : Lane = record { link = Some link; limit = limit } in
    let bytes : ℕ = bytes_in (line_at_root start) + p.len in
    let by : ℕ = max at (at_best settings.mtu (max start.clock moment) link w.bytes) in
    subst (IsToldBy by w) (sym (becomes settings range before p moment place all_before comes kept lane found))
    (stands-on settings range before moment all_before link bytes w at (bucket-to start.tree.root place lane link found refl)
    (sym (was settings range before p moment place all_before comes kept lane found) ∙ answered) timed early)
