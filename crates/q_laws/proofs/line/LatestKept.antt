-- What a device answers of the packet that was queued last in a fifo in line is true of it.
use Rattle.std.proofs.Common.{◌≡◌, ℕ, ◌+◌, ◌-◌, ◌*◌, ◌≤◌, ◌^◌, ◌⊎◌, inl, inr, max, refl, sym, ap, subst, ◌∙◌, List, [], ◌∷◌, ◌++◌, Option, Some, None, option_map, option_and_then, option_to_list, arith}
use Rattle.std.specs.Prelude.{Bool, true, false, ◌&&◌, nat_lt, nat_le, All, slice_get, unwrap_or, if◌then◌else◌}
use Rattle.std.specs.Int.{div_ceil}
use Rattle.std.specs.List.{filter_map}
use Rattle.std.specs.Option.{option_map_or}
use Rattle.std.proofs.Math.Nat.{mul-le-mul_left}
use Rattle.std.proofs.lemmas.Bool.{and_parts, leb-true}
use Rattle.std.proofs.lemmas.List.{append_assoc}
use Rattle.std.proofs.lemmas.List.Elements.{All-append}
use Rattle.std.proofs.lemmas.Option.{none-some, same_Some}
use Rattle.q_packet.specs.Descriptor.{Descriptor}
use Rattle.q_bucket.specs.Level.{TokenBucket, level_at, units_in_byte}
use Rattle.q_model.specs.declared.event.Event.{Event}
use Rattle.q_model.specs.declared.place.Place.{Place}
use Rattle.q_model.specs.declared.place.Place.TheVariants as place
use Rattle.q_model.specs.declared.row.Row.{Row}
use Rattle.q_model.specs.Beneath.{row}
use Rattle.q_model.specs.Events.{IsEvent}
use Rattle.q_model.specs.Find.{node_at, place_path}
use Rattle.q_model.specs.Node.{Discipline, Tbf, Node, children}
use Rattle.q_model.specs.Settings.{DeviceSettings, IsInRange}
use Rattle.q_model.specs.Step.{DeviceState, step}
use Rattle.q_model.specs.Stretches.{TbfAt, Throughout}
use Rattle.q_model.specs.Tally.{Note, history}
use Rattle.q_model.specs.TreeState.{stats}
use Rattle.q_invariants.proofs.Replays.{IsKept, replay-kept}
use Rattle.q_invariants.proofs.tree.Members.{All-front}
use Rattle.q_invariants.proofs.tree.Quiet.{child-lawful}
use Rattle.q_tree.specs.declared.answers.lanes.Lane.{Lane}
use Rattle.q_tree.specs.declared.answers.ways.Link.{Link}
use Rattle.q_tree.specs.answers.Lanes.{lane_from, lane_to, level_of, limit_along}
use Rattle.q_tree.specs.answers.Turns.{turn_to}
use Rattle.q_device.specs.declared.promises.latest.Latest.{Latest}
use Rattle.q_device.specs.Laws.{given_in}
use Rattle.q_device.specs.promises.Latest.{counted_level, latest_at, latest_at_turn, latest_of, latest_of_bytes, latest_on, paid_at}
use Rattle.q_device.specs.promises.Promise.{has_room, late_on}
use Rattle.q_device.specs.Sharing.{device_after}
use Rattle.q_device.proofs.ClassStretches.{at-start}
use Rattle.q_laws.specs.line.Latest.{LatestIsEnough, LatestIsInTime}
use Rattle.q_laws.specs.line.Line.{IsInLine, IsLink, bytes_in, line, line_at_root, line_below_root}
use Rattle.q_laws.specs.order.Order.{answers}
use Rattle.q_laws.specs.rate.Delay.{latest, level_counted}
use Rattle.q_laws.specs.rate.Rate.{HasRoom}
use Rattle.q_laws.proofs.line.LaneLines.{EndsAt, lane-line}
use Rattle.q_laws.proofs.line.LineDelay.{ceil-rises, later-still, lines-leave-in-time}
use Rattle.q_laws.proofs.line.LineInTime.{RootIs, below-line, root-bucket, root-is}
use Rattle.q_laws.proofs.line.LineStretches.{lines-leave-first}
use Rattle.q_laws.proofs.line.WorstKept.{IsLinked, in-first, lane-found}
use Rattle.q_laws.proofs.rate.GivenPaid.{given-front, given-paid, keeps-below, same-line}
use Rattle.q_laws.proofs.rate.HoldsNone.{holds-none}
use Rattle.q_laws.proofs.rate.PaidInTime.{rate-some}
use Rattle.q_laws.proofs.share.PromiseNumbers.{late-room}

-- ---- the line of a device where a fifo is in line

module _ (d : DeviceState (List Note)) (kept : IsKept d) (free : d.tree.root.own.held ≡ None) where
  abbrev root : Node (List Note)
  root = d.tree.root

  link-ends : (path : List ℕ) (lane : Lane) → IsLinked root path lane → EndsAt path root (line root)
  link-ends path lane l =
      let first : l.place ≡ 0 = in-first d kept l.bucket l.most l.place l.child l.is l.there in
      let there : slice_get (children root) 0 ≡ Some l.child = subst (λ k. slice_get (children root) k ≡ Some l.child) first l.there in
      let below = lane-line d.tree.device.mtu d.clock l.rest l.child lane.limit
      (child-lawful d.tree.device.mtu d.clock root.below 0 l.child kept.lawful.1 there) l.limit in
      record {
        at = below.at;
        there = ap (λ (xs : List ℕ). node_at xs root) (l.split ∙ ap (λ k. k ∷ l.rest) first) ∙ ap (option_and_then (node_at l.rest)) there
            ∙ below.there;
        queued = tbf-line l.bucket l.most l.is l.child there ∙ below.queued;
      }
    where
      tbf-line : (b : TokenBucket) (most : ℕ) → root.own.discipline ≡ Tbf b most → (c : Node (List Note)) → slice_get (children root) 0 ≡ Some c
          → line root ≡ line c
      tbf-line b most is c there =
          below-line root b most is ∙ ap (λ (o : Option Descriptor). option_to_list o ++ unwrap_or
          (option_map line (slice_get (children root) 0)) []) free
          ∙ ap (λ (o : Option (Node (List Note))). unwrap_or (option_map line o) []) there

  ends-at : (path : List ℕ) (lane : Lane) → (limit_along path root ≡ Some lane.limit) ⊎ IsLinked root path lane → EndsAt path root (line root)
  ends-at path lane (inl limit) = lane-line d.tree.device.mtu d.clock path root lane.limit kept.lawful limit
  ends-at path lane (inr l) = link-ends path lane l

  -- its row
  row-at : (place : Place) (path : List ℕ) (at : Node (List Note)) → place_path place root ≡ Some path → node_at path root ≡ Some at
      → stats history place d.tree ≡ Some (row history at)
  row-at place.Top path at is there = absurd (none-some path is)
  row-at place.Root path at is there = ap (λ (n : Node (List Note)). Some (row history n))
      (same_Some root at (ap (λ (xs : List ℕ). node_at xs root) (same_Some [] path is) ∙ there))
  row-at (place.Class class) path at is there = ap (λ (o : Option (List ℕ)). option_map (row history)
      (option_and_then (λ xs. node_at xs root) o)) is ∙ ap (option_map (row history)) there

  record IsRow (place : Place) : Type 0 where
    counted : Row
    there : stats history place d.tree ≡ Some counted
    bytes : counted.queued.bytes ≡ bytes_in (line_at_root d)

  is-row : (place : Place) (lane : Lane) → lane_to place root ≡ Some lane → IsRow place
  is-row place lane e = by (place_path place root) refl e
    where
      by : (o : Option (List ℕ)) → place_path place root ≡ o → option_and_then (λ path. lane_from path root root.own.discipline) o ≡ Some lane
          → IsRow place
      by None is e = absurd (none-some lane e)
      by (Some path) is e =
          let ends = ends-at path lane (lane-found root path lane e) in
          record { counted = row history ends.at; there = row-at place path ends.at is ends.there; bytes = ap bytes_in (sym ends.queued) }

  -- what is answered
  pub answers-on : (place : Place) (len mtu : ℕ) (lane : Lane) → lane_to place root ≡ Some lane
      → latest_of history place len mtu d ≡ latest_on mtu d.clock (bytes_in (line_at_root d) + len) (level_of d.clock root.own.discipline) lane.link
  answers-on place len mtu lane found =
      let r = is-row place lane found in
      ap (λ (o : Option Lane). option_map_or (λ (l : Lane). option_and_then (λ (x : Row). latest_on mtu d.clock (x.queued.bytes + len)
      (level_of d.clock root.own.discipline) l.link) (stats history place d.tree)) o
      (option_and_then (latest_at_turn place len mtu d) (turn_to place root))) found
      ∙ ap (option_and_then (λ (x : Row). latest_on mtu d.clock (x.queued.bytes + len) (level_of d.clock root.own.discipline) lane.link)) r.there
      ∙ ap (λ n. latest_on mtu d.clock (n + len) (level_of d.clock root.own.discipline) lane.link) r.bytes

  -- of the packet that was queued last
  on-row : (place : Place) (mtu : ℕ) (lane : Lane) (w : Latest) → lane_to place root ≡ Some lane → latest_of history place 0 mtu d ≡ Some w
      → latest_on mtu d.clock (bytes_in (line_at_root d)) (level_of d.clock root.own.discipline) lane.link ≡ Some w
  on-row place mtu lane w found e =
      let same : bytes_in (line_at_root d) ≡ bytes_in (line_at_root d) + 0 = omega arith in
      ap (λ n. latest_on mtu d.clock n (level_of d.clock root.own.discipline) lane.link) same ∙ sym (answers-on place 0 mtu lane found) ∙ e

-- ---- its numbers

pub record LatestIs (mtu now bytes level : ℕ) (link : Link) (w : Latest) : Type 0 where
  pub bytes_are : w.bytes ≡ bytes
  pub at : w.at ≡ Some (paid_at now link (counted_level (late_on mtu link) link level) bytes)
  pub late : w.late ≡ Some (late_on mtu link)
  pub room : has_room mtu (Some link) ≡ true

pub below-is : (mtu now bytes level : ℕ) (link : Link) (w : Latest) → latest_at mtu now bytes link level ≡ Some w
    → LatestIs mtu now bytes level link w
below-is mtu now bytes level link w e = by (has_room mtu (Some link) && nat_le at (2 ^ 62)) refl e
  where
    at : ℕ
    at = paid_at now link (counted_level (late_on mtu link) link level) bytes

    told : Latest
    told = record { bytes = bytes; at = Some (paid_at now link (counted_level (late_on mtu link) link level) bytes); late = Some (late_on mtu link) }

    by : (t : Bool) → (has_room mtu (Some link) && nat_le (paid_at now link (counted_level (late_on mtu link) link level) bytes) (2 ^ 62)) ≡ t
        → (if t then Some (record {
          bytes = bytes;
          at = Some (paid_at now link (counted_level (late_on mtu link) link level) bytes);
          late =
              Some (late_on mtu link);
        }) else None) ≡ Some w → LatestIs mtu now bytes level link w
    by false is e = absurd (none-some w e)
    by true is e =
        let same = same_Some (record {
          bytes = bytes;
          at = Some (paid_at now link (counted_level (late_on mtu link) link level) bytes);
          late =
              Some (late_on mtu link);
        }) w e in
        record {
          bytes_are = ap (λ (x : Latest). x.bytes) (sym same);
          at = ap (λ (x : Latest). x.at) (sym same);
          late = ap (λ (x : Latest). x.late) (sym same);
          room = (and_parts (has_room mtu (Some link)) (nat_le (paid_at now link (counted_level (late_on mtu link) link level) bytes) (2 ^ 62)) is).0;
        }

-- its bytes are a number of 64 bits
pub record Fits (mtu now bytes : ℕ) (level : Option ℕ) (link : Option Link) (w : Latest) : Type 0 where
  pub small : nat_lt bytes (2 ^ 64) ≡ true
  pub is : latest_of_bytes mtu now bytes level link ≡ Some w

pub fits : (mtu now bytes : ℕ) (level : Option ℕ) (link : Option Link) (w : Latest) → latest_on mtu now bytes level link ≡ Some w
    → Fits mtu now bytes level link w
fits mtu now bytes level link w e = by (nat_lt bytes (2 ^ 64)) refl e
  where
    by : (t : Bool) → nat_lt bytes (2 ^ 64) ≡ t → (if t then latest_of_bytes mtu now bytes level link else None) ≡ Some w
        → Fits mtu now bytes level link w
    by false is e = absurd (none-some w e)
    by true is e = record { small = is; is = e }

pub latest-bytes : (mtu now bytes : ℕ) (level : Option ℕ) (link : Option Link) (w : Latest) → latest_of_bytes mtu now bytes level link ≡ Some w
    → w.bytes ≡ bytes
latest-bytes mtu now bytes level None w e = ap (λ (x : Latest). x.bytes) (sym (same_Some (record { bytes = bytes; at = None; late = None }) w e))
latest-bytes mtu now bytes None (Some link) w e = absurd (none-some w e)
latest-bytes mtu now bytes (Some level) (Some link) w e = (below-is mtu now bytes level link w e).bytes_are

-- ---- the laws

pub latest-is-enough : (settings : DeviceSettings) → IsInRange settings → LatestIsEnough settings
latest-is-enough settings range before during place lane w all_before all_during found e alone keep =
    let start : DeviceState (List Note) = device_after settings before in
    let answer = on-row start (replay-kept settings before range all_before)
    (holds-none settings before range all_before) place settings.mtu lane w found e in (
      sym (latest-bytes settings.mtu start.clock (bytes_in (line_at_root start)) (level_of start.clock start.tree.root.own.discipline) lane.link w
          (fits settings.mtu start.clock (bytes_in (line_at_root start))
          (level_of start.clock start.tree.root.own.discipline) lane.link w answer).is),
      lines-leave-first settings range before during all_before all_during alone keep,
    )

pub latest-is-in-time : (settings : DeviceSettings) → IsInRange settings → LatestIsInTime settings
latest-is-in-time settings range before during e place link limit w at most late all_before all_during happens found answered timed lateness soon
    stays keep drained waits =
    later-still (latest start.clock link.rate (level_counted late link.rate link.burst level) (bytes_in (line_below_root start))) at late
    (device_after settings (before ++ during)) (step history (device_after settings (before ++ during)) e).device
    sooner
    (lines-leave-in-time settings range before during e link.handle link.rate link.burst late first all_before all_during happens room stays unpaid
    (keeps-below link.handle link.rate link.burst settings before during range all_before all_during holds keep) drained here.tbf.there)
  where
    start : DeviceState (List Note)
    start = device_after settings before

    here : IsLink link.handle link.rate link.burst (device_after settings before)
    here = at-start (IsLink link.handle link.rate link.burst) settings before during stays

    first : TbfAt
    first = (at-start (IsLink link.handle link.rate link.burst) settings before during stays).tbf.tbf

    level : ℕ
    level = level_at (at-start (IsLink link.handle link.rate link.burst) settings before during stays).tbf.tbf.bucket
        (device_after settings before).clock

    root_is : RootIs link.handle link.rate link.burst (device_after settings before)
    root_is = root-is link.handle link.rate link.burst (device_after settings before) here

    front : (seen later : List Event) → seen ++ later ≡ during → All IsEvent seen
    front seen later is = All-front IsEvent seen later (subst (All IsEvent) (sym is) all_during)

    holds : Throughout (λ d. IsLink link.handle link.rate link.burst d × (d.tree.root.own.held ≡ None)) settings before during
    holds seen later is = (
      stays seen later is,
      holds-none settings (before ++ seen) range
          (All-append IsEvent before seen all_before (front seen later is)),
    )

    line_is : line_at_root (device_after settings before) ≡ line_below_root (device_after settings before)
    line_is = same-line link.handle link.rate link.burst (device_after settings before) (here, holds-none settings before range all_before)

    answer : latest_of_bytes settings.mtu (device_after settings before).clock (bytes_in (line_at_root (device_after settings before)))
        (level_of (device_after settings before).clock (device_after settings before).tree.root.own.discipline) (Some link) ≡ Some w
    answer =
        (fits settings.mtu (device_after settings before).clock (bytes_in (line_at_root (device_after settings before)))
        (level_of (device_after settings before).clock (device_after settings before).tree.root.own.discipline) (Some link) w
        (on-row (device_after settings before) (replay-kept settings before range all_before)
        (holds-none settings before range all_before) place settings.mtu (record { link = Some link; limit = limit }) w found answered)).is

    numbers : LatestIs settings.mtu (device_after settings before).clock (bytes_in (line_at_root (device_after settings before))) level link w
    numbers = below-is settings.mtu (device_after settings before).clock (bytes_in (line_at_root (device_after settings before))) level link w
        (sym (ap (λ (b : TokenBucket). latest_at settings.mtu (device_after settings before).clock
        (bytes_in (line_at_root (device_after settings before))) link (level_at b (device_after settings before).clock))
        (root-bucket link.handle link.rate link.burst (device_after settings before) here))
        ∙ sym (ap (λ (d : Discipline). latest_of_bytes settings.mtu (device_after settings before).clock
        (bytes_in (line_at_root (device_after settings before))) (level_of (device_after settings before).clock d) (Some link)) root_is.is)
        ∙ answer)

    latest_late : most ≡ late_on settings.mtu link
    latest_late = same_Some most (late_on settings.mtu link) (sym lateness ∙ numbers.late)

    room : HasRoom settings.mtu late link.rate link.burst
    room =
        let least : settings.mtu * units_in_byte + link.rate ≤ link.burst * units_in_byte =
        leb-true (settings.mtu * units_in_byte + link.rate) (link.burst * units_in_byte) numbers.room in
        let whole : HasRoom settings.mtu most link.rate link.burst = late-room settings.mtu most link least latest_late in
        let rises : link.rate * (late + 1) ≤ link.rate * (most + 1) = mul-le-mul_left link.rate (omega (arith, soon)) in
        omega (arith, whole, rises)

    some : 1 ≤ link.rate
    some = subst (λ n. 1 ≤ n) here.tbf.same_rate (rate-some link.handle (device_after settings before) first
        (replay-kept settings before range all_before) here.tbf.there)

    sooner : latest (device_after settings before).clock link.rate (level_counted late link.rate link.burst level)
        (bytes_in (line_below_root (device_after settings before))) ≤ at
    sooner =
        let bytes : ℕ = bytes_in (line_at_root (device_after settings before)) in
        let size : bytes_in (line_at_root (device_after settings before)) ≡ bytes_in (line_below_root (device_after settings before)) =
        ap bytes_in line_is in
        let rises : link.rate * late ≤ link.rate * late_on settings.mtu link = mul-le-mul_left link.rate (omega (arith, soon, latest_late)) in
        let whole : max link.rate 1 ≡ link.rate = omega (arith, some) in
        let is : at ≡ (device_after settings before).clock + div_ceil
        (bytes * units_in_byte - counted_level (late_on settings.mtu link) link level) link.rate =
        same_Some at (paid_at (device_after settings before).clock link (counted_level (late_on settings.mtu link) link level) bytes)
        (sym timed ∙ numbers.at)
        ∙ ap (λ r. (device_after settings before).clock + div_ceil
        (bytes * units_in_byte - counted_level (late_on settings.mtu link) link level) r) whole in
        let less : bytes_in (line_below_root
        (device_after settings before)) * units_in_byte - level_counted late link.rate link.burst level ≤ bytes * units_in_byte - counted_level
        (late_on settings.mtu link) link level =
        omega (arith, size, rises) in
        let ceil = ceil-rises
        (bytes_in (line_below_root (device_after settings before)) * units_in_byte - level_counted late link.rate link.burst level)
        (bytes * units_in_byte - counted_level (late_on settings.mtu link) link level) link.rate some less in
        omega (arith, is, ceil)

    unpaid : Throughout (IsInLine link.handle (device_after settings before)) settings before during
    unpaid seen later split =
        let paid = given-paid link.handle link.rate link.burst settings before seen range all_before (front seen later split)
        (λ xs ys join. holds xs (ys ++ later) (sym (append_assoc xs ys later) ∙ ap (λ zs. zs ++ later) join ∙ split)) in
        let so_far = given-front (device_after settings before) seen later in
        let whole = ap (λ es. bytes_in (filter_map given_in (answers (device_after settings before) es))) split in
        let length = ap bytes_in line_is in
        let size = numbers.bytes_are in
        omega (arith, paid, so_far, whole, waits, length, size)
