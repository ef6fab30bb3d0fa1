-- What a device answers of a packet that is to come next to a fifo in line is what it answers of it once it has come.
use Rattle.std.proofs.Common.{◌≡◌, ℕ, ◌+◌, ◌-◌, ◌*◌, ◌≤◌, ◌^◌, ◌⊎◌, inl, inr, max, refl, sym, ap, ap₂, subst, ◌∙◌, List, [], ◌∷◌, map, Option, Some, None, option_and_then, arith}
use Rattle.std.specs.Prelude.{true, ◌&&◌, nat_lt, nat_le, All, if◌then◌else◌}
use Rattle.std.specs.Int.{div_ceil}
use Rattle.std.specs.Option.{option_map_or}
use Rattle.std.proofs.Math.Nat.{mul-le-mul_left}
use Rattle.std.proofs.lemmas.Bool.{le-leb}
use Rattle.std.proofs.lemmas.Option.{none-some, same_Some, option_and_then_some}
use Rattle.q_packet.specs.Descriptor.{Descriptor}
use Rattle.q_bucket.specs.Level.{level_at, units_in_byte}
use Rattle.q_model.specs.declared.event.Event.{Event}
use Rattle.q_model.specs.declared.event.Event.TheVariants as event
use Rattle.q_codel.specs.declared.limit.Limit.{Limit}
use Rattle.q_model.specs.declared.class_id.ClassId.{ClassId}
use Rattle.q_model.specs.declared.place.Place.{Place}
use Rattle.q_model.specs.declared.place.Place.TheVariants as places
use Rattle.q_model.specs.declared.row.Row.{Row}
use Rattle.q_model.specs.Events.{IsEvent}
use Rattle.q_model.specs.Node.{Discipline, Fifo, Prio, Tbf, Drr, FqCodel, Node, shape}
use Rattle.q_model.specs.Route.{device_route}
use Rattle.q_model.specs.Settings.{DeviceSettings, IsInRange}
use Rattle.q_model.specs.Step.{DeviceState}
use Rattle.q_model.specs.Tally.{Note, history}
use Rattle.q_model.specs.TreeState.{stats}
use Rattle.q_invariants.proofs.Replays.{replay-kept}
use Rattle.q_tree.specs.declared.answers.lanes.Lane.{Lane}
use Rattle.q_tree.specs.declared.answers.turns.Turn.{Turn}
use Rattle.q_tree.specs.declared.answers.ways.Link.{Link}
use Rattle.q_tree.specs.answers.Lanes.{lane_to, level_of}
use Rattle.q_tree.specs.answers.TurnNow.{bytes_before}
use Rattle.q_tree.specs.answers.Turns.{limit_in, turn_on, turn_to}
use Rattle.q_tree.specs.answers.Ways.{DrrClass, Way, share_of, shares_of, way_to}
use Rattle.q_device.specs.declared.promises.latest.Latest.{Latest}
use Rattle.q_device.specs.promises.Latest.{counted_level, latest_at_turn, latest_in_turn, latest_of, latest_of_bytes, latest_on, paid_at}
use Rattle.q_device.specs.promises.Promise.{late_on}
use Rattle.q_device.specs.Sharing.{device_after}
use Rattle.q_laws.specs.line.Latest.{IsToldBy, LatestIsToldBefore, LatestRisesNoFaster}
use Rattle.q_laws.specs.line.Line.{bytes_in, line_at_root}
use Rattle.q_laws.specs.line.Worst.{IsKeptAt, with_arrival}
use Rattle.q_laws.proofs.line.LanesStay.{AreAlike, lane-alike, level-alike, put-alike, turn-alike}
use Rattle.q_laws.proofs.line.LatestKept.{Fits, LatestIs, answers-on, below-is, fits}
use Rattle.q_laws.proofs.line.LineDelay.{ceil-rises}
use Rattle.q_laws.proofs.line.WorstKept.{all-with, arrived, bytes-last, put-last}
use Rattle.q_laws.proofs.rate.HoldsNone.{holds-none}
use Rattle.q_laws.proofs.turn.LatestTurnTold as told
use Rattle.q_laws.proofs.turn.TurnAnswers.{turn-no-lane}

-- ---- the numbers at a later time

-- a level only rises
record IsHigher (now : ℕ) (d : Discipline) (level : ℕ) : Type 0 where
  level_then : ℕ
  is : level_of now d ≡ Some level_then
  rises : level ≤ level_then

later-level : (clock now : ℕ) → clock ≤ now → (d : Discipline) (level : ℕ) → level_of clock d ≡ Some level → IsHigher now d level
later-level clock now later (Tbf b limit) level e =
    let same : level_at b clock ≡ level = same_Some (level_at b clock) level e in
    let rises : b.rate * (clock - b.last) ≤ b.rate * (now - b.last) = mul-le-mul_left b.rate (omega (arith, later)) in
    record { level_then = level_at b now; is = refl; rises = omega (arith, same, rises) }
later-level clock now later (Fifo limit queue) level e = absurd (none-some level e)
later-level clock now later (Prio priomap) level e = absurd (none-some level e)
later-level clock now later (Drr s) level e = absurd (none-some level e)
later-level clock now later (FqCodel s) level e = absurd (none-some level e)

-- the time that is answered at a later clock, if that is no later than this
pub told-at : (mtu clock now bytes level higher by : ℕ) (link : Link) (w : Latest)
    → paid_at now link (counted_level (late_on mtu link) link higher) bytes ≤ by → by ≤ 2 ^ 62 → nat_lt bytes (2 ^ 64) ≡ true
    → LatestIs mtu clock bytes level link w → IsToldBy by w (latest_on mtu now bytes (Some higher) (Some link))
told-at mtu clock now bytes level higher by link w soon early small is =
    let late : ℕ = late_on mtu link in
    let at_then : ℕ = paid_at now link (counted_level late link higher) bytes in
    let fits_in : nat_le at_then (2 ^ 62) ≡ true = le-leb at_then (2 ^ 62) (omega (arith, soon, early)) in
    let told : Latest = record { bytes = bytes; at = Some at_then; late = Some late } in
    record {
      next = told;
      answered =
          ap (λ t. if t then latest_of_bytes mtu now bytes (Some higher) (Some link) else None) small
          ∙ ap (λ t. if t then Some told else None) (ap₂ (λ a b. a && b) is.room fits_in);
      bytes = sym is.bytes_are;
      late = sym is.late;
      at = at_then;
      timed = refl;
      soon = soon;
    }

-- it is later by no more than the clock
told-later : (mtu clock now wait bytes level higher : ℕ) (link : Link) (w : Latest) (at : ℕ) → now ≤ clock + wait → level ≤ higher
    → nat_lt bytes (2 ^ 64) ≡ true
    → LatestIs mtu clock bytes level link w → w.at ≡ Some at → at + wait ≤ 2 ^ 62
    → IsToldBy (at + wait) w (latest_on mtu now bytes (Some higher) (Some link))
told-later mtu clock now wait bytes level higher link w at soon rises small is timed early =
    let late : ℕ = late_on mtu link in
    let was : ℕ = paid_at clock link (counted_level late link level) bytes in
    let same : at ≡ clock + div_ceil (bytes * units_in_byte - counted_level late link level) (max link.rate 1) =
    same_Some at was (sym timed ∙ is.at) in
    let less : bytes * units_in_byte - counted_level late link higher ≤ bytes * units_in_byte - counted_level late link level =
    omega (arith, rises) in
    let ceil = ceil-rises (bytes * units_in_byte - counted_level late link higher) (bytes * units_in_byte - counted_level late link level)
    (max link.rate 1) (omega arith) less in
    told-at mtu clock now bytes level higher (at + wait) link w (omega (arith, same, ceil, soon)) early small is

-- what is answered of as many bytes then, whatever the device answers it of
pub told-on : (mtu clock moment bytes : ℕ) (d : Discipline) (link : Option Link) (w : Latest) (at : ℕ)
    → latest_on mtu clock bytes (level_of clock d) link ≡ Some w → w.at ≡ Some at → at + (moment - clock) ≤ 2 ^ 62
    → IsToldBy (at + (moment - clock)) w (latest_on mtu (max clock moment) bytes (level_of (max clock moment) d) link)
told-on mtu clock moment bytes d link w at e timed early = on link (level_of clock d) refl (fits mtu clock bytes (level_of clock d) link w e)
  where
    on : (link : Option Link) (level : Option ℕ) → level_of clock d ≡ level → Fits mtu clock bytes level link w
        → IsToldBy (at + (moment - clock)) w (latest_on mtu (max clock moment) bytes (level_of (max clock moment) d) link)
    on None level is told = absurd (none-some at (ap (λ (x : Latest). x.at) (same_Some (record { bytes = bytes; at = None; late = None }) w told.is) ∙ timed))
    on (Some link) None is told = absurd (none-some w told.is)
    on (Some link) (Some level) is told =
        let higher = later-level clock (max clock moment) (omega arith) d level is in
        subst (λ (l : Option ℕ). IsToldBy (at + (moment - clock)) w (latest_on mtu (max clock moment) bytes l (Some link))) (sym higher.is)
        (told-later mtu clock (max clock moment) (moment - clock) bytes level higher.level_then link w at
        (omega arith) higher.rises told.small (below-is mtu clock bytes level link w told.is) timed early)

-- ---- a packet that is kept

-- a device that answers has found a fifo in line
record IsFound (place : Place) (d : DeviceState (List Note)) : Type 0 where
  lane : Lane
  there : lane_to place d.tree.root ≡ Some lane

-- or a class of a drr
record IsTurnFound (place : Place) (len mtu : ℕ) (d : DeviceState (List Note)) (w : Latest) : Type 0 where
  class : ClassId
  is : place ≡ places.Class class
  turn : Turn
  there : turn_to (places.Class class) d.tree.root ≡ Some turn
  answered : latest_in_turn class len mtu d turn.link ≡ Some w

found : (place : Place) (len mtu : ℕ) (d : DeviceState (List Note)) (w : Latest) → latest_of history place len mtu d ≡ Some w
    → IsFound place d ⊎ IsTurnFound place len mtu d w
found place len mtu d w e = by (lane_to place d.tree.root) refl e
  where
    turn-found : (place : Place) (o : Option Turn) → turn_to place d.tree.root ≡ o → option_and_then (latest_at_turn place len mtu d) o ≡ Some w
        → IsTurnFound place len mtu d w
    turn-found place None is e = absurd (none-some w e)
    turn-found places.Top (Some turn) is e = absurd (none-some w e)
    turn-found places.Root (Some turn) is e = absurd (none-some w e)
    turn-found (places.Class class) (Some turn) is e = record { class = class; is = refl; turn = turn; there = is; answered = e }

    by : (o : Option Lane) → lane_to place d.tree.root ≡ o
        → option_map_or (λ (lane : Lane). option_and_then (λ (x : Row). latest_on mtu d.clock (x.queued.bytes + len)
        (level_of d.clock d.tree.root.own.discipline) lane.link) (stats history place d.tree)) o
        (option_and_then (latest_at_turn place len mtu d) (turn_to place d.tree.root)) ≡ Some w
        → IsFound place d ⊎ IsTurnFound place len mtu d w
    by None is e = inr (turn-found place (turn_to place d.tree.root) refl e)
    by (Some lane) is e = inl (record { lane = lane; there = is })

-- what a turn was found by
pub record IsOneDrr (class : ClassId) (root : Node (List Note)) (turn : Turn) : Type 0 where
  pub drr : DrrClass
  pub leads : way_to class root ≡ Some (record { link = turn.link; drrs = drr ∷ [] })

pub one-drr : (class : ClassId) (root : Node (List Note)) (turn : Turn) → turn_to (places.Class class) root ≡ Some turn → IsOneDrr class root turn
one-drr class root turn e =
    option_and_then_some (λ (w : Way). option_and_then (turn_on w.link (shares_of w)) (limit_in class root)) (way_to class root) turn e
    (λ w leads rest. option_and_then_some (turn_on w.link (shares_of w)) (limit_in class root) turn rest (λ limit there made. by w.link w.drrs limit leads made))
  where
    by : (link : Option Link) (drrs : List DrrClass) (limit : Limit) → way_to class root ≡ Some (record { link = link; drrs = drrs })
        → turn_on link (map share_of drrs) limit ≡ Some turn → IsOneDrr class root turn
    by link [] limit leads e = absurd (none-some turn e)
    by link (d ∷ []) limit leads e =
        let same = same_Some (record { link = link; share = share_of d; limit = limit }) turn e in
        record { drr = d; leads = leads ∙ ap (λ (t : Turn). Some (record { link = t.link; drrs = d ∷ [] })) same }
    by link (d ∷ k ∷ drrs) limit leads e = absurd (none-some turn e)

-- a class of a drr is never in line
pub answered-in-turn : (class : ClassId) (len mtu : ℕ) (d : DeviceState (List Note)) (turn : Turn) → turn_to (places.Class class) d.tree.root ≡ Some turn
    → latest_of history (places.Class class) len mtu d ≡ latest_in_turn class len mtu d turn.link
answered-in-turn class len mtu d turn e =
    ap (λ (o : Option Lane). option_map_or (λ (lane : Lane). option_and_then (λ (x : Row). latest_on mtu d.clock (x.queued.bytes + len)
    (level_of d.clock d.tree.root.own.discipline) lane.link) (stats history (places.Class class) d.tree)) o
    (option_and_then (latest_at_turn (places.Class class) len mtu d) (turn_to (places.Class class) d.tree.root))) (turn-no-lane class d.tree.root turn e)
    ∙ ap (option_and_then (latest_at_turn (places.Class class) len mtu d)) e

module _ (settings : DeviceSettings) (range : IsInRange settings) (before : List Event) (p : Descriptor) (moment : ℕ) (place : Place)
    (all_before : All IsEvent before) (comes : IsEvent (event.Arrive p moment)) (kept : IsKeptAt place p moment (device_after settings before)) where
  abbrev start : DeviceState (List Note)
  start = device_after settings before

  abbrev next : DeviceState (List Note)
  next = device_after settings (with_arrival before p moment)

  abbrev now : ℕ
  now = max (device_after settings before).clock moment

  abbrev bytes : ℕ
  bytes = bytes_in (line_at_root (device_after settings before)) + p.len

  alike : AreAlike start.tree.root next.tree.root
  alike =
      subst (λ (x : DeviceState (List Note)). AreAlike start.tree.root x.tree.root) (sym (arrived settings before p moment))
      (put-alike now p (device_route p start.tree.device.mtu (shape start.tree.root)) start.tree.root)

  -- what is answered before it comes
  pub was : (lane : Lane) → lane_to place start.tree.root ≡ Some lane
      → latest_of history place p.len settings.mtu start ≡ latest_on settings.mtu start.clock bytes
      (level_of start.clock start.tree.root.own.discipline) lane.link
  was lane there = answers-on start (replay-kept settings before range all_before)
      (holds-none settings before range all_before) place p.len settings.mtu lane there

  -- and once it has come
  pub becomes : (lane : Lane) → lane_to place start.tree.root ≡ Some lane
      → latest_of history place 0 settings.mtu next ≡ latest_on settings.mtu now bytes (level_of now start.tree.root.own.discipline) lane.link
  becomes lane there =
      let all = all-with before p moment all_before comes in
      let put = put-last settings range before p moment place lane all_before comes there kept in
      let last = ap bytes_in put.last ∙ bytes-last p (line_at_root start) in
      let same : bytes_in (line_at_root next) + 0 ≡ bytes = omega (arith, last) in
      let clock : next.clock ≡ now = ap (λ (x : DeviceState (List Note)). x.clock) (arrived settings before p moment) in
      answers-on next (replay-kept settings (with_arrival before p moment) range all)
      (holds-none settings (with_arrival before p moment) range all) place 0 settings.mtu lane
      (lane-alike place start.tree.root next.tree.root alike ∙ there)
      ∙ ap (λ n. latest_on settings.mtu next.clock n (level_of next.clock next.tree.root.own.discipline) lane.link) same
      ∙ ap (λ (l : Option ℕ). latest_on settings.mtu next.clock bytes l lane.link) (level-alike next.clock start.tree.root next.tree.root alike)
      ∙ ap (λ k. latest_on settings.mtu k bytes (level_of k start.tree.root.own.discipline) lane.link) clock

  -- the class of a drr that was found answers for the packet once it has come
  pub turn-becomes : (class : ClassId) → place ≡ places.Class class → (turn : Turn) → turn_to (places.Class class) start.tree.root ≡ Some turn
      → latest_of history place 0 settings.mtu next
      ≡ option_and_then (λ n. latest_on settings.mtu now n (level_of now start.tree.root.own.discipline) turn.link) (bytes_before class p.len start.tree.root)
  turn-becomes class is turn there =
      let o = one-drr class start.tree.root turn there in
      ap (λ (x : Place). latest_of history x 0 settings.mtu next) is
      ∙ answered-in-turn class 0 settings.mtu next turn (turn-alike (places.Class class) start.tree.root next.tree.root alike ∙ there)
      ∙ told.becomes settings range before p moment turn.link o.drr turn.limit turn class all_before comes o.leads there refl
      (subst (λ (x : Place). IsKeptAt x p moment start) is kept)

  told-before : (w : Latest) → latest_of history place p.len settings.mtu start ≡ Some w → moment ≤ start.clock
      → latest_of history place 0 settings.mtu next ≡ Some w
  told-before w e early = by (found place p.len settings.mtu start w e)
    where
      stands : now ≡ start.clock
      stands = omega (arith, early)

      by : IsFound place start ⊎ IsTurnFound place p.len settings.mtu start w → latest_of history place 0 settings.mtu next ≡ Some w
      by (inl f) =
          becomes f.lane f.there
          ∙ ap (λ k. latest_on settings.mtu k bytes (level_of k start.tree.root.own.discipline) f.lane.link) stands
          ∙ sym (was f.lane f.there) ∙ e
      by (inr f) =
          turn-becomes f.class f.is f.turn f.there
          ∙ ap (λ k. option_and_then (λ n. latest_on settings.mtu k n (level_of k start.tree.root.own.discipline) f.turn.link)
          (bytes_before f.class p.len start.tree.root)) stands ∙ f.answered

  told-by : (w : Latest) (at : ℕ) → latest_of history place p.len settings.mtu start ≡ Some w → w.at ≡ Some at → at + (moment - start.clock) ≤ 2 ^ 62
      → IsToldBy (at + (moment - start.clock)) w (latest_of history place 0 settings.mtu next)
  told-by w at e timed early = by (found place p.len settings.mtu start w e)
    where
      on : (link : Option Link) (o : Option ℕ)
          → option_and_then (λ n. latest_on settings.mtu start.clock n (level_of start.clock start.tree.root.own.discipline) link) o ≡ Some w
          → IsToldBy (at + (moment - start.clock)) w
          (option_and_then (λ n. latest_on settings.mtu now n (level_of now start.tree.root.own.discipline) link) o)
      on link None e = absurd (none-some w e)
      on link (Some n) e = told-on settings.mtu start.clock moment n start.tree.root.own.discipline link w at e timed early

      by : IsFound place start ⊎ IsTurnFound place p.len settings.mtu start w
          → IsToldBy (at + (moment - start.clock)) w (latest_of history place 0 settings.mtu next)
      by (inl f) =
          subst (IsToldBy (at + (moment - start.clock)) w) (sym (becomes f.lane f.there))
          (told-on settings.mtu start.clock moment bytes start.tree.root.own.discipline f.lane.link w at (sym (was f.lane f.there) ∙ e) timed early)
      by (inr f) =
          subst (IsToldBy (at + (moment - start.clock)) w) (sym (turn-becomes f.class f.is f.turn f.there))
          (on f.turn.link (bytes_before f.class p.len start.tree.root) f.answered)

-- ---- the laws

pub latest-is-told-before : (settings : DeviceSettings) → IsInRange settings → LatestIsToldBefore settings
latest-is-told-before settings range before p moment place w all_before comes answered kept early =
    told-before settings range before p moment place all_before comes kept w answered early

pub latest-rises-no-faster : (settings : DeviceSettings) → IsInRange settings → LatestRisesNoFaster settings
latest-rises-no-faster settings range before p moment place w at all_before comes answered kept timed early =
    told-by settings range before p moment place all_before comes kept w at answered timed early
