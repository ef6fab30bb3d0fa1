-- The worst delay that a device answers for a fifo in line is enough for each packet that the fifo keeps.
use Rattle.std.proofs.Common.{◌≡◌, ℕ, zero, suc, ◌+◌, ◌*◌, ◌≤◌, ◌⊎◌, inl, inr, max, refl, sym, ap, subst, ◌∙◌, List, [], ◌∷◌, ◌++◌, length, Option, Some, None, option_map, option_and_then, arith}
use Rattle.std.specs.Prelude.{Bool, true, false, nat_lt, All, slice_get, if◌then◌else◌}
use Rattle.std.specs.Int.{div_ceil}
use Rattle.std.specs.List.{filter_map}
use Rattle.std.proofs.Math.Nat.{mul-le-mul_left}
use Rattle.std.proofs.lemmas.Bool.{leb-true, ltb-false}
use Rattle.std.proofs.lemmas.List.{append_assoc, length-map}
use Rattle.std.proofs.lemmas.List.Elements.{All-nil, All-cons, All-append}
use Rattle.std.proofs.lemmas.List.Sums.{sum_by-append, sum_by-cons}
use Rattle.std.proofs.lemmas.Option.{none-some, same_Some}
use Rattle.q_packet.specs.Descriptor.{Descriptor}
use Rattle.q_packet.specs.declared.cause.Cause.{Cause}
use Rattle.q_packet.specs.declared.cause.Cause.TheVariants.{TooLong}
use Rattle.q_bucket.specs.Level.{TokenBucket, units_in_byte}
use Rattle.q_codel.specs.declared.limit.Limit.{Limit}
use Rattle.q_model.specs.declared.event.Event.{Event}
use Rattle.q_model.specs.declared.event.Event.TheVariants as event
use Rattle.q_model.specs.declared.fate.Fate.TheVariants as fate
use Rattle.q_model.specs.declared.place.Place.{Place}
use Rattle.q_model.specs.declared.reply.Reply.TheVariants as reply
use Rattle.q_model.specs.Beneath.{beneath_own}
use Rattle.q_model.specs.Events.{IsEvent}
use Rattle.q_model.specs.Find.{place_path}
use Rattle.q_model.specs.Lawful.{IsLawfulDiscipline}
use Rattle.q_model.specs.Node.{Discipline, Fifo, Prio, Tbf, Drr, FqCodel, Node, Shape, children, each, from_below, shape}
use Rattle.q_model.specs.Put.{put_along}
use Rattle.q_model.specs.Replay.{Replay, nothing_yet}
use Rattle.q_model.specs.Route.{Route, way, route}
use Rattle.q_model.specs.Settings.{DeviceSettings, IsInRange}
use Rattle.q_model.specs.Step.{DeviceState, fate_of, step}
use Rattle.q_model.specs.Stretches.{TbfAt, Throughout}
use Rattle.q_model.specs.Tally.{Note, history}
use Rattle.q_model.specs.TreeState.{loss_at_end, loss_on, put_on}
use Rattle.q_model.specs.Work.{Worked, quiet, booked}
use Rattle.q_model.proofs.ShrinkLemmas.{child-with_memory}
use Rattle.q_invariants.specs.Kept.{IsLawfulRoot}
use Rattle.q_invariants.proofs.edit.EditLater.{root-later}
use Rattle.q_invariants.proofs.edit.Edits.{found_in_shape}
use Rattle.q_invariants.proofs.put.Puts.{along-put}
use Rattle.q_invariants.proofs.Replays.{IsKept, not-before, replay-kept}
use Rattle.q_invariants.proofs.sums.Told.{IsRootTold, root-booked, root-memory}
use Rattle.q_invariants.proofs.tree.Forests.{each-nodes, lawful-with_memory}
use Rattle.q_invariants.proofs.tree.Members.{All-front}
use Rattle.q_tree.specs.declared.answers.lanes.Lane.{Lane}
use Rattle.q_tree.specs.declared.answers.ways.Link.{Link}
use Rattle.q_tree.specs.answers.Lanes.{lane_below, lane_from, lane_to, limit_along}
use Rattle.q_tree.specs.answers.Ways.{has_tbf}
use Rattle.q_device.specs.Laws.{given_in}
use Rattle.q_device.specs.promises.Promise.{late_on}
use Rattle.q_device.specs.promises.Worst.{most_bytes, time_of}
use Rattle.q_device.specs.Sharing.{device_after}
use Rattle.q_device.proofs.ClassStretches.{at-start, mtu-stays}
use Rattle.q_device.proofs.ReplayLemmas.{replay_from-append}
use Rattle.q_device.proofs.WorstStands.{limit-stands}
use Rattle.q_laws.specs.line.Line.{IsInLine, IsLink, bytes_in, line, line_at_root, line_below_root, line_own}
use Rattle.q_laws.specs.line.Worst.{EndsWithin, IsKeptAt, LinesKeepLimits, WorstIsEnough, WorstIsInTime, with_arrival}
use Rattle.q_laws.specs.order.Order.{answers}
use Rattle.q_laws.specs.rate.Delay.{PaysInTime}
use Rattle.q_laws.specs.rate.Rate.{HasRoom}
use Rattle.q_laws.proofs.line.LaneNumbers.{WorstIs, worst-bytes, worst-is}
use Rattle.q_laws.proofs.line.LanePuts.{IsPutLast, lane-puts, link-puts}
use Rattle.q_laws.proofs.line.LineDelay.{limits-are-delays}
use Rattle.q_laws.proofs.line.LineStretches.{lines-leave-first}
use Rattle.q_laws.proofs.rate.GivenPaid.{given-front, given-paid, keeps-below, same-line}
use Rattle.q_laws.proofs.rate.HoldsNone.{holds-none}
use Rattle.q_laws.proofs.rate.PaidInTime.{rate-some}
use Rattle.q_laws.proofs.share.PromiseKept.{one-child}
use Rattle.q_laws.proofs.share.PromiseNumbers.{late-room}

-- ---- a lane that was found

-- beneath a tbf at the root
pub record IsLinked (root : Node (List Note)) (path : List ℕ) (lane : Lane) : Type 0 where
  pub bucket : TokenBucket
  pub most : ℕ
  pub is : root.own.discipline ≡ Tbf bucket most
  pub place : ℕ
  pub rest : List ℕ
  pub split : path ≡ place ∷ rest
  pub child : Node (List Note)
  pub there : slice_get (children root) place ≡ Some child
  pub limit : limit_along rest child ≡ Some lane.limit

-- the limit of a lane
limit-is : (link : Option Link) (lane : Lane) (t : Bool) (o : Option Limit)
    → (if t then None else option_map (λ (limit : Limit). record { link = link; limit = limit }) o) ≡ Some lane → o ≡ Some lane.limit
limit-is link lane true o e = absurd (none-some lane e)
limit-is link lane false None e = absurd (none-some lane e)
limit-is link lane false (Some limit) e = ap Some (ap (λ (l : Lane). l.limit) (same_Some (record { link = link; limit = limit }) lane e))

below-limit : (link : Option Link) (path : List ℕ) (n : Node (List Note)) (lane : Lane) → lane_below link path n ≡ Some lane → limit_along path n ≡ Some lane.limit
below-limit link path n lane e = limit-is link lane (has_tbf n) (limit_along path n) e

pub lane-found : (root : Node (List Note)) (path : List ℕ) (lane : Lane) → lane_from path root root.own.discipline ≡ Some lane
    → (limit_along path root ≡ Some lane.limit) ⊎ IsLinked root path lane
lane-found root path lane e = by path refl root.own.discipline refl e
  where
    beneath : (b : TokenBucket) (most i : ℕ) (rest : List ℕ) (link : Option Link) (o : Option (Node (List Note))) → path ≡ i ∷ rest → root.own.discipline ≡ Tbf b most → slice_get (children root) i ≡ o
        → option_and_then (lane_below link rest) o ≡ Some lane → IsLinked root path lane
    beneath b most i rest link None split is there e = absurd (none-some lane e)
    beneath b most i rest link (Some c) split is there e =
        record { bucket = b; most = most; is = is; place = i; rest = rest; split = split; child = c; there = there; limit = below-limit link rest c lane e }

    handled : (b : TokenBucket) (most i : ℕ) (rest : List ℕ) (o : Option ℕ) → path ≡ i ∷ rest → root.own.discipline ≡ Tbf b most
        → option_and_then (λ h. option_and_then (lane_below (Some (record { handle = h; rate = b.rate; burst = b.burst })) rest) (slice_get (children root) i)) o ≡ Some lane → IsLinked root path lane
    handled b most i rest None split is e = absurd (none-some lane e)
    handled b most i rest (Some h) split is e = beneath b most i rest (Some (record { handle = h; rate = b.rate; burst = b.burst })) (slice_get (children root) i) split is refl e

    bare : (steps : List ℕ) → path ≡ steps → lane_below None steps root ≡ Some lane → limit_along path root ≡ Some lane.limit
    bare steps is e = ap (λ xs. limit_along xs root) is ∙ below-limit None steps root lane e

    by : (steps : List ℕ) → path ≡ steps → (k : Discipline) → root.own.discipline ≡ k → lane_from steps root k ≡ Some lane → (limit_along path root ≡ Some lane.limit) ⊎ IsLinked root path lane
    by [] split (Tbf b most) is e = absurd (none-some lane e)
    by (i ∷ rest) split (Tbf b most) is e = inr (handled b most i rest root.own.handle split is e)
    by steps split (Fifo limit queue) is e = inl (bare steps split e)
    by steps split (Prio priomap) is e = inl (bare steps split e)
    by steps split (Drr s) is e = inl (bare steps split e)
    by steps split (FqCodel s) is e = inl (bare steps split e)

-- ---- a tbf at the root

module _ (d : DeviceState (List Note)) (kept : IsKept d) where
  abbrev top : Node (List Note)
  top = d.tree.root

  -- a tbf has one child
  first-child : (b : TokenBucket) (most i : ℕ) (c : Node (List Note)) → top.own.discipline ≡ Tbf b most → slice_get (children top) i ≡ Some c
      → children top ≡ c ∷ []
  first-child b most i c is there =
      let law = subst (IsLawfulDiscipline d.tree.device.mtu d.clock (each beneath_own top.below)) is kept.lawful.0.discipline in
      one-child (children top) i c (sym (length-map (children top) (from_below beneath_own)) ∙ ap length (sym (each-nodes beneath_own top.below))
      ∙ law.one) there

  pub in-first : (b : TokenBucket) (most i : ℕ) (c : Node (List Note)) → top.own.discipline ≡ Tbf b most → slice_get (children top) i ≡ Some c → i ≡ 0
  in-first b most i c is there = by i (subst (λ (ns : List (Node (List Note))). slice_get ns i ≡ Some c) (first-child b most i c is there) there)
    where
      by : (i : ℕ) → slice_get (c ∷ []) i ≡ Some c → i ≡ 0
      by zero e = refl
      by (suc i) e = absurd (none-some c e)

-- ---- a packet that is kept

-- no loss was answered
pub no-loss : (o : Option Cause) → reply.Fate (fate_of o) ≡ reply.Fate fate.Kept → o ≡ None
no-loss None e = refl
no-loss (Some cause) e = let wrong : reply.Fate (fate.Lost cause) ≡ reply.Fate fate.Kept = e in cc

pub not-refused : (now : ℕ) (p : Descriptor) (s : Shape) (path : List ℕ) (o : Option Cause) → loss_at_end now p s (record { path = path; refusal = o }) ≡ None → o ≡ None
not-refused now p s path None e = refl
not-refused now p s path (Some cause) e = absurd (none-some cause (sym e))

module _ (d : DeviceState (List Note)) (now : ℕ) (kept : IsKept d) (later : d.clock ≤ now) (p : Descriptor) (byte : 1 ≤ p.len) (none : d.tree.root.own.held ≡ None) where
  abbrev root : Node (List Note)
  root = d.tree.root

  abbrev bare : Shape
  bare = shape root

  abbrev mtu : ℕ
  mtu = d.tree.device.mtu

  lawful : IsLawfulRoot mtu now bare
  lawful = lawful-with_memory mtu now (λ m. tt) root (root-later d.clock now later mtu root kept.lawful)

  puts : (path : List ℕ) (lane : Lane) → p.len ≤ mtu → (limit_along path root ≡ Some lane.limit) ⊎ IsLinked root path lane → route p bare ≡ record { path = path; refusal = None }
      → IsPutLast (most_bytes mtu lane.limit) p (line bare) (line (put_along now p None path bare).node)
  puts path lane short (inl limit) goes = lane-puts mtu now p short path bare lane.limit lawful (limit-stands (λ m. tt) path root ∙ limit) goes
  puts path lane short (inr l) goes =
      let first : l.place ≡ 0 = in-first d kept l.bucket l.most l.place l.child l.is l.there in
      let there : slice_get (children root) 0 ≡ Some l.child = subst (λ k. slice_get (children root) k ≡ Some l.child) first l.there in
      let steps : path ≡ 0 ∷ l.rest = l.split ∙ ap (λ k. k ∷ l.rest) first in
      subst (λ (xs : List ℕ). IsPutLast (most_bytes mtu lane.limit) p (line bare) (line (put_along now p None xs bare).node)) (sym steps)
      (link-puts mtu now p short l.rest bare l.bucket l.most lane.limit (shape l.child) lawful l.is none
      (child-with_memory (λ (m : List Note). tt) root 0 ∙ ap (option_map shape) there) (limit-stands (λ m. tt) l.rest l.child ∙ l.limit)
      (goes ∙ ap (λ (xs : List ℕ). record { path = xs; refusal = None }) steps))

  told-root : (w : Worked) → IsRootTold (quiet bare) w → IsRootTold root w
  told-root w t = root-memory (λ m. tt) root w (root-memory (λ u. []) bare w t)

  puts-line : (path : List ℕ) (lane : Lane) → lane_from path root root.own.discipline ≡ Some lane → (route p root).path ≡ path → (long : Bool) → nat_lt mtu p.len ≡ long
      → loss_on now p (if long then None else Some (route p bare)) bare ≡ None
      → IsPutLast (most_bytes mtu lane.limit) p (line root) (line (booked history root (put_on now p (if long then None else Some (route p bare)) bare).node))
  puts-line path lane found goes true e loss = absurd (none-some TooLong (sym loss))
  puts-line path lane found goes false e loss =
      let r : Route = route p bare in
      let short : p.len ≤ mtu = ltb-false mtu p.len e in
      let same : r ≡ route p root = found_in_shape (λ own below. way p own below own.discipline) root in
      let refusal : r.refusal ≡ None = not-refused now p bare r.path r.refusal loss in
      let steps : r.path ≡ path = ap (λ (x : Route). x.path) same ∙ goes in
      let is : r ≡ record { path = path; refusal = None } =
      ap (λ (o : Option Cause). record { path = r.path; refusal = o }) refusal ∙ ap (λ (xs : List ℕ). record { path = xs; refusal = None }) steps in
      let put = along-put mtu now kept.least_mtu p (byte, short) path None bare is lawful in
      let w : Worked = (put_along now p None path bare).node in
      let before : line bare ≡ line root = found_in_shape line_own root in
      let after : line (booked history root w) ≡ line w = root-booked history line_own root w (told-root w put.told) in
      let last = puts path lane short (lane-found root path lane found) is in
      subst (λ (x : Route). IsPutLast (most_bytes mtu lane.limit) p (line root) (line (booked history root (put_along now p x.refusal x.path bare).node))) (sym is)
      (subst (λ (xs : List Descriptor). IsPutLast (most_bytes mtu lane.limit) p (line root) xs) (sym after)
      (subst (λ (xs : List Descriptor). IsPutLast (most_bytes mtu lane.limit) p xs (line w)) before last))

-- the state after it
pub arrived : (settings : DeviceSettings) (before : List Event) (p : Descriptor) (moment : ℕ)
    → device_after settings (with_arrival before p moment) ≡ (step history (device_after settings before) (event.Arrive p moment)).device
arrived settings before p moment = ap (λ (r : Replay (List Note)). r.device)
    (replay_from-append history (nothing_yet history settings) before (event.Arrive p moment))

-- what the line has with one packet more
pub bytes-last : (p : Descriptor) (others : List Descriptor) → bytes_in (others ++ p ∷ []) ≡ bytes_in others + p.len
bytes-last p others =
    let size = sum_by-append (λ (q : Descriptor). q.len) others (p ∷ []) in
    let one = sum_by-cons (λ (q : Descriptor). q.len) p [] in
    omega (arith, size, one)

-- the path of a lane that was found
lane-path : (place : Place) (root : Node (List Note)) (lane : Lane) (path : List ℕ) → lane_to place root ≡ Some lane
    → place_path place root ≡ Some path → lane_from path root root.own.discipline ≡ Some lane
lane-path place root lane path e is = sym (ap (option_and_then (λ steps. lane_from steps root root.own.discipline)) is) ∙ e

-- the packet is put last in line
pub put-last : (settings : DeviceSettings) → IsInRange settings → (before : List Event) (p : Descriptor) (moment : ℕ) (place : Place) (lane : Lane)
    → All IsEvent before → IsEvent (event.Arrive p moment)
    → lane_to place (device_after settings before).tree.root ≡ Some lane → IsKeptAt place p moment (device_after settings before)
    → IsPutLast (most_bytes (device_after settings before).tree.device.mtu lane.limit) p (line_at_root (device_after settings before))
    (line_at_root (device_after settings (with_arrival before p moment)))
put-last settings range before p moment place lane all_before comes found at =
    let d : DeviceState (List Note) = device_after settings before in
    let kept : IsKept d = replay-kept settings before range all_before in
    let path : List ℕ = (route p d.tree.root).path in
    subst (λ (x : DeviceState (List Note)). IsPutLast (most_bytes d.tree.device.mtu lane.limit) p (line_at_root d) (line_at_root x))
    (sym (arrived settings before p moment))
    (puts-line d (max d.clock moment) kept (not-before d.clock moment) p comes.0.len.0 (holds-none settings before range all_before) path lane
    (lane-path place d.tree.root lane path found at.goes) refl (nat_lt d.tree.device.mtu p.len) refl
    (no-loss (loss_on (max d.clock moment) p (if nat_lt d.tree.device.mtu p.len then None else Some (route p (shape d.tree.root)))
    (shape d.tree.root)) at.kept))

pub lines-keep-limits : (settings : DeviceSettings) → IsInRange settings → LinesKeepLimits settings
lines-keep-limits settings range before p moment place lane all_before comes found at =
    let d : DeviceState (List Note) = device_after settings before in
    let put = put-last settings range before p moment place lane all_before comes found at in
    let others : List Descriptor = line_at_root d in
    let size = bytes-last p others in
    let within = put.within in
    let bytes : bytes_in (others ++ p ∷ []) ≤ most_bytes d.tree.device.mtu lane.limit = omega (arith, size, within) in
    record {
      others = others;
      last = put.last;
      within =
          subst (λ (xs : List Descriptor). bytes_in xs ≤ most_bytes settings.mtu lane.limit) (sym put.last)
          (subst (λ m. bytes_in (others ++ p ∷ []) ≤ most_bytes m lane.limit) (mtu-stays settings before) bytes);
    }

-- ---- what leaves, and in which time

pub all-with : (before : List Event) (p : Descriptor) (moment : ℕ) → All IsEvent before → IsEvent (event.Arrive p moment)
    → All IsEvent (with_arrival before p moment)
all-with before p moment all comes = All-append IsEvent before (event.Arrive p moment ∷ []) all (All-cons IsEvent (event.Arrive p moment) [] comes (All-nil IsEvent))

pub worst-is-enough : (settings : DeviceSettings) → IsInRange settings → WorstIsEnough settings
worst-is-enough settings range before during p moment place lane w all_before comes all_during found worst at alone keep =
    let line : List Descriptor = line_at_root (device_after settings (with_arrival before p moment)) in
    record {
      first = line;
      there = lines-leave-first settings range (with_arrival before p moment) during (all-with before p moment all_before comes) all_during alone keep;
      ends = subst (λ n. EndsWithin n p line) (sym (worst-bytes settings.mtu lane w worst)) (lines-keep-limits settings range before p moment place lane all_before comes found at);
    }

pub worst-is-in-time : (settings : DeviceSettings) → IsInRange settings → WorstIsInTime settings
worst-is-in-time settings range before during e p moment place link limit w ns most late all_before comes all_during happens found worst timed lateness soon at stays keep drained waits =
    let is : WorstIs settings.mtu bytes link w = worst-is settings.mtu link limit w worst in
    let first : TbfAt = here.tbf.tbf in
    let some : 1 ≤ link.rate = subst (λ n. 1 ≤ n) here.tbf.same_rate (rate-some link.handle start first (replay-kept settings upto range all) here.tbf.there) in
    let whole = (lines-keep-limits settings range before p moment place (record { link = Some link; limit = limit }) all_before comes found at).within in
    let latest : most ≡ late_on settings.mtu link = same_Some most (late_on settings.mtu link) (sym lateness ∙ is.late) in
    let least : settings.mtu * units_in_byte + link.rate ≤ link.burst * units_in_byte = leb-true (settings.mtu * units_in_byte + link.rate) (link.burst * units_in_byte) is.room in
    let room : HasRoom settings.mtu most link.rate link.burst = late-room settings.mtu most link least latest in
    let rises : link.rate * (late + 1) ≤ link.rate * (most + 1) = mul-le-mul_left link.rate (omega (arith, soon)) in
    let time : ns ≡ div_ceil (bytes * units_in_byte) link.rate =
    same_Some ns (time_of bytes link) (sym timed ∙ is.ns) ∙ ap (λ r. div_ceil (bytes * units_in_byte) r) (let whole_rate : max link.rate 1 ≡ link.rate = omega (arith, some) in whole_rate) in
    subst (λ n. PaysInTime (start.clock + n) late (device_after settings (upto ++ during)) (step history (device_after settings (upto ++ during)) e).device) (sym time)
    (limits-are-delays settings range upto during e link.handle link.rate link.burst late bytes all all_during happens (omega (arith, room, rises)) stays unpaid
    (keeps-below link.handle link.rate link.burst settings upto during range all all_during holds keep) drained (subst (λ (xs : List Descriptor). bytes_in xs ≤ bytes) line_is whole))
  where
    upto : List Event
    upto = with_arrival before p moment

    start : DeviceState (List Note)
    start = device_after settings (with_arrival before p moment)

    bytes : ℕ
    bytes = most_bytes settings.mtu limit

    all : All IsEvent (with_arrival before p moment)
    all = all-with before p moment all_before comes

    here : IsLink link.handle link.rate link.burst (device_after settings (with_arrival before p moment))
    here = at-start (IsLink link.handle link.rate link.burst) settings (with_arrival before p moment) during stays

    front : (seen later : List Event) → seen ++ later ≡ during → All IsEvent seen
    front seen later is = All-front IsEvent seen later (subst (All IsEvent) (sym is) all_during)

    holds : Throughout (λ d. IsLink link.handle link.rate link.burst d × (d.tree.root.own.held ≡ None)) settings (with_arrival before p moment) during
    holds seen later is = (stays seen later is, holds-none settings (with_arrival before p moment ++ seen) range (All-append IsEvent (with_arrival before p moment) seen all (front seen later is)))

    line_is : line_at_root (device_after settings (with_arrival before p moment)) ≡ line_below_root (device_after settings (with_arrival before p moment))
    line_is = same-line link.handle link.rate link.burst (device_after settings (with_arrival before p moment)) (here, holds-none settings (with_arrival before p moment) range all)

    unpaid : Throughout (IsInLine link.handle (device_after settings (with_arrival before p moment))) settings (with_arrival before p moment) during
    unpaid seen later split =
        let paid = given-paid link.handle link.rate link.burst settings upto seen range all (front seen later split)
        (λ xs ys join. holds xs (ys ++ later) (sym (append_assoc xs ys later) ∙ ap (λ zs. zs ++ later) join ∙ split)) in
        let so_far = given-front start seen later in
        let whole = ap (λ es. bytes_in (filter_map given_in (answers (device_after settings (with_arrival before p moment)) es))) split in
        let length = ap bytes_in line_is in
        omega (arith, paid, so_far, whole, waits, length)
