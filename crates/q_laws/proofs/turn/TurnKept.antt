-- The worst delay that a device answers for a class of a drr is enough for each packet that the class's fifo keeps.
use Rattle.std.proofs.Common.{◌≡◌, ℕ, ◌+◌, ◌-◌, ◌*◌, ◌≤◌, ◌^◌, inl, max, refl, sym, ap, subst, ◌∙◌, List, [], ◌∷◌, ◌++◌, length, Option, Some, None, arith}
use Rattle.std.specs.Prelude.{All, false, slice_get}
use Rattle.std.specs.Int.{div_ceil}
use Rattle.std.specs.List.{filter_map}
use Rattle.std.proofs.Math.Nat.{mul-le-mul_left}
use Rattle.std.proofs.lemmas.Bool.{leb-true}
use Rattle.std.proofs.lemmas.List.{append-nil, append_assoc}
use Rattle.std.proofs.lemmas.List.Elements.{All-append}
use Rattle.std.proofs.lemmas.Option.{same_Some}
use Rattle.q_bucket.specs.Level.{level_at, units_in_byte}
use Rattle.q_model.specs.declared.event.Event.{Event}
use Rattle.q_model.specs.declared.place.Place.TheVariants as place
use Rattle.q_model.specs.Ask.{ask}
use Rattle.q_model.specs.Beneath.{is_empty}
use Rattle.q_model.specs.Events.{IsEvent}
use Rattle.q_model.specs.Node.{Node, children, shape}
use Rattle.q_model.specs.Settings.{DeviceSettings, IsInRange}
use Rattle.q_model.specs.Step.{DeviceState, step}
use Rattle.q_model.specs.Stretches.{bytes_sent, length_held, qdisc, TbfAt, Throughout}
use Rattle.q_model.specs.Tally.{Note, history}
use Rattle.q_model.specs.TreeState.{given}
use Rattle.q_invariants.proofs.Replays.{IsKept, replay-kept}
use Rattle.q_invariants.proofs.tree.Members.{All-front}
use Rattle.q_tree.specs.declared.answers.ways.Link.{Link}
use Rattle.q_tree.specs.answers.Turns.{turn_to}
use Rattle.q_tree.specs.answers.Ways.{DrrClass, drrs_on, share_of, way_to}
use Rattle.q_device.specs.Laws.{given_in}
use Rattle.q_device.specs.promises.Promise.{late_on}
use Rattle.q_device.specs.promises.Worst.{bytes_in_turn, most_bytes, most_of_turn, time_of}
use Rattle.q_device.specs.Sharing.{device_after}
use Rattle.q_device.proofs.ClassStretches.{at-start}
use Rattle.q_laws.specs.line.Line.{bytes_in}
use Rattle.q_laws.specs.line.Worst.{with_arrival}
use Rattle.q_laws.specs.order.Order.{answers}
use Rattle.q_laws.specs.rate.Delay.{IsLeft, latest, level_counted, paid_so_far}
use Rattle.q_laws.specs.rate.Rate.{HasRoom, IsBackloggedLink}
use Rattle.q_laws.specs.share.Service.{HasClasses}
use Rattle.q_laws.specs.turn.FifoTurn.{IsFifoClass, KeepFifo}
use Rattle.q_laws.specs.turn.TurnWorst.{IsTurn, IsWaiting, LeadsTo, TurnIsEnough, TurnIsInTime, id_of, turn_line, turn_of}
use Rattle.q_laws.proofs.line.LaneNumbers.{WorstIs, turn-bytes, turn-is}
use Rattle.q_laws.proofs.line.LineDelay.{ceil-rises, later-still}
use Rattle.q_laws.proofs.line.WorstKept.{all-with}
use Rattle.q_laws.proofs.rate.GivenPaid.{given-paid}
use Rattle.q_laws.proofs.rate.HoldsNone.{holds-none}
use Rattle.q_laws.proofs.rate.LinkStretches.{root-at}
use Rattle.q_laws.proofs.rate.PaidInTime.{bytes-are-paid, rate-some}
use Rattle.q_laws.proofs.share.LeastShare.{drr-node, kept-at}
use Rattle.q_laws.proofs.share.PromiseKept.{IsLinked, bare, link-of, linked, path-of-way}
use Rattle.q_laws.proofs.share.PromiseNumbers.{late-room}
use Rattle.q_laws.proofs.share.PromiseWays.{of-child, on-way, queued-above, step-of}
use Rattle.q_laws.proofs.share.ShareInTime.{held-in}
use Rattle.q_laws.proofs.turn.TurnBounds.{SendNoMore, send-at-most, shown-at, start-drr, waiting-queued}
use Rattle.q_laws.proofs.turn.TurnLimits.{turns-keep-limits}
use Rattle.q_laws.proofs.turn.TurnPaid.{given-next, next-is-drr, pays, sends}
use Rattle.q_laws.proofs.turn.TurnPolls.{IsOver}

-- ---- what stands in a device

module _ (dev : DeviceState (List Note)) (kept : IsKept dev) where
  -- the drr of a class, and what is above it
  record Stands (link : Option Link) (d : DrrClass) : Type 0 where
    has : HasClasses d.major d.classes dev
    over : IsOver link d.major dev

  stands : (link : Option Link) (d : DrrClass) → way_to (id_of d) dev.tree.root ≡ Some (record { link = link; drrs = d ∷ [] }) → Stands link d
  stands None d e =
      let at = path-of-way dev.tree.root (id_of d) (record { link = None; drrs = d ∷ [] }) e in
      by at.0 (bare dev.tree.root (d ∷ []) at.0 at.1)
    where
      by : (path : List ℕ) → drrs_on path dev.tree.root ≡ Some (d ∷ []) → Stands None d
      by [] e = absurd (let z = ap (λ (xs : List DrrClass). length xs) (same_Some [] (d ∷ []) e) in omega (arith, z))
      by (i ∷ path) e =
          let s = step-of i path dev.tree.root d [] e in
          let o = on-way dev kept i path dev.tree.root d [] s (inl refl) in
          record { has = o.has; over = s.at.handle }
  stands (Some link) d e =
      let at = path-of-way dev.tree.root (id_of d) (record { link = Some link; drrs = d ∷ [] }) e in
      let l = linked dev.tree.root link (d ∷ []) at.0 at.1 in
      by l l.path l.way
    where
      by : (l : IsLinked dev.tree.root link (d ∷ [])) → (path : List ℕ) → drrs_on path l.child ≡ Some (d ∷ []) → Stands (Some link) d
      by l [] e = absurd (let z = ap (λ (xs : List DrrClass). length xs) (same_Some [] (d ∷ []) e) in omega (arith, z))
      by l (i ∷ path) e =
          let root : Node (List Note) = dev.tree.root in
          let s = step-of i path l.child d [] e in
          let o = on-way dev kept i path l.child d [] s (of-child l.child root root l.place l.there (inl refl)) in
          let k = link-of dev kept link (d ∷ []) l in
          record { has = o.has; over = (k.0, l.child, o.is, k.1) }

-- ---- while a packet waits

module _ (settings : DeviceSettings) (range : IsInRange settings) (before during : List Event) (d : DrrClass) (most : ℕ)
    (earlier : All IsEvent before) (happen : All IsEvent during) where
  abbrev start : DeviceState (List Note)
  start = device_after settings before

  abbrev at : List Event → DeviceState (List Note)
  at seen = device_after settings (before ++ seen)

  kept-in : (seen later : List Event) → seen ++ later ≡ during → IsKept (at seen)
  kept-in seen later e = kept-at settings range before during earlier happen seen later e

  front-happens : (seen later : List Event) → seen ++ later ≡ during → All IsEvent seen
  front-happens seen later e = All-front IsEvent seen later (subst (All IsEvent) (sym e) happen)

  so-far : (P : DeviceState (List Note) → Type 0) → Throughout P settings before during → (seen later : List Event) → seen ++ later ≡ during
      → Throughout P settings before seen
  so-far P h seen later e xs ys join = h xs (ys ++ later) (sym (append_assoc xs ys later) ∙ ap (λ zs. zs ++ later) join ∙ e)

  free : (seen later : List Event) → seen ++ later ≡ during → (at seen).tree.root.own.held ≡ None
  free seen later e = holds-none settings (before ++ seen) range (All-append IsEvent before seen earlier (front-happens seen later e))

  module _ (link : Option Link) (stays : Throughout (IsTurn link d) settings before during) (keep : KeepFifo d.major d.class.name (device_after settings before) during)
      (waits : Throughout (IsWaiting d.major d.class.name (device_after settings before)) settings before during)
      (law : SendNoMore settings before d.major d.class.name d.class.quantum d.classes most) where
    stand : (seen later : List Event) (e : seen ++ later ≡ during) → Stands (at seen) (kept-in seen later e) link d
    stand seen later e = stands (at seen) (kept-in seen later e) link d (stays seen later e).0

    has : Throughout (HasClasses d.major d.classes) settings before during
    has seen later e = (stand seen later e).has

    over : Throughout (IsOver link d.major) settings before during
    over seen later e = (stand seen later e).over

    fifo : Throughout (IsFifoClass d.major d.class.name d.class.quantum) settings before during
    fifo seen later e = (stays seen later e).1

    waits-before : (seen : List Event) (x : Event) (later : List Event) → seen ++ x ∷ later ≡ during → IsWaiting d.major d.class.name (device_after settings before) (at seen)
    waits-before seen x later e = waits seen (x ∷ later) e

    abbrev first : Node (List Note)
    first = (start-drr settings range before during d.major d.class.name d.class.quantum most d.classes earlier happen has fifo keep waits-before law).node

    first-is : qdisc d.major (device_after settings before) ≡ Some first
    first-is = (start-drr settings range before during d.major d.class.name d.class.quantum most d.classes earlier happen has fifo keep waits-before law).there

    -- the drr in a state of the stretch
    drr : (seen later : List Event) → seen ++ later ≡ during → Node (List Note)
    drr seen later e = (drr-node d.major d.classes (at seen) (has seen later e)).node

    drr-is : (seen later : List Event) (e : seen ++ later ≡ during) → qdisc d.major (at seen) ≡ Some (drr seen later e)
    unfolding drr
    drr-is seen later e = (drr-node d.major d.classes (at seen) (has seen later e)).there

    shows : (seen later : List Event) (e : seen ++ later ≡ during) (t : ℕ) → (at seen).clock ≤ t → t ≤ 2 ^ 62
        → bytes_sent (drr seen later e).memory + length_held (ask t (shape (drr seen later e))).shown ≤ bytes_sent first.memory + length_held first.own.held + most
    shows seen later e t order low =
        shown-at settings range before during d.major d.class.name d.class.quantum most d.classes earlier happen has fifo keep waits-before law
        seen later e (waits seen later e) link (over seen later e) (free seen later e) (drr seen later e) (drr-is seen later e) t order low

  -- ---- a drr at the root

  pub bare-enough : Throughout (IsTurn None d) settings before during → KeepFifo d.major d.class.name (device_after settings before) during
      → Throughout (IsWaiting d.major d.class.name (device_after settings before)) settings before during → SendNoMore settings before d.major d.class.name d.class.quantum d.classes most
      → (t : ℕ) → (device_after settings (before ++ during)).clock ≤ t → t ≤ 2 ^ 62
      → bytes_in (filter_map given_in (answers (device_after settings before) during)) + length_held (given t (device_after settings (before ++ during)).tree) ≤ most
  bare-enough stays keep waits law t order low =
      let all = append-nil during in
      let n : Node (List Note) = drr None stays keep waits law during [] all in
      let end : DeviceState (List Note) = at during in
      let same : n ≡ end.tree.root = same_Some n end.tree.root
      (sym (drr-is None stays keep waits law during [] all) ∙ root-at d.major end (over None stays keep waits law during [] all)) in
      let over_first = at-start (IsOver None d.major) settings before during (over None stays keep waits law) in
      let same_first : first None stays keep waits law ≡ start.tree.root = same_Some (first None stays keep waits law) start.tree.root
      (sym (first-is None stays keep waits law) ∙ root-at d.major start over_first) in
      let sent = sends d.major settings before during range earlier happen (over None stays keep waits law) in
      let shown = shows None stays keep waits law during [] all t order low in
      let memory = ap (λ (m : Node (List Note)). bytes_sent m.memory) same in
      let asked = ap (λ (m : Node (List Note)). length_held (ask t (shape m)).shown) same in
      let memory_first = ap (λ (m : Node (List Note)). bytes_sent m.memory) same_first in
      let held_first = ap (λ (m : Node (List Note)). length_held m.own.held) same_first ∙ ap length_held (holds-none settings before range earlier) in
      omega (arith, shown, sent, memory, asked, memory_first, held_first)

  -- ---- below a tbf

  module _ (link : Link) (stays : Throughout (IsTurn (Some link) d) settings before during)
      (keep : KeepFifo d.major d.class.name (device_after settings before) during)
      (waits : Throughout (IsWaiting d.major d.class.name (device_after settings before)) settings before during)
      (law : SendNoMore settings before d.major d.class.name d.class.quantum d.classes most) (held : ℕ)
      (holds : (n : Node (List Note)) → qdisc d.major (device_after settings before) ≡ Some n → length_held n.own.held ≤ held) where
    first-held : length_held (first (Some link) stays keep waits law).own.held ≤ held
    first-held = holds (first (Some link) stays keep waits law) (first-is (Some link) stays keep waits law)

    pays-so-far : (seen later : List Event) (e : seen ++ later ≡ during)
        → paid_so_far link.handle (at seen) + bytes_sent (first (Some link) stays keep waits law).memory
        ≡ paid_so_far link.handle start + bytes_sent (drr (Some link) stays keep waits law seen later e).memory
    pays-so-far seen later e =
        pays link d.major settings before seen range earlier (front-happens seen later e)
        (so-far (IsOver (Some link) d.major) (over (Some link) stays keep waits law) seen later e) (first (Some link) stays keep waits law)
        (drr (Some link) stays keep waits law seen later e) (first-is (Some link) stays keep waits law) (drr-is (Some link) stays keep waits law seen later e)

    pub linked-left : Throughout (IsLeft link.handle (held + most) (device_after settings before)) settings before during
    linked-left seen later e t order low =
        let shown = shows (Some link) stays keep waits law seen later e t order low in
        let paid = pays-so-far seen later e in
        let next = next-is-drr link d.major t (at seen) (drr (Some link) stays keep waits law seen later e) (over (Some link) stays keep waits law seen later e)
        (drr-is (Some link) stays keep waits law seen later e) in
        omega (arith, shown, paid, next, first-held)

    pub linked-enough : (t : ℕ) → (device_after settings (before ++ during)).clock ≤ t → t ≤ 2 ^ 62
        → bytes_in (filter_map given_in (answers (device_after settings before) during)) + length_held (given t (device_after settings (before ++ during)).tree)
        ≤ held + most
    linked-enough t order low =
        let all = append-nil during in
        let left = linked-left during [] all t order low in
        let paid = given-paid link.handle link.rate link.burst settings before during range earlier happen
        (λ seen later e. ((over (Some link) stays keep waits law seen later e).0, free seen later e)) in
        let gives = given-next link d.major t (at during) (drr (Some link) stays keep waits law during [] all)
        (over (Some link) stays keep waits law during [] all) (free during [] all) (drr-is (Some link) stays keep waits law during [] all) in
        let next = next-is-drr link d.major t (at during) (drr (Some link) stays keep waits law during [] all)
        (over (Some link) stays keep waits law during [] all) (drr-is (Some link) stays keep waits law during [] all) in
        omega (arith, left, paid, gives, next)

    -- something is queued all the while
    drr-queued : (seen later : List Event) (e : seen ++ later ≡ during) → is_empty (drr (Some link) stays keep waits law seen later e) ≡ false
    drr-queued seen later e =
        waiting-queued settings range before during d.major d.class.name d.class.quantum most d.classes earlier happen (has (Some link) stays keep waits law)
        (fifo (Some link) stays keep waits law) keep (waits-before (Some link) stays keep waits law) law seen later e (waits seen later e)
        (drr (Some link) stays keep waits law seen later e) (drr-is (Some link) stays keep waits law seen later e)

    pub linked-backlogged : Throughout (IsBackloggedLink link.handle link.rate link.burst) settings before during
    linked-backlogged seen later e =
        let o = over (Some link) stays keep waits law seen later e in
        let n : Node (List Note) = drr (Some link) stays keep waits law seen later e in
        let only : children (at seen).tree.root ≡ n ∷ [] =
        o.3 ∙ ap (λ (m : Node (List Note)). m ∷ []) (same_Some o.1 n (sym o.2 ∙ drr-is (Some link) stays keep waits law seen later e)) in
        record {
          tbf = o.0.tbf;
          root = o.0.root;
          alone = o.0.alone;
          queued = queued-above (at seen).tree.root n 0 (ap (λ (ns : List (Node (List Note))). slice_get ns 0) only) (drr-queued seen later e);
        }

-- ---- the laws

pub turn-is-enough : (settings : DeviceSettings) → IsInRange settings → TurnIsEnough settings
turn-is-enough settings range before during p moment link d limit w t earlier comes happen leads found worst kept stays keep waits order low =
    by link leads found stays (turn-bytes settings.mtu (turn_of link d limit) w worst)
  where
    upto : List Event
    upto = with_arrival before p moment

    all : All IsEvent (with_arrival before p moment)
    all = all-with before p moment earlier comes

    sends : bytes_in (turn_line d (device_after settings (with_arrival before p moment))) ≤ most_bytes settings.mtu limit
        → SendNoMore settings (with_arrival before p moment) d.major d.class.name d.class.quantum d.classes
        (most_of_turn settings.mtu (most_bytes settings.mtu limit) (share_of d))
    sends within = send-at-most settings range (with_arrival before p moment) d.major d.class.name d.class.quantum (most_bytes settings.mtu limit) d.classes
        (all-with before p moment earlier comes) within

    by : (o : Option Link) → LeadsTo o d (device_after settings before)
        → turn_to (place.Class (id_of d)) (device_after settings before).tree.root ≡ Some (turn_of o d limit)
        → Throughout (IsTurn o d) settings (with_arrival before p moment) during → w.bytes ≡ bytes_in_turn settings.mtu (turn_of o d limit)
        → bytes_in (filter_map given_in (answers (device_after settings (with_arrival before p moment)) during))
        + length_held (given t (device_after settings (with_arrival before p moment ++ during)).tree) ≤ w.bytes
    by None leads found stays bytes_are =
        let within = (turns-keep-limits settings range before p moment None d limit earlier comes leads found kept).within in
        let enough = bare-enough settings range upto during d (most_of_turn settings.mtu (most_bytes settings.mtu limit) (share_of d)) all happen
        stays keep waits (sends within) t order low in
        omega (arith, enough, bytes_are)
    by (Some l) leads found stays bytes_are =
        let within = (turns-keep-limits settings range before p moment (Some l) d limit earlier comes leads found kept).within in
        let enough = linked-enough settings range upto during d (most_of_turn settings.mtu (most_bytes settings.mtu limit) (share_of d)) all happen l
        stays keep waits (sends within) settings.mtu (held-in settings range upto all d.major) t order low in
        omega (arith, enough, bytes_are)

pub turn-is-in-time : (settings : DeviceSettings) → IsInRange settings → TurnIsInTime settings
turn-is-in-time settings range before during e p moment link d limit w ns most late earlier comes happen happens leads found worst timed lateness soon kept stays keep waits drained =
    let upto : List Event = with_arrival before p moment in
    let start : DeviceState (List Note) = device_after settings upto in
    let all = all-with before p moment earlier comes in
    let queue : ℕ = most_bytes settings.mtu limit in
    let within = (turns-keep-limits settings range before p moment (Some link) d limit earlier comes leads found kept).within in
    let bytes : ℕ = bytes_in_turn settings.mtu (turn_of (Some link) d limit) in
    let is : WorstIs settings.mtu bytes link w = turn-is settings.mtu link (share_of d) limit w worst in
    let turn : ℕ = most_of_turn settings.mtu queue (share_of d) in
    let sends = send-at-most settings range upto d.major d.class.name d.class.quantum queue d.classes all within in
    let holds = held-in settings range upto all d.major in
    let left = linked-left settings range upto during d turn all happen link stays keep waits sends settings.mtu holds in
    let queued = linked-backlogged settings range upto during d turn all happen link stays keep waits sends settings.mtu holds in
    let here = at-start (IsBackloggedLink link.handle link.rate link.burst) settings upto during queued in
    let first : TbfAt = here.tbf.tbf in
    let some : 1 ≤ link.rate = subst (λ n. 1 ≤ n) here.tbf.same_rate (rate-some link.handle start first (replay-kept settings upto range all) here.tbf.there) in
    let lasts : most ≡ late_on settings.mtu link = same_Some most (late_on settings.mtu link) (sym lateness ∙ is.late) in
    let least : settings.mtu * units_in_byte + link.rate ≤ link.burst * units_in_byte =
    leb-true (settings.mtu * units_in_byte + link.rate) (link.burst * units_in_byte) is.room in
    let room : HasRoom settings.mtu most link.rate link.burst = late-room settings.mtu most link least lasts in
    let rises : link.rate * (late + 1) ≤ link.rate * (most + 1) = mul-le-mul_left link.rate (omega (arith, soon)) in
    let time : ns ≡ div_ceil (bytes * units_in_byte) link.rate =
    same_Some ns (time_of bytes link) (sym timed ∙ is.ns)
    ∙ ap (λ r. div_ceil (bytes * units_in_byte) r) (let whole_rate : max link.rate 1 ≡ link.rate = omega (arith, some) in whole_rate) in
    let level : ℕ = level_counted late link.rate link.burst (level_at first.bucket start.clock) in
    let paid = bytes-are-paid settings range upto during e link.handle link.rate link.burst late bytes first all happen happens (omega (arith, room, rises))
    queued left drained here.tbf.there in
    let no_later = ceil-rises (bytes * units_in_byte - level) (bytes * units_in_byte) link.rate some (omega arith) in
    later-still (latest start.clock link.rate level bytes) (start.clock + ns) late (device_after settings (upto ++ during))
    (step history (device_after settings (upto ++ during)) e).device (omega (arith, no_later, time)) paid
