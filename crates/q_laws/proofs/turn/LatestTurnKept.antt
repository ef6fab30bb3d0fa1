-- What a device answers of the packet that was queued last in the fifo of a class of a drr is true of it.
use Rattle.std.proofs.Common.{◌≡◌, ℕ, ◌+◌, ◌-◌, ◌*◌, ◌≤◌, max, sym, ap, subst, ◌∙◌, List, [], ◌∷◌, ◌++◌, Option, Some, None, option_map, option_and_then, arith}
use Rattle.std.specs.Prelude.{Bool, true, All, slice_get, if◌then◌else◌}
use Rattle.std.specs.Int.{div_ceil}
use Rattle.std.specs.List.{filter_map}
use Rattle.std.proofs.Math.Nat.{mul-le-mul_left}
use Rattle.std.proofs.lemmas.Bool.{leb-true}
use Rattle.std.proofs.lemmas.Option.{same_Some, option_and_then_some}
use Rattle.q_bucket.specs.Level.{TokenBucket, level_at, units_in_byte}
use Rattle.q_codel.specs.declared.limit.Limit.{Limit}
use Rattle.q_drr.specs.Schedule.{Class, Schedule, is_active, no_classes, quantum_of, woken}
use Rattle.q_drr.specs.Waiting.{bytes_of_turn}
use Rattle.q_model.specs.declared.event.Event.{Event}
use Rattle.q_model.specs.Beneath.{beneath, totals_in}
use Rattle.q_model.specs.Events.{IsEvent}
use Rattle.q_model.specs.Find.{class_path}
use Rattle.q_model.specs.Node.{Discipline, Fifo, Prio, Tbf, Drr, FqCodel, Node}
use Rattle.q_model.specs.Settings.{DeviceSettings, IsInRange}
use Rattle.q_model.specs.Step.{DeviceState, step}
use Rattle.q_model.specs.Stretches.{length_held, ClassAt, class_in, qdisc, IsBackloggedClass, TbfAt, Throughout}
use Rattle.q_model.specs.Tally.{Note, history}
use Rattle.q_model.specs.TreeState.{given}
use Rattle.q_invariants.proofs.class.ClassMoves.{backlogged-active, class-node}
use Rattle.q_invariants.proofs.Replays.{IsKept, replay-kept}
use Rattle.q_invariants.proofs.tree.Within.{IsOf, lawful-of}
use Rattle.q_tree.specs.declared.answers.ways.Link.{Link}
use Rattle.q_tree.specs.answers.Lanes.{level_of, limit_of}
use Rattle.q_tree.specs.answers.Ways.{DrrClass, way_from}
use Rattle.q_device.specs.declared.promises.latest.Latest.{Latest}
use Rattle.q_device.specs.Laws.{given_in}
use Rattle.q_device.specs.promises.Latest.{counted_level, latest_at, latest_of_bytes, latest_on, paid_at}
use Rattle.q_device.specs.promises.Promise.{late_on}
use Rattle.q_device.specs.Sharing.{device_after}
use Rattle.q_device.proofs.ClassStretches.{at-start}
use Rattle.q_laws.specs.line.Line.{bytes_in, line}
use Rattle.q_laws.specs.order.Order.{answers}
use Rattle.q_laws.specs.rate.Delay.{latest, level_counted}
use Rattle.q_laws.specs.rate.Rate.{HasRoom, IsBackloggedLink}
use Rattle.q_laws.specs.share.Service.{HasClasses, all_sent}
use Rattle.q_laws.specs.turn.FifoTurn.{class_line}
use Rattle.q_laws.specs.turn.Turn.{shown_by}
use Rattle.q_laws.specs.turn.TurnLatest.{LatestTurnIsEnough, LatestTurnIsInTime}
use Rattle.q_tree.specs.answers.TurnNow.{bytes_along, bytes_before, bytes_in_drr}
use Rattle.q_device.specs.promises.Latest.{latest_in_turn}
use Rattle.q_drr.specs.Waiting.{turn_now}
use Rattle.q_laws.specs.turn.TurnWorst.{IsTurn, LeadsTo, id_of}
use Rattle.q_laws.proofs.line.LaneLines.{lane-line}
use Rattle.q_laws.proofs.line.LatestKept.{LatestIs, below-is, fits, latest-bytes}
use Rattle.q_laws.proofs.line.LineDelay.{ceil-rises, later-still}
use Rattle.q_laws.proofs.line.LineInTime.{root-bucket, root-is}
use Rattle.q_laws.proofs.rate.PaidInTime.{bytes-are-paid, rate-some}
use Rattle.q_laws.proofs.share.LeastShare.{drr-node}
use Rattle.q_laws.proofs.share.PromiseNumbers.{late-room}
use Rattle.q_laws.proofs.share.PromiseWays.{on-way}
use Rattle.q_laws.proofs.turn.FifoTurns.{backlogged-so-far, class-within, fifos-wait-their-turn, line-at}
use Rattle.q_laws.proofs.turn.TurnBounds.{SendNoMore}
use Rattle.q_laws.proofs.turn.TurnKept.{bare-enough, linked-backlogged, linked-enough, linked-left}
use Rattle.q_laws.proofs.turn.TurnLimits.{end-of-way}

-- ---- the state of a class

schedule_or : Discipline → Schedule
schedule_or (Drr s) = s
schedule_or (Fifo limit queue) = no_classes 0
schedule_or (Prio priomap) = no_classes 0
schedule_or (Tbf bucket limit) = no_classes 0
schedule_or (FqCodel s) = no_classes 0

same-schedule : (s t : Schedule) → Drr s ≡ Drr t → s ≡ t
unfolding schedule_or
same-schedule s t e = ap schedule_or e

-- the drr of a class and the class, and what they tell
pub record NowIs (dev : DeviceState (List Note)) (d : DrrClass) : Type 0 where
  pub drr : Node (List Note)
  pub is : qdisc d.major dev ≡ Some drr
  pub class : ClassAt
  pub there : class_in d.major d.class.name dev ≡ Some class
  pub bytes : (len : ℕ) → bytes_before (id_of d) len dev.tree.root
      ≡ Some (length_held drr.own.held + turn_now d.class.name ((totals_in (beneath class.child)).bytes + len) class.schedule)

pub now-is : (dev : DeviceState (List Note)) → IsKept dev → (link : Option Link) (d : DrrClass) → LeadsTo link d dev → NowIs dev d
now-is dev kept link d leads =
    option_and_then_some (λ path. way_from path dev.tree.root dev.tree.root.own.discipline) (class_path (id_of d) dev.tree.root)
    (record { link = link; drrs = d ∷ [] }) leads by
  where
    by : (path : List ℕ) → class_path (id_of d) dev.tree.root ≡ Some path
        → way_from path dev.tree.root dev.tree.root.own.discipline ≡ Some (record { link = link; drrs = d ∷ [] }) → NowIs dev d
    by path is way =
        let root : Node (List Note) = dev.tree.root in
        let end = end-of-way path root link d way in
        let s = end.step in
        let o = on-way dev kept end.place [] end.drr d [] s end.within in
        let at = class-node d.major d.class.name dev o.class o.there in
        let same : at.node ≡ end.drr = same_Some at.node end.drr (sym at.there ∙ o.is) in
        let discipline : end.drr.own.discipline ≡ Drr o.class.schedule = ap (λ (n : Node (List Note)). n.own.discipline) (sym same) ∙ at.discipline in
        let schedule : s.at.schedule ≡ o.class.schedule = same-schedule s.at.schedule o.class.schedule (sym s.at.discipline ∙ discipline) in
        let placed : slice_get o.class.schedule.classes end.place ≡ Some d.class =
        ap (λ (t : Schedule). slice_get t.classes end.place) (sym schedule) ∙ s.at.class in
        record {
          drr = end.drr;
          is = o.is;
          class = o.class;
          there = o.there;
          bytes = λ len. ap (option_and_then (λ xs. bytes_along len xs root)) is ∙ end.along len
              ∙ ap (option_and_then (λ (c : Node (List Note)). bytes_in_drr end.place len end.drr.own c end.drr.own.discipline)) s.there
              ∙ ap (bytes_in_drr end.place len end.drr.own s.child) discipline
              ∙ ap (option_map (λ (c : Class). length_held end.drr.own.held
              + turn_now c.name ((totals_in (beneath s.child)).bytes + len) o.class.schedule)) placed
              ∙ ap (λ (k : Node (List Note)). Some (length_held end.drr.own.held
              + turn_now d.class.name ((totals_in (beneath k)).bytes + len) o.class.schedule)) (sym o.child_is);
        }

-- what is queued in a fifo are its bytes
pub fifo-beneath : (dev : DeviceState (List Note)) → IsKept dev → (c : Node (List Note)) (limit : Limit) → IsOf c dev.tree.root
    → limit_of c.own.discipline ≡ Some limit → bytes_in (line c) ≡ (totals_in (beneath c)).bytes
fifo-beneath dev kept c limit there fifo =
    let lawful = lawful-of dev.tree.device.mtu dev.clock c dev.tree.root kept.lawful there in
    let ends = lane-line dev.tree.device.mtu dev.clock [] c limit lawful fifo in
    ap bytes_in ends.queued ∙ ap (λ (k : Node (List Note)). bytes_in (beneath k)) (sym (same_Some c ends.at ends.there))

pub fifo-bytes : (dev : DeviceState (List Note)) → IsKept dev → (major i : ℕ) (class : ClassAt) (limit : Limit) → class_in major i dev ≡ Some class
    → limit_of class.child.own.discipline ≡ Some limit → bytes_in (class_line major i dev) ≡ (totals_in (beneath class.child)).bytes
fifo-bytes dev kept major i class limit there fifo =
    ap bytes_in (line-at major i dev class there) ∙ fifo-beneath dev kept class.child limit (class-within major i dev class there) fifo

-- ---- what the classes send

module _ (settings : DeviceSettings) (range : IsInRange settings) (before during : List Event) (link : Option Link) (d : DrrClass)
    (earlier : All IsEvent before) (stays : Throughout (IsTurn link d) settings before during) where
  abbrev start : DeviceState (List Note)
  start = device_after settings before

  pub first-is : NowIs (device_after settings before) d
  first-is = now-is (device_after settings before) (replay-kept settings before range earlier) link d (at-start (IsTurn link d) settings before during stays).0

  abbrev pub turn : ℕ
  turn = turn_now d.class.name ((totals_in (beneath first-is.class.child)).bytes + 0) first-is.class.schedule

  -- while the packet is in the fifo its class is active, and the turn is that of the law
  turn-is : HasClasses d.major d.classes (device_after settings before) → IsBackloggedClass d.major d.class.name d.class.quantum (device_after settings before)
      → bytes_of_turn d.class.name d.class.quantum d.classes first-is.class.schedule.active (bytes_in (class_line d.major d.class.name (device_after settings before)))
      ≡ turn
  turn-is has b =
      let kept = replay-kept settings before range earlier in
      let i : ℕ = d.class.name in
      let f = (at-start (IsTurn link d) settings before during stays).1 in
      let s : Schedule = first-is.class.schedule in
      let at = class-node d.major i start first-is.class first-is.there in
      let drr = drr-node d.major d.classes start has in
      let same_drr : drr.schedule ≡ s =
      same-schedule drr.schedule s (sym drr.discipline ∙ ap (λ (n : Node (List Note)). n.own.discipline) (same_Some drr.node at.node (sym drr.there ∙ at.there)) ∙ at.discipline) in
      let classes : d.classes ≡ s.classes = sym drr.same ∙ ap (λ (t : Schedule). t.classes) same_drr in
      let mine : b.class ≡ first-is.class = same_Some b.class first-is.class (sym b.there ∙ first-is.there) in
      let quantum : d.class.quantum ≡ quantum_of i s.classes = sym b.same_quantum ∙ ap (λ (c : ClassAt). quantum_of i c.schedule.classes) mine in
      let active : is_active i s.active ≡ true =
      ap (λ (c : ClassAt). is_active i c.schedule.active) (sym mine)
      ∙ backlogged-active d.major i start b.class kept (class-node d.major i start b.class b.there) b.queued in
      let awake : woken i s ≡ s =
      ap (λ (t : Bool). if t then s else record s { active = s.active ++ record { class = i; deficit = quantum_of i s.classes; granted = 0 } ∷ [] }) active in
      let fifo : f.class ≡ first-is.class = same_Some f.class first-is.class (sym f.there ∙ first-is.there) in
      let queued = fifo-bytes start kept d.major i first-is.class f.limit first-is.there
      (ap (λ (c : ClassAt). limit_of c.child.own.discipline) (sym fifo) ∙ f.fifo) in
      let bytes : bytes_in (class_line d.major i start) ≡ (totals_in (beneath first-is.class.child)).bytes + 0 = omega (arith, queued) in
      ap (λ q. bytes_of_turn i q d.classes s.active (bytes_in (class_line d.major i start))) quantum
      ∙ ap (λ (cs : List Class). bytes_of_turn i (quantum_of i s.classes) cs s.active (bytes_in (class_line d.major i start))) classes
      ∙ ap (λ n. bytes_of_turn i (quantum_of i s.classes) s.classes s.active n) bytes
      ∙ ap (λ (t : Schedule). bytes_of_turn i (quantum_of i s.classes) s.classes t.active ((totals_in (beneath first-is.class.child)).bytes + 0)) (sym awake)

  pub sends : SendNoMore settings before d.major d.class.name d.class.quantum d.classes turn
  sends seen last t happen has fifo keep inside there order low =
      let law = fifos-wait-their-turn settings range before seen d.major d.class.name d.class.quantum d.classes first-is.class last t earlier happen has fifo
      keep inside first-is.there there order low in
      let backlogged = backlogged-so-far settings range before seen d.major d.class.name d.class.quantum d.classes earlier happen
      (λ xs ys join. (has xs ys join, fifo xs ys join)) keep inside in
      let same = turn-is (at-start (HasClasses d.major d.classes) settings before seen has)
      (at-start (IsBackloggedClass d.major d.class.name d.class.quantum) settings before seen backlogged) in
      subst (λ n. all_sent d.major d.classes (device_after settings before) seen + shown_by t last ≤ n) same law

  -- the packet that the drr holds
  abbrev pub held : ℕ
  held = length_held first-is.drr.own.held

  pub holds : (n : Node (List Note)) → qdisc d.major (device_after settings before) ≡ Some n → length_held n.own.held ≤ held
  holds n is = omega (arith, ap (λ (k : Node (List Note)). length_held k.own.held) (same_Some n first-is.drr (sym is ∙ first-is.is)))

  -- what was answered
  pub answered-on : (w : Latest) → latest_in_turn (id_of d) 0 settings.mtu (device_after settings before) link ≡ Some w
      → latest_on settings.mtu (device_after settings before).clock (held + turn)
      (level_of (device_after settings before).clock (device_after settings before).tree.root.own.discipline) link ≡ Some w
  answered-on w e =
      sym (ap (option_and_then (λ bytes. latest_on settings.mtu start.clock bytes (level_of start.clock start.tree.root.own.discipline) link)) (first-is.bytes 0)) ∙ e

-- ---- the laws

pub latest-turn-is-enough : (settings : DeviceSettings) → IsInRange settings → LatestTurnIsEnough settings
latest-turn-is-enough settings range before during link d w t earlier happen answered stays keep waits order low = by link answered stays
  where
    by : (o : Option Link) → latest_in_turn (id_of d) 0 settings.mtu (device_after settings before) o ≡ Some w
        → Throughout (IsTurn o d) settings before during
        → bytes_in (filter_map given_in (answers (device_after settings before) during))
        + length_held (given t (device_after settings (before ++ during)).tree) ≤ w.bytes
    by o answered stays =
        let start : DeviceState (List Note) = device_after settings before in
        let most : ℕ = turn settings range before during o d earlier stays in
        let first : ℕ = held settings range before during o d earlier stays in
        let level : Option ℕ = level_of start.clock start.tree.root.own.discipline in
        let told = answered-on settings range before during o d earlier stays w answered in
        let bytes = latest-bytes settings.mtu start.clock (first + most) level o w (fits settings.mtu start.clock (first + most) level o w told).is in
        let enough = within o stays in
        omega (arith, bytes, enough)
      where
        within : (o : Option Link) (stays : Throughout (IsTurn o d) settings before during)
            → bytes_in (filter_map given_in (answers (device_after settings before) during))
            + length_held (given t (device_after settings (before ++ during)).tree)
            ≤ held settings range before during o d earlier stays + turn settings range before during o d earlier stays
        within None stays =
            let enough = bare-enough settings range before during d (turn settings range before during None d earlier stays) earlier happen stays keep waits
            (sends settings range before during None d earlier stays) t order low in
            omega (arith, enough)
        within (Some l) stays =
            linked-enough settings range before during d (turn settings range before during (Some l) d earlier stays) earlier happen l stays keep waits
            (sends settings range before during (Some l) d earlier stays) (held settings range before during (Some l) d earlier stays)
            (holds settings range before during (Some l) d earlier stays) t order low

pub latest-turn-is-in-time : (settings : DeviceSettings) → IsInRange settings → LatestTurnIsInTime settings
latest-turn-is-in-time settings range before during e link d w at most late earlier happen happens answered timed lateness soon stays keep waits drained =
    let start : DeviceState (List Note) = device_after settings before in
    let sent : ℕ = turn settings range before during (Some link) d earlier stays in
    let first_held : ℕ = held settings range before during (Some link) d earlier stays in
    let bytes : ℕ = first_held + sent in
    let sends_it = sends settings range before during (Some link) d earlier stays in
    let holds_it = holds settings range before during (Some link) d earlier stays in
    let left = linked-left settings range before during d sent earlier happen link stays keep waits sends_it first_held holds_it in
    let queued = linked-backlogged settings range before during d sent earlier happen link stays keep waits sends_it first_held holds_it in
    let here = at-start (IsBackloggedLink link.handle link.rate link.burst) settings before during queued in
    let first : TbfAt = here.tbf.tbf in
    let level : ℕ = level_at first.bucket start.clock in
    let root_is = root-is link.handle link.rate link.burst start (record { tbf = here.tbf; root = here.root; alone = here.alone }) in
    let bucket = root-bucket link.handle link.rate link.burst start (record { tbf = here.tbf; root = here.root; alone = here.alone }) in
    let told = (fits settings.mtu start.clock bytes (level_of start.clock start.tree.root.own.discipline) (Some link) w
    (answered-on settings range before during (Some link) d earlier stays w answered)).is in
    let numbers : LatestIs settings.mtu start.clock bytes level link w =
    below-is settings.mtu start.clock bytes level link w
    (sym (ap (λ (b : TokenBucket). latest_at settings.mtu start.clock bytes link (level_at b start.clock)) bucket)
    ∙ sym (ap (λ (k : Discipline). latest_of_bytes settings.mtu start.clock bytes (level_of start.clock k) (Some link)) root_is.is) ∙ told) in
    let latest_late : most ≡ late_on settings.mtu link = same_Some most (late_on settings.mtu link) (sym lateness ∙ numbers.late) in
    let least : settings.mtu * units_in_byte + link.rate ≤ link.burst * units_in_byte =
    leb-true (settings.mtu * units_in_byte + link.rate) (link.burst * units_in_byte) numbers.room in
    let whole_room : HasRoom settings.mtu most link.rate link.burst = late-room settings.mtu most link least latest_late in
    let room_rises : link.rate * (late + 1) ≤ link.rate * (most + 1) = mul-le-mul_left link.rate (omega (arith, soon)) in
    let some : 1 ≤ link.rate =
    subst (λ n. 1 ≤ n) here.tbf.same_rate (rate-some link.handle start first (replay-kept settings before range earlier) here.tbf.there) in
    let rises : link.rate * late ≤ link.rate * late_on settings.mtu link = mul-le-mul_left link.rate (omega (arith, soon, latest_late)) in
    let whole : max link.rate 1 ≡ link.rate = omega (arith, some) in
    let is : at ≡ start.clock + div_ceil (bytes * units_in_byte - counted_level (late_on settings.mtu link) link level) link.rate =
    same_Some at (paid_at start.clock link (counted_level (late_on settings.mtu link) link level) bytes) (sym timed ∙ numbers.at)
    ∙ ap (λ r. start.clock + div_ceil (bytes * units_in_byte - counted_level (late_on settings.mtu link) link level) r) whole in
    let less : bytes * units_in_byte - level_counted late link.rate link.burst level
    ≤ bytes * units_in_byte - counted_level (late_on settings.mtu link) link level = omega (arith, rises) in
    let ceil = ceil-rises (bytes * units_in_byte - level_counted late link.rate link.burst level)
    (bytes * units_in_byte - counted_level (late_on settings.mtu link) link level) link.rate some less in
    let paid = bytes-are-paid settings range before during e link.handle link.rate link.burst late bytes first earlier happen happens
    (omega (arith, whole_room, room_rises)) queued left drained here.tbf.there in
    later-still (latest start.clock link.rate (level_counted late link.rate link.burst level) bytes) at late
    (device_after settings (before ++ during)) (step history (device_after settings (before ++ during)) e).device (omega (arith, is, ceil)) paid
