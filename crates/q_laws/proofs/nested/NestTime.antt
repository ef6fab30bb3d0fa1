-- Below a tbf at the root: a packet in a class at the end of a way through drrs leaves in time, since what is left to pay until then is bounded.
use Rattle.std.proofs.Common.{◌≡◌, ℕ, ◌+◌, ◌-◌, ◌*◌, ◌≤◌, ◌^◌, max, List, [], ◌∷◌, ◌++◌, map, sym, ap, subst, ◌∙◌, Some, None, arith}
use Rattle.std.specs.Prelude.{All, slice_get}
use Rattle.std.specs.Int.{div_ceil}
use Rattle.std.proofs.lemmas.List.{append_assoc}
use Rattle.std.proofs.lemmas.List.Elements.{All-append}
use Rattle.std.proofs.lemmas.Option.{same_Some}
use Rattle.q_bucket.specs.Level.{level_at, units_in_byte}
use Rattle.q_drr.specs.Schedule.{quantum_of}
use Rattle.q_model.specs.declared.event.Event.{Event}
use Rattle.q_model.specs.declared.event.Event.TheVariants as event
use Rattle.q_model.specs.Ask.{ask}
use Rattle.q_model.specs.Events.{IsEvent}
use Rattle.q_model.specs.Node.{Node, children, shape}
use Rattle.q_model.specs.Settings.{DeviceSettings, IsInRange}
use Rattle.q_model.specs.Step.{DeviceState, step}
use Rattle.q_model.specs.Stretches.{bytes_sent, length_held, qdisc, TbfAt, Throughout}
use Rattle.q_model.specs.Tally.{Note, history}
use Rattle.q_model.specs.Work.{booked}
use Rattle.q_invariants.proofs.Replays.{IsKept, replay-kept}
use Rattle.q_invariants.proofs.tree.Members.{All-front}
use Rattle.q_tree.specs.declared.answers.ways.Link.{Link}
use Rattle.q_tree.specs.answers.Ways.{share_of}
use Rattle.q_device.specs.promises.Worst.{time_of}
use Rattle.q_device.specs.Sharing.{device_after}
use Rattle.q_device.proofs.ClassStretches.{at-start}
use Rattle.q_laws.specs.nested.NestedTurn.{IsPath, KeepsBelow, NestedTurnIsInTime, StaysOn, bytes_below, most_of_turns, reached_by, share_at}
use Rattle.q_laws.specs.rate.Delay.{IsLeft, latest, level_counted}
use Rattle.q_laws.specs.rate.Rate.{IsBackloggedLink}
use Rattle.q_laws.specs.share.Delivered.{level_of, levels_of}
use Rattle.q_laws.specs.share.InTime.{Level, last_level}
use Rattle.q_laws.specs.turn.FifoTurn.{KeepFifo}
use Rattle.q_laws.proofs.line.LineDelay.{ceil-rises, later-still}
use Rattle.q_laws.proofs.nested.NestKept.{frees, overs, paths, same-shares}
use Rattle.q_laws.proofs.nested.NestTurns.{reached-at}
use Rattle.q_laws.proofs.nested.PathTurns.{path-full, path-has, path-stays, paths-are-bounded}
use Rattle.q_laws.proofs.rate.PaidInTime.{bytes-are-paid, rate-some}
use Rattle.q_laws.proofs.share.LeastShare.{drr-node}
use Rattle.q_laws.proofs.share.PassedStretches.{same-classes}
use Rattle.q_laws.proofs.share.PromiseWays.{queued-above}
use Rattle.q_laws.proofs.share.ShareInTime.{held-in}
use Rattle.q_laws.proofs.turn.FifoTurns.{keep-fifo}
use Rattle.q_laws.proofs.turn.TurnBounds.{DrrShape, handed}
use Rattle.q_laws.proofs.turn.TurnPaid.{next-is-drr, pays}
use Rattle.q_laws.proofs.turn.TurnPolls.{IsOver, IsStagedNext, asked-next, child-next, class-next, drr-next, fifo-next, has-next, staged}
use Rattle.q_laws.proofs.turn.TurnWaits.{booked-sent, keeps-poll, one-more, one-more-holds}

-- ---- a poll that comes next

path-next : (l : Level) (levels : List Level) (d : DeviceState (List Note)) → IsKept d → (moment : ℕ) → moment ≤ 2 ^ 62 → IsPath l levels d → (n : Node (List Note))
    → qdisc l.major d ≡ Some n → IsStagedNext l.major d moment n → IsPath l levels (step history d (event.Poll moment)).device
path-next l [] d kept moment low h n is asked = (
  has-next l.major d moment l.classes kept low h.0 n is asked,
  fifo-next l.major d moment l.classes kept low h.0 n is asked l.minor l.quantum h.1,
)
path-next l (k ∷ levels) d kept moment low h n is asked =
    let x = h.2.class in
    let c = child-next l.major d moment l.classes kept low h.0 n is asked l.minor x h.2.there in
    let y = class-next l.major d moment l.classes kept low h.0 n is asked l.minor x h.2.there in
    let mine : IsStagedNext k.major d moment x.child = record { worked = c.staged_child.worked; stage = c.staged_child.stage; there = c.staged_child.there } in
    let quantum = ap (quantum_of l.minor) (sym (same-classes l.major l.classes d l.minor h.1.class h.0 h.1.there)) ∙ h.1.same_quantum in
    let inner = drr-next k.major d moment k.classes kept low (path-has k levels d h.3) x.child h.2.child mine in (
      has-next l.major d moment l.classes kept low h.0 n is asked,
      record { class = y.class; there = y.there; same_quantum = y.same_quantum ∙ quantum },
      record { class = y.class; there = y.there; child = inner ∙ ap Some c.becomes_is },
      path-next k levels d kept moment low h.3 x.child h.2.child mine,
    )

-- ---- what the drr at the top shows next

module _ (settings : DeviceSettings) (range : IsInRange settings) (before seen : List Event) (l : Level) (levels : List Level) (bytes : ℕ) (earlier : All IsEvent before)
    (happen : All IsEvent seen) (path : Throughout (IsPath l levels) settings before seen) (here : IsPath l levels (device_after settings (before ++ seen)))
    (keep : KeepsBelow l levels (device_after settings before) seen) (few : bytes_below l levels (device_after settings before) ≤ bytes)
    (stays : StaysOn l levels settings before seen) (n : Node (List Note)) (is : qdisc l.major (device_after settings (before ++ seen)) ≡ Some n) where
  shown-now : (moment : ℕ) → moment ≤ 2 ^ 62 → (link : Link) → IsOver (Some link) l.major (device_after settings (before ++ seen))
      → (device_after settings (before ++ seen)).tree.root.own.held ≡ None
      → bytes_sent n.memory + length_held (ask (max (device_after settings (before ++ seen)).clock moment) (shape n)).shown
      ≤ reached_by l.major (device_after settings before) + most_of_turns settings.mtu bytes (share_at l) (map share_at levels)
  shown-now moment low link over free =
      let d : DeviceState (List Note) = device_after settings (before ++ seen) in
      let poll : Event = event.Poll moment in
      let kept : IsKept d = replay-kept settings (before ++ seen) range (All-append IsEvent before seen earlier happen) in
      let asked = asked-next l.major d moment (Some link) n over free is in
      let stand = staged l.major d moment n asked in
      let back = sym (one-more settings before seen poll) in
      let has = path-has l levels d here in
      let path_now = one-more-holds (IsPath l levels) settings before seen poll path
      (subst (IsPath l levels) back (path-next l levels d kept moment low here n is stand)) in
      let bound = paths-are-bounded settings range before seen poll l levels bytes earlier happen low path_now
      (keeps-poll (last_level l levels).major (last_level l levels).minor (device_after settings before) seen moment keep) few stays in
      let there = drr-next l.major d moment l.classes kept low has n is stand in
      let reached_now = reached-at l.major (device_after settings (before ++ (seen ++ poll ∷ []))) (booked history n asked.worked)
      (subst (λ (z : DeviceState (List Note)). qdisc l.major z ≡ Some (booked history n asked.worked)) back there) in
      let drr = drr-node l.major l.classes d has in
      let shape_n : DrrShape n = (drr.schedule, ap (λ (q : Node (List Note)). q.own.discipline) (same_Some n drr.node (sym is ∙ drr.there)) ∙ drr.discipline) in
      let hands = handed (max d.clock moment) n shape_n asked.worked asked.stage in
      omega (arith, bound, reached_now, booked-sent n asked.worked, hands)

  shown-next : (t : ℕ) → (device_after settings (before ++ seen)).clock ≤ t → t ≤ 2 ^ 62 → (link : Link) → IsOver (Some link) l.major (device_after settings (before ++ seen))
      → (device_after settings (before ++ seen)).tree.root.own.held ≡ None
      → bytes_sent n.memory + length_held (ask t (shape n)).shown
      ≤ reached_by l.major (device_after settings before) + most_of_turns settings.mtu bytes (share_at l) (map share_at levels)
  shown-next t order low link over free =
      let same : max (device_after settings (before ++ seen)).clock t ≡ t = omega (arith, order) in
      subst (λ u. bytes_sent n.memory + length_held (ask u (shape n)).shown
      ≤ reached_by l.major (device_after settings before) + most_of_turns settings.mtu bytes (share_at l) (map share_at levels)) same (shown-now t low link over free)

-- ---- the law

pub nested-turn-is-in-time : (settings : DeviceSettings) → IsInRange settings → NestedTurnIsInTime settings
nested-turn-is-in-time settings range before events e link class a ds bytes late earlier happen happens room stays keep few yet drained =
    let start : DeviceState (List Note) = device_after settings before in
    let most : ℕ = settings.mtu + most_of_turns settings.mtu bytes (share_of a) (map share_of ds) in
    let here = at-start (IsBackloggedLink link.handle link.rate link.burst) settings before events backlogged in
    let first : TbfAt = here.tbf.tbf in
    let some : 1 ≤ link.rate = subst (λ n. 1 ≤ n) here.tbf.same_rate (rate-some link.handle start first (replay-kept settings before range earlier) here.tbf.there) in
    let level : ℕ = level_counted late link.rate link.burst (level_at first.bucket start.clock) in
    let paid = bytes-are-paid settings range before events e link.handle link.rate link.burst late most first earlier happen happens room backlogged left drained
    here.tbf.there in
    let no_later = ceil-rises (most * units_in_byte - level) (most * units_in_byte) link.rate some (omega arith) in
    let whole : max link.rate 1 ≡ link.rate = omega (arith, some) in
    let time : time_of most link ≡ div_ceil (most * units_in_byte) link.rate = ap (λ r. div_ceil (most * units_in_byte) r) whole in
    later-still (latest start.clock link.rate level most) (start.clock + time_of most link) late (device_after settings (before ++ events))
    (step history (device_after settings (before ++ events)) e).device (omega (arith, no_later, time)) paid
  where
    path : Throughout (IsPath (level_of a) (levels_of ds)) settings before events
    path = paths settings range before events (Some link) class a ds earlier happen stays

    over : Throughout (IsOver (Some link) a.major) settings before events
    over = overs settings range before events (Some link) class a ds earlier happen stays

    front : (seen rest : List Event) → seen ++ rest ≡ events → All IsEvent seen
    front seen rest s = All-front IsEvent seen rest (subst (All IsEvent) (sym s) happen)

    drr : (seen rest : List Event) → seen ++ rest ≡ events → (n : Node (List Note)) × (qdisc a.major (device_after settings (before ++ seen)) ≡ Some n)
    drr seen rest s =
        let d = drr-node a.major a.classes (device_after settings (before ++ seen)) (path-has (level_of a) (levels_of ds) (device_after settings (before ++ seen)) (path seen rest s)) in
        (d.node, d.there)

    left : Throughout (IsLeft link.handle (settings.mtu + most_of_turns settings.mtu bytes (share_of a) (map share_of ds)) (device_after settings before)) settings before events
    left seen rest s t order low =
        let start : DeviceState (List Note) = device_after settings before in
        let d : DeviceState (List Note) = device_after settings (before ++ seen) in
        let n = drr seen rest s in
        let k = drr-node a.major a.classes start (path-has (level_of a) (levels_of ds) start (at-start (IsPath (level_of a) (levels_of ds)) settings before events path)) in
        let last = last_level (level_of a) (levels_of ds) in
        let shown = shown-next settings range before seen (level_of a) (levels_of ds) bytes earlier (front seen rest s)
        (λ xs ys j. path xs (ys ++ rest) (sym (append_assoc xs ys rest) ∙ ap (λ (zs : List Event). zs ++ rest) j ∙ s)) (path seen rest s)
        (keep-fifo last.major last.minor start seen rest (subst (KeepFifo last.major last.minor start) (sym s) keep)) few
        (path-stays settings range before earlier (level_of a) (levels_of ds) seen rest events s yet) n.0 n.1 t order low link (over seen rest s)
        (frees settings range before events (Some link) class a ds earlier happen stays seen rest s) in
        let paid = pays link a.major settings before seen range earlier (front seen rest s)
        (λ xs ys j. over xs (ys ++ rest) (sym (append_assoc xs ys rest) ∙ ap (λ (zs : List Event). zs ++ rest) j ∙ s)) k.node n.0 k.there n.1 in
        let next = next-is-drr link a.major t d n.0 (over seen rest s) n.1 in
        let held = held-in settings range before earlier a.major k.node k.there in
        omega (
          arith,
          shown,
          paid,
          next,
          held,
          reached-at a.major start k.node k.there,
          ap (λ xs. most_of_turns settings.mtu bytes (share_of a) xs) (same-shares ds),
        )

    backlogged : Throughout (IsBackloggedLink link.handle link.rate link.burst) settings before events
    backlogged seen rest s =
        let d : DeviceState (List Note) = device_after settings (before ++ seen) in
        let o = over seen rest s in
        let n = drr seen rest s in
        let only : children d.tree.root ≡ n.0 ∷ [] = o.3 ∙ ap (λ (m : Node (List Note)). m ∷ []) (same_Some o.1 n.0 (sym o.2 ∙ n.1)) in
        record {
          tbf = o.0.tbf;
          root = o.0.root;
          alone = o.0.alone;
          queued = queued-above d.tree.root n.0 0 (ap (λ (ns : List (Node (List Note))). slice_get ns 0) only)
              (path-full settings range before events (level_of a) (levels_of ds) bytes earlier happen path keep few yet seen rest s n.0 n.1);
        }
