-- A device of the code keeps its invariant, whatever happens to it.
use Rattle.std.proofs.Common.{◌≡◌, ℕ, ◌+◌, ◌*◌, ◌<◌, ◌≤◌, ◌^◌, List, [], ◌∷◌, ◌++◌, length, take, drop, refl, sym, ap, subst, Some, None, arith, ◌∙◌}
use Rattle.std.specs.Prelude.{Bool, true, false, Option, if◌then◌else◌, is_some, min, slice_get, vec_capacity}
use Rattle.std.proofs.lemmas.List.{length-append, length-drop}
use Rattle.std.proofs.lemmas.List.Elements.{All-nil, All-cons, All-append}
use Rattle.q_codel.specs.Losses.{LossList}
use Rattle.q_codel.specs.declared.loss.Loss.{Loss}
use Rattle.q_packet.specs.Descriptor.{Descriptor}
use Rattle.q_model.specs.declared.event.Event.{Event}
use Rattle.q_model.specs.declared.event.Event.TheVariants as event
use Rattle.q_model.specs.declared.totals.Totals.{Totals}
use Rattle.q_model.specs.Beneath.{beneath}
use Rattle.q_model.specs.Events.{IsEvent}
use Rattle.q_model.specs.Lawful.{IsLawfulTree}
use Rattle.q_model.specs.Ranges.{HasPacketFields}
use Rattle.q_model.specs.Route.{Route, device_route}
use Rattle.q_model.specs.Settings.{DeviceSettings, IsInRange}
use Rattle.q_model.specs.Step.{DeviceState, counts_at, new_device, step}
use Rattle.q_model.specs.Tally.{Counts, totals}
use Rattle.q_model.specs.TreeState.{given}
use Rattle.q_invariants.proofs.Replays.{not-after}
use Rattle.q_tree.specs.arrival.Arrivals.{CanCount}
use Rattle.q_tree.specs.Kept.{Kept}
use Rattle.q_tree.specs.route.RouteSeen.{RouteSeen, route_seen}
use Rattle.q_tree.specs.TreeSeen.{CanArrive, numbers}
use Rattle.q_device.specs.declared.device.Device.TheInside.{Inside}
use Rattle.q_device.specs.Counters.{arrived_after, sent_by}
use Rattle.q_device.specs.device.DeviceSeen.{DeviceSeen, HasRoomFor, longest, opened, as_counted, most_events, reaped, with_event}
use Rattle.q_device.specs.device.Keeping.{device_seen, events_of, others_after, IsKeptDevice}
use Rattle.q_device.specs.Replayed.{IsReplayOf}
use Rattle.q_device.proofs.device.EventLemmas.{waits-numbers, waits-same, Happened, event-seen}
use Rattle.q_device.proofs.device.ReplayedLemmas.{opened-replay, replay-with, replay-more, replay-reaped}
use Rattle.q_device.proofs.laws.LawfulLemmas.{losses-told, seen-lawful, seen-arrived, seen-sent, queued-after}
use Rattle.q_device.proofs.log.RecorderLemmas.{grows}

opened-seen : (a : Inside) → numbers a.tree ≡ new_device totals a.settings → a.losses.waiting ≡ [] → a.handed_out ≡ 0 → a.recorded.items ≡ []
    → events_of a ≡ 0 → device_seen a ≡ opened a.settings (device_seen a).memory
opened-seen a device waiting handed_out recorded events = λ i. record {
  settings = a.settings;
  device = device i;
  waiting = waiting i;
  handed_out = handed_out i;
  recorded = recorded i;
  events = events i;
  memory = (device_seen a).memory;
}

none-yet : (a : Inside) → numbers a.tree ≡ new_device totals a.settings → a.others ≡ 0 → events_of a ≡ 0
none-yet a device others = omega (arith, ap (λ (d : DeviceState Counts). d.tree.top.arrived.packets) device, ap (λ (d : DeviceState Counts). d.tree.top.sent.packets) device, others)

pub new-kept : (a : Inside) → IsInRange a.settings → numbers a.tree ≡ new_device totals a.settings → a.losses.waiting ≡ [] → a.handed_out ≡ 0 → a.recorded.items ≡ [] → a.spare ≡ 0 → a.others ≡ 0
    → a.settings.recorder ≤ vec_capacity a.recorded → IsKeptDevice a
new-kept a range device waiting handed_out recorded spare others recorder = let is = opened-seen a device waiting handed_out recorded (none-yet a device others) in record {
  happened = [];
  events = All-nil IsEvent;
  settings = range;
  replayed = subst (IsReplayOf []) (sym is) (opened-replay a.settings (device_seen a).memory);
  room =
      let empty : beneath a.tree.tree.root ≡ [] = sym (waits-numbers a.tree) ∙ ap (λ (d : DeviceSeen). beneath d.device.tree.root) is in
      omega (arith, ap (λ (ps : List Descriptor). length ps) empty, ap (λ (d : DeviceSeen). length d.waiting) is, spare);
  recorder = recorder;
  full = λ some. absurd (omega (arith, some, spare));
  packets = omega (arith, spare, ap (λ (d : DeviceSeen). d.device.tree.top.arrived.packets) is);
  bytes = omega (arith, spare, ap (λ (d : DeviceSeen). d.device.tree.top.arrived.bytes) is);
}

-- what is seen once a loss was handed out, or where none waits
pub reaped-seen : (a : Inside) (losses : LossList) (handed_out : ℕ) → losses ≡ record a.losses { waiting = drop 1 a.losses.waiting } → handed_out ≡ a.handed_out + length (take 1 a.losses.waiting)
    → device_seen (record a { losses = losses; handed_out = handed_out }) ≡ reaped (device_seen a)
reaped-seen a losses handed_out is counted = λ i. record (device_seen a) { waiting = (is i).waiting; handed_out = counted i; memory = record (device_seen a).memory { losses = (is i).places } }

-- how many a reap hands out
pub handed-none : (n : ℕ) (ls : List Loss) → None ≡ slice_get ls 0 → n ≡ n + length (take 1 ls)
handed-none n [] first = omega arith
handed-none n (l ∷ ls) first = cc

pub handed-one : (n : ℕ) (l : Loss) (ls : List Loss) → Some l ≡ slice_get ls 0 → n + 1 ≡ n + length (take 1 ls)
handed-one n l [] first = cc
handed-one n l (x ∷ ls) first = refl

-- an event is in its ranges as it counts
counted-event : (d : DeviceState Counts) (e : Event) → d.clock ≤ 2 ^ 62 → IsEvent e → IsEvent (as_counted d e)
counted-event d (event.Arrive p moment) low is = (is.0, not-after d.clock moment (2 ^ 62) low is.1)
counted-event d (event.Poll moment) low is = not-after d.clock moment (2 ^ 62) low is
counted-event d (event.Command c moment) low is = (is.0, not-after d.clock moment (2 ^ 62) low is.1)

module _ (a : Inside) (k : IsKeptDevice a) where
  pub kept-lawful : IsLawfulTree totals (device_seen a).device.clock (device_seen a).device.tree
  kept-lawful = seen-lawful k.happened (device_seen a) k.replayed k.settings k.events

  pub kept-arrived : (e : Event) → IsEvent e → (step totals (device_seen a).device e).device.tree.top.arrived ≡ arrived_after e (device_seen a).device.tree.top.arrived
  kept-arrived e is = seen-arrived k.happened (device_seen a) k.replayed k.settings k.events e is

  pub kept-sent : (e : Event) → IsEvent e → (step totals (device_seen a).device e).device.tree.top.sent.packets ≡ (device_seen a).device.tree.top.sent.packets + sent_by e (device_seen a).device
  kept-sent e is = seen-sent k.happened (device_seen a) k.replayed k.settings k.events e is

  -- one event more is counted
  pub events-after : (e : Event) (b : Inside) → IsEvent e → numbers b.tree ≡ (step totals (numbers a.tree) e).device
      → b.others ≡ others_after e (numbers a.tree) a.others → events_of b ≡ min (events_of a + 1) most_events
  events-after e b is device others =
      let arrived : b.tree.tree.top.counts.arrived.packets ≡ (arrived_after e a.tree.tree.top.counts.arrived).packets =
      ap (λ (x : DeviceState Counts). x.tree.top.arrived.packets) device ∙ ap (λ (t : Totals). t.packets) (kept-arrived e is) in
      let sent : b.tree.tree.top.counts.sent.packets ≡ a.tree.tree.top.counts.sent.packets + sent_by e (numbers a.tree) =
      ap (λ (x : DeviceState Counts). x.tree.top.sent.packets) device ∙ kept-sent e is in
      (λ i. min (arrived i + sent i + others i) most_events) ∙ one-more e a.tree.tree.top.counts.arrived a.tree.tree.top.counts.sent.packets a.others
    where
      given-more : (b : Bool) (t s n : ℕ) → min (t + (s + (if b then 1 else 0)) + (if b then n else min (n + 1) most_events)) most_events ≡ min (min (t + s + n) most_events + 1) most_events
      given-more true t s n = omega arith
      given-more false t s n = omega arith

      one-more : (e : Event) (t : Totals) (s n : ℕ)
          → min ((arrived_after e t).packets + (s + sent_by e (numbers a.tree)) + others_after e (numbers a.tree) n) most_events ≡ min (min (t.packets + s + n) most_events + 1) most_events
      one-more (event.Arrive p moment) t s n = omega arith
      one-more (event.Poll moment) t s n = given-more (is_some (given (counts_at moment (numbers a.tree)) (numbers a.tree).tree)) t.packets s n
      one-more (event.Command c moment) t s n = omega arith

  -- after an event, for whose losses there was room
  pub event-kept : (e : Event) (b : Inside) → Happened a e b → IsEvent e → b.spare ≤ a.spare
      → (arrived_after e a.tree.tree.top.counts.arrived).packets + b.spare < 2 ^ 64 → (arrived_after e a.tree.tree.top.counts.arrived).bytes + b.spare * longest < 2 ^ 64
      → length (beneath a.tree.tree.root) + (arrived_after e a.tree.tree.top.counts.arrived).packets + length a.losses.waiting + b.spare ≤ b.losses.places + a.tree.tree.top.counts.arrived.packets
      → IsKeptDevice b
  event-kept e b happened is spares packets bytes room =
      let seen = event-seen a e b happened in
      let d : DeviceSeen = device_seen a in
      let events : List Event = k.happened ++ as_counted d.device e ∷ [] in
      let replayed : IsReplayOf events (device_seen b) = subst (IsReplayOf events) (sym seen) (replay-with events (with_event e d) (device_seen b).memory (replay-more k.happened d k.replayed e)) in
      let settings : b.settings ≡ a.settings = ap (λ (x : DeviceSeen). x.settings) seen in
      let range : IsInRange b.settings = subst IsInRange (sym settings) k.settings in
      let counted : IsEvent (as_counted d.device e) = counted-event d.device e kept-lawful.moment is in
      let all = All-append IsEvent k.happened (as_counted d.device e ∷ []) k.events (All-cons IsEvent (as_counted d.device e) [] counted (All-nil IsEvent)) in
      let device : (device_seen b).device ≡ (step totals d.device e).device = ap (λ (x : DeviceSeen). x.device) seen in
      let arrived : (device_seen b).device.tree.top.arrived ≡ arrived_after e d.device.tree.top.arrived = ap (λ (x : DeviceState Counts). x.tree.top.arrived) device ∙ kept-arrived e is in
      let left = queued-after d.device (device_seen b).device e kept-lawful (seen-lawful events (device_seen b) replayed range all) device arrived in
      record {
        happened = events;
        events = all;
        settings = range;
        replayed = replayed;
        room = omega (
          arith,
          room,
          left,
          ap (λ (x : DeviceSeen). length x.waiting) seen,
          length-append a.losses.waiting (step totals d.device e).losses,
          ap (λ (ps : List Descriptor). length ps) (waits-numbers a.tree),
          ap (λ (ps : List Descriptor). length ps) (waits-numbers b.tree),
        );
        recorder = omega (arith, k.recorder, happened.capacity, ap (λ (s : DeviceSettings). s.recorder) settings);
        full =
            let longer : length a.recorded.items ≤ length b.recorded.items =
            subst (λ (es : List Event). length a.recorded.items ≤ length es) (sym happened.recorded) (grows a.settings.recorder (as_counted (numbers a.tree) e) a.recorded.items) in
            λ some. omega (arith, k.full (omega (arith, some, spares)), longer, ap (λ (s : DeviceSettings). s.recorder) settings);
        packets = omega (arith, packets, ap (λ (t : Totals). t.packets) arrived);
        bytes = omega (arith, bytes, ap (λ (t : Totals). t.bytes) arrived);
      }

  -- where more packets may arrive with nothing asked
  pub spared-kept : (n : ℕ) → length (beneath a.tree.tree.root) + length a.losses.waiting + n ≤ a.losses.places → a.tree.tree.top.counts.arrived.packets + n < 2 ^ 64
      → a.tree.tree.top.counts.arrived.bytes + n * longest < 2 ^ 64 → (1 ≤ n → a.settings.recorder ≤ length a.recorded.items) → IsKeptDevice (record a { spare = n })
  spared-kept n room packets bytes full =
      record {
        happened = k.happened;
        events = k.events;
        settings = k.settings;
        replayed = k.replayed;
        room = room;
        recorder = k.recorder;
        full =
            full;
        packets = packets;
        bytes = bytes;
      }

  -- the device can count a packet more, where one may arrive with nothing asked
  pub spared-counts : (p : Descriptor) → HasPacketFields p → 1 ≤ a.spare → CanCount a.tree.tree.top.counts.arrived p
  spared-counts p fields some = record { packets = omega (arith, k.packets, some); bytes = omega (arith, k.bytes, some, fields.len.1) }

  -- a loss more can be counted as handed out
  pub handed-fits : (l : Loss) → Some l ≡ slice_get a.losses.waiting 0 → a.handed_out + 1 < 2 ^ 64
  handed-fits l first = omega (arith, waits a.losses.waiting first, losses-told k.happened (device_seen a) k.replayed, kept-lawful.device.packets, k.packets)
    where
      waits : (ls : List Loss) → Some l ≡ slice_get ls 0 → 1 ≤ length ls
      waits [] e = cc
      waits (x ∷ rest) e = omega arith

  -- the oldest loss handed out
  pub reaped-kept : (l : Loss) (losses : LossList) → Some l ≡ slice_get a.losses.waiting 0
      → losses ≡ record a.losses { waiting = drop 1 a.losses.waiting } → IsKeptDevice (record a { losses = losses; handed_out = a.handed_out + 1 })
  reaped-kept l losses first is = subst (λ (x : LossList). IsKeptDevice (record a { losses = x; handed_out = a.handed_out + 1 })) (sym is) (record {
    happened = k.happened;
    events = k.events;
    settings = k.settings;
    replayed =
        subst (λ n. IsReplayOf k.happened (record (device_seen a) { waiting = drop 1 a.losses.waiting; handed_out = a.handed_out + n }))
        (one a.losses.waiting first) (replay-reaped k.happened (device_seen a) k.replayed);
    room = omega (arith, k.room, length-drop 1 a.losses.waiting);
    recorder = k.recorder;
    full = k.full;
    packets = k.packets;
    bytes = k.bytes;
  })
    where
      one : (ls : List Loss) → Some l ≡ slice_get ls 0 → length (take 1 ls) ≡ 1
      one [] e = cc
      one (x ∷ rest) e = refl

  -- where places were made, and a packet less may arrive with nothing asked or as many
  pub room-kept : (x : DeviceState Kept) (losses : LossList) (spare : ℕ) → numbers x ≡ numbers a.tree → losses ≡ record a.losses { places = losses.places } → spare ≤ a.spare
      → length (beneath a.tree.tree.root) + length a.losses.waiting + spare ≤ losses.places → IsKeptDevice (record a { tree = x; losses = losses; spare = spare })
  room-kept x losses spare same is spares fits = let b : Inside = record a { tree = x; losses = losses; spare = spare } in record {
    happened = k.happened;
    events = k.events;
    settings = k.settings;
    replayed =
        subst (IsReplayOf k.happened) (λ i. record (device_seen b) {
          device = sym same i;
          waiting = ap (λ (l : LossList). l.waiting) (sym is) i;
          events = ap
              (λ (d : DeviceState Counts). min (d.tree.top.arrived.packets + d.tree.top.sent.packets + a.others) most_events) (sym same) i;
        })
        (replay-with k.happened (device_seen a) (device_seen b).memory k.replayed);
    room = omega (arith, fits, waits-same x a.tree same, ap (λ (l : LossList). length l.waiting) is);
    recorder = k.recorder;
    full = λ some. k.full (omega (arith, some, spares));
    packets = omega (arith, k.packets, spares, ap (λ (d : DeviceState Counts). d.tree.top.arrived.packets) same);
    bytes = omega (arith, k.bytes, spares, ap (λ (d : DeviceState Counts). d.tree.top.arrived.bytes) same);
  }

-- nothing was lost where more places were made, or by a call that kept the places
pub only-places : (before made after : LossList) → made ≡ record before { places = made.places } → after.waiting ≡ made.waiting → after ≡ record before { places = after.places }
only-places before made after is none = λ i. record { waiting = (none ∙ ap (λ (l : LossList). l.waiting) is) i; places = after.places }

-- what there was room for there is room for still, where places were made alone
pub room-still : (a : Inside) (x : DeviceState Kept) (l : LossList) → numbers x ≡ numbers a.tree
    → ((p : Descriptor) → device_route p x.tree.device.mtu x.tree.root ≡ device_route p a.tree.tree.device.mtu a.tree.tree.root) → ((r : RouteSeen) → CanArrive r a.tree → CanArrive r x)
    → l ≡ record a.losses { places = l.places } → a.losses.places ≤ l.places → (p : Descriptor) → HasRoomFor p (device_seen a) → HasRoomFor p (device_seen (record a { tree = x; losses = l }))
room-still a x l same routes keeps is grows p h = record {
  tree = subst (λ (r : Option Route). CanArrive (record { len = p.len; route = r }) x) (sym (routes p)) (keeps (route_seen p a.tree.tree.device.mtu a.tree.tree.root) h.tree);
  losses = omega (arith, h.losses, grows, ap (λ (q : LossList). length q.waiting) is, ap (λ (d : DeviceState Counts). length (beneath d.tree.root)) same);
}
