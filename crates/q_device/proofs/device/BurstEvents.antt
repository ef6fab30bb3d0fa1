-- A burst at a fifo at the root of a device is so many events.
use Rattle.std.proofs.Common.{◌≡◌, ℕ, zero, suc, ◌+◌, ◌-◌, ◌<◌, ◌≤◌, ◌^◌, ◌∙◌, List, [], ◌∷◌, ◌++◌, length, map, max, min, refl, sym, ap, ap₂, subst, Option, Some, arith}
use Rattle.std.specs.Prelude.{replicate, is_some, slice_get, take, IfSome, Bool, true, false, nat_lt, if◌then◌else◌, ◌/◌}
use Rattle.std.proofs.lemmas.Bool.{ltb-false}
use Rattle.std.specs.List.{All, AllByRecursion}
use Rattle.std.proofs.lemmas.List.Elements.{All-weaker, recursion_from_All}
use Rattle.std.proofs.lemmas.List.{append-nil}
use Rattle.q_codel.specs.Bursts.{HasWidths, IsShort}
use Rattle.q_codel.specs.declared.loss.Loss.{Loss}
use Rattle.q_packet.specs.Descriptor.{Descriptor}
use Rattle.q_packet.specs.Stored.{IsStored, descriptor}
use Rattle.q_packet.specs.declared.stored_packet.StoredPacket.{StoredPacket}
use Rattle.q_model.specs.declared.event.Event.TheVariants as event
use Rattle.q_model.specs.declared.fate.Fate.{Fate}
use Rattle.q_model.specs.declared.fate.Fate.TheVariants.{Kept as Keeps}
use Rattle.q_model.specs.declared.reply.Reply.{Reply}
use Rattle.q_model.specs.declared.reply.Reply.TheVariants as reply
use Rattle.q_model.specs.Beneath.{beneath, is_empty}
use Rattle.q_model.specs.Node.{shape}
use Rattle.q_model.specs.Ranges.{HasPacketFields}
use Rattle.q_model.specs.Route.{device_route}
use Rattle.q_model.specs.Step.{arrive, poll, polled_of, step}
use Rattle.q_model.specs.Tally.{totals}
use Rattle.q_model.specs.TreeState.{take_packet}
use Rattle.q_model.proofs.PacketFields.{packet-fields}
use Rattle.q_tree.specs.arrival.Places.{places_at}
use Rattle.q_tree.specs.Bursts.{AreGiven, AreKept, IsGivenAlone, IsKeptAlone, arrived_each, polled_each}
use Rattle.q_tree.specs.Kept.{kept}
use Rattle.q_tree.specs.TreeSeen.{numbers}
use Rattle.q_tree.proofs.OtherSubtrees.{put-root-places}
use Rattle.q_device.specs.declared.device.Device.TheInside.{Inside}
use Rattle.q_device.specs.device.Bursts.{AreGivenAt, after_polls, arrival, arrived_by, budget_at, fate_in, fates_by}
use Rattle.q_device.specs.device.DeviceSeen.{DeviceSeen, Memory, longest}
use Rattle.q_device.specs.device.Keeping.{IsKeptDevice, device_seen}
use Rattle.q_device.specs.device.Polls.{after_poll, given_at}
use Rattle.q_device.specs.Events.{after_event, reply_to, with_memory}
use Rattle.q_device.specs.Laws.{given_in}
use Rattle.q_device.proofs.device.EventLemmas.{Happened, event-seen, losses-step, numbers-step, polled, polled-device, polled-others, reply-step}
use Rattle.q_device.proofs.device.EventMemory.{after-memory, reply-memory}
use Rattle.q_device.proofs.device.KeptLemmas.{event-kept, events-after}
use Rattle.q_device.proofs.device.PollLemmas.{poll-is}
use Rattle.q_device.proofs.log.RecorderLemmas.{full}

-- ---- memory means nothing to what so many events make

pub arrived-memory : (now : ℕ) (cs : List StoredPacket) (m : Memory) (d : DeviceSeen) → arrived_by now cs (with_memory m d) ≡ with_memory m (arrived_by now cs d)
arrived-memory now [] m d = refl
arrived-memory now (c ∷ cs) m d = ap (λ (x : DeviceSeen). arrived_by now cs x) (after-memory (arrival now c) m d) ∙ arrived-memory now cs m (after_event (arrival now c) d)

pub fates-memory : (now : ℕ) (cs : List StoredPacket) (m : Memory) (d : DeviceSeen) → fates_by now cs (with_memory m d) ≡ fates_by now cs d
fates-memory now [] m d = refl
fates-memory now (c ∷ cs) m d =
    ap₂ (λ (r : Reply) (fs : List Fate). fate_in r ∷ fs) (reply-memory (arrival now c) m d)
    (ap (λ (x : DeviceSeen). fates_by now cs x) (after-memory (arrival now c) m d) ∙ fates-memory now cs m (after_event (arrival now c) d))

-- ---- arrivals

pub record ArriveHere (now : ℕ) (cs : List StoredPacket) (a b : Inside) : Type 0 where
  pub keeps : IsKeptDevice b
  pub seen : device_seen b ≡ with_memory (device_seen b).memory (arrived_by now cs (device_seen a))
  pub fates : fates_by now cs (device_seen a) ≡ replicate (length cs) Keeps
  pub places : (path : List ℕ) → places_at path a.tree.tree.root ≤ places_at path b.tree.tree.root

-- one packet
module _ (now at : ℕ) (c : StoredPacket) (a : Inside) (n : ℕ) (k : IsKeptDevice a) (is : at ≡ max a.tree.clock now) (low : now ≤ 2 ^ 62)
    (spare : n + 1 ≡ a.spare) (fields : HasPacketFields (descriptor c))
    (alone : IsKeptAlone kept at (descriptor c) a.tree) where
  abbrev pub once : Inside
  once = record a { tree = (arrive kept (descriptor c) at a.tree).device; spare = n }

  device : numbers once.tree ≡ (step totals (numbers a.tree) (event.Arrive (descriptor c) now)).device
  device = ap (λ t. numbers (arrive kept (descriptor c) t a.tree).device) is ∙ numbers-step (numbers a.tree) a.tree refl (event.Arrive (descriptor c) now)

  happened : Happened a (event.Arrive (descriptor c) now) once
  happened = record {
    settings = refl;
    device = device;
    waiting = sym (append-nil a.losses.waiting) ∙ ap (λ (ls : List Loss). a.losses.waiting ++ ls) (sym lost);
    handed_out = refl;
    recorded = full a.settings.recorder (event.Arrive (descriptor c) (max a.tree.clock now)) a.recorded.items (k.full (omega (arith, spare)));
    capacity = refl;
    events = events-after a k (event.Arrive (descriptor c) now) once (fields, low) device refl;
  }
    where
      lost : (step totals (numbers a.tree) (event.Arrive (descriptor c) now)).losses ≡ []
      lost = sym (losses-step (numbers a.tree) a.tree refl (event.Arrive (descriptor c) now)) ∙ ap (λ t. (arrive kept (descriptor c) t a.tree).losses) (sym is) ∙ alone.losses

  pub once-kept : IsKeptDevice once
  once-kept =
      event-kept a k (event.Arrive (descriptor c) now) once happened (fields, low) (omega (arith, spare)) (omega (arith, k.packets, spare))
      (omega (arith, k.bytes, spare, fields.len.1)) (omega (arith, k.room, spare))

  pub once-seen : device_seen once ≡ with_memory (device_seen once).memory (after_event (arrival now c) (device_seen a))
  unfolding after_event
  once-seen = event-seen a (event.Arrive (descriptor c) now) once happened

  pub once-fate : fate_in (reply_to (arrival now c) (device_seen a)) ≡ Keeps
  unfolding reply_to
  once-fate = ap fate_in (sym (reply-step (numbers a.tree) a.tree refl (event.Arrive (descriptor c) now)) ∙ ap (λ t. (arrive kept (descriptor c) t a.tree).reply) (sym is) ∙ alone.fate)

  pub once-places : (path : List ℕ) → places_at path a.tree.tree.root ≤ places_at path once.tree.tree.root
  once-places path = omega (arith, put-root-places at (descriptor c) (device_route (descriptor c) a.tree.tree.device.mtu (shape a.tree.tree.root)) a.tree.tree.root path)

pub arrive-here : (now at : ℕ) (cs : List StoredPacket) (a : Inside) (n : ℕ) → IsKeptDevice a → at ≡ max a.tree.clock now → now ≤ 2 ^ 62 → n + length cs ≡ a.spare
    → AllByRecursion (λ (c : StoredPacket). HasPacketFields (descriptor c)) cs → AreKept kept at (map descriptor cs) a.tree
    → ArriveHere now cs a (record a { tree = arrived_each kept at (map descriptor cs) a.tree; spare = n })
arrive-here now at [] a n k is low spare fields alone =
    let same : a.spare ≡ n = omega (arith, spare) in
    record { keeps = subst (λ m. IsKeptDevice (record a { spare = m })) same k; seen = refl; fates = refl; places = λ path. omega arith }
arrive-here now at (c ∷ cs) a n k is low spare fields alone =
    let m : ℕ = n + length cs in
    let left : m + 1 ≡ a.spare = omega (arith, spare) in
    let b : Inside = once now at c a m k is low left fields.0 alone.0 in
    let d : DeviceSeen = device_seen a in
    let seen = once-seen now at c a m k is low left fields.0 alone.0 in
    let rest = arrive-here now at cs b n (once-kept now at c a m k is low left fields.0 alone.0) (omega (arith, is)) low refl fields.1 alone.1 in
    let after : Inside = record a { tree = arrived_each kept at (map descriptor (c ∷ cs)) a.tree; spare = n } in
    record {
      keeps = rest.keeps;
      seen = rest.seen
          ∙ ap (λ (x : DeviceSeen). with_memory (device_seen after).memory (arrived_by now cs x)) seen
          ∙ ap (λ (x : DeviceSeen). with_memory (device_seen after).memory x) (arrived-memory now cs (device_seen b).memory (after_event (arrival now c) d));
      fates = ap₂ (λ (f : Fate) (fs : List Fate). f ∷ fs) (once-fate now at c a m k is low left fields.0 alone.0)
          (sym (ap (λ (x : DeviceSeen). fates_by now cs x) seen ∙ fates-memory now cs (device_seen b).memory (after_event (arrival now c) d)) ∙ rest.fates);
      places = λ path. omega (arith, once-places now at c a m k is low left fields.0 alone.0 path, rest.places path);
    }

-- ---- polls

pub record PollHere (now : ℕ) (ps : List Descriptor) (a b : Inside) : Type 0 where
  pub keeps : IsKeptDevice b
  pub seen : device_seen b ≡ after_polls now (length ps) (device_seen a)
  pub given : AreGivenAt now ps (device_seen a)

-- one poll
module _ (now at : ℕ) (p : Descriptor) (a : Inside) (k : IsKeptDevice a) (is : at ≡ max a.tree.clock now) (low : now ≤ 2 ^ 62)
    (none-recorded : a.settings.recorder ≤ length a.recorded.items) (alone : IsGivenAlone kept at p a.tree) where
  abbrev pub gave : Inside
  gave = record a { tree = (poll kept at a.tree).device }

  polled-once : Happened a (event.Poll now) gave
  polled-once =
      let others = polled-others a now at a.others true is (ap is_some (sym alone.packet)) refl in
      polled a gave now at is refl refl (sym (append-nil a.losses.waiting) ∙ ap (λ (ls : List Loss). a.losses.waiting ++ ls) (sym alone.losses)) refl
      (full a.settings.recorder (event.Poll at) a.recorded.items none-recorded) refl (events-after a k (event.Poll now) gave low (polled-device a gave now at is refl) others)

  pub gave-kept : IsKeptDevice gave
  gave-kept = event-kept a k (event.Poll now) gave polled-once low (omega arith) k.packets k.bytes (omega (arith, k.room))

  gave-event : device_seen gave ≡ with_memory (device_seen gave).memory (after_event (event.Poll now) (device_seen a))
  unfolding after_event
  gave-event = event-seen a (event.Poll now) gave polled-once

  pub gave-seen : device_seen gave ≡ after_poll now (device_seen a)
  gave-seen = poll-is now (device_seen a) (device_seen gave) gave-event refl

  pub gave-given : given_at now (device_seen a) ≡ Some p
  unfolding reply_to
  gave-given =
      ap given_in (sym (reply-step (numbers a.tree) a.tree refl (event.Poll now)) ∙ ap (λ t. (poll kept t a.tree).reply) (sym is)
      ∙ ap (λ (g : Option Descriptor). reply.Polled (polled_of g (is_empty (shape (take_packet kept at a.tree.tree).root)))) alone.packet)

pub poll-here : (now at : ℕ) (ps : List Descriptor) (a : Inside) → IsKeptDevice a → at ≡ max a.tree.clock now → now ≤ 2 ^ 62
    → a.settings.recorder ≤ length a.recorded.items → AreGiven kept at ps a.tree
    → PollHere now ps a (record a { tree = polled_each kept at (length ps) a.tree })
poll-here now at [] a k is low none-recorded alone = record { keeps = k; seen = refl; given = tt }
poll-here now at (p ∷ ps) a k is low none-recorded alone =
    let b : Inside = gave now at p a k is low none-recorded alone.0 in
    let seen = gave-seen now at p a k is low none-recorded alone.0 in
    let rest = poll-here now at ps b (gave-kept now at p a k is low none-recorded alone.0) (omega (arith, is)) low none-recorded alone.1 in
    record {
      keeps = rest.keeps;
      seen = rest.seen ∙ ap (λ (x : DeviceSeen). after_polls now (length ps) x) seen;
      given = (gave-given now at p a k is low none-recorded alone.0, subst (λ (x : DeviceSeen). AreGivenAt now ps x) seen rest.given);
    }

-- ---- what a burst may bring

some-budget : (n r s m : ℕ) (b : Bool) → nat_lt r s ≡ b → n < (if b then 0 else m) → (s ≤ r) × (n < m)
some-budget n r s m true is lt = absurd (omega (arith, lt))
some-budget n r s m false is lt = (omega (arith, ltb-false r s is), lt)

-- where there is a budget the recorder is full
pub budget-of : (n : ℕ) (d : DeviceSeen) → n < budget_at d
    → (d.settings.recorder ≤ length d.recorded)
    × (n < min (min (d.memory.losses - length d.waiting - length (beneath d.device.tree.root)) (2 ^ 64 - 1 - d.device.tree.top.arrived.packets))
    ((2 ^ 64 - 1 - d.device.tree.top.arrived.bytes) / longest))
budget-of n d lt =
    some-budget n (length d.recorded) d.settings.recorder
    (min (min (d.memory.losses - length d.waiting - length (beneath d.device.tree.root)) (2 ^ 64 - 1 - d.device.tree.top.arrived.packets)) ((2 ^ 64 - 1 - d.device.tree.top.arrived.bytes) / longest))
    (nat_lt (length d.recorded) d.settings.recorder) refl lt

-- what is next among the first ones is next among all, unless all of the first ones have come
pub next-of : {A : Type 0} (P : A → Type 0) (xs : List A) (m k : ℕ) → (k < length xs → k < m) → IfSome (slice_get (take m xs) k) P → IfSome (slice_get xs k) P
next-of P [] m k within is = tt
next-of P (x ∷ xs) zero zero within is = absurd (omega (arith, within (omega arith)))
next-of P (x ∷ xs) zero (suc k) within is = next-of P xs zero k (λ lt. absurd (omega (arith, within (omega (arith, lt))))) tt
next-of P (x ∷ xs) (suc m) zero within is = is
next-of P (x ∷ xs) (suc m) (suc k) within is = next-of P xs m k (λ lt. omega (arith, within (omega (arith, lt)))) is

-- ---- what the packets of a burst are

fields-of : (mtu : ℕ) (c : StoredPacket) → IsShort mtu c → HasWidths c → HasPacketFields (descriptor c)
fields-of mtu c s w = packet-fields (descriptor c) (record {
  port = omega (arith, w.port);
  number = w.number;
  buf = omega (arith, w.buf);
  len = (s.in_range.len, omega (arith, w.len));
  key = s.in_range.key;
  hash = omega (arith, w.hash);
  prio = s.in_range.prio;
})

fields-each : (mtu : ℕ) (cs : List StoredPacket) → AllByRecursion (IsShort mtu) cs → AllByRecursion HasWidths cs → AllByRecursion (λ (c : StoredPacket). HasPacketFields (descriptor c)) cs
fields-each mtu [] s w = tt
fields-each mtu (c ∷ cs) s w = (fields-of mtu c s.0 w.0, fields-each mtu cs s.1 w.1)

pub burst-fields : (mtu : ℕ) (cs : List StoredPacket) → All (IsShort mtu) cs → All HasWidths cs → AllByRecursion (λ (c : StoredPacket). HasPacketFields (descriptor c)) cs
burst-fields mtu cs short widths = fields-each mtu cs (recursion_from_All (IsShort mtu) cs short) (recursion_from_All HasWidths cs widths)

pub burst-in-range : (mtu : ℕ) (cs : List StoredPacket) → All (IsShort mtu) cs → All IsStored cs
burst-in-range mtu cs short = All-weaker (IsShort mtu) IsStored (λ (c : StoredPacket) s. s.in_range) cs short
