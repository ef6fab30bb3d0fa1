-- Calls for many packets, all at the same time: each is so many single calls, up to the first that stops it.
-- Nothing here is of a standard.
use Rattle.std.specs.Prelude.{◌≡◌, ℕ, zero, suc, ◌-◌, ◌/◌, ◌^◌, ◌<◌, ◌≤◌, List, [], ◌∷◌, ◌++◌, All, IfSome, drop, if◌then◌else◌, length, map, min, nat_lt, slice_get, take, Option, Some, None}
use Rattle.q_packet.specs.Descriptor.{Descriptor}
use Rattle.q_packet.specs.Stored.{IsStored, descriptor}
use Rattle.q_packet.specs.declared.stored_packet.StoredPacket.{StoredPacket}
use Rattle.q_model.specs.Beneath.{beneath}
use Rattle.q_model.specs.declared.event.Event.{Event}
use Rattle.q_model.specs.declared.event.Event.TheVariants.{Arrive, Poll}
use Rattle.q_model.specs.declared.fate.Fate.{Fate}
use Rattle.q_model.specs.declared.fate.Fate.TheVariants as fate
use Rattle.q_model.specs.declared.polled.Polled.{Polled}
use Rattle.q_model.specs.declared.polled.Polled.TheVariants as polled
use Rattle.q_model.specs.declared.reply.Reply.{Reply}
use Rattle.q_model.specs.declared.reply.Reply.TheVariants as reply
use Rattle.q_device.specs.declared.given.Given.{Given}
use Rattle.q_device.specs.declared.given.Given.TheVariants as given
use Rattle.q_device.specs.declared.bursts.Stopped.{Stopped}
use Rattle.q_device.specs.declared.bursts.Stopped.TheVariants as stopped
use Rattle.q_device.specs.device.DeviceSeen.{DeviceSeen, HasRoomFor, longest}
use Rattle.q_device.specs.device.Polls.{after_poll, given_at, given_by, or_last, polled_by}
use Rattle.q_device.specs.device.Room.{KeepsPlaces, StaysButForPlaces}
use Rattle.q_device.specs.DeviceLaws.{HasItsMemory}
use Rattle.q_device.specs.Events.{after_event, reply_to, with_memory}

-- ---- arrivals

abbrev pub arrival : ℕ → StoredPacket → Event
arrival now c = Arrive (descriptor c) now

-- the device after these packets arrived in order, and what became of each
abbrev pub arrived_by : ℕ → List StoredPacket → DeviceSeen → DeviceSeen
arrived_by now [] d = d
arrived_by now (c ∷ cs) d = arrived_by now cs (after_event (arrival now c) d)

-- So many packets may arrive, of any lengths, with nothing asked of the device: the lost list has places for them, they can be counted, and
-- the recorder is full.
abbrev pub budget_at : DeviceSeen → ℕ
budget_at d =
    if nat_lt (length d.recorded) d.settings.recorder
    then 0
    else min (min (d.memory.losses - length d.waiting - length (beneath d.device.tree.root)) (2 ^ 64 - 1 - d.device.tree.top.arrived.packets))
    ((2 ^ 64 - 1 - d.device.tree.top.arrived.bytes) / longest)

-- what a reply says of a packet that arrived
abbrev pub fate_in : Reply → Fate
fate_in (reply.Fate f) = f
fate_in (reply.Polled p) = fate.Kept
fate_in (reply.Done r) = fate.Kept

abbrev pub fates_by : ℕ → List StoredPacket → DeviceSeen → List Fate
fates_by now [] d = []
fates_by now (c ∷ cs) d = fate_in (reply_to (arrival now c) d) ∷ fates_by now cs (after_event (arrival now c) d)

-- These packets arrived, for which no place was lost. The device then had no room for the next one, and but for more places it has stayed
-- as it was. Where no packet had arrived it was the very device of before. So a caller who gave the device room for all gets no allocation
-- failure.
pub record StopsAtNext (now : ℕ) (arrived : List StoredPacket) (next : StoredPacket) (d n : DeviceSeen) : Type 0 where
  pub full : DeviceSeen
  pub made : full ≡ with_memory full.memory (arrived_by now arrived d)
  pub places : KeepsPlaces d full
  pub first : length arrived ≡ 0 → full ≡ d
  pub memory : HasItsMemory full
  pub room : HasRoomFor (descriptor next) full → ⊥
  pub stays : StaysButForPlaces full n

-- Memory was refused for a packet, for which there was no room: nothing happened but that there may be more places.
pub record IsRefusedFor (next : StoredPacket) (d n : DeviceSeen) : Type 0 where
  pub stored : IsStored next
  pub memory : HasItsMemory d
  pub room : HasRoomFor (descriptor next) d → ⊥
  pub stays : StaysButForPlaces d n

-- why this packet did not arrive
abbrev pub IsNotNext : StoredPacket → Stopped → DeviceSeen → DeviceSeen → Type 0
IsNotNext next stopped.OutOfRange d n = (IsStored next → ⊥) × (n ≡ d)
IsNotNext next stopped.Memory d n = IsRefusedFor next d n

-- and why the one behind these did not
abbrev pub IsStoppedAt : ℕ → List StoredPacket → StoredPacket → Stopped → DeviceSeen → DeviceSeen → Type 0
IsStoppedAt now arrived next stopped.OutOfRange d n = (IsStored next → ⊥) × (n ≡ with_memory n.memory (arrived_by now arrived d))
IsStoppedAt now arrived next stopped.Memory d n = IsStored next × StopsAtNext now arrived next d n

-- The first packets arrived, to the end, or to one that is out of its range or for which an allocation fails; this is written of the fate of
-- each. What is behind their places stays as it was.
pub record IsArrivals {A : Type 0} (answer : Fate → A) (now : ℕ) (packets : List StoredPacket) (stop : Option Stopped) (done : ℕ) (before after : List A) (d n : DeviceSeen) : Type 0 where
  pub arrived : n ≡ with_memory n.memory (arrived_by now (take done packets) d)
  pub fates : after ≡ map answer (fates_by now (take done packets) d) ++ drop done before
  pub in_range : All IsStored (take done packets)
  pub most : done ≤ length packets
  pub all : stop ≡ None → done ≡ length packets
  pub stopped : IfSome stop (λ why. IfSome (slice_get packets done) (λ next. IsStoppedAt now (take done packets) next why d n))
  pub next : IfSome stop (λ why. done < length packets)
  pub places : KeepsPlaces d n

-- the first `i` packets arrived, and this is written of their fates in the first places; no place of the device was lost
pub record IsArriving {A : Type 0} (answer : Fate → A) (i now : ℕ) (packets : List StoredPacket) (before after : List A) (d n : DeviceSeen) : Type 0 where
  pub arrived : n ≡ with_memory n.memory (arrived_by now (take i packets) d)
  pub fates : after ≡ map answer (fates_by now (take i packets) d) ++ drop i before
  pub in_range : All IsStored (take i packets)
  pub places : KeepsPlaces d n
  pub first : i ≡ 0 → n ≡ d

-- ---- polls

-- the device after so many polls
abbrev pub after_polls : ℕ → ℕ → DeviceSeen → DeviceSeen
after_polls now zero d = d
after_polls now (suc n) d = after_polls now n (after_poll now d)

-- each of them gives one of these packets
abbrev pub AreGivenAt : ℕ → List Descriptor → DeviceSeen → Type 0
AreGivenAt now [] d = Unit {0}
AreGivenAt now (p ∷ ps) d = (given_at now d ≡ Some p) × AreGivenAt now ps (after_poll now d)

-- So many polls gave a packet each, of which the first places tell. What is behind those stays.
pub record IsPolledFirst {A : Type 0} (told : Descriptor → A) (now count : ℕ) (before after : List A) (d n : DeviceSeen) : Type 0 where
  pub packets : List Descriptor
  pub counted : length packets ≡ count
  pub places : after ≡ map told packets ++ drop count before
  pub given : AreGivenAt now packets d
  pub polled : n ≡ after_polls now count d

-- what a reply says of a poll
abbrev pub polled_as : Polled → Given
polled_as (polled.Packet p) = given.Packet
polled_as polled.Idle = given.Idle
polled_as polled.Later = given.Later

abbrev pub given_as : Reply → Given
given_as (reply.Polled p) = polled_as p
given_as (reply.Fate f) = given.Packet
given_as (reply.Done r) = given.Packet

-- the answer to the last of so many polls at most
abbrev pub answer_by : ℕ → ℕ → DeviceSeen → Given
answer_by zero now d = given.Packet
answer_by (suc n) now d = or_last (given_at now d) (given_as (reply_to (Poll now) d)) (answer_by n now (after_poll now d))

-- Polls into lent places, in each of which this is told of a packet. Those behind the last packet stay as they were; the polls take no
-- memory.
pub record IsPolls {A : Type 0} (told : Descriptor → A) (now : ℕ) (answer : Given) (count : ℕ) (before after : List A) (d n : DeviceSeen) : Type 0 where
  pub polled : n ≡ polled_by (length before) now d
  pub answered : answer ≡ answer_by (length before) now d
  pub given : count ≡ length (given_by (length before) now d)
  pub packets : after ≡ map told (given_by (length before) now d) ++ drop count before

-- The first `i` of `n` polls gave a packet each, of which the first places tell. What is left of them gives the rest.
pub record IsPolling {A : Type 0} (told : Descriptor → A) (i n now : ℕ) (before after : List A) (d d' : DeviceSeen) : Type 0 where
  pub firsts : List Descriptor
  pub counted : length firsts ≡ i
  pub places : after ≡ map told firsts ++ drop i before
  pub given : firsts ++ given_by (n - i) now d' ≡ given_by n now d
  pub polled : polled_by (n - i) now d' ≡ polled_by n now d
  pub answer : answer_by (n - i) now d' ≡ answer_by n now d
