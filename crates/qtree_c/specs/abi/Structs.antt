-- What the structs of C say, and how packets, losses and counters are written into them.
-- The layout is this project's own.
use Rattle.std.specs.Prelude.{◌≡◌, ℕ, ◌*◌, ◌+◌, ◌/◌, ◌%◌, ◌^◌, ◌≤◌, ◌==◌, if◌then◌else◌, Option, Some, None}
use Rattle.q_packet.specs.Cause.{cause_number}
use Rattle.q_packet.specs.Descriptor.{Descriptor}
use Rattle.q_packet.specs.Ecn.{codepoint}
use Rattle.q_packet.specs.declared.head.Head.{Head}
use Rattle.q_packet.specs.declared.stored_packet.StoredPacket.{StoredPacket}
use Rattle.q_packet.specs.Key.{Key, IsKey, key_bytes}
use Rattle.q_packet.specs.OneAtATime.{one_at_a_time}
use Rattle.q_packet.specs.Stored.{key_of, stored_of}
use Rattle.q_codel.specs.declared.loss.Loss.{Loss}
use Rattle.q_model.specs.Numbers.{IsHandle, IsMinor}
use Rattle.q_model.specs.Settings.{DeviceSettings}
use Rattle.q_model.specs.declared.event.Event.{Event}
use Rattle.q_model.specs.declared.event.Event.TheVariants as event
use Rattle.q_model.specs.declared.place.Place.{Place}
use Rattle.q_model.specs.declared.place.Place.TheVariants as place
use Rattle.q_model.specs.declared.row.Row.{Row}
use Rattle.q_model.specs.declared.totals.Totals.{Totals}
use Rattle.qtree_c.specs.declared.abi.c_count.CCount.{CCount}
use Rattle.qtree_c.specs.declared.abi.c_event.CEvent.{CEvent}
use Rattle.qtree_c.specs.declared.abi.c_loss.CLoss.{CLoss}
use Rattle.qtree_c.specs.declared.abi.c_row.CRow.{CRow}
use Rattle.qtree_c.specs.declared.abi.c_sent.CSent.{CSent}
use Rattle.qtree_c.specs.declared.abi.c_settings.CSettings.{CSettings}

-- each field is within its range
pub record IsPacket (c : StoredPacket) : Type 0 where
  pub key : IsKey (key_of c)
  pub len : 1 ≤ c.len
  pub prio : c.prio ≤ 15
  pub ecn : c.ecn ≤ 3

-- what is reported of the packet that a poll gives; what was in its place where it gives none
abbrev pub told_or : {A : Type 0} → (Descriptor → A) → A → Option Descriptor → A
told_or told before None = before
told_or told before (Some p) = told p

abbrev pub loss_of : Loss → CLoss
loss_of l = record { packet = stored_of l.packet; cause = cause_number l.cause }

abbrev pub count_of : Totals → CCount
count_of t = record { packets = t.packets; bytes = t.bytes }

abbrev pub row_of : Row → CRow
row_of r = record { arrived = count_of r.arrived; sent = count_of r.sent; refused = count_of r.refused; dropped = count_of r.dropped; queued = count_of r.queued; marked = count_of r.marked }

-- the settings that C's fields say
abbrev pub settings_of : CSettings → DeviceSettings
settings_of s = record { mtu = s.mtu; txqueuelen = s.txqueuelen; recorder = s.recorder }

-- the place that numbers name: 0 the device, 1 its root, 2 a class
abbrev pub place_of : ℕ → ℕ → ℕ → Place
place_of n major minor =
    if n == 0 then place.Top else if n == 1 then place.Root else place.Class (record { major = major; minor = minor })

pub record IsPlaceOf (place major minor : ℕ) : Type 0 where
  pub known : place ≤ 2
  pub handle : place ≡ 2 → IsHandle major
  pub class : place ≡ 2 → IsMinor minor

abbrev pub zero_packet : StoredPacket
zero_packet = record {
  src_high = 0;
  src_low = 0;
  dst_high = 0;
  dst_low = 0;
  number = 0;
  port = 0;
  buf = 0;
  hash = 0;
  len = 0;
  sport = 0;
  dport = 0;
  proto = 0;
  family = 0;
  prio = 0;
  ecn = 0;
}

-- an event as C has it: 0 for an arrival, 1 for a poll, 2 for a command
abbrev pub event_of : Event → CEvent
event_of (event.Arrive p moment) = record { packet = stored_of p; moment = moment; kind = 0 }
event_of (event.Poll moment) = record { packet = zero_packet; moment = moment; kind = 1 }
event_of (event.Command c moment) = record { packet = zero_packet; moment = moment; kind = 2 }

-- a packet of which the head was read, with this hash
abbrev pub with_fields : ℕ → Head → StoredPacket → StoredPacket
with_fields hash h c = record c {
  src_high = h.key.src / 2 ^ 64;
  src_low = h.key.src % 2 ^ 64;
  dst_high = h.key.dst / 2 ^ 64;
  dst_low = h.key.dst % 2 ^ 64;
  hash = hash;
  sport = h.key.sport;
  dport = h.key.dport;
  proto = h.key.proto;
  family = h.key.family;
  prio = h.prio;
  ecn = codepoint h.ecn;
}

-- a packet of which the head was read, and whose flow has the hash with this seed
abbrev pub with_head : ℕ → Head → StoredPacket → StoredPacket
with_head seed h c = with_fields (one_at_a_time seed (key_bytes h.key)) h c

-- a packet of this length in this buffer, of which the head was read, with this number and this hash; its port is 0
abbrev pub framed : ℕ → ℕ → ℕ → ℕ → Head → StoredPacket
framed len buf number hash h = with_fields hash h (record zero_packet { len = len; buf = buf; number = number })

-- what a program needs to send a packet on
abbrev pub sent_of : Descriptor → CSent
sent_of p = record { number = p.number; port = p.port; buf = p.buf; len = p.len; ecn = codepoint p.ecn }
