-- What each call from C does to an open device, and what it answers.
-- The calls are this project's own; what their events do is in q_model's specs/Step.antt.
use Rattle.std.specs.Prelude.{◌≡◌, ◌≢◌, ℕ, ◌<◌, ◌≤◌, length, slice_get, Option, Some, None}
use Rattle.q_packet.specs.Descriptor.{Descriptor}
use Rattle.q_codel.specs.declared.loss.Loss.{Loss}
use Rattle.q_model.specs.declared.event.Event.{Event}
use Rattle.q_model.specs.declared.event.Event.TheVariants as event
use Rattle.q_model.specs.declared.place.Place.{Place}
use Rattle.q_model.specs.declared.row.Row.{Row}
use Rattle.q_model.specs.Tally.{totals}
use Rattle.q_model.specs.TreeState.{stats}
use Rattle.q_device.specs.device.DeviceSeen.{DeviceSeen, HasRoomFor, reaped}
use Rattle.q_device.specs.device.Polls.{after_poll, given_at}
use Rattle.q_device.specs.Events.{after_event, reply_to, with_memory}
use Rattle.qtree_c.specs.abi.Codes.{reply_number}
use Rattle.q_device.specs.device.Room.{KeepsPlaces}
use Rattle.qtree_c.specs.abi.Structs.{IsPacket, event_of, loss_of, row_of, told_or}
use Rattle.q_packet.specs.Stored.{descriptor}
use Rattle.qtree_c.specs.declared.abi.c_event.CEvent.{CEvent}
use Rattle.qtree_c.specs.declared.abi.c_loss.CLoss.{CLoss}
use Rattle.q_packet.specs.declared.stored_packet.StoredPacket.{StoredPacket}
use Rattle.qtree_c.specs.declared.abi.c_row.CRow.{CRow}

-- A call on a place. A closed one stays closed, and 50 is answered; an open one stays open, and the call does this to its device.
abbrev pub Calls : (DeviceSeen → DeviceSeen → Type 0) → ℕ → Option DeviceSeen → Option DeviceSeen → Type 0
Calls does code None new = (code ≡ 50) × (new ≡ None)
Calls does code (Some d) None = ⊥
Calls does code (Some d) (Some n) = does d n

-- A packet arrived, and its fate is answered; or a field is out of its range, or an allocation fails, and nothing happened but that there
-- may be more places.
pub record IsArrival (c : StoredPacket) (now : ℕ) (code : ℕ) (d n : DeviceSeen) : Type 0 where
  pub arrived : code ≤ 6 → n ≡ with_memory n.memory (after_event (event.Arrive (descriptor c) now) d)
  pub fate : code ≤ 6 → code ≡ reply_number (reply_to (event.Arrive (descriptor c) now) d)
  pub nothing : 6 < code → n ≡ with_memory n.memory d
  pub in_range : code ≢ 42 → IsPacket c
  pub out_of_range : IsPacket c → code ≢ 42
  pub memory : 6 < code → code ≢ 42 → code ≡ 90
  pub succeeds : IsPacket c → HasRoomFor (descriptor c) d → code ≤ 6
  pub places : KeepsPlaces d n
  pub keeps : 6 < code → (other : Descriptor) → HasRoomFor other d → HasRoomFor other n

-- a poll, which takes no memory, and what is reported of the packet that it gives, in the place of what was reported before
pub record IsPoll {A : Type 0} (told : Descriptor → A) (now code : ℕ) (before after : A) (d n : DeviceSeen) : Type 0 where
  pub polled : n ≡ after_poll now d
  pub answer : code ≡ reply_number (reply_to (event.Poll now) d)
  pub packet : after ≡ told_or told before (given_at now d)

-- the answer where one may be there, and what is then in the place of what was there before
abbrev pub found_number : {A : Type 0} → Option A → ℕ
found_number None = 32
found_number (Some x) = 0

abbrev pub loss_or : CLoss → Option Loss → CLoss
loss_or before None = before
loss_or before (Some l) = loss_of l

abbrev pub row_or : CRow → Option Row → CRow
row_or before None = before
row_or before (Some r) = row_of r

-- the oldest loss is handed out, which takes no memory
pub record IsReap (code : ℕ) (before after : CLoss) (d n : DeviceSeen) : Type 0 where
  pub rest : n ≡ reaped d
  pub answer : code ≡ found_number (slice_get d.waiting 0)
  pub loss : after ≡ loss_or before (slice_get d.waiting 0)

-- what was counted at a node
pub record IsRow (place : Place) (code : ℕ) (before after : CRow) (d n : DeviceSeen) : Type 0 where
  pub same : n ≡ d
  pub answer : code ≡ found_number (stats totals place d.device.tree)
  pub row : after ≡ row_or before (stats totals place d.device.tree)

-- the event that is reported, where it is recorded
abbrev pub event_or : CEvent → Option Event → CEvent
event_or before None = before
event_or before (Some e) = event_of e

pub record IsRecorded (index code : ℕ) (before after : CEvent) (d n : DeviceSeen) : Type 0 where
  pub same : n ≡ d
  pub answer : code ≡ found_number (slice_get d.recorded index)
  pub event : after ≡ event_or before (slice_get d.recorded index)

pub record IsCountOfEvents (code events recorded : ℕ) (d n : DeviceSeen) : Type 0 where
  pub same : n ≡ d
  pub answer : code ≡ 0
  pub happened : events ≡ d.events
  pub kept : recorded ≡ length d.recorded
