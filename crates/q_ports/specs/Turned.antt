-- What a turn of the drain does: packets that wait in the rings arrive at the device, and then it is polled.
-- Nothing here is of a standard.
use Rattle.std.specs.Prelude.{◌≡◌, ℕ, ◌<◌, ◌≤◌, Bool, true, false, List, map, IfSome, IfNone}
use Rattle.q_packet.specs.Descriptor.{Descriptor}
use Rattle.q_device.specs.device.DeviceSeen.{DeviceSeen}
use Rattle.q_model.specs.Conserved.{IsBalanced}
use Rattle.q_model.specs.declared.row.Row.{Row}
use Rattle.q_device.specs.device.Polls.{given_by, polled_by}
use Rattle.q_device.specs.Events.{device_row}
use Rattle.q_ports.specs.Collected.{Collects}
use Rattle.q_ports.specs.Rings.{received_from, AreSeenEmpty, RingSeen}
use Rattle.q_ports.specs.Rows.{BoardSeen, RowHistorySeen, Publishes, Withholds}
use Rattle.q_ports.specs.Stopped.{Stops}
use Rattle.q_ports.specs.declared.turn.Turn.{Turn}

-- So many packets, `most` at most, were received from the rings and arrived, which makes the device in between. Where they
-- are fewer and no allocation failed, nothing waited in any ring when it was checked last. One failed only for a packet for
-- which the device had no room. Then come the polls, and nothing else.
pub record Turned (now most : ℕ) (before after : List RingSeen) (device device' : DeviceSeen) (taken : ℕ) (refused : Bool) (sent : List Descriptor) : Type 0 where
  pub between : DeviceSeen
  pub collected : Collects now (map received_from before) (map received_from after) device between taken
  pub few : taken ≤ most
  pub whole : refused ≡ false → taken < most → AreSeenEmpty after
  pub stopped : refused ≡ true → Stops now (map received_from before) after device between taken
  pub gives : sent ≡ given_by most now between
  pub leaves : device' ≡ polled_by most now between

-- what a contract sees of a drain: its rings, and its board
pub record DrainSeen : Type 0 where
  pub rings : List RingSeen
  pub board : BoardSeen

abbrev pub drain_seen : List RingSeen → BoardSeen → DrainSeen
drain_seen rings board = record { rings = rings; board = board }

-- The turn was all this to some device, which the lock held, and so made of it another.
pub record TurnedSome (now most : ℕ) (before after : DrainSeen) (t : Turn) : Type 0 where
  pub device : DeviceSeen
  pub device' : DeviceSeen
  pub turned : Turned now most before.rings after.rings device device' t.taken t.memory t.sent.items
  pub published : IfSome t.told (λ (f : RowHistorySeen). Publishes before.board (device_row device') after.board)
  pub untold : IfNone t.told (Withholds before.board (device_row device') after.board)

-- some balanced row was published, or was not
abbrev pub PublishesSome : BoardSeen → BoardSeen → Type 0
PublishesSome before after = (r : Row) × Publishes before r after

abbrev pub WithholdsSome : BoardSeen → BoardSeen → Type 0
WithholdsSome before after = (r : Row) × IsBalanced r × Withholds before r after
