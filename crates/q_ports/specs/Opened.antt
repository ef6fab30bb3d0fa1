-- A device with its ports and gauges, as a program gets them.
-- Nothing here is of a standard.
use Rattle.std.specs.Prelude.{◌≡◌, ℕ, ◌<◌, List, [], length, get_or, map, replicate, All}
use Rattle.q_model.specs.Settings.{DeviceSettings}
use Rattle.q_device.specs.device.DeviceSeen.{DeviceSeen, opened}
use Rattle.q_ports.specs.declared.port_counts.PortCounts.{PortCounts}
use Rattle.q_ports.specs.Placed.{HasRing, PortSeen, placed_by, ring_of_port}
use Rattle.q_ports.specs.Rings.{received_from, ring_id}
use Rattle.q_ports.specs.Rows.{GaugeSeen, new_gauge, shown_on}
use Rattle.q_ports.specs.Turned.{DrainSeen}

-- The device is a new one with these settings. The ports are exactly the drain's, in order of index; each has a ring of that many
-- places, in which nothing was placed, and from which nothing was received. The gauges are the drain's, and nothing was published.
pub record AreOpened (settings : DeviceSettings) (counts : PortCounts) (device : DeviceSeen) (drain : DrainSeen) (ports : List PortSeen) (gauges : List GaugeSeen) : Type 0 where
  pub device_is : device ≡ opened settings device.memory
  pub rings : map ring_of_port ports ≡ map ring_id drain.rings
  pub count : length ports ≡ counts.ports
  pub indexes : (k : ℕ) (d : PortSeen) → k < counts.ports → (get_or ports k d).index ≡ k
  pub lengths : All (HasRing counts.ring) ports
  pub placed : map placed_by ports ≡ replicate counts.ports []
  pub received : map received_from drain.rings ≡ replicate counts.ports []
  pub gauge_count : length gauges ≡ counts.gauges
  pub book : All (λ (g : GaugeSeen). g ≡ new_gauge (shown_on drain.board)) gauges
  pub rows : (drain.board.rows ≡ []) × (drain.board.shown ≡ [])
