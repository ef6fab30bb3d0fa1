-- What the senders come to.
use Rattle.std.specs.Prelude.{◌≡◌, ℕ, ◌+◌, ◌*◌, ◌^◌, List, [], All, map, replicate}
use Rattle.q_packet.specs.Descriptor.{Descriptor}
use Rattle.q_device.specs.device.DeviceSeen.{DeviceSeen}
use Rattle.q_device.specs.DeviceLaws.{IsLawfulDevice, IsReplayed, IsReplayOfRecorded}
use Rattle.q_model.specs.declared.totals.Totals.{Totals}
use Rattle.q_ports.specs.Driven as senders
use Rattle.q_ports.specs.Placed.{PortSeen, placed_by, HasRing}
use Rattle.q_ports.specs.Turned.{DrainSeen}
use Rattle.q_drive.specs.Drained.{IsDrainedIf}
use Rattle.q_drive.specs.Drive.{Drive}
use Rattle.q_drive.specs.Loads.{AreLoads}
use Rattle.q_drive.specs.declared.driving.Driven.{Driven}

-- So many packets and bytes were settled, and so many packets given up, as the loads were offered at new ports, whose rings have the
-- places that were asked for: each packet a thousand million times at most, while the drain took a turn each microsecond from 0 on.
pub record IsPaced (s : Drive) (settled : Totals) (given_up : ℕ) : Type 0 where
  pub drain : DrainSeen
  pub ports : List PortSeen
  pub loads : List (List Descriptor)
  pub nothing : map placed_by ports ≡ replicate s.senders []
  pub lengths : All (HasRing s.ring) ports
  pub are_loads : AreLoads s s.senders loads
  pub driven : senders.HasDriven 0 1000 (10 ^ 9) drain ports loads settled given_up

-- Each packet of the loads was settled or given up, and what is settled is what the device counts as arrived. The device is the one
-- that the senders left, drained where that is asked for. Its rows are balanced, and it is the replay of what happened to it;
-- where no more events happened than it records, of those.
pub record HasDriven (s : Drive) (d : Driven) : Type 0 where
  pub all : d.settled.packets + d.given_up ≡ s.senders * s.count
  pub bytes : d.settled.bytes ≡ d.settled.packets * s.len
  pub paced : IsPaced s d.settled d.given_up
  pub arrived : d.device.device.tree.top.arrived ≡ d.settled
  pub left : DeviceSeen
  pub left_arrived : left.device.tree.top.arrived ≡ d.settled
  pub left_replayed : IsReplayed left
  pub drained : IsDrainedIf s.until_idle left d.device d.drained
  pub lawful : IsLawfulDevice d.device
  pub replayed : IsReplayed d.device
  pub recorded : IsReplayOfRecorded d.device
