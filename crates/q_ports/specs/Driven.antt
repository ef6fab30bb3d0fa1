-- What driving does: a sender for each port offers its load, while the drain takes turns.
-- Nothing here is of a standard.
use Rattle.std.specs.Prelude.{◌≡◌, ℕ, ◌<◌, ◌≤◌, ◌-◌, ◌^◌, min, Bool, true, All, List, [], length, map, sum_by, get_or, vec_capacity, IfOk, IfErr, Vec}
use Rattle.std.specs.declared.alloc.Global.{Global}
use Rattle.q_packet.specs.Descriptor.{Descriptor}
use Rattle.q_model.specs.declared.totals.Totals.{Totals}
use Rattle.q_ports.specs.declared.driving.SenderRoom.{SenderRoom}
use Rattle.q_ports.specs.declared.sender.Sent.{Sent}
use Rattle.q_ports.specs.declared.driving.Started.{Started}
use Rattle.q_ports.specs.Collected.{CollectedBySome}
use Rattle.q_ports.specs.DriveTurns.{HasTurned}
use Rattle.q_ports.specs.Offered.{Offered}
use Rattle.q_ports.specs.Placed.{PortSeen, placed_by, share_of}
use Rattle.q_ports.specs.Rings.{received_from}
use Rattle.q_ports.specs.Turned.{DrainSeen}

abbrev pub promised_port : Started → PortSeen
promised_port s = s.promise.port.value

-- the packets of a load
abbrev pub packets_of : Vec Descriptor Global → List Descriptor
packets_of load = load.items

abbrev pub promised_load : Started → List Descriptor
promised_load s = packets_of s.promise.load.value

-- the sender's thread has promised that much, or what is handed back without a thread keeps it
abbrev pub HasKept : ℕ → Started → Type 0
HasKept tries s =
    IfOk s.work (λ h. (h.promise.port.value ≡ promised_port s) × (packets_of h.promise.load.value ≡ promised_load s) × (h.promise.tries ≡ tries))
    × IfErr s.work (λ r. Offered tries r.ran (promised_port s) (promised_load s) r.port r.given_up)

-- there is room for so many senders, and nothing in it
abbrev pub IsRoomFor : ℕ → SenderRoom → Type 0
IsRoomFor count r = (r.started.items ≡ []) × (count ≤ vec_capacity r.started) × (r.sent.items ≡ []) × (count ≤ vec_capacity r.sent)

abbrev pub port_in : Sent → PortSeen
port_in s = s.port

abbrev pub rest_of : Sent → ℕ
rest_of s = s.given_up

-- it had a thread
abbrev pub HasRun : Sent → Type 0
HasRun s = s.ran ≡ true

-- each sender offered its load at its port, in the order of the ports, as far as there are senders
abbrev pub AllOffered : ℕ → List PortSeen → List (List Descriptor) → List Sent → Type 0
AllOffered tries before loads after =
    (k : ℕ) (p : PortSeen) (s : Sent) → k < length after → Offered tries (get_or after k s).ran (get_or before k p) (get_or loads k []) (get_or after k s).port (get_or after k s).given_up

-- for each port and its load, what its sender handed back
pub record Drove (tries : ℕ) (before : List PortSeen) (loads : List (List Descriptor)) (after : List Sent) : Type 0 where
  pub count : length after ≡ length before
  pub each : AllOffered tries before loads after

-- The drain turned, and then what was left in the rings arrived at the time `start`. Each sender ran, and handed back its port. The
-- settled share is over what the ports placed, and so many packets were given up in all: the number stays at 2^64 - 1 once there.
pub record HasDriven (start step tries : ℕ) (drain : DrainSeen) (before : List PortSeen) (loads : List (List Descriptor)) (share : Totals) (given_up : ℕ) : Type 0 where
  pub after : List Sent
  pub ran : All HasRun after
  pub drove : Drove tries before loads after
  pub last : DrainSeen
  pub turned : HasTurned start step drain last
  pub collected : CollectedBySome start (map received_from last.rings) (map placed_by (map port_in after))
  pub settled : share ≡ share_of (map placed_by (map port_in after))
  pub rest : given_up ≡ min (sum_by rest_of after) (2 ^ 64 - 1)

-- of the load some packets were placed, behind what the port had placed before, and the others were given up
pub record OfferedSome (tries : ℕ) (before : PortSeen) (load : List Descriptor) (after : PortSeen) : Type 0 where
  pub ran : Bool
  pub given_up : ℕ
  pub offered : Offered tries ran before load after given_up

-- so it was with each port that came back, in the order of the ports
abbrev pub AreBack : ℕ → List PortSeen → List (List Descriptor) → List PortSeen → Type 0
AreBack tries before loads back = (k : ℕ) (p : PortSeen) → k < length back → OfferedSome tries (get_or before k p) (get_or loads k []) (get_or back k p)
