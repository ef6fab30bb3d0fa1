-- What is counted of sharing: a class of a drr, a tbf and a flow of an fq_codel as they are in a device that keeps whole
-- histories, and the interval, a part of a replay over which one of them stays.
-- tc-drr(8), tc-tbf(8), tc-fq_codel(8); the counts are sums over what the nodes have noted, and are shown in no report.
use Rattle.std.specs.Prelude.{◌≡◌, ℕ, suc, ◌+◌, ◌-◌, ℤ, pos, negsuc, Bool, false, ◌==◌, if◌then◌else◌, List, ◌++◌, Option, Some, None, option_map, option_and_then, slice_get, find, sum_by}
use Rattle.std.specs.Option.{option_map_or}
use Rattle.q_packet.specs.Descriptor.{Descriptor}
use Rattle.q_fqcodel.specs.FqState.{FqState, is_idle}
use Rattle.q_bucket.specs.Level.{TokenBucket}
use Rattle.q_drr.specs.Schedule.{Schedule, quantum_of}
use Rattle.q_model.specs.declared.event.Event.{Event}
use Rattle.q_model.specs.Tally.{Note, Sent, Granted, Spent, FlowGranted, FlowGave, history}
use Rattle.q_model.specs.Node.{Discipline, Fifo, Prio, Tbf, Drr, FqCodel, Node, children}
use Rattle.q_model.specs.Beneath.{is_empty}
use Rattle.q_model.specs.Conserved.{every_node}
use Rattle.q_model.specs.Refusals.{is_so}
use Rattle.q_model.specs.Replay.{replay}
use Rattle.q_model.specs.Route.{class_at}
use Rattle.q_model.specs.Settings.{DeviceSettings}
use Rattle.q_model.specs.Step.{DeviceState}

-- ---- what a history of notes comes to

-- the bytes of a packet that was sent
abbrev pub sent_by : Note → ℕ
sent_by (Sent p) = p.len
sent_by other = 0

-- the bytes that a bucket paid
abbrev pub spent_by : Note → ℕ
spent_by (Spent bytes) = bytes
spent_by other = 0

-- how often a class, or a flow, got its quantum
abbrev pub granted_by : ℕ → Note → ℕ
granted_by class (Granted n times) = if class == n then times else 0
granted_by class other = 0

abbrev pub flow_granted_by : ℕ → Note → ℕ
flow_granted_by flow (FlowGranted n times) = if flow == n then times else 0
flow_granted_by flow other = 0

-- the bytes that a flow gave
abbrev pub given_by : ℕ → Note → ℕ
given_by flow (FlowGave n bytes) = if flow == n then bytes else 0
given_by flow other = 0

abbrev pub bytes_sent : List Note → ℕ
bytes_sent notes = sum_by sent_by notes

abbrev pub bytes_spent : List Note → ℕ
bytes_spent notes = sum_by spent_by notes

abbrev pub grants_to : ℕ → List Note → ℕ
grants_to class notes = sum_by (granted_by class) notes

abbrev pub flow_grants_to : ℕ → List Note → ℕ
flow_grants_to flow notes = sum_by (flow_granted_by flow) notes

abbrev pub bytes_given : ℕ → List Note → ℕ
bytes_given flow notes = sum_by (given_by flow) notes

-- The bytes that a flow with these credits may hand out before it waits for a quantum. It does so while it has credits, and its last
-- packet may be longer than they are by all but a byte.
abbrev pub reach : ℕ → ℤ → ℕ
reach mtu (pos n) = n + (mtu - 1)
reach mtu (negsuc n) = (mtu - 1) - suc n

-- the length of a packet that is held, and 0 where none is
abbrev pub length_held : Option Descriptor → ℕ
length_held held = option_map_or (λ (p : Descriptor). p.len) held 0

-- ---- what stands in a device

-- the qdisc with this handle
abbrev pub has_major : ℕ → Node (List Note) → Bool
has_major major n = is_so (λ h. h == major) n.own.handle

abbrev pub qdisc : ℕ → DeviceState (List Note) → Option (Node (List Note))
qdisc major d = find (has_major major) (every_node d.tree.root)

-- a class of a drr: the drr's schedule and what the drr has noted, and the child of the class
pub record ClassAt : Type 0 where
  pub schedule : Schedule
  pub noted : List Note
  pub child : Node (List Note)

abbrev pub class_of : ℕ → Node (List Note) → Discipline → Option ClassAt
class_of minor n (Drr s) =
    option_map (λ child. record { schedule = s; noted = n.memory; child = child }) (option_and_then (slice_get (children n)) (class_at minor s))
class_of minor n (Fifo limit queue) = None
class_of minor n (Prio priomap) = None
class_of minor n (Tbf bucket limit) = None
class_of minor n (FqCodel s) = None

abbrev pub class_in : ℕ → ℕ → DeviceState (List Note) → Option ClassAt
class_in major minor d = option_and_then (λ n. class_of minor n n.own.discipline) (qdisc major d)

-- a tbf: its bucket, the packet that it holds, and what it has noted
pub record TbfAt : Type 0 where
  pub bucket : TokenBucket
  pub held : Option Descriptor
  pub noted : List Note

abbrev pub tbf_of : Node (List Note) → Discipline → Option TbfAt
tbf_of n (Tbf bucket limit) = Some (record { bucket = bucket; held = n.own.held; noted = n.memory })
tbf_of n (Fifo limit queue) = None
tbf_of n (Prio priomap) = None
tbf_of n (Drr s) = None
tbf_of n (FqCodel s) = None

abbrev pub tbf_in : ℕ → DeviceState (List Note) → Option TbfAt
tbf_in major d = option_and_then (λ n. tbf_of n n.own.discipline) (qdisc major d)

-- an fq_codel: its flows and lists, and what it has noted
pub record FqAt : Type 0 where
  pub state : FqState
  pub noted : List Note

abbrev pub fq_of : Node (List Note) → Discipline → Option FqAt
fq_of n (FqCodel s) = Some (record { state = s; noted = n.memory })
fq_of n (Fifo limit queue) = None
fq_of n (Prio priomap) = None
fq_of n (Tbf bucket limit) = None
fq_of n (Drr s) = None

abbrev pub fq_in : ℕ → DeviceState (List Note) → Option FqAt
fq_in major d = option_and_then (λ n. fq_of n n.own.discipline) (qdisc major d)

-- ---- what stays over an interval

-- the class is there with this quantum, and something is queued at its child
pub record IsBackloggedClass (major minor quantum : ℕ) (d : DeviceState (List Note)) : Type 0 where
  pub class : ClassAt
  pub there : class_in major minor d ≡ Some class
  pub same_quantum : quantum_of minor class.schedule.classes ≡ quantum
  pub queued : is_empty class.child ≡ false

-- the tbf is there with this rate and burst
pub record IsTbf (major rate burst : ℕ) (d : DeviceState (List Note)) : Type 0 where
  pub tbf : TbfAt
  pub there : tbf_in major d ≡ Some tbf
  pub same_rate : tbf.bucket.rate ≡ rate
  pub same_burst : tbf.bucket.burst ≡ burst

-- the fq_codel is there with this quantum, and the flow is not empty
pub record IsBackloggedFlow (major flow quantum : ℕ) (d : DeviceState (List Note)) : Type 0 where
  pub fq : FqAt
  pub there : fq_in major d ≡ Some fq
  pub same_quantum : fq.state.settings.quantum ≡ quantum
  pub queued : is_idle fq.state.flows flow ≡ false

-- in each state of the replay from the events `before` on, up to all of `during`
abbrev pub Throughout : (DeviceState (List Note) → Type 0) → DeviceSettings → List Event → List Event → Type 0
Throughout Holds settings before during =
    (seen later : List Event) → seen ++ later ≡ during → Holds (replay history settings (before ++ seen)).device
