-- What a contract sees of an fq_codel: its settings, its flows by index, and the lists of new and of old flows.
-- RFC 8290, section 4; tc-fq_codel(8) has the settings.
use Rattle.std.specs.Prelude.{ℕ, Bool, true, List, [], map, get_or, replicate, sum_by, flat_map, nat_eq}
use Rattle.q_packet.specs.Totals.{count, size}
use Rattle.q_packet.specs.declared.stamped.Stamped.{Stamped}
use Rattle.q_codel.specs.Codel.{CodelState, at_first, rested}
use Rattle.q_fqcodel.specs.Entry.{Entry}

-- Times are in nanoseconds, lengths in bytes, `limit` and `drop_batch` in packets.
pub record FqSettings : Type 0 where
  pub limit : ℕ
  pub flows : ℕ
  pub quantum : ℕ
  pub target : ℕ
  pub interval : ℕ
  pub ecn : Bool
  pub drop_batch : ℕ
  pub mtu : ℕ

-- the settings with these values, in the order of the fields
abbrev pub settings_of : ℕ → ℕ → ℕ → ℕ → ℕ → Bool → ℕ → ℕ → FqSettings
settings_of limit flows quantum target interval ecn drop_batch mtu = record {
  limit = limit;
  flows = flows;
  quantum = quantum;
  target = target;
  interval = interval;
  ecn = ecn;
  drop_batch = drop_batch;
  mtu = mtu;
}

-- The settings where none are named, for a device with this mtu.
-- tc-fq_codel(8) has them, but for `drop_batch`, which is 64 there: 1 is this project's choice.
abbrev pub settings_by_default : ℕ → FqSettings
settings_by_default mtu = record {
  limit = 10240;
  flows = 1024;
  quantum = 1514;
  target = 5000000;
  interval = 100000000;
  ecn = true;
  drop_batch = 1;
  mtu = mtu;
}

-- a flow: its packets, front first, and what CoDel knows of it
pub record Flow : Type 0 where
  pub queue : List Stamped
  pub codel : CodelState

-- The lists of RFC 8290's `new_flows` and `old_flows`, each from its front.
pub record FqState : Type 0 where
  pub settings : FqSettings
  pub flows : List Flow
  pub new_flows : List Entry
  pub old_flows : List Entry

-- what a contract sees of an fq_codel: its state, and how many packets it has memory for
pub record FqView : Type 0 where
  pub state : FqState
  pub places : ℕ

abbrev pub queues : List Flow → List (List Stamped)
queues flows = map (λ (f : Flow). f.queue) flows

-- the packets of the flow with this index
abbrev pub queue_of : List Flow → ℕ → List Stamped
queue_of flows n = get_or (queues flows) n []

-- whether the flow with this index is empty
abbrev pub is_idle : List Flow → ℕ → Bool
is_idle flows n = nat_eq (count (queue_of flows n)) 0

-- the packets in all flows, and their bytes
unfoldable pub packets_of : List Flow → ℕ
packets_of flows = sum_by (λ (f : Flow). count f.queue) flows

unfoldable pub bytes_of : List Flow → ℕ
bytes_of flows = sum_by (λ (f : Flow). size f.queue) flows

-- a flow that has sent nothing yet
abbrev pub first_flow : FqSettings → Flow
first_flow settings = record { queue = []; codel = at_first settings.target settings.interval settings.mtu settings.ecn }

-- an fq_codel without packets that has sent nothing yet
abbrev pub first_state : FqSettings → FqState
first_state settings = record {
  settings = settings;
  flows = replicate settings.flows (first_flow settings);
  new_flows = [];
  old_flows = [];
}

-- a flow that was met empty, with credits
unfoldable pub rested_flow : Flow → Flow
rested_flow f = record f { codel = rested f.codel }

-- a flow whose CoDel has other settings; its state stays
unfoldable pub retuned : ℕ → ℕ → Bool → Flow → Flow
retuned target interval ecn f = record f { codel = record f.codel { target = target; interval = interval; ecn = ecn } }

-- the packets of all flows, flow by flow, each from its front
unfoldable pub all_packets : List Flow → List Stamped
all_packets flows = flat_map (λ (f : Flow). f.queue) flows

-- a change of the settings: credits, lists and what CoDel knows stay
abbrev pub after_change : FqState → FqSettings → FqState
after_change s settings = record s {
  settings = settings;
  flows = map (retuned settings.target settings.interval settings.ecn) s.flows;
}
