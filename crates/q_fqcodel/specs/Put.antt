-- What an arriving packet does to an fq_codel: which flow it joins, and which packets are lost where the limit is passed.
-- RFC 8290, section 4.1, and tc-fq_codel(8), `limit`, `flows` and `drop_batch`.
use Rattle.std.specs.Prelude.{ℕ, ◌-◌, ◌%◌, min, Bool, ◌&&◌, ◌==◌, nat_le, pos, if◌then◌else◌, List, [], ◌∷◌, ◌++◌, length, take, drop}
use Rattle.std.specs.List.{list_all, list_any}
use Rattle.q_packet.specs.Least.{least}
use Rattle.q_packet.specs.Totals.{count, size}
use Rattle.q_packet.specs.Descriptor.{Descriptor}
use Rattle.q_packet.specs.declared.stamped.Stamped.{Stamped}
use Rattle.q_fqcodel.specs.Cleared.{adjust}
use Rattle.q_fqcodel.specs.FqState.{Flow, FqState, queue_of, packets_of}
use Rattle.q_fqcodel.specs.Entry.{Entry}

-- the flow that the packet belongs to
abbrev pub flow_of : FqState → Descriptor → ℕ
flow_of s packet = packet.hash % s.settings.flows

-- whether a flow is in a list
abbrev pub is_listed : ℕ → List Entry → Bool
is_listed n es = list_any (λ (e : Entry). e.flow == n) es

-- the flow with a packet more at its end
abbrev pub joined : Stamped → Flow → Flow
joined packet f = record f { queue = f.queue ++ packet ∷ [] }

-- The packet is queued behind those of its flow. A flow that was not listed is the last of the new list then, with one
-- quantum.
unfoldable pub appended : FqState → Descriptor → ℕ → FqState
appended s packet now =
    let n = flow_of s packet in
    record s {
      flows = adjust (joined (record { packet = packet; at = now })) n s.flows;
      new_flows = if is_listed n (s.new_flows ++ s.old_flows) then s.new_flows else s.new_flows ++ record { flow = n; credits = pos s.settings.quantum } ∷ [];
    }

-- the fat flow: the first flow than which none has more bytes
unfoldable pub fattest : List Flow → ℕ
fattest flows = least (λ n. list_all (λ (f : Flow). nat_le (size f.queue) (size (queue_of flows n))) flows) (length flows)

-- how many packets the fat flow loses: a batch, but no more than it has, and not all that there are
unfoldable pub shed_count : List Flow → ℕ → ℕ
shed_count flows batch = min (min (count (queue_of flows (fattest flows))) (packets_of flows - 1)) batch

-- how many are lost where the limit is passed, and else none
unfoldable pub overflow : FqState → ℕ
overflow s = if nat_le (packets_of s.flows) s.settings.limit then 0 else shed_count s.flows s.settings.drop_batch

-- the packets that the fat flow loses, and the state without them
unfoldable pub shed : FqState → List Stamped
shed s = take (overflow s) (queue_of s.flows (fattest s.flows))

-- the flow without its first n packets
abbrev pub shortened : ℕ → Flow → Flow
shortened n f = record f { queue = drop n f.queue }

unfoldable pub cut_back : FqState → FqState
cut_back s = record s { flows = adjust (shortened (overflow s)) (fattest s.flows) s.flows }

-- a put: the state after, the packets lost, and whether the packet that was put is itself among them, as the last of its flow
abbrev pub after_put : FqState → Descriptor → ℕ → FqState
after_put s packet now = cut_back (appended s packet now)

abbrev pub lost_by_put : FqState → Descriptor → ℕ → List Stamped
lost_by_put s packet now = shed (appended s packet now)

unfoldable pub is_lost_itself : FqState → Descriptor → ℕ → Bool
is_lost_itself s packet now =
    let n = flow_of s packet in
    let a = appended s packet now in
    (fattest a.flows == n) && nat_le (count (queue_of a.flows n)) (overflow a)
