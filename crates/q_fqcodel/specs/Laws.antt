-- Laws of the definitions that the calls equal: nothing is made or lost, and a put leaves a packet (RFC 8290, section 4).
-- Each law speaks of every state, every packet and every time.
use Rattle.std.specs.Prelude.{◌≡◌, ℕ, ◌+◌, ◌*◌, ◌<◌, ◌≤◌, ◌↔◌, ◌⊎◌, ◌==◌, ℤ, pos, ◌+ℤ◌, Bool, true, false, List, [], ◌∷◌, ◌++◌, All, Contains, length, sum_by, find, slice_get, Option, Some, option_map, option_and_then, option_to_list}
use Rattle.q_packet.specs.Choice.{Choice}
use Rattle.q_packet.specs.Totals.{count}
use Rattle.q_packet.specs.Descriptor.{Descriptor}
use Rattle.q_packet.specs.declared.stamped.Stamped.{Stamped}
use Rattle.q_codel.specs.Codel.{sent, leaving}
use Rattle.q_codel.specs.declared.codel.Taken.{Taken}
use Rattle.q_fqcodel.specs.Entry.{Entry}
use Rattle.q_fqcodel.specs.Lawful.{times, IsLawful}
use Rattle.q_fqcodel.specs.QuantaGiven.{Grant, visits, quanta_turned, quanta_given, grants}
use Rattle.q_fqcodel.specs.Selection.{chosen}
use Rattle.q_fqcodel.specs.FqState.{FqSettings, Flow, FqState, queue_of, packets_of, rested_flow, all_packets, first_state, after_change}
use Rattle.q_fqcodel.specs.Put.{flow_of, appended, fattest, after_put, lost_by_put, is_lost_itself}
use Rattle.q_fqcodel.specs.Ranges.{IsInRange}
use Rattle.q_fqcodel.specs.Take.{selected, sender, sent_from, dropped_from, after_sending}

-- the packet that the flow in front sends, as it was in its queue
abbrev pub head_sent : ℕ → FqState → Option Stamped
head_sent now s = option_and_then (λ (f : Flow). sent f.codel now f.queue) (sender s)

-- The packets that were queued and the one that is put are those queued then and those lost. w is any weight: 1 counts
-- them, the length adds up their bytes, and a test of one packet says how often it is there.
abbrev pub PutKeepsAll : Type 0
PutKeepsAll =
    (w : Stamped → ℕ) (s : FqState) (packet : Descriptor) (now : ℕ) → flow_of s packet < length s.flows
    → sum_by w (all_packets (after_put s packet now).flows) + sum_by w (lost_by_put s packet now) ≡ sum_by w (all_packets s.flows) + w (record { packet = packet; at = now })

-- The packets that were queued are those queued after a take, those that CoDel dropped, and the one sent.
abbrev pub TakeKeepsAll : Type 0
TakeKeepsAll =
    (w : Stamped → ℕ) (s : FqState) (now : ℕ)
    → sum_by w (all_packets (after_sending now (selected s)).flows) + sum_by w (dropped_from now (selected s)) + sum_by w (option_to_list (head_sent now (selected s)))
    ≡ sum_by w (all_packets s.flows)

-- What a take returns is the packet that was sent, with its codepoint changed where it was marked.
abbrev pub GivesTheHead : Type 0
GivesTheHead =
    (s : FqState) (now : ℕ) (given : Taken) (head : Stamped) → sent_from now s ≡ Some given → head_sent now s ≡ Some head
    → given.packet ≡ leaving given.marked head.packet

-- A put leaves at least one packet, whatever the limit and the batch.
abbrev pub PutLeavesOne : Type 0
PutLeavesOne = (s : FqState) (packet : Descriptor) (now : ℕ) → flow_of s packet < length s.flows → 0 < packets_of (after_put s packet now).flows

-- the credits of a listed flow
abbrev pub credits_of : ℕ → List Entry → Option ℤ
credits_of n es = option_map (λ (e : Entry). e.credits) (find (λ (e : Entry). e.flow == n) es)

-- A flow that is listed before the selection and after it has its credits, and a quantum for each that it was given.
abbrev pub CreditsByQuanta : Type 0
CreditsByQuanta =
    (s : FqState) (n : ℕ) (before after : ℤ) → IsLawful s → credits_of n (s.new_flows ++ s.old_flows) ≡ Some before → credits_of n ((selected s).new_flows ++ (selected s).old_flows) ≡ Some after
    → after ≡ before +ℤ pos (quanta_given s n * s.settings.quantum)

-- the flows that are said to get quanta get that many, and one at least
abbrev pub GrantsAreSome : Type 0
GrantsAreSome = (s : FqState) → All (λ (g : Grant). (0 < g.quanta) × (g.quanta ≡ quanta_given s g.flow)) (grants s)

-- As the old list turns to the chosen flow, a flow with packets is granted a quantum at each visit: if it is in front of the
-- chosen one, it gets one more than the chosen one and those behind it.
abbrev pub QuantaByPlace : Type 0
QuantaByPlace =
    (quantum : ℕ) (idle : ℕ → Bool) (es : List Entry) (c : Choice) (place : ℕ) (e : Entry) → times e.flow es ≤ 1 → chosen quantum idle es ≡ Some c
    → slice_get es place ≡ Some e → idle e.flow ≡ false → quanta_turned quantum e.flow es (Some c) ≡ visits c place

-- The packet that was put is lost itself exactly where the fat flow is its own, and so many are lost that its place, behind
-- those that the flow had, is among them.
abbrev pub LostByPlace : Type 0
LostByPlace =
    (s : FqState) (packet : Descriptor) (now : ℕ) → flow_of s packet < length s.flows
    → (is_lost_itself s packet now ≡ true)
    ↔ ((fattest (appended s packet now).flows ≡ flow_of s packet) × (count (queue_of s.flows (flow_of s packet)) < count (lost_by_put s packet now)))

-- Where no packet like it was queued, that is exactly where it is the last of those lost. (The premise is needed: a packet
-- with the same fields and time, queued earlier, may be the last one lost in its place.)
abbrev pub LostIsLast : Type 0
LostIsLast =
    (s : FqState) (packet : Descriptor) (now : ℕ) → flow_of s packet < length s.flows → (Contains (all_packets s.flows) (record { packet = packet; at = now }) → ⊥)
    → (is_lost_itself s packet now ≡ true) ↔ ((before : List Stamped) × (lost_by_put s packet now ≡ before ++ record { packet = packet; at = now } ∷ []))

-- The selection moves no packet, and of what CoDel knows it changes nothing but that a flow has rested.
abbrev pub SelectionKeepsPackets : Type 0
SelectionKeepsPackets =
    (s : FqState) (n : ℕ) → (queue_of (selected s).flows n ≡ queue_of s.flows n)
    × ((slice_get (selected s).flows n ≡ slice_get s.flows n) ⊎ (slice_get (selected s).flows n ≡ option_map rested_flow (slice_get s.flows n)))

-- a flow each of whose packets has a byte at least
abbrev pub HasBytes : Flow → Type 0
HasBytes f = All (λ (x : Stamped). 1 ≤ x.packet.len) f.queue

-- A lawful fq_codel stays lawful over each call. Past the limit a put has to lose a packet, so the fat flow needs one: where
-- every packet has a byte, it has.
abbrev pub PutKeepsLawful : Type 0
PutKeepsLawful =
    (s : FqState) (packet : Descriptor) (now : ℕ) → IsLawful s → IsInRange s.settings → All HasBytes s.flows → 1 ≤ packet.len → IsLawful (after_put s packet now)

abbrev pub TakeKeepsLawful : Type 0
TakeKeepsLawful = (s : FqState) (now : ℕ) → IsLawful s → 1 ≤ s.settings.quantum → IsLawful (selected s) × IsLawful (after_sending now (selected s))

abbrev pub ChangeKeepsLawful : Type 0
ChangeKeepsLawful = (s : FqState) (settings : FqSettings) → IsLawful s → settings.flows ≡ s.settings.flows → IsLawful (after_change s settings)

-- so is a new one, and one that was purged
abbrev pub FirstIsLawful : Type 0
FirstIsLawful = (settings : FqSettings) → IsLawful (first_state settings)
