-- Worked rows, computed from the definitions. With a quantum of 1000 bytes, two packets of 1000 bytes in flow 0 and one
-- of 100 in flow 1: what each take sends, the lists and credits after the third and the fourth; the fat flow at a tie; a batch.
use Rattle.std.proofs.Common.{◌≡◌, ℕ, pos, true, false, List, [], ◌∷◌, map, take, Option, Some, None, option_map, refl}
use Rattle.std.specs.Prelude.{◌-ℤ◌, if◌then◌else◌}
use Rattle.q_packet.specs.Key.{zero_key}
use Rattle.q_packet.specs.Descriptor.{Descriptor}
use Rattle.q_packet.specs.declared.ecn.Ecn.TheVariants.{NotEct}
use Rattle.q_packet.specs.declared.stamped.Stamped.{Stamped}
use Rattle.q_codel.specs.declared.codel.Taken.{Taken}
use Rattle.q_fqcodel.specs.Cleared.{adjust}
use Rattle.q_fqcodel.specs.FqState.{FqSettings, Flow, FqState, all_packets, first_state, after_change}
use Rattle.q_fqcodel.specs.Put.{is_lost_itself, after_put, lost_by_put}
use Rattle.q_fqcodel.specs.QuantaGiven.{grants}
use Rattle.q_fqcodel.specs.Take.{selected, sent_from, after_sending}
use Rattle.q_fqcodel.specs.Entry.{Entry}
use Rattle.q_worked_examples.proofs.SharedRules.{shared_rules}

abbrev settings : ℕ → ℕ → ℕ → FqSettings
settings limit quantum batch = record {
  limit = limit;
  flows = 8;
  quantum = quantum;
  target = 5000000;
  interval = 100000000;
  ecn = true;
  drop_batch = batch;
  mtu = 1500;
}

abbrev packet : ℕ → ℕ → ℕ → Descriptor
packet number len hash = record { port = 0; number = number; buf = 0; len = len; key = zero_key; hash = hash; prio = 0; ecn = NotEct }

abbrev entry : ℕ → ℕ → Entry
entry flow credits = record { flow = flow; credits = pos credits }

-- the number of the packet that is sent
abbrev shown : FqState → Option ℕ
shown s = option_map (λ (t : Taken). t.packet.number) (sent_from 0 (selected s))

abbrev taken_once : FqState → FqState
taken_once s = after_sending 0 (selected s)

abbrev three : FqState
three = after_put (after_put (after_put (first_state (settings 100 1000 1)) (packet 1 1000 0) 0) (packet 2 1000 0) 0) (packet 3 100 1) 0

first_is_sent : shown three ≡ Some 1
unfolding shared_rules
first_is_sent = refl

second_is_of_flow_1 : shown (taken_once three) ≡ Some 3
unfolding shared_rules
second_is_of_flow_1 = refl

third_is_of_flow_0 : shown (taken_once (taken_once three)) ≡ Some 2
unfolding shared_rules
third_is_of_flow_0 = refl

lists_after_the_third : (let s = taken_once (taken_once (taken_once three)) in (s.new_flows ≡ []) × (s.old_flows ≡ entry 0 0 ∷ entry 1 900 ∷ []))
unfolding shared_rules
lists_after_the_third = (refl, refl)

nothing_is_left : (let s = taken_once (taken_once (taken_once three)) in (shown s ≡ None) × ((taken_once s).new_flows ≡ []) × ((taken_once s).old_flows ≡ []))
unfolding shared_rules
nothing_is_left = (refl, refl, refl)

-- a flow's index is the remainder of the hash by the number of flows
flow_by_remainder : (after_put (first_state (settings 100 1000 1)) (packet 1 100 9) 0).new_flows ≡ entry 1 1000 ∷ []
unfolding shared_rules
flow_by_remainder = refl

-- Flows 3 and 7 have 300 bytes each: the third packet takes the first of flow 3 with it.
abbrev tied : FqState
tied = after_put (after_put (first_state (settings 2 1514 1)) (packet 1 300 7) 0) (packet 2 100 3) 0

the_lower_index_loses : (map (λ (x : Stamped). x.packet.number) (lost_by_put tied (packet 3 200 3) 0) ≡ 2 ∷ []) × (is_lost_itself tied (packet 3 200 3) 0 ≡ false)
unfolding shared_rules
the_lower_index_loses = (refl, refl)

-- The fat flow is the one with the most bytes, though flow 0 has more packets.
abbrev many_short : FqState
many_short = after_put (after_put (after_put (first_state (settings 3 1514 1)) (packet 1 50 0) 0) (packet 2 50 0) 0) (packet 3 400 1) 0

the_most_bytes_lose : map (λ (x : Stamped). x.packet.number) (lost_by_put many_short (packet 4 50 0) 0) ≡ 3 ∷ []
unfolding shared_rules
the_most_bytes_lose = refl

-- The fat flow has two packets, and the batch is of three: both are lost, the newcomer among them.
abbrev batched : FqState
batched = after_put (after_put (first_state (settings 2 1514 3)) (packet 1 50 0) 0) (packet 2 100 1) 0

the_newcomer_is_lost : (map (λ (x : Stamped). x.packet.number) (lost_by_put batched (packet 3 100 1) 0) ≡ 2 ∷ 3 ∷ []) × (is_lost_itself batched (packet 3 100 1) 0 ≡ true)
unfolding shared_rules
the_newcomer_is_lost = (refl, refl)

-- Three old flows without credits, of which the first needs three quanta of 100 bytes and the others two. The second sends:
-- the one in front of it is visited three times, it and the one behind it twice.
abbrev owing : ℕ → ℕ → Entry
owing flow debt = record { flow = flow; credits = pos 0 -ℤ pos debt }

abbrev in_debt : FqState
in_debt = record (after_put (after_put (after_put (first_state (settings 100 100 1)) (packet 1 40 0) 0) (packet 2 40 1) 0) (packet 3 40 2) 0) {
  new_flows = [];
  old_flows = owing 0 250 ∷ owing 1 150 ∷ owing 2 150 ∷ [];
}

visited_in_rounds : (shown in_debt ≡ Some 2) × ((taken_once in_debt).old_flows ≡ entry 1 10 ∷ entry 2 50 ∷ entry 0 50 ∷ [])
unfolding shared_rules
visited_in_rounds = (refl, refl)

-- a new flow that owes two quanta and more goes over with one
moved_with_a_quantum : (
    let s = taken_once (record in_debt { new_flows = owing 0 250 ∷ entry 1 100 ∷ []; old_flows = [] }) in
    (s.new_flows ≡ entry 1 60 ∷ []) × (s.old_flows ≡ owing 0 150 ∷ []))
unfolding shared_rules
moved_with_a_quantum = (refl, refl)

quanta_of_a_take : grants in_debt ≡ record { flow = 0; quanta = 3 } ∷ record { flow = 1; quanta = 2 } ∷ record { flow = 2; quanta = 2 } ∷ []
unfolding shared_rules
quanta_of_a_take = refl

-- what CoDel knows of the first two flows: the moment above the target, the count, and 1 while dropping
known : FqState → List (List ℕ)
known s = map (λ (f : Flow). f.codel.first_above_time ∷ f.codel.count ∷ (if f.codel.dropping then 1 else 0) ∷ []) (take 2 s.flows)

-- an old flow that is empty, whose CoDel was dropping, in front of one with a packet
abbrev emptied : Entry → FqState
emptied e =
    let s = after_put (first_state (settings 100 1000 1)) (packet 1 100 1) 0 in
    record s {
      flows = adjust (λ f. record f { codel = record f.codel { first_above_time = 7; count = 3; dropping = true } }) 0 s.flows;
      new_flows = [];
      old_flows = e ∷ entry 1 500 ∷ [];
    }

-- with credits it is asked, found empty, and leaves: nothing stands any more, and the count stays
leaves_rested : (known (taken_once (emptied (entry 0 500))) ≡ (0 ∷ 3 ∷ 0 ∷ []) ∷ (0 ∷ 0 ∷ 0 ∷ []) ∷ []) × ((taken_once (emptied (entry 0 500))).old_flows ≡ entry 1 400 ∷ [])
unfolding shared_rules known
leaves_rested = (refl, refl)

-- without credits it gets a quantum, and CoDel does not look at it
stays_unasked : (known (taken_once (emptied (entry 0 0))) ≡ (7 ∷ 3 ∷ 1 ∷ []) ∷ (0 ∷ 0 ∷ 0 ∷ []) ∷ []) × ((taken_once (emptied (entry 0 0))).old_flows ≡ entry 1 400 ∷ entry 0 1000 ∷ [])
unfolding shared_rules known
stays_unasked = (refl, refl)

-- CoDel rests as well for a new flow that is found empty, and goes over to the old list; for a flow behind the one that sends, which is
-- met again before that; and where no flow has a packet
new_flow_rested : (
    let s = taken_once (record (emptied (entry 0 500)) { new_flows = entry 0 500 ∷ entry 1 1000 ∷ []; old_flows = [] }) in
    (known s ≡ (0 ∷ 3 ∷ 0 ∷ []) ∷ (0 ∷ 0 ∷ 0 ∷ []) ∷ []) × (s.new_flows ≡ entry 1 900 ∷ []) × (s.old_flows ≡ entry 0 500 ∷ []))
unfolding shared_rules known
new_flow_rested = (refl, refl, refl)

flow_behind_rested : (
    let s = taken_once (record (emptied (entry 0 500)) { old_flows = owing 1 1500 ∷ owing 0 500 ∷ [] }) in
    (known s ≡ (0 ∷ 3 ∷ 0 ∷ []) ∷ (0 ∷ 0 ∷ 0 ∷ []) ∷ []) × (s.old_flows ≡ entry 1 400 ∷ []))
unfolding shared_rules known
flow_behind_rested = (refl, refl)

last_flow_rested : (
    let s = emptied (entry 0 500) in
    let t = taken_once (record s { flows = adjust (λ f. record f { queue = [] }) 1 s.flows }) in
    (known t ≡ (0 ∷ 3 ∷ 0 ∷ []) ∷ (0 ∷ 0 ∷ 0 ∷ []) ∷ []) × (t.old_flows ≡ []))
unfolding shared_rules known
last_flow_rested = (refl, refl)

-- a change gives each flow's CoDel the new settings, and leaves its state, the packets and the lists
changed : (
    let s = emptied (entry 0 500) in
    let t = after_change s (record s.settings { target = 1; interval = 2000; ecn = false; quantum = 9 }) in
    (known t ≡ known s) × (map (λ (f : Flow). f.codel.target) (take 2 t.flows) ≡ 1 ∷ 1 ∷ []) × (map (λ (f : Flow). f.codel.interval) (take 2 t.flows) ≡ 2000 ∷ 2000 ∷ [])
    × (map (λ (f : Flow). f.codel.ecn) (take 2 t.flows) ≡ false ∷ false ∷ []) × (t.old_flows ≡ s.old_flows) × (all_packets t.flows ≡ all_packets s.flows) × (t.settings.quantum ≡ 9))
unfolding shared_rules known
changed = (refl, refl, refl, refl, refl, refl, refl)
