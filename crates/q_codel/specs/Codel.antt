-- CoDel on one queue (RFC 8289, sections 5.5 and 5.6), in whole nanoseconds. The heads that go are counted by a least
-- number. Marks are not in the RFC's pseudocode: that a mark takes a drop's place where ECN allows it, does to the state
-- what a drop does, and ends the call is this project's choice.
use Rattle.std.specs.Prelude.{◌≡◌, ℕ, zero, suc, ◌≤◌, ◌<◌, ◌+◌, ◌-◌, ◌*◌, ◌^◌, min, Bool, true, false, not, ◌&&◌, ◌||◌, ◌==◌, nat_lt, nat_le, if◌then◌else◌, List, [], ◌∷◌, length, drop, Option, Some, slice_get, option_map}
use Rattle.q_packet.specs.Least.{least}
use Rattle.q_packet.specs.Totals.{size}
use Rattle.q_packet.specs.Descriptor.{Descriptor}
pub use Rattle.q_packet.specs.Ecn.{is_capable}
use Rattle.q_packet.specs.declared.ecn.Ecn.TheVariants.{Ce}
use Rattle.q_packet.specs.declared.stamped.Stamped.{Stamped}
use Rattle.q_codel.specs.Gap.{gap_of}
use Rattle.q_codel.specs.declared.codel.Taken.{Taken}

-- The settings and the state of one queue's CoDel. Times are in nanoseconds and `mtu` in bytes; `first_above_time`
-- is the time at which a standing queue becomes late, 0 where there is none, and `drop_next` that of the next drop or mark, as
-- in RFC 8289, section 5.2.
pub record CodelState : Type 0 where
  pub target : ℕ
  pub interval : ℕ
  pub mtu : ℕ
  pub ecn : Bool
  pub first_above_time : ℕ
  pub drop_next : ℕ
  pub count : ℕ
  pub lastcount : ℕ
  pub dropping : Bool

-- The settings alone, which many queues may share.
pub record CodelParams : Type 0 where
  pub target : ℕ
  pub interval : ℕ
  pub mtu : ℕ
  pub ecn : Bool

-- The state alone, which each queue has for itself.
pub record CodelVars : Type 0 where
  pub first_above_time : ℕ
  pub drop_next : ℕ
  pub count : ℕ
  pub lastcount : ℕ
  pub dropping : Bool

-- the two put together, and taken apart
abbrev pub joined : CodelParams → CodelVars → CodelState
joined p v = record {
  target = p.target;
  interval = p.interval;
  mtu = p.mtu;
  ecn = p.ecn;
  first_above_time = v.first_above_time;
  drop_next = v.drop_next;
  count = v.count;
  lastcount = v.lastcount;
  dropping = v.dropping;
}

abbrev pub params_of : CodelState → CodelParams
params_of s = record { target = s.target; interval = s.interval; mtu = s.mtu; ecn = s.ecn }

abbrev pub vars_of : CodelState → CodelVars
vars_of s =
    record { first_above_time = s.first_above_time; drop_next = s.drop_next; count = s.count; lastcount = s.lastcount; dropping = s.dropping }

-- count stays here once it is reached: 2^32 - 1
abbrev pub count_max : ℕ
count_max = 2 ^ 32 - 1

-- the state of a queue that has not sent yet, alone and with its settings
abbrev pub vars_at_first : CodelVars
vars_at_first = record { first_above_time = 0; drop_next = 0; count = 0; lastcount = 0; dropping = false }

abbrev pub at_first : ℕ → ℕ → ℕ → Bool → CodelState
at_first target interval mtu ecn =
    record { target = target; interval = interval; mtu = mtu; ecn = ecn; first_above_time = 0; drop_next = 0; count = 0; lastcount = 0; dropping = false }

-- what is left of the state where the queue is found empty
abbrev pub rested : CodelState → CodelState
rested s = record s { first_above_time = 0; dropping = false }

-- the head has waited for the target or longer, and more than one mtu is behind it (section 5.6, `dodequeue`)
abbrev pub is_standing : CodelState → ℕ → List Stamped → Bool
is_standing s now [] = false
is_standing s now (head ∷ rest) = nat_le s.target (now - head.at) && nat_lt s.mtu (size rest)

-- the queue has stood for an interval (section 5.6, `ok_to_drop`)
abbrev pub is_late : CodelState → ℕ → List Stamped → Bool
is_late s now queue = is_standing s now queue && nat_lt 0 s.first_above_time && nat_le s.first_above_time now

-- the head is marked where it would be dropped
abbrev pub is_markable : CodelState → List Stamped → Bool
is_markable s [] = false
is_markable s (head ∷ rest) = s.ecn && is_capable head.packet.ecn

-- the count after this many more drops or marks
abbrev pub count_after : CodelState → ℕ → ℕ
count_after s n = min (s.count + n) count_max

-- the control law: the times of the drops and marks to come, each the one before plus the gap of the count then
-- (section 5.6; section 3.3 says why the gaps shorten)
abbrev pub moment : CodelState → ℕ → ℕ
moment s zero = s.drop_next
moment s (suc i) = moment s i + gap_of s.interval (count_after s (suc i))

-- while dropping, the heads cease to be dropped at head j: it is not late, or its time is yet to come, or it is markable
-- (section 5.5, and for marks this project's choice)
abbrev pub stops : CodelState → ℕ → List Stamped → ℕ → Bool
stops s now queue j = not (is_late s now (drop j queue)) || nat_lt now (moment s j) || is_markable s (drop j queue)

-- how many heads are dropped; the next one, if there is one, is sent
abbrev pub drops : CodelState → ℕ → List Stamped → ℕ
drops s now queue =
    if s.dropping then least (stops s now queue) (length queue)
    else if is_late s now queue && not (is_markable s queue) then 1 else 0

-- whether the head that is sent is marked
abbrev pub marks : CodelState → ℕ → List Stamped → Bool
marks s now queue =
    if s.dropping then
    (let j = drops s now queue in
    is_late s now (drop j queue) && nat_le (moment s j) now && is_markable s (drop j queue))
    else is_late s now queue && is_markable s queue

-- the head that is sent, as it was in the queue
abbrev pub sent : CodelState → ℕ → List Stamped → Option Stamped
sent s now queue = slice_get queue (drops s now queue)

-- a packet as it leaves: a mark sets its codepoint to Ce
abbrev pub leaving : Bool → Descriptor → Descriptor
leaving marked packet = if marked then record packet { ecn = Ce } else packet

abbrev pub taken : CodelState → ℕ → List Stamped → Option Taken
taken s now queue =
    let marked = marks s now queue in
    option_map (λ head. record { packet = leaving marked head.packet; marked = marked }) (sent s now queue)

-- what stays in the queue
abbrev pub left : CodelState → ℕ → List Stamped → List Stamped
left s now queue = drop (suc (drops s now queue)) queue

-- dropping begins: with the count of the last time less where it began then, where that was within 16 intervals, else
-- with 1 (section 5.5)
abbrev pub count_begun : CodelState → ℕ → ℕ
count_begun s now =
    let delta = s.count - s.lastcount in
    if nat_lt 1 delta && nat_lt now (s.drop_next + 16 * s.interval) then delta else 1

abbrev pub begun : CodelState → ℕ → CodelState
begun s now =
    let c = count_begun s now in
    record s { dropping = true; count = c; lastcount = c; drop_next = now + gap_of s.interval c }

-- dropping goes on at head j where it is marked or late, and else ends
abbrev pub gone_on : CodelState → ℕ → Bool → Bool → CodelState
gone_on s j marked late =
    if marked then record s { count = count_after s (suc j); drop_next = moment s (suc j) }
    else if late then record s { count = count_after s j; drop_next = moment s j }
    else record s { count = count_after s j; drop_next = moment s (j - 1); dropping = false }

abbrev pub control_after : CodelState → ℕ → List Stamped → CodelState
control_after s now queue =
    if s.dropping then
    (let j = drops s now queue in
    gone_on s j (marks s now queue) (is_late s now (drop j queue)))
    else if is_late s now queue then begun s now else s

-- whether a standing queue has begun to stand, has stood, or does not stand, by the head that is sent (section 5.6)
abbrev pub above_after : CodelState → ℕ → List Stamped → ℕ
above_after s now queue =
    if is_standing s now queue then (if s.first_above_time == 0 then now + s.interval else s.first_above_time) else 0

-- the state after a take
abbrev pub after : CodelState → ℕ → List Stamped → CodelState
after s now queue =
    record (control_after s now queue) { first_above_time = above_after s now (drop (drops s now queue) queue) }

-- what settings keep: their ranges
pub record IsCodelParams (p : CodelParams) : Type 0 where
  pub target : p.target ≤ 10 ^ 12
  pub interval_low : 1000 ≤ p.interval
  pub interval_high : p.interval ≤ 10 ^ 12
  pub mtu : p.mtu < 2 ^ 16

-- what every state keeps, whichever settings it had: times that an interval can still be added to, and counts in order
pub record IsCodelVars (v : CodelVars) : Type 0 where
  pub first_above_time : v.first_above_time ≤ 2 ^ 62 + 10 ^ 12
  pub drop_next : v.drop_next ≤ 2 ^ 62 + 10 ^ 12
  pub count : v.count < 2 ^ 32
  pub lastcount : v.lastcount ≤ v.count

-- the heads that go have been dropped: this head is sent, marked or not, this is the rest, and this the state
pub record Chooses (s : CodelState) (now : ℕ) (queue : List Stamped) (head : Stamped) (marked : Bool) (rest : List Stamped) (t : CodelState) : Type 0 where
  pub head_is : Some head ≡ sent s now queue
  pub marked_is : marked ≡ marks s now queue
  pub rest_is : rest ≡ left s now queue
  pub state_is : t ≡ after s now queue
