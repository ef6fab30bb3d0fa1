-- What RFC 8289 promises of CoDel (sections 3 and 5), over the definition of one queue's law in specs/Codel.antt.
-- Each law speaks of every state, every time and every queue.
use Rattle.std.specs.Prelude.{◌≡◌, ℕ, suc, ◌+◌, ◌-◌, ◌*◌, ◌^◌, ◌<◌, ◌≤◌, true, false, List, [], ◌∷◌, ◌++◌, take, drop, All, option_to_list}
use Rattle.q_packet.specs.Totals.{count, size}
use Rattle.q_packet.specs.declared.stamped.Stamped.{Stamped}
use Rattle.q_codel.specs.Gap.{gap_of}
use Rattle.q_codel.specs.Codel.{CodelState, IsCodelParams, IsCodelVars, params_of, vars_of, count_max, rested, count_after, is_late, is_capable, is_markable, moment, drops, marks, sent, left, after}

-- A queue whose sojourn is below the target loses and marks nothing, and its time above the target begins anew.
abbrev pub BelowTarget : Type 0
BelowTarget = (s : CodelState) (now : ℕ) (head : Stamped) (rest : List Stamped) → now - head.at < s.target → record {
  nothing_dropped : drops s now (head ∷ rest) ≡ 0;
  nothing_marked : marks s now (head ∷ rest) ≡ false;
  begins_anew : (after s now (head ∷ rest)).first_above_time ≡ 0;
  ends : (after s now (head ∷ rest)).dropping ≡ false;
}

-- With one mtu or less behind the head nothing is dropped or marked.
abbrev pub OneMtu : Type 0
OneMtu = (s : CodelState) (now : ℕ) (head : Stamped) (rest : List Stamped) → size rest ≤ s.mtu → record {
  nothing_dropped : drops s now (head ∷ rest) ≡ 0;
  nothing_marked : marks s now (head ∷ rest) ≡ false;
}

-- The last packet is never dropped: where there is a packet, fewer are dropped than there are.
abbrev pub LastPacketStays : Type 0
LastPacketStays = (s : CodelState) (now : ℕ) (queue : List Stamped) → 0 < count queue → drops s now queue < count queue

-- With ECN on, and every packet of a transport that takes part in it, nothing is dropped at all.
abbrev pub MarksInPlaceOfDrops : Type 0
MarksInPlaceOfDrops = (s : CodelState) (now : ℕ) (queue : List Stamped) → s.ecn ≡ true → All (λ p. is_capable p.packet.ecn ≡ true) queue → drops s now queue ≡ 0

-- A head is dropped or marked only where it is late.
abbrev pub OnlyLateHeads : Type 0
OnlyLateHeads = (s : CodelState) (now : ℕ) (queue : List Stamped) → record {
  dropped : (i : ℕ) → i < drops s now queue → is_late s now (drop i queue) ≡ true;
  marked : marks s now queue ≡ true → is_late s now (drop (drops s now queue) queue) ≡ true;
}

-- While dropping, the head at place i of a take is dropped or marked only if time i of the control law has come.
-- Time 0 is the one that was set, and each other is the one before plus the gap of the count then.
abbrev pub AtTheirMoments : Type 0
AtTheirMoments = (s : CodelState) (now : ℕ) (queue : List Stamped) → s.dropping ≡ true → record {
  dropped : (i : ℕ) → i < drops s now queue → moment s i ≤ now;
  marked : marks s now queue ≡ true → moment s (drops s now queue) ≤ now;
  first : moment s 0 ≡ s.drop_next;
  next : (i : ℕ) → moment s (suc i) ≡ moment s i + gap_of s.interval (count_after s (suc i));
}

-- A take from an empty queue leaves the state at rest. The premise holds of every state that a program has.
abbrev pub EmptyQueueRests : Type 0
EmptyQueueRests = (s : CodelState) (now : ℕ) → s.count ≤ count_max → after s now [] ≡ rested s

-- Each packet of the queue is dropped, sent or left, and nothing else is: in this order they are the queue.
abbrev pub QueueIsDivided : Type 0
QueueIsDivided = (s : CodelState) (now : ℕ) (queue : List Stamped) →
    take (drops s now queue) queue ++ (option_to_list (sent s now queue) ++ left s now queue) ≡ queue

-- Where nothing was being dropped, one take drops one packet at most.
abbrev pub OneDropBegins : Type 0
OneDropBegins = (s : CodelState) (now : ℕ) (queue : List Stamped) → s.dropping ≡ false → drops s now queue ≤ 1

-- What is due is dropped: the first head, where dropping begins with it; and while dropping each head that a take comes to
-- and whose time has come. Each is late, and cannot be marked.
abbrev pub DueHeadsGo : Type 0
DueHeadsGo = (s : CodelState) (now : ℕ) (queue : List Stamped) → record {
  begins : s.dropping ≡ false → is_late s now queue ≡ true → is_markable s queue ≡ false → drops s now queue ≡ 1;
  goes_on : s.dropping ≡ true → (i : ℕ) → i ≤ drops s now queue → is_late s now (drop i queue) ≡ true → moment s i ≤ now
      → is_markable s (drop i queue) ≡ false → i < drops s now queue;
}

-- With one mtu or less behind the head that is sent, the time above the target begins anew, and dropping ends. Only a take
-- that begins to drop is dropping after it all the same; the next one ends that.
abbrev pub OneMtuLeft : Type 0
OneMtuLeft = (s : CodelState) (now : ℕ) (queue : List Stamped) → size (left s now queue) ≤ s.mtu → record {
  begins_anew : (after s now queue).first_above_time ≡ 0;
  ends : s.dropping ≡ true → (after s now queue).dropping ≡ false;
  does_not_begin : s.dropping ≡ false → drops s now queue ≡ 0 → (after s now queue).dropping ≡ false;
}

-- Dropping that begins less than sixteen intervals after `drop_next`, where the count has grown by more than one since dropping
-- last began, goes on from what it grew by; any other begins with 1. The count is noted for the next time that dropping begins.
abbrev pub CountIsResumed : Type 0
CountIsResumed = (s : CodelState) (now : ℕ) (queue : List Stamped) → s.dropping ≡ false → is_late s now queue ≡ true → record {
  begins : (after s now queue).dropping ≡ true;
  resumed : now < s.drop_next + 16 * s.interval → s.lastcount + 1 < s.count → (after s now queue).count ≡ s.count - s.lastcount;
  long_ago : s.drop_next + 16 * s.interval ≤ now → (after s now queue).count ≡ 1;
  hardly_grown : s.count ≤ s.lastcount + 1 → (after s now queue).count ≡ 1;
  noted : (after s now queue).lastcount ≡ (after s now queue).count;
  first_gap : (after s now queue).drop_next ≡ now + gap_of s.interval (after s now queue).count;
}

-- Whatever a take does, the state stays in its ranges, and the settings are as they were.
abbrev pub StatesStayInRange : Type 0
StatesStayInRange = (s : CodelState) (now : ℕ) (queue : List Stamped) → IsCodelParams (params_of s) → IsCodelVars (vars_of s) → now ≤ 2 ^ 62 → record {
  settings : params_of (after s now queue) ≡ params_of s;
  state : IsCodelVars (vars_of (after s now queue));
}
