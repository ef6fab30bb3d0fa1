-- The fat flow, found by one pass: no flow has more bytes, and no earlier one as many.
use Rattle.std.proofs.Common.{◌≡◌, ℕ, zero, suc, ◌<◌, ◌≤◌, true, false, nat_le, Bool, List, [], ◌∷◌, length, refl, sym, ◌∙◌, arith, ⊎_elim}
use Rattle.std.specs.List.{list_all}
use Rattle.std.proofs.lemmas.Bool.{le-leb, lt-leb, and_from, and_left, and_right, cases_lt, true≢false}
use Rattle.q_packet.specs.Least.{least}
use Rattle.q_packet.specs.Totals.{count, size}
use Rattle.q_packet.proofs.LeastLemmas.{least_is, least_holds, least_lt}
use Rattle.q_packet.specs.declared.stamped.Stamped.{Stamped}
use Rattle.q_fqcodel.specs.FqState.{Flow, queue_of, packets_of}
use Rattle.q_fqcodel.specs.Put.{fattest}
use Rattle.q_fqcodel.proofs.FlowLemmas.{packets_of-cons, packets_of-nil}

none_above : (m : ℕ) (fs : List Flow) → ((k : ℕ) → k < length fs → size (queue_of fs k) ≤ m) → list_all (λ (f : Flow). nat_le (size f.queue) m) fs ≡ true
none_above m [] h = refl
none_above m (f ∷ fs) h = and_from _ _ (le-leb (size f.queue) m (h 0 (omega arith))) (none_above m fs (λ k w. h (suc k) (omega arith)))

some_above : (m k : ℕ) (fs : List Flow) → k < length fs → m < size (queue_of fs k) → list_all (λ (f : Flow). nat_le (size f.queue) m) fs ≡ false
some_above m k [] w h = absurd (omega arith)
some_above m zero (f ∷ fs) w h = and_left _ _ (lt-leb (size f.queue) m h)
some_above m (suc k) (f ∷ fs) w h = and_right _ _ (some_above m k fs (omega arith) h)

pub fattest_is : (flows : List Flow) (n m : ℕ) → n < length flows → m ≡ size (queue_of flows n)
    → ((k : ℕ) → k < length flows → size (queue_of flows k) ≤ m) → ((k : ℕ) → k < n → size (queue_of flows k) < m) → n ≡ fattest flows
unfolding fattest
fattest_is flows n m within most all before =
    sym (least_is (λ n. list_all (λ (f : Flow). nat_le (size f.queue) (size (queue_of flows n))) flows) (length flows) n
    (omega arith)
    (λ _. none_above (size (queue_of flows n)) flows (λ k w. omega (arith, all k w, most)))
    (λ i h. some_above (size (queue_of flows i)) n flows within (omega (arith, before i h, most))))

bytes_some : (q : List Stamped) → 0 < size q → 0 < count q
bytes_some [] h = absurd (omega arith)
bytes_some (x ∷ xs) h = omega arith

-- some flow has a packet
busy_flow : (flows : List Flow) → 0 < packets_of flows → (k : ℕ) × (k < length flows) × (0 < count (queue_of flows k))
busy_flow [] h = absurd (omega (arith, packets_of-nil))
busy_flow (f ∷ fs) h =
    ⊎_elim
    (λ (here : 0 < count f.queue). (0, omega arith, here))
    (λ (none : count f.queue ≤ 0). let w = busy_flow fs (omega (arith, h, none, packets_of-cons f fs)) in (suc w.0, omega (arith, w.1), w.2))
    (cases_lt 0 (count f.queue))

-- where there is a packet at all, and each has a byte at least, the fat flow has one
pub fat_some : (flows : List Flow) (n m : ℕ) → m ≡ size (queue_of flows n) → ((k : ℕ) → k < length flows → size (queue_of flows k) ≤ m)
    → ((k : ℕ) → k < length flows → count (queue_of flows k) ≤ size (queue_of flows k))
    → 0 < packets_of flows → 0 < count (queue_of flows n)
fat_some flows n m most all counted some =
    let w = busy_flow flows some in
    let bytes : 0 < size (queue_of flows n) = omega (arith, all w.0 w.1, counted w.0 w.1, w.2, most) in
    bytes_some (queue_of flows n) bytes

-- ---- the fat flow, by its definition

largest : (f : Flow) (fs : List Flow) → (n : ℕ) × (n < length (f ∷ fs)) × ((k : ℕ) → k < length (f ∷ fs) → size (queue_of (f ∷ fs) k) ≤ size (queue_of (f ∷ fs) n))
largest f [] = (0, omega arith, λ k h. elim k as (λ (k : ℕ). k < 1 → size (queue_of (f ∷ []) k) ≤ size f.queue) [ zero ↦ λ h. omega arith | suc k ↦ λ h. absurd (omega arith) ] h)
largest f (g ∷ gs) =
    let w = largest g gs in
    ⊎_elim
    (λ (more : size f.queue < size (queue_of (g ∷ gs) w.0)). (
      suc w.0,
      omega (arith, w.1),
      λ k. elim k as (λ (k : ℕ). k < length (f ∷ g ∷ gs) → size (queue_of (f ∷ g ∷ gs) k) ≤ size (queue_of (g ∷ gs) w.0))
          [ zero ↦ λ h. omega arith | suc k ↦ λ h. w.2 k (omega arith) ],
    ))
    (λ (fewer : size (queue_of (g ∷ gs) w.0) ≤ size f.queue). (
      0,
      omega arith,
      λ k. elim k as (λ (k : ℕ). k < length (f ∷ g ∷ gs) → size (queue_of (f ∷ g ∷ gs) k) ≤ size f.queue)
          [ zero ↦ λ h. omega arith | suc k ↦ λ h. omega (arith, w.2 k (omega arith), fewer) ],
    ))
    (cases_lt (size f.queue) (size (queue_of (g ∷ gs) w.0)))

all_below : (m k : ℕ) (fs : List Flow) → list_all (λ (f : Flow). nat_le (size f.queue) m) fs ≡ true → k < length fs → size (queue_of fs k) ≤ m
all_below m k fs h within =
    ⊎_elim
    (λ (more : m < size (queue_of fs k)). absurd (true≢false (sym h ∙ some_above m k fs within more)))
    (λ (enough : size (queue_of fs k) ≤ m). enough)
    (cases_lt m (size (queue_of fs k)))

-- no flow has more bytes than it
pub fattest_most : (flows : List Flow) (k : ℕ) → k < length flows → size (queue_of flows k) ≤ size (queue_of flows (fattest flows))
unfolding fattest
fattest_most [] k within = absurd (omega arith)
fattest_most (f ∷ fs) k within =
    let flows : List Flow = f ∷ fs in
    let test : ℕ → Bool = λ n. list_all (λ (f : Flow). nat_le (size f.queue) (size (queue_of flows n))) flows in
    let w = largest f fs in
    let holds : test w.0 ≡ true = none_above (size (queue_of flows w.0)) flows w.2 in
    all_below (size (queue_of flows (least test (length flows)))) k flows (least_holds test (length flows) (least_lt test (length flows) w.0 w.1 holds)) within
