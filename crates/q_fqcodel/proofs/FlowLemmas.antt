-- What a change of one flow does to the others, to the packets of all, and to which flows are empty.
use Rattle.std.proofs.Common.{◌≡◌, ℕ, zero, suc, ◌+◌, ◌≤◌, Bool, true, false, nat_eq, List, [], ◌∷◌, length, get_or, sum_by, refl, sym, ap, ◌∙◌, arith}
use Rattle.std.proofs.lemmas.Bool.{ne_eqb, eqb-true, eqb-false}
use Rattle.std.proofs.lemmas.List.Sums.{sum_by-cons}
use Rattle.q_packet.specs.Totals.{count}
use Rattle.q_packet.specs.declared.stamped.Stamped.{Stamped}
use Rattle.q_fqcodel.specs.Cleared.{adjust}
use Rattle.q_fqcodel.specs.FqState.{Flow, queues, queue_of, is_idle, packets_of, rested_flow}

pub length-adjust : {F : Type 0} (g : F → F) (n : ℕ) (xs : List F) → length (adjust g n xs) ≡ length xs
unfolding adjust
length-adjust g n [] = refl
length-adjust g zero (x ∷ xs) = refl
length-adjust g (suc n) (x ∷ xs) = ap suc (length-adjust g n xs)

-- a change that leaves every queue as it is
pub queues-adjust : (g : Flow → Flow) → ((f : Flow) → (g f).queue ≡ f.queue) → (n : ℕ) (flows : List Flow) → queues (adjust g n flows) ≡ queues flows
unfolding adjust
queues-adjust g same n [] = refl
queues-adjust g same zero (f ∷ fs) = ap (λ (q : List Stamped). q ∷ queues fs) (same f)
queues-adjust g same (suc n) (f ∷ fs) = ap (λ (l : List (List Stamped)). f.queue ∷ l) (queues-adjust g same n fs)

-- a flow that rests keeps its packets
pub queues-rested_flow : (n : ℕ) (flows : List Flow) → queues (adjust rested_flow n flows) ≡ queues flows
unfolding rested_flow
queues-rested_flow n flows = queues-adjust rested_flow (λ f. refl) n flows

abbrev pub idle_in : List (List Stamped) → ℕ → Bool
idle_in qs n = nat_eq (count (get_or qs n [])) 0

pub is_idle-rested_flow : (n : ℕ) (flows : List Flow) → is_idle (adjust rested_flow n flows) ≡ is_idle flows
is_idle-rested_flow n flows = ap idle_in (queues-rested_flow n flows)

pub packets_by_queues : (flows : List Flow) → packets_of flows ≡ sum_by (λ (q : List Stamped). count q) (queues flows)
unfolding packets_of
packets_by_queues [] = refl
packets_by_queues (f ∷ fs) =
    sum_by-cons (λ (f : Flow). count f.queue) f fs
    ∙ ap (λ (n : ℕ). count f.queue + n) (packets_by_queues fs)
    ∙ sym (sum_by-cons (λ (q : List Stamped). count q) f.queue (queues fs))

pub packets_of-rested_flow : (n : ℕ) (flows : List Flow) → packets_of (adjust rested_flow n flows) ≡ packets_of flows
packets_of-rested_flow n flows =
    packets_by_queues (adjust rested_flow n flows)
    ∙ ap (sum_by (λ (q : List Stamped). count q)) (queues-rested_flow n flows)
    ∙ sym (packets_by_queues flows)

pub packets_of-cons : (f : Flow) (fs : List Flow) → packets_of (f ∷ fs) ≡ count f.queue + packets_of fs
unfolding packets_of
packets_of-cons f fs = sum_by-cons (λ (f : Flow). count f.queue) f fs

pub packets_of-nil : packets_of [] ≡ 0
unfolding packets_of
packets_of-nil = refl

-- a flow has no more packets than all have
pub packets_at : (n : ℕ) (flows : List Flow) → count (queue_of flows n) ≤ packets_of flows
packets_at n [] = omega arith
packets_at zero (f ∷ fs) = omega (arith, packets_of-cons f fs)
packets_at (suc n) (f ∷ fs) = omega (arith, packets_of-cons f fs, packets_at n fs)

-- a change that takes packets away
pub packets_shrunk : (g : Flow → Flow) → ((f : Flow) → count (g f).queue ≤ count f.queue) → (n : ℕ) (flows : List Flow) → packets_of (adjust g n flows) ≤ packets_of flows
unfolding adjust
packets_shrunk g fewer n [] = omega arith
packets_shrunk g fewer zero (f ∷ fs) = omega (arith, packets_of-cons f fs, packets_of-cons (g f) fs, fewer f)
packets_shrunk g fewer (suc n) (f ∷ fs) = omega (arith, packets_of-cons f fs, packets_of-cons f (adjust g n fs), packets_shrunk g fewer n fs)

pub count_shrunk : (g : Flow → Flow) → ((f : Flow) → count (g f).queue ≤ count f.queue) → (n m : ℕ) (flows : List Flow) → count (queue_of (adjust g n flows) m) ≤ count (queue_of flows m)
unfolding adjust
count_shrunk g fewer n m [] = omega arith
count_shrunk g fewer zero zero (f ∷ fs) = fewer f
count_shrunk g fewer zero (suc m) (f ∷ fs) = omega arith
count_shrunk g fewer (suc n) zero (f ∷ fs) = omega arith
count_shrunk g fewer (suc n) (suc m) (f ∷ fs) = count_shrunk g fewer n m fs

-- who has packets after such a change had some before
pub busy_shrunk : (g : Flow → Flow) → ((f : Flow) → count (g f).queue ≤ count f.queue) → (n m : ℕ) (flows : List Flow) → is_idle (adjust g n flows) m ≡ false → is_idle flows m ≡ false
busy_shrunk g fewer n m flows busy =
    ne_eqb (count (queue_of flows m)) 0
    (λ none. eqb-false (count (queue_of (adjust g n flows) m)) 0 busy (omega (arith, count_shrunk g fewer n m flows)))

-- where no flow has a packet there is none
pub packets_none : (flows : List Flow) → ((n : ℕ) → is_idle flows n ≡ true) → packets_of flows ≡ 0
packets_none [] idle = packets_of-nil
packets_none (f ∷ fs) idle =
    let here : count f.queue ≡ 0 = eqb-true (count f.queue) 0 (idle 0) in
    omega (arith, packets_of-cons f fs, packets_none fs (λ n. idle (suc n)), here)
