-- Packets leave the front of a flow one by one; a list changed from its first element to its last.
use Rattle.std.proofs.Common.{◌≡◌, ℕ, zero, suc, ◌+◌, ◌<◌, ◌≤◌, Bool, List, [], ◌∷◌, ◌++◌, map, length, take, drop, replicate, refl, sym, ap, ◌∙◌, arith, append_assoc, append-nil}
use Rattle.std.proofs.lemmas.List.{drop_all}
use Rattle.q_packet.specs.Totals.{count}
use Rattle.q_packet.specs.declared.stamped.Stamped.{Stamped}
use Rattle.q_codel.specs.Codel.{CodelState, at_first}
use Rattle.q_fqcodel.specs.Cleared.{adjust}
use Rattle.q_fqcodel.specs.FqState.{Flow, queue_of, packets_of, all_packets, retuned}
use Rattle.q_fqcodel.specs.Put.{shortened}
use Rattle.q_fqcodel.specs.Pool.{flows_from, cleared}
use Rattle.q_fqcodel.proofs.FlowLemmas.{packets_of-cons, packets_of-nil}

pub adjust-adjust : {F : Type 0} (g h : F → F) (n : ℕ) (xs : List F) → adjust h n (adjust g n xs) ≡ adjust (λ x. h (g x)) n xs
unfolding adjust
adjust-adjust g h n [] = refl
adjust-adjust g h zero (x ∷ xs) = refl
adjust-adjust g h (suc n) (x ∷ xs) = ap (λ (l : List _). x ∷ l) (adjust-adjust g h n xs)

pub adjust_id : {F : Type 0} (g : F → F) (n : ℕ) (xs : List F) → ((x : F) → g x ≡ x) → adjust g n xs ≡ xs
unfolding adjust
adjust_id g n [] e = refl
adjust_id g zero (x ∷ xs) e = ap (λ (y : _). y ∷ xs) (e x)
adjust_id g (suc n) (x ∷ xs) e = ap (λ (l : List _). x ∷ l) (adjust_id g n xs e)

-- no packet less
pub shortened_none : (n : ℕ) (flows : List Flow) → adjust (shortened 0) n flows ≡ flows
shortened_none n flows = adjust_id (shortened 0) n flows (λ f. refl)

-- what CoDel knew of a flow is forgotten
abbrev pub forgotten : Flow → Flow
forgotten f = record f { codel = at_first f.codel.target f.codel.interval f.codel.mtu f.codel.ecn }

-- all packets of a flow are lost
pub emptied : (m n : ℕ) (flows : List Flow) → n ≡ count (queue_of flows m)
    → adjust (λ (f : Flow). forgotten (shortened n f)) m flows ≡ adjust cleared m flows
unfolding adjust cleared
emptied m n [] e = refl
emptied zero n (f ∷ fs) e = ap (λ (q : List Stamped). record { queue = q; codel = at_first f.codel.target f.codel.interval f.codel.mtu f.codel.ecn } ∷ fs) (drop_all n f.queue (omega (arith, e)))
emptied (suc m) n (f ∷ fs) e = ap (λ (l : List Flow). f ∷ l) (emptied m n fs e)

-- ---- a purge, flow by flow

-- the first n flows are changed, the others as they were
pub purged_next : (g : Flow → Flow) (n : ℕ) (flows : List Flow) → n < length flows → adjust g n (map g (take n flows) ++ drop n flows) ≡ map g (take (suc n) flows) ++ drop (suc n) flows
unfolding adjust
purged_next g zero [] h = absurd (omega arith)
purged_next g zero (f ∷ fs) h = refl
purged_next g (suc n) [] h = absurd (omega arith)
purged_next g (suc n) (f ∷ fs) h = ap (λ (l : List Flow). g f ∷ l) (purged_next g n fs (omega arith))

-- the next one is as it was
pub purged_at : (g : Flow → Flow) (n : ℕ) (flows : List Flow) → n < length flows → queue_of (map g (take n flows) ++ drop n flows) n ≡ queue_of flows n
purged_at g zero flows h = refl
purged_at g (suc n) [] h = absurd (omega arith)
purged_at g (suc n) (f ∷ fs) h = purged_at g n fs (omega arith)

pub all_packets_more : (n : ℕ) (flows : List Flow) → n < length flows → all_packets (take n flows) ++ queue_of flows n ≡ all_packets (take (suc n) flows)
unfolding all_packets
all_packets_more n [] h = absurd (omega arith)
all_packets_more zero (f ∷ fs) h = sym (append-nil f.queue)
all_packets_more (suc n) (f ∷ fs) h = append_assoc f.queue (all_packets (take n fs)) (queue_of fs n) ∙ ap (λ (l : List Stamped). f.queue ++ l) (all_packets_more n fs (omega arith))

pub packets_of_more : (n : ℕ) (flows : List Flow) → n < length flows → packets_of (take n flows) + count (queue_of flows n) ≡ packets_of (take (suc n) flows)
packets_of_more n [] h = absurd (omega arith)
packets_of_more zero (f ∷ fs) h = omega (arith, packets_of-nil, packets_of-cons f [])
packets_of_more (suc n) (f ∷ fs) h = omega (arith, packets_of-cons f (take n fs), packets_of-cons f (take (suc n) fs), packets_of_more n fs (omega arith))

pub packets_of_part : (n : ℕ) (flows : List Flow) → packets_of (take n flows) ≤ packets_of flows
packets_of_part zero flows = omega (arith, packets_of-nil)
packets_of_part (suc n) [] = omega arith
packets_of_part (suc n) (f ∷ fs) = omega (arith, packets_of-cons f (take n fs), packets_of-cons f fs, packets_of_part n fs)

-- ---- every flow is changed alike

pub flows_from-retuned : (target interval : ℕ) (ecn : Bool) (qs : List (List Stamped)) (cs : List CodelState)
    → flows_from qs (map (λ (c : CodelState). record c { target = target; interval = interval; ecn = ecn }) cs) ≡ map (retuned target interval ecn) (flows_from qs cs)
unfolding flows_from retuned
flows_from-retuned target interval ecn [] cs = refl
flows_from-retuned target interval ecn (q ∷ qs) [] = refl
flows_from-retuned target interval ecn (q ∷ qs) (c ∷ cs) =
    ap (λ (l : List Flow). record { queue = q; codel = record c { target = target; interval = interval; ecn = ecn } } ∷ l)
    (flows_from-retuned target interval ecn qs cs)

pub flows_first : (codel : CodelState) (n : ℕ) → flows_from (replicate n []) (replicate n codel) ≡ replicate n (record { queue = []; codel = codel })
unfolding flows_from
flows_first codel zero = refl
flows_first codel (suc n) = ap (λ (l : List Flow). record { queue = []; codel = codel } ∷ l) (flows_first codel n)

pub all_packets-nil : all_packets [] ≡ []
unfolding all_packets
all_packets-nil = refl
