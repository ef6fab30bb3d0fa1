-- The flows as they are put together from their queues and the CoDel states: each by its index, after a change of one,
-- and their totals.
use Rattle.std.proofs.Common.{◌≡◌, ℕ, zero, suc, ◌<◌, Bool, List, [], ◌∷◌, length, get_or, set, map, drop, replicate, Some, sum_by, refl, sym, ap, ap₂, ◌∙◌, arith}
use Rattle.std.specs.Prelude.{slice_get}
use Rattle.std.proofs.lemmas.List.{set-get_or, get_or-set_same}
use Rattle.std.proofs.lemmas.List.Sums.{sum_by-cons}
use Rattle.q_packet.specs.Totals.{count, size}
use Rattle.q_packet.specs.declared.stamped.Stamped.{Stamped}
use Rattle.q_codel.specs.Codel.{CodelState, CodelParams, CodelVars, joined, vars_of, vars_at_first}
use Rattle.q_fqcodel.specs.Cleared.{adjust}
use Rattle.q_fqcodel.specs.FqState.{Flow, queue_of, packets_of, bytes_of}
use Rattle.q_fqcodel.specs.Pool.{packets_in, bytes_in, sizes, flows_from, codels_in, cleared}

pub length-flows_from : (qs : List (List Stamped)) (cs : List CodelState) → length qs ≡ length cs → length (flows_from qs cs) ≡ length cs
unfolding flows_from
length-flows_from [] cs e = e
length-flows_from (q ∷ qs) [] e = refl
length-flows_from (q ∷ qs) (c ∷ cs) e = ap suc (length-flows_from qs cs (omega (arith, e)))

-- the flow with this index
pub flow_there : (n : ℕ) (qs : List (List Stamped)) (cs : List CodelState) (d : CodelState) → length qs ≡ length cs → n < length cs
    → slice_get (flows_from qs cs) n ≡ Some (record { queue = get_or qs n []; codel = get_or cs n d })
unfolding flows_from
flow_there n qs [] d e within = absurd (omega arith)
flow_there n [] (c ∷ cs) d e within = absurd (omega arith)
flow_there zero (q ∷ qs) (c ∷ cs) d e within = refl
flow_there (suc n) (q ∷ qs) (c ∷ cs) d e within = flow_there n qs cs d (omega (arith, e)) (omega arith)

-- the queue of the flow with this index
pub queue_there : (n : ℕ) (qs : List (List Stamped)) (cs : List CodelState) → length qs ≡ length cs → queue_of (flows_from qs cs) n ≡ get_or qs n []
unfolding flows_from
queue_there n [] cs e = refl
queue_there n (q ∷ qs) [] e = absurd (omega (arith, e))
queue_there zero (q ∷ qs) (c ∷ cs) e = refl
queue_there (suc n) (q ∷ qs) (c ∷ cs) e = queue_there n qs cs (omega (arith, e))

-- ---- one flow is written

-- its packets alone
pub queue_written : (n : ℕ) (qs : List (List Stamped)) (q' : List Stamped) (cs : List CodelState) (g : Flow → Flow)
    → ((c : CodelState) → g (record { queue = get_or qs n []; codel = c }) ≡ record { queue = q'; codel = c })
    → flows_from (set qs n q') cs ≡ adjust g n (flows_from qs cs)
unfolding flows_from adjust
queue_written n [] q' cs g here = refl
queue_written zero (q ∷ qs) q' [] g here = refl
queue_written (suc n) (q ∷ qs) q' [] g here = refl
queue_written zero (q ∷ qs) q' (c ∷ cs) g here = ap (λ (f : Flow). f ∷ flows_from qs cs) (sym (here c))
queue_written (suc n) (q ∷ qs) q' (c ∷ cs) g here = ap (λ (fs : List Flow). record { queue = q; codel = c } ∷ fs) (queue_written n qs q' cs g here)

-- its packets and its CoDel state
pub flow_written : (n : ℕ) (qs : List (List Stamped)) (q' : List Stamped) (cs : List CodelState) (c' d : CodelState) (g : Flow → Flow)
    → g (record { queue = get_or qs n []; codel = get_or cs n d }) ≡ record { queue = q'; codel = c' }
    → flows_from (set qs n q') (set cs n c') ≡ adjust g n (flows_from qs cs)
unfolding flows_from adjust
flow_written n [] q' cs c' d g here = refl
flow_written zero (q ∷ qs) q' [] c' d g here = refl
flow_written (suc n) (q ∷ qs) q' [] c' d g here = refl
flow_written zero (q ∷ qs) q' (c ∷ cs) c' d g here = ap (λ (f : Flow). f ∷ flows_from qs cs) (sym here)
flow_written (suc n) (q ∷ qs) q' (c ∷ cs) c' d g here = ap (λ (fs : List Flow). record { queue = q; codel = c } ∷ fs) (flow_written n qs q' cs c' d g here)

-- its CoDel state alone
pub codel_written : (n : ℕ) (qs : List (List Stamped)) (cs : List CodelState) (c' d : CodelState) (g : Flow → Flow)
    → g (record { queue = get_or qs n []; codel = get_or cs n d }) ≡ record { queue = get_or qs n []; codel = c' }
    → flows_from qs (set cs n c') ≡ adjust g n (flows_from qs cs)
codel_written n qs cs c' d g here =
    ap (λ (l : List (List Stamped)). flows_from l (set cs n c')) (sym (set-get_or qs n []))
    ∙ flow_written n qs (get_or qs n []) cs c' d g here

-- ---- totals

-- a total of the queues
total_is : (total : List Stamped → ℕ) (qs : List (List Stamped)) (cs : List CodelState) → length qs ≡ length cs
    → sum_by (λ (f : Flow). total f.queue) (flows_from qs cs) ≡ sum_by (λ (q : List Stamped). total q) qs
unfolding flows_from
total_is total [] cs e = refl
total_is total (q ∷ qs) [] e = absurd (omega (arith, e))
total_is total (q ∷ qs) (c ∷ cs) e =
    omega (
      arith,
      sum_by-cons (λ (f : Flow). total f.queue) (record { queue = q; codel = c }) (flows_from qs cs),
      sum_by-cons (λ (x : List Stamped). total x) q qs,
      total_is total qs cs (omega (arith, e)),
    )

pub packets_pooled : (qs : List (List Stamped)) (cs : List CodelState) → length qs ≡ length cs → packets_of (flows_from qs cs) ≡ packets_in qs
unfolding packets_of packets_in
packets_pooled qs cs e = total_is (λ (q : List Stamped). count q) qs cs e

pub bytes_pooled : (qs : List (List Stamped)) (cs : List CodelState) → length qs ≡ length cs → bytes_of (flows_from qs cs) ≡ bytes_in qs
unfolding bytes_of bytes_in
bytes_pooled qs cs e = total_is (λ (q : List Stamped). size q) qs cs e

-- the flow that a read of its CoDel state finds
pub flow_read : (n : ℕ) (qs : List (List Stamped)) (cs : List CodelState) (codel : CodelState) (fs : List Flow) → length qs ≡ length cs
    → n < length cs → codel ≡ get_or cs n codel → flows_from qs cs ≡ fs
    → slice_get fs n ≡ Some (record { queue = get_or qs n []; codel = codel })
flow_read n qs cs codel fs e within read same =
    ap (λ (l : List Flow). slice_get l n) (sym same)
    ∙ flow_there n qs cs codel e within
    ∙ ap (λ (s : CodelState). Some (record { queue = get_or qs n []; codel = s })) (sym read)

-- ---- the bytes of each flow

pub sizes_at : (qs : List (List Stamped)) (n : ℕ) → get_or (sizes qs) n 0 ≡ size (get_or qs n [])
unfolding sizes
sizes_at [] n = refl
sizes_at (q ∷ qs) zero = refl
sizes_at (q ∷ qs) (suc n) = sizes_at qs n

pub length-sizes : (qs : List (List Stamped)) → length (sizes qs) ≡ length qs
unfolding sizes
length-sizes [] = refl
length-sizes (q ∷ qs) = ap suc (length-sizes qs)

pub sizes-set : (qs : List (List Stamped)) (n : ℕ) (q : List Stamped) → sizes (set qs n q) ≡ set (sizes qs) n (size q)
unfolding sizes
sizes-set [] n q = refl
sizes-set (x ∷ xs) zero q = refl
sizes-set (x ∷ xs) (suc n) q = ap (λ (l : List ℕ). size x ∷ l) (sizes-set xs n q)

pub sizes_first : (n : ℕ) → sizes (replicate n []) ≡ replicate n 0
unfolding sizes
sizes_first zero = refl
sizes_first (suc n) = ap (λ (l : List ℕ). 0 ∷ l) (sizes_first n)

-- one queue was written, and its flow's bytes were told
pub sizes_renewed : (qs new : List (List Stamped)) (n : ℕ) (q : List Stamped) (ws : List ℕ) (bytes : ℕ) → new ≡ set qs n q → n < length qs
    → ws ≡ set (sizes qs) n bytes → bytes ≡ size (get_or new n []) → ws ≡ sizes new
sizes_renewed qs new n q ws bytes written within told is =
    let read : get_or new n [] ≡ q = ap (λ (l : List (List Stamped)). get_or l n []) written ∙ get_or-set_same qs n q [] within in
    told
    ∙ ap (λ (b : ℕ). set (sizes qs) n b) (is ∙ ap size read)
    ∙ sym (sizes-set qs n q)
    ∙ ap sizes (sym written)

-- a flow with a packet is there
pub flow_with : (qs : List (List Stamped)) (n : ℕ) → 0 < count (get_or qs n []) → n < length qs
flow_with [] n h = absurd (omega arith)
flow_with (q ∷ qs) zero h = omega arith
flow_with (q ∷ qs) (suc n) h = omega (arith, flow_with qs n h)

-- ---- CoDel's settings apart from each flow's state

pub length-codels_in : (p : CodelParams) (vs : List CodelVars) → length (codels_in p vs) ≡ length vs
unfolding codels_in
length-codels_in p [] = refl
length-codels_in p (v ∷ vs) = ap suc (length-codels_in p vs)

pub codel_at : (p : CodelParams) (vs : List CodelVars) (n : ℕ) (d : CodelVars) → get_or (codels_in p vs) n (joined p d) ≡ joined p (get_or vs n d)
unfolding codels_in
codel_at p [] zero d = refl
codel_at p [] (suc n) d = refl
codel_at p (v ∷ vs) zero d = refl
codel_at p (v ∷ vs) (suc n) d = codel_at p vs n d

pub codels_in-set : (p : CodelParams) (vs : List CodelVars) (n : ℕ) (v : CodelVars) → codels_in p (set vs n v) ≡ set (codels_in p vs) n (joined p v)
unfolding codels_in
codels_in-set p [] n v = refl
codels_in-set p (x ∷ xs) zero v = refl
codels_in-set p (x ∷ xs) (suc n) v = ap (λ (l : List CodelState). joined p x ∷ l) (codels_in-set p xs n v)

pub codels_first : (p : CodelParams) (n : ℕ) → codels_in p (replicate n vars_at_first) ≡ replicate n (joined p vars_at_first)
unfolding codels_in
codels_first p zero = refl
codels_first p (suc n) = ap (λ (l : List CodelState). joined p vars_at_first ∷ l) (codels_first p n)

-- other settings, but for the mtu
pub codels_retuned : (p r : CodelParams) (target interval : ℕ) (ecn : Bool) (vs : List CodelVars) → r ≡ record p { target = target; interval = interval; ecn = ecn }
    → codels_in r vs ≡ map (λ (c : CodelState). record c { target = target; interval = interval; ecn = ecn }) (codels_in p vs)
unfolding codels_in
codels_retuned p r target interval ecn [] e = refl
codels_retuned p r target interval ecn (v ∷ vs) e =
    ap₂ (λ (c : CodelState) (l : List CodelState). c ∷ l) (ap (λ (q : CodelParams). joined q v) e) (codels_retuned p r target interval ecn vs e)

-- all flows are cleared, and get these settings
pub cleared_retuned : (p r : CodelParams) (qs : List (List Stamped)) (vs : List CodelVars) (old : List Flow) → length qs ≡ length (codels_in p vs) → flows_from qs (codels_in p vs) ≡ map cleared old
    → flows_from qs (codels_in r vs) ≡ replicate (length old) (record { queue = []; codel = joined r vars_at_first })
unfolding codels_in flows_from cleared
cleared_retuned p r [] vs [] len e = refl
cleared_retuned p r [] vs (f ∷ fs) len e = absurd cc
cleared_retuned p r (q ∷ qs) [] old len e = absurd (omega (arith, len))
cleared_retuned p r (q ∷ qs) (v ∷ vs) [] len e = absurd cc
cleared_retuned p r (q ∷ qs) (v ∷ vs) (f ∷ fs) len e =
    let head : record { queue = q; codel = joined p v } ≡ cleared f = ap (λ (l : List Flow). get_or l 0 (cleared f)) e in
    let tail : flows_from qs (codels_in p vs) ≡ map cleared fs = ap (drop 1) e in
    let none : q ≡ [] = ap (λ (x : Flow). x.queue) head in
    let first : v ≡ vars_at_first = ap (λ (x : Flow). vars_of x.codel) head in
    ap₂ (λ (x : Flow) (l : List Flow). x ∷ l)
    (ap₂ (λ (x : List Stamped) (y : CodelVars). record { queue = x; codel = joined r y }) none first)
    (cleared_retuned p r qs vs fs (omega (arith, len)) tail)
