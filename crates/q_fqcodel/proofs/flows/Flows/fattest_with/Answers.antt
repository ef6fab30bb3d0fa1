use Rattle.std.proofs.Common.{◌≡◌, ◌≢◌, ℕ, ◌+◌, ◌<◌, ◌≤◌, List, [], ◌∷◌, ◌++◌, get_or, length, set, refl, sym, ap, ◌∙◌, arith, ⊎_elim, length-append}
use Rattle.std.proofs.lemmas.Bool.{cases_lt, cases_eq}
use Rattle.std.proofs.lemmas.List.{get_or-set_same, get_or-set_other}
use Rattle.q_packet.specs.Totals.{count, size}
use Rattle.q_packet.proofs.TotalsLemmas.{size_push}
use Rattle.q_packet.specs.declared.stamped.Stamped.{Stamped}
use Rattle.q_fqcodel.specs.Cleared.{adjust}
use Rattle.q_fqcodel.specs.FlowsState.{FlowsState}
use Rattle.q_fqcodel.specs.FqState.{Flow, queue_of}
use Rattle.q_fqcodel.specs.Pool.{codels_in}
use Rattle.q_fqcodel.specs.Put.{joined}
use Rattle.q_fqcodel.specs.Winners.{bytes_at}
use Rattle.q_fqcodel.proofs.FatLemmas.{fattest_is, fat_some}
use Rattle.q_fqcodel.proofs.FlowLemmas.{length-adjust, packets_at}
use Rattle.q_fqcodel.proofs.PooledLemmas.{length-flows_from, queue_there, sizes_at, length-sizes}
use Rattle.q_fqcodel.proofs.PutLemmas.{other_queue, own_queue, packets_of-joined}
use Rattle.q_fqcodel.proofs.flows.Flows.fattest_with.Goals as goal
use Rattle.q_fqcodel.proofs.flows.Flows.fattest_with.Goals.{After-each_has_bytes, After-bytes_at, After-top_with}

-- each flow's queue, as the pool has it, and its bytes, as the winners have them
queue_is : (c : After-each_has_bytes) (k : ℕ) → queue_of c.args.self.now.flows k ≡ get_or c.self.inside.pool.queues k []
queue_is c k =
    ap (λ (f : FlowsState). queue_of f.flows k) (sym c.self.view_is) ∙ queue_there k c.self.inside.pool.queues (codels_in c.self.inside.parameters c.self.inside.states.items) c.self.invariant.0

bytes_are : (c : After-each_has_bytes) (k : ℕ) → size (queue_of c.args.self.now.flows k) ≡ bytes_at c.self.inside.winners k
bytes_are c k = ap size (queue_is c k) ∙ sym (sizes_at c.self.inside.pool.queues k) ∙ ap (λ (l : List ℕ). get_or l k 0) (sym c.self.invariant.2)

all : (c : After-each_has_bytes) → length c.args.self.now.flows ≡ length c.self.inside.winners
all c =
    let qs = c.self.inside.pool.queues in
    sym (ap (λ (f : FlowsState). length f.flows) c.self.view_is)
    ∙ length-flows_from qs (codels_in c.self.inside.parameters c.self.inside.states.items) c.self.invariant.0
    ∙ sym c.self.invariant.0
    ∙ sym (length-sizes qs)
    ∙ ap length (sym c.self.invariant.2)

pub bytes_at-requires : goal.bytes_at-requires
bytes_at-requires c =
    let d = (goal.at.bytes_at-requires c).After-each_has_bytes in
    omega (arith, c.requires.within, all d, ap length c.self.invariant.2, length-sizes c.self.inside.pool.queues)

pub overflow_add-held : goal.overflow_add-held
overflow_add-held c =
    let d = (goal.at.overflow_add-held c).After-each_has_bytes in
    omega (
      arith,
      c.bytes_at.ensures.value,
      c.each_has_bytes.ensures.most c.args.flow,
      ap count (queue_is d c.args.flow),
      packets_at c.args.flow c.args.self.now.flows,
      c.requires.few,
    )

pub top_with-requires-clause-in_range : goal.top_with-requires-clause-in_range
top_with-requires-clause-in_range c = omega (arith, c.requires.within, all (goal.at.top_with-requires-clause-in_range c).After-each_has_bytes)

pub top_with-requires-clause-more : goal.top_with-requires-clause-more
top_with-requires-clause-more c =
    let d = (goal.at.top_with-requires-clause-more c).After-each_has_bytes in
    omega (arith, bytes_are d c.args.flow, ap size (queue_is d c.args.flow), c.bytes_at.ensures.value)

pub top_with-requires-clause-few : goal.top_with-requires-clause-few
top_with-requires-clause-few c =
    let d = (goal.at.top_with-requires-clause-few c).After-each_has_bytes in
    omega (
      arith,
      c.bytes_at.ensures.value,
      c.each_has_bytes.ensures.most c.args.flow,
      ap count (queue_is d c.args.flow),
      packets_at c.args.flow c.args.self.now.flows,
      c.requires.few,
    )

-- the flows once the packet has joined, and the bytes of each
abbrev fuller : After-top_with → Stamped → List Flow
fuller c s = adjust (joined s) c.args.flow c.args.self.now.flows

abbrev held : After-top_with → ℕ
held c = c.bytes_at.result + c.args.len

grown : (c : After-top_with) (s : Stamped) → s.packet.len ≡ c.args.len → (k : ℕ) → size (queue_of (fuller c s) k) ≡ bytes_at (set c.self.inside.winners c.args.flow (held c)) k
grown c s len k =
    let d = (goal.at.returns-clause-value c).After-each_has_bytes in
    let n : ℕ = c.args.flow in
    let ws : List ℕ = c.self.inside.winners in
    ⊎_elim
    (λ (own : k ≡ n).
    ap (λ (m : ℕ). size (queue_of (fuller c s) m)) own
    ∙ ap size (own_queue s n c.args.self.now.flows c.requires.within)
    ∙ size_push (queue_of c.args.self.now.flows n) s
    ∙ omega (arith, ap size (queue_is d n), c.bytes_at.ensures.value, len)
    ∙ sym (get_or-set_same ws n (held c) 0 (omega (arith, c.requires.within, all d)))
    ∙ ap (λ (m : ℕ). bytes_at (set ws n (held c)) m) (sym own))
    (λ (ne : k ≢ n).
    ap size (other_queue (joined s) n k c.args.self.now.flows ne) ∙ bytes_are d k ∙ sym (get_or-set_other ws n k (held c) 0 ne))
    (cases_eq k n)

lengths : (c : After-top_with) (s : Stamped) → length (fuller c s) ≡ length c.self.inside.winners
lengths c s = length-adjust (joined s) c.args.flow c.args.self.now.flows ∙ all (goal.at.returns-clause-value c).After-each_has_bytes

most : (c : After-top_with) (s : Stamped) → s.packet.len ≡ c.args.len → (k : ℕ) → k < length (fuller c s) → size (queue_of (fuller c s) k) ≤ size (queue_of (fuller c s) c.top_with.result)
most c s len k w = omega (arith, grown c s len k, grown c s len c.top_with.result, (c.top_with.ensures.leads k (omega (arith, w, lengths c s))).most)

pub returns-clause-value : goal.returns-clause-value
returns-clause-value c s len =
    let n : ℕ = c.top_with.result in
    let flows : List Flow = fuller c s in
    let before : (k : ℕ) → k < n → size (queue_of flows k) < size (queue_of flows n) = λ k w.
    ⊎_elim (λ (less : size (queue_of flows k) < size (queue_of flows n)). less)
    (λ (no_less : size (queue_of flows n) ≤ size (queue_of flows k)).
    absurd (omega (arith, w, (c.top_with.ensures.leads k (omega (arith, w, c.top_with.ensures.within))).first (omega (arith, no_less, grown c s len k, grown c s len n)))))
    (cases_lt (size (queue_of flows k)) (size (queue_of flows n))) in
    fattest_is flows n (size (queue_of flows n)) (omega (arith, c.top_with.ensures.within, lengths c s)) refl (most c s len) before

-- every packet has a byte
counted : (c : After-top_with) (s : Stamped) → s.packet.len ≡ c.args.len → (k : ℕ) → count (queue_of (fuller c s) k) ≤ size (queue_of (fuller c s) k)
counted c s len k =
    let d = (goal.at.returns-clause-value c).After-each_has_bytes in
    let n : ℕ = c.args.flow in
    let flows : List Flow = c.args.self.now.flows in
    let least : (m : ℕ) → count (queue_of flows m) ≤ size (queue_of flows m) = λ m. omega (arith, ap count (queue_is d m), ap size (queue_is d m), c.each_has_bytes.ensures.least m) in
    ⊎_elim
    (λ (own : k ≡ n).
    let q : queue_of (fuller c s) k ≡ queue_of flows n ++ s ∷ [] = ap (queue_of (fuller c s)) own ∙ own_queue s n flows c.requires.within in
    omega (arith, ap count q, ap size q, length-append (queue_of flows n) (s ∷ []), size_push (queue_of flows n) s, least n, len, c.requires.some))
    (λ (ne : k ≢ n).
    let q : queue_of (fuller c s) k ≡ queue_of flows k = other_queue (joined s) n k flows ne in
    omega (arith, ap count q, ap size q, least k))
    (cases_eq k n)

pub returns-clause-some : goal.returns-clause-some
returns-clause-some c s len =
    let flows : List Flow = fuller c s in
    let n : ℕ = c.top_with.result in
    fat_some flows n (size (queue_of flows n)) refl (most c s len) (λ k w. counted c s len k)
    (omega (arith, packets_of-joined s c.args.flow c.args.self.now.flows c.requires.within))
