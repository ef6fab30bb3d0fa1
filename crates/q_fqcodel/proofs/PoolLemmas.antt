-- The queues of all flows in one slab: one of them is written, the others stay, and all are counted.
use Rattle.std.proofs.Common.{◌≡◌, ◌≢◌, ℕ, zero, suc, ◌+◌, ◌*◌, ◌<◌, ◌≤◌, ◌-◌, ◌^◌, List, [], ◌∷◌, length, map, get_or, set, replicate, sum_by, Option, refl, sym, ap, ap₂, ◌∙◌, arith, subst, ⊎_elim}
use Rattle.std.proofs.lemmas.Bool.{cases_eq, cases_lt}
use Rattle.std.proofs.lemmas.List.{length-set, get_or-set_same, get_or-set_other, get_or_past}
use Rattle.std.proofs.lemmas.List.Sums.{sum_by-cons, sum_by-set}
use Rattle.q_packet.specs.Totals.{count, size}
use Rattle.q_packet.specs.declared.stamped.Stamped.{Stamped}
use Rattle.q_fqcodel.specs.Chain.{packets, queue_in, IsNode, IsList, KeepsOthers}
use Rattle.q_fqcodel.specs.Linked.{chain, IsChain}
use Rattle.q_fqcodel.specs.Pool.{no_list, queues_in, packets_in, bytes_in, IsPool}
use Rattle.q_fqcodel.specs.declared.node.Node.{Node}
use Rattle.q_fqcodel.specs.declared.flow_list.FlowList.{FlowList}
use Rattle.q_fqcodel.proofs.ChainLemmas.{counted, few_bytes, enough_bytes}
use Rattle.q_fqcodel.proofs.LinkedLemmas.{chain_none, kept_items}

pub length-queues_in : (at : ℕ → Option Node) (lists : List FlowList) → length (queues_in at lists) ≡ length lists
unfolding queues_in
length-queues_in at [] = refl
length-queues_in at (l ∷ ls) = ap suc (length-queues_in at ls)

-- the queue of one flow
pub queue_at : (at : ℕ → Option Node) (lists : List FlowList) (n : ℕ) → get_or (queues_in at lists) n [] ≡ queue_in at (get_or lists n no_list)
unfolding queues_in
queue_at at [] zero = sym (chain_none packets at 0)
queue_at at [] (suc n) = sym (chain_none packets at 0)
queue_at at (l ∷ ls) zero = refl
queue_at at (l ∷ ls) (suc n) = queue_at at ls n

-- ---- one list is written

queues_same : (at at2 : ℕ → Option Node) (lists : List FlowList) → ((m : ℕ) → queue_in at2 (get_or lists m no_list) ≡ queue_in at (get_or lists m no_list)) → queues_in at2 lists ≡ queues_in at lists
unfolding queues_in
queues_same at at2 [] same = refl
queues_same at at2 (l ∷ ls) same = ap₂ (λ (q : List Stamped) (qs : List (List Stamped)). q ∷ qs) (same 0) (queues_same at at2 ls (λ m. same (suc m)))

queues_set : (at at2 : ℕ → Option Node) (lists : List FlowList) (n : ℕ) (l2 : FlowList) → ((m : ℕ) → m ≢ n → queue_in at2 (get_or lists m no_list) ≡ queue_in at (get_or lists m no_list))
    → queues_in at2 (set lists n l2) ≡ set (queues_in at lists) n (queue_in at2 l2)
unfolding queues_in
queues_set at at2 [] n l2 same = refl
queues_set at at2 (l ∷ ls) zero l2 same = ap (λ (qs : List (List Stamped)). queue_in at2 l2 ∷ qs) (queues_same at at2 ls (λ m. same (suc m) (λ e. absurd (omega (arith, e)))))
queues_set at at2 (l ∷ ls) (suc n) l2 same =
    ap₂ (λ (q : List Stamped) (qs : List (List Stamped)). q ∷ qs) (same 0 (λ e. absurd (omega (arith, e))))
    (queues_set at at2 ls n l2 (λ m ne. same (suc m) (λ e. ne (omega (arith, e)))))

module _ (at at2 : ℕ → Option Node) (nodes : ℕ) (lists : List FlowList) (bytes : ℕ) (pool : IsPool at nodes lists bytes) (n : ℕ) (l2 : FlowList) (within : n < length lists)
    (others : KeepsOthers (length lists) n at at2) (linked : IsList at2 (length lists) n l2) where
  pub written : queues_in at2 (set lists n l2) ≡ set (queues_in at lists) n (queue_in at2 l2)
  written = queues_set at at2 lists n l2 (λ m ne. others.same m (get_or lists m no_list) ne (pool.each m))

  -- the pool with one packet more, or one fewer
  pub pool_after : (nodes2 bytes2 : ℕ) → nodes2 + (get_or lists n no_list).count ≡ nodes + l2.count
      → bytes2 + (get_or lists n no_list).bytes ≡ bytes + l2.bytes → nodes2 ≤ 2 ^ 32 → IsPool at2 nodes2 (set lists n l2) bytes2
  pool_after nodes2 bytes2 counts sums few = record {
    each = λ m. ⊎_elim
        (λ (e : m ≡ n). at_n m e)
        (λ (ne : m ≢ n). other m ne)
        (cases_eq m n);
    counted = omega (arith, counts, pool.counted, sum_by-set (λ (l : FlowList). l.count) lists n l2 no_list within);
    summed = omega (arith, sums, pool.summed, sum_by-set (λ (l : FlowList). l.bytes) lists n l2 no_list within);
    few = few;
  }
    where
      at_n : (m : ℕ) → m ≡ n → IsList at2 (length (set lists n l2)) m (get_or (set lists n l2) m no_list)
      at_n m e = rw (e, length-set lists n l2, get_or-set_same lists n l2 no_list within) linked

      other : (m : ℕ) → m ≢ n → IsList at2 (length (set lists n l2)) m (get_or (set lists n l2) m no_list)
      other m ne = rw (length-set lists n l2, get_or-set_other lists n m l2 no_list ne) (others.linked m (get_or lists m no_list) ne (pool.each m))

-- ---- totals

part_le : (f : FlowList → ℕ) (lists : List FlowList) (n : ℕ) → f no_list ≡ 0 → f (get_or lists n no_list) ≤ sum_by f lists
part_le f [] zero none = omega (arith, none)
part_le f [] (suc n) none = omega (arith, none)
part_le f (l ∷ ls) zero none = omega (arith, sum_by-cons f l ls)
part_le f (l ∷ ls) (suc n) none = omega (arith, sum_by-cons f l ls, part_le f ls n none)

module _ (at : ℕ → Option Node) (nodes : ℕ) (lists : List FlowList) (bytes : ℕ) (pool : IsPool at nodes lists bytes) where
  pub count_le : (n : ℕ) → (get_or lists n no_list).count ≤ nodes
  count_le n = omega (arith, part_le (λ (l : FlowList). l.count) lists n refl, pool.counted)

  pub bytes_le : (n : ℕ) → (get_or lists n no_list).bytes ≤ bytes
  bytes_le n = omega (arith, part_le (λ (l : FlowList). l.bytes) lists n refl, pool.summed)

  pub bytes_few : (n : ℕ) → (get_or lists n no_list).bytes ≤ 65535 * (get_or lists n no_list).count
  bytes_few n =
      let l : FlowList = get_or lists n no_list in
      omega (arith, (pool.each n).bytes, few_bytes at (length lists) n l.tail l.count l.head (pool.each n).linked)

  pub bytes_enough : (n : ℕ) → (get_or lists n no_list).count ≤ (get_or lists n no_list).bytes
  bytes_enough n =
      let l : FlowList = get_or lists n no_list in
      omega (arith, (pool.each n).bytes, enough_bytes at (length lists) n l.tail l.count l.head (pool.each n).linked)

-- lists from the k-th flow on
module _ (at : ℕ → Option Node) (w : ℕ) where
  counts_from : (k : ℕ) (lists : List FlowList) → ((n : ℕ) → IsList at w (k + n) (get_or lists n no_list)) → packets_in (queues_in at lists) ≡ sum_by (λ (l : FlowList). l.count) lists
  unfolding packets_in queues_in
  counts_from k [] each = refl
  counts_from k (l ∷ ls) each =
      let rest = counts_from (suc k) ls (λ n. shift n) in
      let here : count (queue_in at l) ≡ l.count = counted at w (k + 0) l.tail l.count l.head (each 0).linked in
      omega (arith, here, rest, sum_by-cons (λ (x : FlowList). x.count) l ls, sum_by-cons (λ (q : List Stamped). count q) (queue_in at l) (map (queue_in at) ls))
    where
      shift : (n : ℕ) → IsList at w (suc k + n) (get_or ls n no_list)
      shift n = let e : k + suc n ≡ suc k + n = omega arith in rw e at (each (suc n))

  sums_from : (k : ℕ) (lists : List FlowList) → ((n : ℕ) → IsList at w (k + n) (get_or lists n no_list))
      → (bytes_in (queues_in at lists) ≡ sum_by (λ (l : FlowList). l.bytes) lists)
      × (sum_by (λ (l : FlowList). l.bytes) lists ≤ 65535 * sum_by (λ (l : FlowList). l.count) lists)
  unfolding bytes_in queues_in
  sums_from k [] each = (refl, omega arith)
  sums_from k (l ∷ ls) each =
      let rest = sums_from (suc k) ls (λ n. shift n) in
      let here : l.bytes ≡ size (queue_in at l) = (each 0).bytes in
      let few : size (queue_in at l) ≤ 65535 * l.count = few_bytes at w (k + 0) l.tail l.count l.head (each 0).linked in (
        omega (arith, here, rest.0, sum_by-cons (λ (x : FlowList). x.bytes) l ls, sum_by-cons (λ (q : List Stamped). size q) (queue_in at l) (map (queue_in at) ls)),
        omega (arith, here, few, rest.1, sum_by-cons (λ (x : FlowList). x.bytes) l ls, sum_by-cons (λ (x : FlowList). x.count) l ls),
      )
    where
      shift : (n : ℕ) → IsList at w (suc k + n) (get_or ls n no_list)
      shift n = let e : k + suc n ≡ suc k + n = omega arith in rw e at (each (suc n))

module _ (at : ℕ → Option Node) (nodes : ℕ) (lists : List FlowList) (bytes : ℕ) (pool : IsPool at nodes lists bytes) where
  from_first : (n : ℕ) → IsList at (length lists) (0 + n) (get_or lists n no_list)
  from_first n = let e : n ≡ 0 + n = omega arith in subst (λ (m : ℕ). IsList at (length lists) m (get_or lists n no_list)) e (pool.each n)

  pub packets_pooled : packets_in (queues_in at lists) ≡ nodes
  packets_pooled = counts_from at (length lists) 0 lists from_first ∙ sym pool.counted

  pub bytes_pooled : bytes_in (queues_in at lists) ≡ bytes
  bytes_pooled = (sums_from at (length lists) 0 lists from_first).0 ∙ sym pool.summed

  pub all_bytes_few : bytes ≤ 65535 * nodes
  all_bytes_few = omega (arith, (sums_from at (length lists) 0 lists from_first).1, pool.summed, pool.counted)

  -- what a read of one list tells of its queue, where these are the queues
  module _ (qs : List (List Stamped)) (same : queues_in at lists ≡ qs) (n : ℕ) (l : FlowList) (read : l ≡ get_or lists n no_list) where
    pub queue_read : queue_in at l ≡ get_or qs n []
    queue_read = ap (queue_in at) read ∙ sym (queue_at at lists n) ∙ ap (λ (q : List (List Stamped)). get_or q n []) same

    pub list_read : IsList at (length lists) n l
    list_read = rw read (pool.each n)

    pub count_read : l.count ≡ count (get_or qs n [])
    count_read = sym (counted at (length lists) n l.tail l.count l.head list_read.linked) ∙ ap count queue_read

    pub bytes_read : l.bytes ≡ size (get_or qs n [])
    bytes_read = list_read.bytes ∙ ap size queue_read

    pub none_read : l.count ≡ 0 → get_or qs n [] ≡ []
    none_read none = sym queue_read ∙ ap (λ (m : ℕ). chain packets at m l.head) none ∙ chain_none packets at l.head

    pub some_read : l.count ≢ 0 → n < length lists
    some_read some =
        ⊎_elim (λ (within : n < length lists). within)
        (λ (past : length lists ≤ n). absurd (some (ap (λ (m : FlowList). m.count) (read ∙ get_or_past lists n no_list past))))
        (cases_lt n (length lists))

    pub packets_read : packets_in qs ≡ nodes
    packets_read = ap packets_in (sym same) ∙ packets_pooled

    pub within_read : n < length qs → n < length lists
    within_read h = omega (arith, h, ap length same, length-queues_in at lists)

    pub few_read : l.count ≤ nodes
    few_read = omega (arith, count_le at nodes lists bytes pool n, ap (λ (m : FlowList). m.count) read)

    pub bytes_below : l.bytes < 2 ^ 48 - 1
    bytes_below =
        omega (arith, ap (λ (m : FlowList). m.bytes) read, bytes_few at nodes lists bytes pool n, count_le at nodes lists bytes pool n, pool.few)

-- ---- without packets

pub queues_first : (at : ℕ → Option Node) (n : ℕ) → queues_in at (replicate n no_list) ≡ replicate n []
unfolding queues_in
queues_first at zero = refl
queues_first at (suc n) = ap₂ (λ (q : List Stamped) (qs : List (List Stamped)). q ∷ qs) (chain_none packets at 0) (queues_first at n)

no_list_at : (at : ℕ → Option Node) (w n : ℕ) → IsList at w n no_list
unfolding IsChain
no_list_at at w n = record { linked = tt; bytes = sym (ap size (chain_none packets at 0)) }

nothing_at : (m n : ℕ) → get_or (replicate n no_list) m no_list ≡ no_list
nothing_at zero zero = refl
nothing_at (suc m) zero = refl
nothing_at zero (suc n) = refl
nothing_at (suc m) (suc n) = nothing_at m n

nothing_in : (f : FlowList → ℕ) (n : ℕ) → f no_list ≡ 0 → sum_by f (replicate n no_list) ≡ 0
nothing_in f zero none = refl
nothing_in f (suc n) none = omega (arith, sum_by-cons f no_list (replicate n no_list), none, nothing_in f n none)

pub pool_first : (at : ℕ → Option Node) (count n : ℕ) → count ≡ 0 → IsPool at count (replicate n no_list) 0
pool_first at count n none = record {
  each = λ m. rw (nothing_at m n) (no_list_at at (length (replicate n no_list)) m);
  counted = none ∙ sym (nothing_in (λ (l : FlowList). l.count) n refl);
  summed = sym (nothing_in (λ (l : FlowList). l.bytes) n refl);
  few = omega (arith, none);
}

-- what stands at each key is all that the queues depend on
pub queues_alike : (at at2 : ℕ → Option Node) (lists : List FlowList) → ((j : ℕ) → at2 j ≡ at j)
    → ((n : ℕ) → IsList at (length lists) n (get_or lists n no_list)) → queues_in at2 lists ≡ queues_in at lists
queues_alike at at2 lists same each =
    queues_same at at2 lists (λ m. kept_items packets (IsNode (length lists) m) at at2 (get_or lists m no_list).tail (get_or lists m no_list).count
    (get_or lists m no_list).head (each m).linked (λ _ j _ _. same j))
