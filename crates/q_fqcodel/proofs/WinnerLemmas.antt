-- The tree of winners: the root is the greatest rank of all, and after one rank is written it is enough to climb from there.
use Rattle.std.proofs.Common.{◌≡◌, ◌≢◌, ℕ, zero, suc, ◌+◌, ◌-◌, ◌*◌, ◌/◌, ◌%◌, ◌^◌, ◌<◌, ◌≤◌, max, List, length, get_or, map, drop, set, replicate, sym, ap, ap₂, ◌∙◌, arith, subst, ⊎_elim}
use Rattle.std.proofs.Math.Nat.{max_comm}
use Rattle.std.proofs.lemmas.Bool.{cases_lt, cases_eq}
use Rattle.std.proofs.Math.ListN.{get_or-map}
use Rattle.std.proofs.lemmas.List.{get_or-set_same, get_or-set_other, get_or-drop, get_or-replicate, length-set, length-drop, length-map, length-replicate, drop-set-add, map-set, ext_get_or}
use Rattle.q_fqcodel.specs.Winners.{rank, rank_at, above, bytes_in, bytes_at, Leads, IsRightBut, IsTournament, AreRight}

-- ---- the root

module _ (ranks : List ℕ) (n : ℕ) (even : length ranks ≡ 2 * n) (each : IsRightBut 0 ranks) where
  right_at : (k : ℕ) → 1 ≤ k → k < n → rank_at ranks k ≡ max (rank_at ranks (2 * k)) (rank_at ranks (2 * k + 1))
  right_at k low high = each k low (omega (arith, even, high)) (λ e. absurd (omega (arith, e, low)))

  most : (fuel c : ℕ) → c ≤ fuel → 1 ≤ c → c < 2 * n → rank_at ranks c ≤ rank_at ranks 1
  most zero c small low high = absurd (omega arith)
  most (suc fuel) c small low high =
      ⊎_elim
      (λ (e : c ≡ 1). omega (arith, ap (rank_at ranks) e))
      (λ (ne : c ≢ 1).
      let up : rank_at ranks (c / 2) ≤ rank_at ranks 1 = most fuel (c / 2) (omega arith) (omega (arith, ne)) (omega arith) in
      let at : rank_at ranks (c / 2) ≡ max (rank_at ranks (2 * (c / 2))) (rank_at ranks (2 * (c / 2) + 1)) = right_at (c / 2) (omega (arith, ne)) (omega arith) in
      ⊎_elim
      (λ (first : c ≡ 2 * (c / 2)). omega (arith, up, at, ap (rank_at ranks) first))
      (λ (other : c ≢ 2 * (c / 2)). let second : c ≡ 2 * (c / 2) + 1 = omega (arith, other) in omega (arith, up, at, ap (rank_at ranks) second))
      (cases_eq c (2 * (c / 2))))
      (cases_eq c 1)

  -- every flow's rank is the root's at most
  pub root_most : (i : ℕ) → i < n → rank_at ranks (n + i) ≤ rank_at ranks 1
  root_most i within = most (n + i) (n + i) (omega arith) (omega arith) (omega arith)

  from_leaf : (fuel c : ℕ) → 2 * n ≤ c + fuel → 1 ≤ c → c < 2 * n → (i : ℕ) × (i < n) × (rank_at ranks (n + i) ≡ rank_at ranks c)
  from_leaf zero c enough low high = absurd (omega arith)
  from_leaf (suc fuel) c enough low high =
      ⊎_elim
      (λ (inner : c < n).
      let at : rank_at ranks c ≡ max (rank_at ranks (2 * c)) (rank_at ranks (2 * c + 1)) = right_at c low inner in
      ⊎_elim
      (λ (second : rank_at ranks (2 * c) < rank_at ranks (2 * c + 1)).
      let m = from_leaf fuel (2 * c + 1) (omega (arith, low, enough)) (omega arith) (omega (arith, inner)) in (m.0, m.1, m.2 ∙ omega (arith, at, second)))
      (λ (first : rank_at ranks (2 * c + 1) ≤ rank_at ranks (2 * c)).
      let m = from_leaf fuel (2 * c) (omega (arith, low, enough)) (omega (arith, low)) (omega (arith, inner)) in (m.0, m.1, m.2 ∙ omega (arith, at, first)))
      (cases_lt (rank_at ranks (2 * c)) (rank_at ranks (2 * c + 1))))
      (λ (outer : n ≤ c). let there : n + (c - n) ≡ c = omega (arith, outer) in (c - n, omega (arith, outer, high), ap (rank_at ranks) there))
      (cases_lt c n)

  -- and the root's is that of a flow
  pub root_is : 1 ≤ n → (i : ℕ) × (i < n) × (rank_at ranks (n + i) ≡ rank_at ranks 1)
  root_is some = from_leaf (2 * n) 1 (omega arith) (omega arith) (omega (arith, some))

-- ---- a rank is written

module _ (ranks : List ℕ) (j v : ℕ) (within : j < length ranks) where
  others : (k : ℕ) → k ≢ j → rank_at (set ranks j v) k ≡ rank_at ranks k
  others k ne = get_or-set_other ranks j k v 0 ne

  -- Each node is right then but the one above, where the written one is a leaf's or right.
  right_written : (except : ℕ) → IsRightBut except ranks → ((k : ℕ) → 1 ≤ k → k ≢ j → k ≢ except)
      → (j < length ranks / 2 → v ≡ max (rank_at ranks (2 * j)) (rank_at ranks (2 * j + 1))) → IsRightBut (j / 2) (set ranks j v)
  right_written except right apart is k low high ne =
      let len : length (set ranks j v) ≡ length ranks = length-set ranks j v in
      let two : rank_at (set ranks j v) (2 * k) ≡ rank_at ranks (2 * k) = others (2 * k) (λ e. ne (omega (arith, e))) in
      let three : rank_at (set ranks j v) (2 * k + 1) ≡ rank_at ranks (2 * k + 1) = others (2 * k + 1) (λ e. ne (omega (arith, e))) in
      ⊎_elim
      (λ (here : k ≡ j).
      ap (rank_at (set ranks j v)) here
      ∙ get_or-set_same ranks j v 0 within
      ∙ is (omega (arith, here, high, len))
      ∙ ap (λ (m : ℕ). max (rank_at ranks (2 * m)) (rank_at ranks (2 * m + 1))) (sym here)
      ∙ sym (ap₂ (λ (x y : ℕ). max x y) two three))
      (λ (away : k ≢ j). others k away ∙ right k low (omega (arith, high, len)) (apart k low away) ∙ sym (ap₂ (λ (x y : ℕ). max x y) two three))
      (cases_eq k j)

-- the two nodes below that above this one: this one and the one beside it
two_below : (ranks : List ℕ) (c : ℕ) → max (rank_at ranks c) (rank_at ranks (4 * (c / 2) + 1 - c)) ≡ max (rank_at ranks (2 * (c / 2))) (rank_at ranks (2 * (c / 2) + 1))
two_below ranks c =
    ⊎_elim
    (λ (first : c ≡ 2 * (c / 2)).
    let beside : 4 * (c / 2) + 1 - c ≡ 2 * (c / 2) + 1 = omega (arith, first) in
    ap₂ (λ (x y : ℕ). max (rank_at ranks x) (rank_at ranks y)) first beside)
    (λ (other : c ≢ 2 * (c / 2)).
    let second : c ≡ 2 * (c / 2) + 1 = omega (arith, other) in
    let beside : 4 * (c / 2) + 1 - c ≡ 2 * (c / 2) = omega (arith, other) in
    max_comm (rank_at ranks c) (rank_at ranks (4 * (c / 2) + 1 - c)) ∙ ap₂ (λ (x y : ℕ). max (rank_at ranks x) (rank_at ranks y)) beside second)
    (cases_eq c (2 * (c / 2)))

-- ---- one step of a climb: a rank is written at this node, and the node above is next

module _ (ranks : List ℕ) (node rank : ℕ) (some : 1 ≤ node) (within : node < length ranks) (right : IsRightBut node ranks) where
  abbrev beside : ℕ
  beside = 4 * (node / 2) + 1 - node

  pub beside_kept : rank_at (set ranks node rank) beside ≡ rank_at ranks beside
  beside_kept = get_or-set_other ranks node beside rank 0 (λ e. absurd (omega (arith, e)))

  pub above_kept : rank_at (set ranks node rank) (node / 2) ≡ rank_at ranks (node / 2)
  above_kept = get_or-set_other ranks node (node / 2) rank 0 (λ e. absurd (omega (arith, e, some)))

  -- what stands above is the greater of the rank that stood here and the one beside it
  pub above_was : 1 ≤ node / 2 → node / 2 < length ranks / 2 → rank_at ranks (node / 2) ≡ max (rank_at ranks node) (rank_at ranks beside)
  above_was low high = right (node / 2) low high (λ e. absurd (omega (arith, e, some))) ∙ sym (two_below ranks node)

  -- what belongs there is the greater of the rank that is written and the one beside it
  pub above_is : max rank (rank_at ranks beside) ≡ max (rank_at (set ranks node rank) (2 * (node / 2))) (rank_at (set ranks node rank) (2 * (node / 2) + 1))
  above_is = sym (ap₂ (λ (x y : ℕ). max x y) (get_or-set_same ranks node rank 0 within) beside_kept) ∙ two_below (set ranks node rank) node

  pub step_right : (node < length ranks / 2 → rank ≡ max (rank_at ranks (2 * node)) (rank_at ranks (2 * node + 1))) → IsRightBut (node / 2) (set ranks node rank)
  step_right is = right_written ranks node rank within node right (λ k low ne. ne) is

  -- after a rank that is no less than the one before
  module _ (past : rank_at ranks 0 ≡ above) (fits : rank ≤ above) (grown : rank_at ranks node ≤ rank) (low : node / 2 < length ranks / 2) where
    pub past_kept : rank_at (set ranks node rank) 0 ≡ above
    past_kept = get_or-set_other ranks node 0 rank 0 (λ e. absurd (omega (arith, e, some))) ∙ past

    pub greater_above : rank_at (set ranks node rank) (node / 2) < rank → rank ≡ max (rank_at (set ranks node rank) (2 * (node / 2))) (rank_at (set ranks node rank) (2 * (node / 2) + 1))
    greater_above h =
        ⊎_elim
        (λ (e : node / 2 ≡ 0). absurd (omega (arith, ap (rank_at (set ranks node rank)) e, past_kept, h, fits)))
        (λ (ne : node / 2 ≢ 0). omega (arith, above_is, above_kept, h, above_was (omega (arith, ne)) low))
        (cases_eq (node / 2) 0)

    pub stays_above : rank ≤ rank_at (set ranks node rank) (node / 2) → 1 ≤ node / 2
        → rank_at (set ranks node rank) (node / 2) ≡ max (rank_at (set ranks node rank) (2 * (node / 2))) (rank_at (set ranks node rank) (2 * (node / 2) + 1))
    stays_above h high = omega (arith, above_is, above_kept, h, above_was high low, grown)

-- ---- the bytes of the flows

pub bytes_kept : (ranks now : List ℕ) → length now ≡ length ranks → drop (length ranks / 2) now ≡ drop (length ranks / 2) ranks → bytes_in now ≡ bytes_in ranks
unfolding bytes_in
bytes_kept ranks now len same =
    ap (λ (m : ℕ). map (λ (r : ℕ). r / 65536) (drop (m / 2) now)) len ∙ ap (λ (l : List ℕ). map (λ (r : ℕ). r / 65536) l) same

pub bytes_written : (ranks : List ℕ) (flow v : ℕ) → bytes_in (set ranks (length ranks / 2 + flow) v) ≡ set (bytes_in ranks) flow (v / 65536)
unfolding bytes_in
bytes_written ranks flow v =
    let n : ℕ = length ranks / 2 in
    ap (λ (m : ℕ). map (λ (r : ℕ). r / 65536) (drop (m / 2) (set ranks (n + flow) v))) (length-set ranks (n + flow) v)
    ∙ ap (λ (l : List ℕ). map (λ (r : ℕ). r / 65536) l) (drop-set-add n ranks flow v)
    ∙ map-set (λ (r : ℕ). r / 65536) (drop n ranks) flow v

pub bytes_read : (ranks : List ℕ) (i : ℕ) → bytes_at (bytes_in ranks) i ≡ rank_at ranks (length ranks / 2 + i) / 65536
unfolding bytes_in
bytes_read ranks i =
    let n : ℕ = length ranks / 2 in
    get_or-map (λ (r : ℕ). r / 65536) (drop n ranks) i 0 ∙ ap (λ (r : ℕ). r / 65536) (get_or-drop n ranks i 0)

pub length-bytes_in : (ranks : List ℕ) → length (bytes_in ranks) ≡ length ranks - length ranks / 2
unfolding bytes_in
length-bytes_in ranks = length-map (drop (length ranks / 2) ranks) (λ (r : ℕ). r / 65536) ∙ length-drop (length ranks / 2) ranks

-- a leaf is read in the leaves alone
pub leaf_kept : (ranks now : List ℕ) (i : ℕ) → drop (length ranks / 2) now ≡ drop (length ranks / 2) ranks → rank_at now (length ranks / 2 + i) ≡ rank_at ranks (length ranks / 2 + i)
leaf_kept ranks now i same =
    sym (get_or-drop (length ranks / 2) now i 0) ∙ ap (λ (l : List ℕ). get_or l i 0) same ∙ get_or-drop (length ranks / 2) ranks i 0

-- no flow has bytes
pub bytes_none : (ranks : List ℕ) (n : ℕ) → length ranks ≡ 2 * n → ((i : ℕ) → i < n → rank_at ranks (n + i) ≡ rank i 0) → bytes_in ranks ≡ replicate n 0
bytes_none ranks n even leaves =
    let half : length ranks / 2 ≡ n = omega (arith, even) in
    let long : length (bytes_in ranks) ≡ n = omega (arith, length-bytes_in ranks, even) in
    ext_get_or 0 (bytes_in ranks) (replicate n 0) (long ∙ sym (length-replicate n 0))
    (λ i h.
    let there : rank_at ranks (length ranks / 2 + i) ≡ rank_at ranks (n + i) = ap (λ (m : ℕ). rank_at ranks (m + i)) half in
    let none : bytes_at (bytes_in ranks) i ≡ 0 = omega (arith, bytes_read ranks i, there, leaves i (omega (arith, h, long))) in
    none ∙ sym (get_or-replicate n i 0 0 (omega (arith, h, long))))

-- ---- the leaf of a flow is written, and the ranks above it are right

module _ (ranks now : List ℕ) (flow bytes v leaf : ℕ) (tree : IsTournament ranks) (within : flow < length ranks / 2) (small : flow < 65536)
    (low : bytes < 2 ^ 48 - 1) (is : v ≡ rank flow bytes) (place : leaf ≡ length ranks / 2 + flow) (right : AreRight (set ranks leaf v) now) where
  abbrev lot : ℕ
  lot = length ranks / 2

  written_lot : length (set ranks leaf v) / 2 ≡ lot
  written_lot = ap (λ (m : ℕ). m / 2) (length-set ranks leaf v)

  now_lot : length now / 2 ≡ lot
  now_lot = ap (λ (m : ℕ). m / 2) right.len ∙ written_lot

  at_leaf : (i : ℕ) → rank_at now (length now / 2 + i) ≡ rank_at (set ranks leaf v) (lot + i)
  at_leaf i =
      ap (λ (m : ℕ). rank_at now (m + i)) (now_lot ∙ sym written_lot)
      ∙ leaf_kept (set ranks leaf v) now i right.leaves
      ∙ ap (λ (m : ℕ). rank_at (set ranks leaf v) (m + i)) written_lot

  leaf_right : (i : ℕ) → i < length now / 2 → rank_at now (length now / 2 + i) % 65536 ≡ 65535 - i
  leaf_right i h =
      ⊎_elim
      (λ (own : i ≡ flow).
      let there : rank_at (set ranks leaf v) (lot + i) ≡ v = ap (rank_at (set ranks leaf v)) (omega (arith, own, place)) ∙ get_or-set_same ranks leaf v 0 (omega (arith, place, within, tree.even)) in
      omega (arith, at_leaf i, there, is, own, small))
      (λ (other : i ≢ flow).
      let there : rank_at (set ranks leaf v) (lot + i) ≡ rank_at ranks (lot + i) = get_or-set_other ranks leaf (lot + i) v 0 (λ e. other (omega (arith, e, place))) in
      omega (arith, at_leaf i, there, tree.leaf i (omega (arith, h, now_lot))))
      (cases_eq i flow)

  leaf_below : (i : ℕ) → i < length now / 2 → rank_at now (length now / 2 + i) < above
  leaf_below i h =
      ⊎_elim
      (λ (own : i ≡ flow).
      let there : rank_at (set ranks leaf v) (lot + i) ≡ v = ap (rank_at (set ranks leaf v)) (omega (arith, own, place)) ∙ get_or-set_same ranks leaf v 0 (omega (arith, place, within, tree.even)) in
      omega (arith, at_leaf i, there, is, low))
      (λ (other : i ≢ flow).
      let there : rank_at (set ranks leaf v) (lot + i) ≡ rank_at ranks (lot + i) = get_or-set_other ranks leaf (lot + i) v 0 (λ e. other (omega (arith, e, place))) in
      omega (arith, at_leaf i, there, tree.below i (omega (arith, h, now_lot))))
      (cases_eq i flow)

  pub tree_written : IsTournament now
  tree_written = record {
    even = omega (arith, right.len, length-set ranks leaf v, tree.even);
    leaf = leaf_right;
    below = leaf_below;
    past = right.past;
    each = right.each;
  }

  pub bytes_renewed : bytes_in now ≡ set (bytes_in ranks) flow bytes
  bytes_renewed =
      let told : v / 65536 ≡ bytes = omega (arith, is, small) in
      bytes_kept (set ranks leaf v) now right.len right.leaves
      ∙ ap (λ (m : ℕ). bytes_in (set ranks m v)) place
      ∙ bytes_written ranks flow v
      ∙ ap (set (bytes_in ranks) flow) told

-- ---- the flow that leads

module _ (ranks : List ℕ) (tree : IsTournament ranks) (few : length ranks ≤ 131072) (flow bytes : ℕ) (within : flow < length (bytes_in ranks)) (more : bytes_at (bytes_in ranks) flow ≤ bytes) where
  abbrev n : ℕ
  n = length ranks / 2

  abbrev now : ℕ → ℕ
  now = bytes_at (set (bytes_in ranks) flow bytes)

  abbrev top : ℕ
  top = max (rank flow bytes) (rank_at ranks 1)

  in_lot : flow < n
  in_lot = omega (arith, within, length-bytes_in ranks, tree.even)

  -- the rank of a flow by its bytes
  rank_is : (i : ℕ) → i < n → rank_at ranks (n + i) ≡ rank i (bytes_at (bytes_in ranks) i)
  rank_is i h = omega (arith, tree.leaf i h, bytes_read ranks i)

  own : now flow ≡ bytes
  own = get_or-set_same (bytes_in ranks) flow bytes 0 within

  other : (i : ℕ) → i ≢ flow → now i ≡ bytes_at (bytes_in ranks) i
  other i ne = get_or-set_other (bytes_in ranks) flow i bytes 0 ne

  below_root : (i : ℕ) → i < n → rank_at ranks (n + i) ≤ rank_at ranks 1
  below_root = root_most ranks n tree.even tree.each

  at_root : (i : ℕ) × (i < n) × (rank_at ranks (n + i) ≡ rank_at ranks 1)
  at_root = root_is ranks n tree.even tree.each (omega (arith, in_lot))

  -- where this flow leads, and where another one does
  flow_is : rank_at ranks 1 ≤ rank flow bytes → 65535 - top % 65536 ≡ flow
  flow_is past = omega (arith, past, in_lot, few)

  leads_flow : rank_at ranks 1 ≤ rank flow bytes → (i : ℕ) → i < n → Leads now flow i
  leads_flow past i h =
      ⊎_elim
      (λ (same : i ≡ flow). subst (λ (m : ℕ). Leads now flow m) (sym same) (record { most = omega arith; first = λ g. omega arith }))
      (λ (ne : i ≢ flow).
      let less : rank i (bytes_at (bytes_in ranks) i) ≤ rank flow bytes = omega (arith, rank_is i h, below_root i h, past) in
      record { most = omega (arith, less, own, other i ne, h, in_lot, few); first = λ g. omega (arith, g, less, own, other i ne, h, in_lot, few) })
      (cases_eq i flow)

  apart : rank flow bytes < rank_at ranks 1 → at_root.0 ≢ flow
  apart less e = absurd (omega (arith, less, more, rank_is flow in_lot, at_root.2, ap (λ (m : ℕ). rank_at ranks (n + m)) e))

  root_flow : rank flow bytes < rank_at ranks 1 → 65535 - top % 65536 ≡ at_root.0
  root_flow less = omega (arith, less, rank_is at_root.0 at_root.1, at_root.1, at_root.2, few)

  leads_root : rank flow bytes < rank_at ranks 1 → (i : ℕ) → i < n → Leads now at_root.0 i
  leads_root less i h =
      let j : ℕ = at_root.0 in
      let has : now j ≡ bytes_at (bytes_in ranks) j = other j (apart less) in
      let is : rank_at ranks 1 ≡ rank j (bytes_at (bytes_in ranks) j) = sym at_root.2 ∙ rank_is j at_root.1 in
      ⊎_elim
      (λ (same : i ≡ flow).
      subst (λ (m : ℕ). Leads now j m) (sym same)
      (record { most = omega (arith, less, is, own, has, at_root.1, in_lot, few); first = λ g. omega (arith, g, less, is, own, has, at_root.1, in_lot, few) }))
      (λ (ne : i ≢ flow).
      let under : rank i (bytes_at (bytes_in ranks) i) ≤ rank j (bytes_at (bytes_in ranks) j) = omega (arith, rank_is i h, below_root i h, is) in
      record { most = omega (arith, under, has, other i ne, h, at_root.1, few); first = λ g. omega (arith, g, under, has, other i ne, h, at_root.1, few) })
      (cases_eq i flow)

  pub top_leads : (65535 - top % 65536 < n) × ((i : ℕ) → i < n → Leads now (65535 - top % 65536) i)
  top_leads =
      ⊎_elim
      (λ (less : rank flow bytes < rank_at ranks 1).
      let e = root_flow less in (omega (arith, e, at_root.1), λ i h. subst (λ (m : ℕ). Leads now m i) (sym e) (leads_root less i h)))
      (λ (past : rank_at ranks 1 ≤ rank flow bytes).
      let e = flow_is past in (omega (arith, e, in_lot), λ i h. subst (λ (m : ℕ). Leads now m i) (sym e) (leads_flow past i h)))
      (cases_lt (rank flow bytes) (rank_at ranks 1))
