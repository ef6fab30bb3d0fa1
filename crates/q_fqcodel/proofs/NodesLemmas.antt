-- Spare nodes beside used ones: what a write to a used node, a packet more and a packet fewer leave of both.
use Rattle.std.proofs.Common.{◌≡◌, ◌≢◌, ℕ, zero, suc, ◌+◌, ◌<◌, ◌≤◌, List, [], ◌∷◌, Option, Some, None, refl, sym, ap, ◌∙◌, arith, subst}
use Rattle.std.specs.Prelude.{IsSome, is_some, cond, ◌-◌, ◌==◌, if◌then◌else◌}
use Rattle.std.proofs.lemmas.List.Sums.{sum_by-set}
use Rattle.std.proofs.lemmas.Bool.{cond-true, cond-false, eq-eqb, ne_eqb}
use Rattle.slab.specs.Slab.{Slab, get, slab_len, with_value, Updates}
use Rattle.slab.proofs.SlabLemmas.{ContainsKey-within, Updates-with_value}
use Rattle.q_fqcodel.specs.Linked.{chain}
use Rattle.q_fqcodel.specs.Nodes.{NodesState, spares, beside, IsSpare, used, IsNodes}
use Rattle.q_fqcodel.specs.declared.node.Node.{Node}
use Rattle.q_fqcodel.proofs.LinkedLemmas.{chain_none, chain_more}

-- ---- the nodes but for some

beside_own : (k : ℕ) (ks : List ℕ) (at : ℕ → Option Node) → beside (k ∷ ks) at k ≡ None
unfolding beside
beside_own k ks at = cond-true (k == k) None (beside ks at k) (eq-eqb k k refl)

beside_other : (k : ℕ) (ks : List ℕ) (at : ℕ → Option Node) (j : ℕ) → j ≢ k → beside (k ∷ ks) at j ≡ beside ks at j
unfolding beside
beside_other k ks at j ne = cond-false (j == k) None (beside ks at j) (ne_eqb j k ne)

beside_none : (at : ℕ → Option Node) (j : ℕ) → beside [] at j ≡ at j
unfolding beside
beside_none at j = refl

beside_apart : (k : ℕ) (ks : List ℕ) (at : ℕ → Option Node) (j : ℕ) (x : Node) → beside (k ∷ ks) at j ≡ Some x → j ≢ k
beside_apart k ks at j x there e = let p : Some x ≡ None = sym there ∙ ap (beside (k ∷ ks) at) e ∙ beside_own k ks at in absurd cc

beside_there : (ks : List ℕ) (at : ℕ → Option Node) (j : ℕ) (x : Node) → beside ks at j ≡ Some x → at j ≡ Some x
beside_there [] at j x there = sym (beside_none at j) ∙ there
beside_there (k ∷ ks) at j x there = beside_there ks at j x (sym (beside_other k ks at j (beside_apart k ks at j x there)) ∙ there)

beside_same : (ks : List ℕ) (at at2 : ℕ → Option Node) (j : ℕ) → at2 j ≡ at j → beside ks at2 j ≡ beside ks at j
unfolding beside
beside_same [] at at2 j same = same
beside_same (k ∷ ks) at at2 j same = ap (λ (o : Option Node). if j == k then None else o) (beside_same ks at at2 j same)

beside_written : (ks : List ℕ) (at at2 : ℕ → Option Node) (j : ℕ) (x y : Node) → beside ks at j ≡ Some x → at2 j ≡ Some y → beside ks at2 j ≡ Some y
beside_written [] at at2 j x y there now = beside_none at2 j ∙ now
beside_written (k ∷ ks) at at2 j x y there now =
    let apart : j ≢ k = beside_apart k ks at j x there in
    beside_other k ks at2 j apart ∙ beside_written ks at at2 j x y (sym (beside_other k ks at j apart) ∙ there) now

-- ---- a used node is written

spares_kept : (at at2 : ℕ → Option Node) (t : ℕ) (y : Node) → ((j : ℕ) → j ≢ t → at2 j ≡ at j) → (n key : ℕ) → IsSpare at n key → beside (chain spares at n key) at t ≡ Some y
    → (chain spares at2 n key ≡ chain spares at n key) × IsSpare at2 n key
unfolding IsSpare
spares_kept at at2 t y same zero key a seen = (chain_none spares at2 key ∙ sym (chain_none spares at key), tt)
spares_kept at at2 t y same (suc n) key a seen =
    let x : Node = a.0 in
    let ks : List ℕ = chain spares at n x.next in
    let there : at key ≡ Some x = beside_there ks at key x a.1 in
    let more : chain spares at (suc n) key ≡ key ∷ ks = chain_more spares at n key x there in
    let shown : beside (key ∷ ks) at t ≡ Some y = subst (λ (l : List ℕ). beside l at t ≡ Some y) more seen in
    let apart : t ≢ key = beside_apart key ks at t y shown in
    let rest = spares_kept at at2 t y same n x.next a.2 (sym (beside_other key ks at t apart) ∙ shown) in
    let stays : at2 key ≡ at key = same key (λ e. apart (sym e)) in (
      chain_more spares at2 n key x (stays ∙ there) ∙ ap (λ (l : List ℕ). key ∷ l) rest.0 ∙ sym more,
      (x, ap (λ (l : List ℕ). beside l at2 key) rest.0 ∙ beside_same ks at at2 key stays ∙ a.1, rest.1),
    )

-- ---- a spare node is taken, or a used one becomes spare

-- the first spare node
first_spare : (at : ℕ → Option Node) (n key : ℕ) → IsSpare at (suc n) key → (x : Node) × (beside (chain spares at n x.next) at key ≡ Some x) × IsSpare at n x.next
unfolding IsSpare
first_spare at n key a = a

module _ (at at2 : ℕ → Option Node) (n key : ℕ) (x : Node) (there : at key ≡ Some x) (seen : beside (chain spares at n x.next) at key ≡ Some x)
    (rest : IsSpare at n x.next) (same : (j : ℕ) → j ≢ key → at2 j ≡ at j) where
  abbrev behind : List ℕ
  behind = chain spares at n x.next

  kept : (chain spares at2 n x.next ≡ behind) × IsSpare at2 n x.next
  kept = spares_kept at at2 key x same n x.next rest seen

  claimed_spare : IsSpare at2 n x.next
  claimed_spare = kept.1

  claimed_vacant : beside (chain spares at (suc n) key) at key ≡ None
  claimed_vacant = ap (λ (l : List ℕ). beside l at key) (chain_more spares at n key x there) ∙ beside_own key behind at

  claimed_stored : (y : Node) → at2 key ≡ Some y → beside (chain spares at2 n x.next) at2 key ≡ Some y
  claimed_stored y now = ap (λ (l : List ℕ). beside l at2 key) kept.0 ∙ beside_written behind at at2 key x y seen now

  claimed_same : (j : ℕ) → j ≢ key → beside (chain spares at2 n x.next) at2 j ≡ beside (chain spares at (suc n) key) at j
  claimed_same j ne =
      ap (λ (l : List ℕ). beside l at2 j) kept.0
      ∙ beside_same behind at at2 j (same j ne)
      ∙ sym (beside_other key behind at j ne)
      ∙ sym (ap (λ (l : List ℕ). beside l at j) (chain_more spares at n key x there))

module _ (at at2 : ℕ → Option Node) (n head key : ℕ) (x y : Node) (rest : IsSpare at n head) (seen : beside (chain spares at n head) at key ≡ Some x)
    (now : at2 key ≡ Some y) (same : (j : ℕ) → j ≢ key → at2 j ≡ at j) where
  before : (chain spares at2 n head ≡ chain spares at n head) × IsSpare at2 n head
  before = spares_kept at at2 key x same n head rest seen

  -- it stays used
  linked_spare : IsSpare at2 n head
  linked_spare = before.1

  linked_led : beside (chain spares at2 n head) at2 key ≡ Some y
  linked_led = ap (λ (l : List ℕ). beside l at2 key) before.0 ∙ beside_written (chain spares at n head) at at2 key x y seen now

  linked_same : (j : ℕ) → j ≢ key → beside (chain spares at2 n head) at2 j ≡ beside (chain spares at n head) at j
  linked_same j ne = ap (λ (l : List ℕ). beside l at2 j) before.0 ∙ beside_same (chain spares at n head) at at2 j (same j ne)

  -- or it becomes the first spare one
  module _ (leads : y.next ≡ head) where
    led_back : chain spares at2 n y.next ≡ chain spares at n head
    led_back = ap (chain spares at2 n) leads ∙ before.0

    vacated_spare : IsSpare at2 (suc n) key
    unfolding IsSpare
    vacated_spare = (y, ap (λ (l : List ℕ). beside l at2 key) led_back ∙ beside_written (chain spares at n head) at at2 key x y seen now, subst (λ (m : ℕ). IsSpare at2 n m) (sym leads) before.1)

    vacated_same : (j : ℕ) → j ≢ key → beside (chain spares at2 (suc n) key) at2 j ≡ beside (chain spares at n head) at j
    vacated_same j ne =
        ap (λ (l : List ℕ). beside l at2 j) (chain_more spares at2 n key y now)
        ∙ beside_other key (chain spares at2 n y.next) at2 j ne
        ∙ ap (λ (l : List ℕ). beside l at2 j) led_back
        ∙ beside_same (chain spares at n head) at at2 j (same j ne)

-- ---- the nodes as a whole

pub some_of : (o : Option Node) → IsSome o → (x : Node) × (o ≡ Some x)
some_of None h = absurd cc
some_of (Some x) h = (x, refl)

-- a node with a packet is in the slab
pub in_slab : (s : NodesState) (key : ℕ) → IsSome (used s key) → IsSome (get s.slab key)
in_slab s key h =
    let x = some_of (used s key) h in
    subst (λ (o : Option Node). IsSome o) (sym (beside_there (chain spares (get s.slab) (slab_len s.slab - s.count) s.spare) (get s.slab) key x.0 x.1)) refl

pub used_as : (s : NodesState) (key : ℕ) (y : Node) → IsSome (used s key) → get s.slab key ≡ Some y → used s key ≡ Some y
used_as s key y h read =
    let x = some_of (used s key) h in
    let there : get s.slab key ≡ Some x.0 = beside_there (chain spares (get s.slab) (slab_len s.slab - s.count) s.spare) (get s.slab) key x.0 x.1 in
    let same : Some x.0 ≡ Some y = sym there ∙ read in
    x.1 ∙ same

-- where no node is spare, each has a packet
pub used_all : (s : NodesState) → slab_len s.slab ≤ s.count → (j : ℕ) → used s j ≡ get s.slab j
used_all s all j =
    let none : slab_len s.slab - s.count ≡ 0 = omega (arith, all) in
    ap (λ (m : ℕ). beside (chain spares (get s.slab) m s.spare) (get s.slab) j) none
    ∙ ap (λ (l : List ℕ). beside l (get s.slab) j) (chain_none spares (get s.slab) s.spare)
    ∙ beside_none (get s.slab) j

no_spare : (at : ℕ → Option Node) (key : ℕ) → IsSpare at 0 key
unfolding IsSpare
no_spare at key = tt

pub all_nodes : (s : NodesState) → slab_len s.slab ≡ s.count → IsNodes s
all_nodes s all =
    let none : slab_len s.slab - s.count ≡ 0 = omega (arith, all) in
    record { fewer = omega (arith, all); spare = subst (λ (m : ℕ). IsSpare (get s.slab) m s.spare) (sym none) (no_spare (get s.slab) s.spare) }

abbrev present : Option Node → ℕ
present o = cond (is_some o) 1 0

length_kept : (s : Slab Node) (key : ℕ) (x y : Node) → get s key ≡ Some x → slab_len (with_value s key y) ≡ slab_len s
length_kept s key x y there =
    let within = ContainsKey-within s key (subst (λ (o : Option Node). IsSome o) (sym there) refl) in
    let counts = sum_by-set present s.slots key (Some y) None within in
    let one : present (get s key) ≡ present (Some x) = ap present there in
    omega (arith, counts, one)

-- a node with a packet is written
module _ (s : NodesState) (nodes : IsNodes s) (key : ℕ) (y z : Node) (h : IsSome (used s key)) (read : get s.slab key ≡ Some y) where
  abbrev n : ℕ
  n = slab_len s.slab - s.count

  abbrev after : Slab Node
  after = with_value s.slab key z

  seen : used s key ≡ Some y
  seen = used_as s key y h read

  updates : Updates s.slab after key (Some z)
  updates = Updates-with_value s.slab key z (in_slab s key h)

  long : slab_len after ≡ slab_len s.slab
  long = length_kept s.slab key y z read

  -- it keeps its packet
  abbrev linked : NodesState
  linked = record { slab = after; spare = s.spare; count = s.count }

  as_before : slab_len after - s.count ≡ n
  as_before = ap (λ (m : ℕ). m - s.count) long

  pub link_nodes : IsNodes linked
  link_nodes = record {
    fewer = omega (arith, nodes.fewer, long);
    spare = subst (λ (m : ℕ). IsSpare (get after) m s.spare) (sym as_before) (linked_spare (get s.slab) (get after) n s.spare key y z nodes.spare seen updates.changed updates.others);
  }

  pub link_led : used linked key ≡ Some z
  link_led =
      ap (λ (m : ℕ). beside (chain spares (get after) m s.spare) (get after) key) as_before
      ∙ linked_led (get s.slab) (get after) n s.spare key y z nodes.spare seen updates.changed updates.others

  pub link_same : (j : ℕ) → j ≢ key → used linked j ≡ used s j
  link_same j ne =
      ap (λ (m : ℕ). beside (chain spares (get after) m s.spare) (get after) j) as_before
      ∙ linked_same (get s.slab) (get after) n s.spare key y z nodes.spare seen updates.changed updates.others j ne

  -- or it becomes spare
  module _ (leads : z.next ≡ s.spare) (some : 1 ≤ s.count) where
    abbrev vacated : NodesState
    vacated = record { slab = after; spare = key; count = s.count - 1 }

    one_more : slab_len after - (s.count - 1) ≡ suc n
    one_more = omega (arith, some, nodes.fewer, long)

    pub vacate_nodes : IsNodes vacated
    vacate_nodes = record {
      fewer = omega (arith, nodes.fewer, long);
      spare = subst (λ (m : ℕ). IsSpare (get after) m key) (sym one_more) (vacated_spare (get s.slab) (get after) n s.spare key y z nodes.spare seen updates.changed updates.others leads);
    }

    pub vacate_same : (j : ℕ) → j ≢ key → used vacated j ≡ used s j
    vacate_same j ne =
        ap (λ (m : ℕ). beside (chain spares (get after) m key) (get after) j) one_more
        ∙ vacated_same (get s.slab) (get after) n s.spare key y z nodes.spare seen updates.changed updates.others leads j ne

-- the first spare node is taken
module _ (s : NodesState) (nodes : IsNodes s) (some : s.count < slab_len s.slab) where
  abbrev left : ℕ
  left = slab_len s.slab - s.count - 1

  one_fewer : slab_len s.slab - s.count ≡ suc left
  one_fewer = omega (arith, some)

  first : (x : Node) × (beside (chain spares (get s.slab) left x.next) (get s.slab) s.spare ≡ Some x) × IsSpare (get s.slab) left x.next
  first = first_spare (get s.slab) left s.spare (subst (λ (m : ℕ). IsSpare (get s.slab) m s.spare) one_fewer nodes.spare)

  first_there : get s.slab s.spare ≡ Some first.0
  first_there = beside_there (chain spares (get s.slab) left first.0.next) (get s.slab) s.spare first.0 first.1

  pub spare_there : IsSome (get s.slab s.spare)
  spare_there = subst (λ (o : Option Node). IsSome o) (sym first_there) refl

  module _ (y z : Node) (read : get s.slab s.spare ≡ Some y) where
    abbrev filled : Slab Node
    filled = with_value s.slab s.spare z

    abbrev claimed : NodesState
    claimed = record { slab = filled; spare = y.next; count = s.count + 1 }

    is_first : first.0 ≡ y
    is_first = let e : Some first.0 ≡ Some y = sym first_there ∙ read in cc

    shown : beside (chain spares (get s.slab) left y.next) (get s.slab) s.spare ≡ Some y
    shown = subst (λ (v : Node). beside (chain spares (get s.slab) left v.next) (get s.slab) s.spare ≡ Some v) is_first first.1

    behind_it : IsSpare (get s.slab) left y.next
    behind_it = subst (λ (v : Node). IsSpare (get s.slab) left v.next) is_first first.2

    changes : Updates s.slab filled s.spare (Some z)
    changes = Updates-with_value s.slab s.spare z spare_there

    as_long : slab_len filled - (s.count + 1) ≡ left
    as_long = omega (arith, length_kept s.slab s.spare y z read)

    pub claim_nodes : IsNodes claimed
    claim_nodes = record {
      fewer = omega (arith, some, length_kept s.slab s.spare y z read);
      spare = subst (λ (m : ℕ). IsSpare (get filled) m y.next) (sym as_long) (claimed_spare (get s.slab) (get filled) left s.spare y read shown behind_it changes.others);
    }

    pub claim_vacant : used s s.spare ≡ None
    claim_vacant =
        ap (λ (m : ℕ). beside (chain spares (get s.slab) m s.spare) (get s.slab) s.spare) one_fewer
        ∙ claimed_vacant (get s.slab) (get filled) left s.spare y read shown behind_it changes.others

    pub claim_stored : used claimed s.spare ≡ Some z
    claim_stored =
        ap (λ (m : ℕ). beside (chain spares (get filled) m y.next) (get filled) s.spare) as_long
        ∙ claimed_stored (get s.slab) (get filled) left s.spare y read shown behind_it changes.others z changes.changed

    pub claim_same : (j : ℕ) → j ≢ s.spare → used claimed j ≡ used s j
    claim_same j ne =
        ap (λ (m : ℕ). beside (chain spares (get filled) m y.next) (get filled) j) as_long
        ∙ claimed_same (get s.slab) (get filled) left s.spare y read shown behind_it changes.others j ne
        ∙ sym (ap (λ (m : ℕ). beside (chain spares (get s.slab) m s.spare) (get s.slab) j) one_fewer)
