-- The nodes of a slab: some have a packet, and the others are spare, linked through themselves until a packet comes.
-- This is how the crate keeps them; nothing public names it.
use Rattle.std.specs.Prelude.{◌≡◌, ℕ, zero, suc, ◌-◌, ◌≤◌, ◌==◌, if◌then◌else◌, List, [], ◌∷◌, Option, Some, None, ⊤}
use Rattle.slab.specs.Slab.{Slab, get, slab_len}
use Rattle.q_fqcodel.specs.Linked.{Form, chain}
use Rattle.q_fqcodel.specs.declared.node.Node.{Node}

-- `count` nodes have a packet, and `spare` is the key of the first of the others
pub record NodesState : Type 0 where
  pub slab : Slab Node
  pub spare : ℕ
  pub count : ℕ

-- a spare node stands for its key
abbrev pub spares : Form Node ℕ
spares = record { next = λ x. x.next; item = λ k _. k }

-- the nodes but for those at these keys
unfoldable pub beside : List ℕ → (ℕ → Option Node) → ℕ → Option Node
beside [] at j = at j
beside (k ∷ ks) at j = if j == k then None else beside ks at j

-- from this key on there are so many spare nodes, each of them once
unfoldable pub IsSpare : (ℕ → Option Node) → ℕ → ℕ → Type 0
IsSpare at zero key = ⊤
IsSpare at (suc n) key = (x : Node) × (beside (chain spares at n x.next) at key ≡ Some x) × IsSpare at n x.next

-- the nodes with a packet
abbrev pub used : NodesState → ℕ → Option Node
used s = beside (chain spares (get s.slab) (slab_len s.slab - s.count) s.spare) (get s.slab)

pub record IsNodes (s : NodesState) : Type 0 where
  pub fewer : s.count ≤ slab_len s.slab
  pub spare : IsSpare (get s.slab) (slab_len s.slab - s.count) s.spare
