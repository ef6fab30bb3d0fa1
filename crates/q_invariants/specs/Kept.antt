-- What every step keeps of each node of a tree that remembers its whole history.
use Rattle.std.specs.Prelude.{◌≡◌, ℕ, ◌+◌, ◌≤◌, ◌<◌, ◌^◌, List, [], ◌∷◌}
use Rattle.std.specs.List.{AllPairs}
use Rattle.q_packet.specs.Descriptor.{Descriptor}
use Rattle.q_model.specs.Beneath.{beneath, beneath_own}
use Rattle.q_model.specs.Conserved.{held_beneath, held_own}
use Rattle.q_model.specs.Find.{Address, addresses, count_nodes, depth}
use Rattle.q_model.specs.Lawful.{IsLawfulOwn}
use Rattle.q_model.specs.Node.{Forest, Node, each, more, none}
use Rattle.q_model.specs.Refusals.{most_levels, most_nodes}
use Rattle.q_model.specs.Tally.{Note}
use Rattle.q_model.specs.TreeState.{TreeState}
use Rattle.q_invariants.specs.Weights.{arrived, dropped, lost, marked, sent, weigh}

-- a node that has noted this, and with these packets waiting and these held
pub record AreCounted (notes : List Note) (waiting held : List Descriptor) : Type 0 where
  pub conserved : (w : Descriptor → ℕ) → arrived w notes ≡ sent w notes + lost w notes + weigh w waiting
  pub marks : (w : Descriptor → ℕ) → marked w notes ≤ sent w notes + dropped w notes + weigh w held

-- the same of every node of a forest
abbrev pub AllCounted : Forest (List Note) → Type 0
AllCounted none = Unit {0}
AllCounted (more own notes below others) =
    AreCounted notes (beneath_own own (each beneath_own below)) (held_own own (each held_own below)) × AllCounted below × AllCounted others

-- every node of a forest is lawful
abbrev pub AllLawful : {M : Type 0} → ℕ → ℕ → Forest M → Type 0
AllLawful mtu clock none = Unit {0}
AllLawful mtu clock (more own m below others) = IsLawfulOwn mtu clock own (each beneath_own below) × AllLawful mtu clock below × AllLawful mtu clock others

-- a node and all nodes beneath it
abbrev pub IsLawfulRoot : {M : Type 0} → ℕ → ℕ → Node M → Type 0
IsLawfulRoot mtu clock n = IsLawfulOwn mtu clock n.own (each beneath_own n.below) × AllLawful mtu clock n.below

abbrev pub IsCountedRoot : Node (List Note) → Type 0
IsCountedRoot n = AreCounted n.memory (beneath_own n.own (each beneath_own n.below)) (held_own n.own (each held_own n.below)) × AllCounted n.below

-- a whole tree, with the device above its root, at a clock
pub record IsKeptTree (clock : ℕ) (s : TreeState (List Note)) : Type 0 where
  pub moment : clock ≤ 2 ^ 62
  pub least_mtu : 1 ≤ s.device.mtu
  pub most_mtu : s.device.mtu < 2 ^ 16
  pub top : AreCounted s.top (beneath s.root) (held_beneath s.root)
  pub counted : IsCountedRoot s.root
  pub lawful : IsLawfulRoot s.device.mtu clock s.root
  pub handles : AllPairs (λ (a b : Address). (a.handle ≡ b.handle) → ⊥) (addresses s.root)
  pub levels : depth s.root ≤ most_levels
  pub few : count_nodes s.root ≤ most_nodes

-- and each of several nodes
abbrev pub AreLawful : {M : Type 0} → ℕ → ℕ → List (Node M) → Type 0
AreLawful mtu clock [] = Unit {0}
AreLawful mtu clock (n ∷ ns) = IsLawfulRoot mtu clock n × AreLawful mtu clock ns

-- no two nodes have one handle
abbrev pub AreApart : {M : Type 0} → Node M → Type 0
AreApart n = AllPairs (λ (a b : Address). (a.handle ≡ b.handle) → ⊥) (addresses n)
