-- When the packet arrived that has been queued longest, in the parts in which the code finds it. In a lawful tree each queue is in the
-- order of its stamps, so that its first packet is the oldest. A sojourn time is counted from an arrival (RFC 8289, section 3.1).
use Rattle.std.specs.Prelude.{ℕ, List, ◌++◌, Option, map}
use Rattle.std.specs.List.{flat_map}
use Rattle.std.specs.Option.{option_to_list}
use Rattle.q_fqcodel.specs.Oldest.{earliest}
use Rattle.q_model.specs.Beneath.{beneath}
use Rattle.q_model.specs.Lawful.{IsLawfulDiscipline}
use Rattle.q_model.specs.Node as spec
use Rattle.q_model.specs.Oldest.{arrivals_in, oldest}
use Rattle.q_invariants.specs.Kept.{AreLawful, IsLawfulRoot}
use Rattle.q_tree.specs.Kept.{Kept}
use Rattle.q_tree.specs.Seen.{discipline_seen, children_seen}
use Rattle.q_tree.specs.declared.node.Discipline.{Discipline}

-- a lawful node, a discipline of one, and nodes side by side
pub record IsInOrder (n : spec.Node Kept) : Type 0 where
  pub mtu : ℕ
  pub clock : ℕ
  pub lawful : IsLawfulRoot mtu clock n

pub record IsInOrderIn (d : Discipline) : Type 0 where
  pub mtu : ℕ
  pub clock : ℕ
  pub own : IsLawfulDiscipline mtu clock (map beneath (children_seen d)) (discipline_seen d)
  pub lawful : AreLawful mtu clock (children_seen d)

pub record AreAllInOrder (ns : List (spec.Node Kept)) : Type 0 where
  pub mtu : ℕ
  pub clock : ℕ
  pub lawful : AreLawful mtu clock ns

-- of some times, each of which may not be there
abbrev pub oldest_of : List (Option ℕ) → Option ℕ
oldest_of times = earliest (flat_map (λ (o : Option ℕ). option_to_list o) times)

-- in a discipline's own queues and below it
abbrev pub oldest_within : Discipline → Option ℕ
oldest_within d =
    earliest (arrivals_in (discipline_seen d) ++ flat_map (λ (o : Option ℕ). option_to_list o) (map (λ (n : spec.Node Kept). oldest n) (children_seen d)))
