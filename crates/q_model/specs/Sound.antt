-- A device of which nothing is lost: at it, and at every node of its tree, what arrived was sent, was lost, or waits.
-- It is said of histories, packet by packet; of totals it is said as sums, in specs/Lawful.antt.
use Rattle.std.specs.Prelude.{List, All}
use Rattle.q_model.specs.Tally.{Note, history}
use Rattle.q_model.specs.Beneath.{beneath}
use Rattle.q_model.specs.Conserved as node
use Rattle.q_model.specs.Node.{Node}
use Rattle.q_model.specs.Lawful.{IsLawfulTree}
use Rattle.q_model.specs.Step.{DeviceState}

pub record IsConserved (d : DeviceState (List Note)) : Type 0 where
  pub device : node.IsConserved d.tree.top (beneath d.tree.root)
  pub nodes : All (λ (n : Node (List Note)). node.IsConserved n.memory (beneath n)) (node.every_node d.tree.root)

-- what is to hold after every list of events
pub record IsSound (d : DeviceState (List Note)) : Type 0 where
  pub conserved : IsConserved d
  pub lawful : IsLawfulTree history d.clock d.tree
