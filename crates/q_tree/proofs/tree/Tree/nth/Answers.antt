use Rattle.std.proofs.Common.{arith}
use Rattle.q_tree.proofs.tree.Tree.nth.Goals as goal
use Rattle.q_tree.proofs.TreeLemmas.{lawful-root}

pub nth-requires : goal.nth-requires
nth-requires c = record {
  mtu = c.self.inside.mtu;
  clock = c.self.inside.clock;
  lawful = lawful-root c.self.inside c.self.invariant.device c.self.inside.clock (omega arith) c.self.invariant.device.keeps.moment;
}
