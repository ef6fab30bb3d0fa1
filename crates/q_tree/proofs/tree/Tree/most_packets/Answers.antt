use Rattle.std.proofs.Common.{◌≤◌, length, ap, subst, arith}
use Rattle.q_model.specs.Beneath.{beneath}
use Rattle.q_model.specs.Step.{DeviceState}
use Rattle.q_model.specs.declared.totals.Totals.{Totals}
use Rattle.q_tree.specs.Kept.{Kept}
use Rattle.q_tree.proofs.answers.MostPacketsLemmas.{queued-within-most}
use Rattle.q_tree.proofs.tree.Tree.most_packets.Goals as goal
use Rattle.q_tree.proofs.TreeLemmas.{lawful-root}

pub returns-clause-bound : goal.returns-clause-bound
returns-clause-bound c =
    let root = c.self.inside.root in
    subst (λ (d : DeviceState Kept). length (beneath d.tree.root) ≤ c.most_packets.result) c.self.view_is
    (omega (
      arith,
      c.most_packets.ensures,
      queued-within-most c.self.inside.mtu c.self.inside.clock root (lawful-root c.self.inside c.self.invariant.device c.self.inside.clock (omega arith) c.self.invariant.device.keeps.moment),
      ap (λ (q : Totals). q.packets) c.queued-queued.ensures,
      c.queued-queued.type_inv,
    ))
