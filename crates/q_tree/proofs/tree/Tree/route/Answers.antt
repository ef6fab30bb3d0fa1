use Rattle.std.proofs.Common.{length, ap, arith}
use Rattle.q_model.specs.Route.{Route}
use Rattle.q_tree.proofs.arrival.TreePuts.{levels}
use Rattle.q_tree.proofs.tree.Tree.route.Goals as goal

pub go-requires-clause-room : goal.go-requires-clause-room
go-requires-clause-room c =
    omega (arith, levels c.self.inside c.self.invariant.device, ap (λ (r : Route). length r.path) c.new.ensures)
