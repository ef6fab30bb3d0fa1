use Rattle.std.proofs.Common.{List, sym, ap, ◌∙◌}
use Rattle.q_packet.specs.Totals.{count}
use Rattle.q_fqcodel.specs.Pool.{codels_in}
use Rattle.q_fqcodel.specs.FlowsState.{FlowsState}
use Rattle.q_fqcodel.specs.FqState.{Flow, queue_of}
use Rattle.q_fqcodel.proofs.PooledLemmas.{queue_there}
use Rattle.q_fqcodel.proofs.flows.Flows.count_of.Goals as goal

pub returns : goal.returns
returns c =
    let same = ap (λ (f : FlowsState). f.flows) c.self.view_is in
    c.count_of.ensures
    ∙ ap count (sym (queue_there c.args.flow c.self.inside.pool.queues (codels_in c.self.inside.parameters c.self.inside.states.items) c.self.invariant.0))
    ∙ ap (λ (fs : List Flow). count (queue_of fs c.args.flow)) same
