use Rattle.std.proofs.Common.{List, sym, ap, ◌∙◌}
use Rattle.q_fqcodel.specs.Pool.{codels_in}
use Rattle.q_fqcodel.specs.FlowsState.{FlowsState}
use Rattle.q_fqcodel.specs.FqState.{Flow, queue_of}
use Rattle.q_fqcodel.specs.Oldest.{first_arrival}
use Rattle.q_fqcodel.proofs.PooledLemmas.{queue_there}
use Rattle.q_fqcodel.proofs.flows.Flows.first_arrival.Goals as goal

pub returns : goal.returns
returns c =
    let same = ap (λ (f : FlowsState). f.flows) c.self.view_is in
    c.arrival_of.ensures
    ∙ ap first_arrival (sym (queue_there c.args.flow c.self.inside.pool.queues (codels_in c.self.inside.parameters c.self.inside.states.items) c.self.invariant.0))
    ∙ ap (λ (fs : List Flow). first_arrival (queue_of fs c.args.flow)) same
