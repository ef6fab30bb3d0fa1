use Rattle.std.proofs.Common.{sym, ap, ◌∙◌}
use Rattle.q_fqcodel.specs.Pool.{codels_in}
use Rattle.q_fqcodel.specs.FlowsState.{FlowsState}
use Rattle.q_fqcodel.specs.FqState.{packets_of}
use Rattle.q_fqcodel.proofs.PooledLemmas.{packets_pooled}
use Rattle.q_fqcodel.proofs.flows.Flows.count.Goals as goal

pub returns : goal.returns
returns c =
    let same = ap (λ (f : FlowsState). f.flows) c.self.view_is in
    c.count.ensures ∙ sym (packets_pooled c.self.inside.pool.queues (codels_in c.self.inside.parameters c.self.inside.states.items) c.self.invariant.0) ∙ ap packets_of same
