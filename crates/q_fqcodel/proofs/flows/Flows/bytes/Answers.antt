use Rattle.std.proofs.Common.{sym, ap, ◌∙◌}
use Rattle.q_fqcodel.specs.Pool.{codels_in}
use Rattle.q_fqcodel.specs.FlowsState.{FlowsState}
use Rattle.q_fqcodel.specs.FqState.{bytes_of}
use Rattle.q_fqcodel.proofs.PooledLemmas.{bytes_pooled}
use Rattle.q_fqcodel.proofs.flows.Flows.bytes.Goals as goal

pub returns-clause-value : goal.returns-clause-value
returns-clause-value c =
    let same = ap (λ (f : FlowsState). f.flows) c.self.view_is in
    c.bytes.ensures.value ∙ sym (bytes_pooled c.self.inside.pool.queues (codels_in c.self.inside.parameters c.self.inside.states.items) c.self.invariant.0) ∙ ap bytes_of same
