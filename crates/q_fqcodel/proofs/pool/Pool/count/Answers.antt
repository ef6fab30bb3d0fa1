use Rattle.std.proofs.Common.{sym, ap, ◌∙◌}
use Rattle.q_fqcodel.specs.Nodes.{used}
use Rattle.q_fqcodel.specs.Pool.{PoolState, packets_in}
use Rattle.q_fqcodel.proofs.PoolLemmas.{packets_pooled}
use Rattle.q_fqcodel.proofs.pool.Pool.count.Goals as goal

pub returns : goal.returns
returns c =
    let p = c.self.inside in
    c.count.ensures ∙ sym (packets_pooled (used p.nodes) p.nodes.count p.lists.items p.bytes c.self.invariant.0) ∙ ap (λ (s : PoolState). packets_in s.queues) c.self.view_is
