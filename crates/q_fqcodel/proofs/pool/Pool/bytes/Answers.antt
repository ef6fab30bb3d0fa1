use Rattle.std.proofs.Common.{sym, ap, ◌∙◌, arith}
use Rattle.q_fqcodel.specs.Nodes.{used}
use Rattle.q_fqcodel.specs.Pool.{PoolState, bytes_in}
use Rattle.q_fqcodel.proofs.PoolLemmas.{bytes_pooled, all_bytes_few}
use Rattle.q_fqcodel.proofs.pool.Pool.bytes.Goals as goal

pub returns-clause-value : goal.returns-clause-value
returns-clause-value c =
    let p = c.self.inside in
    sym (bytes_pooled (used p.nodes) p.nodes.count p.lists.items p.bytes c.self.invariant.0) ∙ ap (λ (s : PoolState). bytes_in s.queues) c.self.view_is

pub returns-clause-few : goal.returns-clause-few
returns-clause-few c =
    let p = c.self.inside in
    omega (arith, all_bytes_few (used p.nodes) p.nodes.count p.lists.items p.bytes c.self.invariant.0, c.self.invariant.0.few)
