use Rattle.std.proofs.Common.{ap}
use Rattle.q_fqcodel.specs.Nodes.{used}
use Rattle.q_fqcodel.specs.Pool.{PoolState}
use Rattle.q_fqcodel.proofs.PoolLemmas.{bytes_read, bytes_below}
use Rattle.q_fqcodel.proofs.pool.Pool.bytes_of.Goals as goal

pub returns-clause-value : goal.returns-clause-value
returns-clause-value c =
    let p = c.self.inside in
    bytes_read (used p.nodes) p.nodes.count p.lists.items p.bytes c.self.invariant.0 c.args.self.now.queues
    (ap (λ (s : PoolState). s.queues) c.self.view_is) c.args.flow c.list_of.result c.list_of.ensures

pub returns-clause-few : goal.returns-clause-few
returns-clause-few c = bytes_below _ _ _ _ c.self.invariant.0 _ (ap (λ (s : PoolState). s.queues) c.self.view_is) c.args.flow _ c.list_of.ensures
