use Rattle.std.proofs.Common.{ap}
use Rattle.q_fqcodel.specs.Nodes.{used}
use Rattle.q_fqcodel.specs.Pool.{PoolState}
use Rattle.q_fqcodel.proofs.PoolLemmas.{count_read}
use Rattle.q_fqcodel.proofs.pool.Pool.count_of.Goals as goal

pub returns : goal.returns
returns c =
    let p = c.self.inside in
    count_read (used p.nodes) p.nodes.count p.lists.items p.bytes c.self.invariant.0 c.args.self.now.queues
    (ap (λ (s : PoolState). s.queues) c.self.view_is) c.args.flow c.list_of.result c.list_of.ensures
