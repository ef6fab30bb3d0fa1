use Rattle.std.proofs.Common.{length, ap, arith}
use Rattle.q_fqcodel.specs.Nodes.{used}
use Rattle.q_fqcodel.specs.Pool.{PoolState}
use Rattle.q_fqcodel.proofs.PoolLemmas.{length-queues_in, count_read}
use Rattle.q_fqcodel.proofs.pool.Pool.count_at.Goals as goal

pub list_at-requires : goal.list_at-requires
list_at-requires c = omega (arith, c.requires, ap (λ (s : PoolState). length s.queues) c.self.view_is, length-queues_in (used c.self.inside.nodes) c.self.inside.lists.items)

pub returns : goal.returns
returns c =
    let p = c.self.inside in
    count_read (used p.nodes) p.nodes.count p.lists.items p.bytes c.self.invariant.0 c.args.self.now.queues
    (ap (λ (s : PoolState). s.queues) c.self.view_is) c.args.flow c.list_at.result c.list_at.ensures
