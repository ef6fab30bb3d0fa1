use Rattle.std.proofs.Common.{get_or, refl, ap, arith}
use Rattle.q_fqcodel.specs.Nodes.{used}
use Rattle.q_fqcodel.specs.Pool.{PoolState, no_list}
use Rattle.q_fqcodel.proofs.PoolLemmas.{bytes_read, count_read, bytes_enough, bytes_few}
use Rattle.q_fqcodel.proofs.pool.Pool.each_has_bytes.Goals as goal

pub returns-clause-least : goal.returns-clause-least
returns-clause-least c n =
    let p = c.self.inside in
    let same = ap (λ (s : PoolState). s.queues) c.self.view_is in
    let l = get_or p.lists.items n no_list in
    omega (
      arith,
      bytes_read (used p.nodes) p.nodes.count p.lists.items p.bytes c.self.invariant.0 c.args.self.now.queues same n l refl,
      count_read (used p.nodes) p.nodes.count p.lists.items p.bytes c.self.invariant.0 c.args.self.now.queues same n l refl,
      bytes_enough (used p.nodes) p.nodes.count p.lists.items p.bytes c.self.invariant.0 n,
    )

pub returns-clause-most : goal.returns-clause-most
returns-clause-most c n =
    let p = c.self.inside in
    let same = ap (λ (s : PoolState). s.queues) c.self.view_is in
    let l = get_or p.lists.items n no_list in
    omega (
      arith,
      bytes_read (used p.nodes) p.nodes.count p.lists.items p.bytes c.self.invariant.0 c.args.self.now.queues same n l refl,
      count_read (used p.nodes) p.nodes.count p.lists.items p.bytes c.self.invariant.0 c.args.self.now.queues same n l refl,
      bytes_few (used p.nodes) p.nodes.count p.lists.items p.bytes c.self.invariant.0 n,
    )
