use Rattle.std.proofs.Common.{◌<◌, Option, Some, ap, ◌∙◌, arith}
use Rattle.std.specs.Prelude.{option_map}
use Rattle.q_packet.specs.declared.stamped.Stamped.{Stamped}
use Rattle.q_codel.specs.Front.{front_of}
use Rattle.q_codel.specs.declared.front.Front.{Front}
use Rattle.q_fqcodel.specs.Pool.{PoolState}
use Rattle.q_fqcodel.proofs.PoolLemmas.{count_read, bytes_read, bytes_below}
use Rattle.q_fqcodel.proofs.FirstLemmas.{list_within, node_there, front_there}
use Rattle.q_fqcodel.proofs.pool.Pool.peek.Goals as goal
use Rattle.q_fqcodel.proofs.pool.Pool.peek.Goals.{After-list_at-list}

pub list_at-list-requires : goal.list_at-list-requires
list_at-list-requires c = list_within _ _ _ _ c.self.invariant.0 _ (ap (λ (s : PoolState). s.queues) c.self.view_is) c.args.flow c.requires

some : (c : After-list_at-list) → 0 < c.list_at-list.result.count
some c = omega (arith, c.requires, count_read _ _ _ _ c.self.invariant.0 _ (ap (λ (s : PoolState). s.queues) c.self.view_is) c.args.flow _ c.list_at-list.ensures)

pub at-node-requires : goal.at-node-requires
at-node-requires c =
    node_there _ _ _ _ c.self.invariant.0 _ (ap (λ (s : PoolState). s.queues) c.self.view_is) c.args.flow _ c.list_at-list.ensures (some (goal.at.at-node-requires c).After-list_at-list)

pub returns-clause-front : goal.returns-clause-front
returns-clause-front c =
    ap (λ (x : Front). Some x) c.front.ensures
    ∙ ap (λ (o : Option Stamped). option_map front_of o)
    (front_there _ _ _ _ c.self.invariant.0 _ (ap (λ (s : PoolState). s.queues) c.self.view_is) c.args.flow _ c.list_at-list.ensures _
    (some (goal.at.returns-clause-front c).After-list_at-list) c.at-node.ensures)

pub returns-clause-bytes : goal.returns-clause-bytes
returns-clause-bytes c = bytes_read _ _ _ _ c.self.invariant.0 _ (ap (λ (s : PoolState). s.queues) c.self.view_is) c.args.flow _ c.list_at-list.ensures

pub returns-clause-few : goal.returns-clause-few
returns-clause-few c = bytes_below _ _ _ _ c.self.invariant.0 _ (ap (λ (s : PoolState). s.queues) c.self.view_is) c.args.flow _ c.list_at-list.ensures
