use Rattle.std.proofs.Common.{Option, sym, ap, arith}
use Rattle.std.specs.Prelude.{option_map}
use Rattle.q_packet.specs.declared.stamped.Stamped.{Stamped}
use Rattle.q_fqcodel.specs.Oldest.{first_arrival}
use Rattle.q_fqcodel.specs.Pool.{PoolState}
use Rattle.q_fqcodel.proofs.PoolLemmas.{none_read}
use Rattle.q_fqcodel.proofs.FirstLemmas.{node_there, front_there}
use Rattle.q_fqcodel.proofs.pool.Pool.arrival_of.Goals as goal

pub returns-then-list-eq0 : goal.returns-then-list-eq0
returns-then-list-eq0 c =
    ap first_arrival
    (sym (none_read _ _ _ _ c.self.invariant.0 _ (ap (λ (s : PoolState). s.queues) c.self.view_is) c.args.flow _ c.list_of-list.ensures c.if-list-eq0.true))

pub at-node-requires : goal.at-node-requires
at-node-requires c = node_there _ _ _ _ c.self.invariant.0 _ (ap (λ (s : PoolState). s.queues) c.self.view_is) c.args.flow _ c.list_of-list.ensures (omega (arith, c.if-list-eq0.false))

pub returns : goal.returns
returns c =
    ap (λ (o : Option Stamped). option_map (λ (s : Stamped). s.at) o)
    (front_there _ _ _ _ c.self.invariant.0 _ (ap (λ (s : PoolState). s.queues) c.self.view_is) c.args.flow _ c.list_of-list.ensures _ (omega (arith, c.if-list-eq0.false)) c.at-node.ensures)
