use Rattle.std.proofs.Common.{◌≤◌, List, ap, ◌∙◌, arith}
use Rattle.std.specs.Prelude.{option_map, slice_get}
use Rattle.q_packet.specs.declared.stamped.Stamped.{Stamped}
use Rattle.q_fqcodel.specs.Pool.{PoolState}
use Rattle.q_fqcodel.specs.declared.flow_list.FlowList.{FlowList}
use Rattle.q_fqcodel.proofs.PoolLemmas.{count_read, queue_read}
use Rattle.q_fqcodel.proofs.FirstLemmas.{list_within, pool_gone, queues_gone}
use Rattle.q_fqcodel.proofs.pool.Pool.take_of_into.Goals as goal

pub list_at-list-requires : goal.list_at-list-requires
list_at-list-requires c = list_within _ _ _ _ c.self.invariant.0 _ (ap (λ (s : PoolState). s.queues) c.self.view_is) c.args.flow c.requires

pub take_head_into-rest-requires-clause-some : goal.take_head_into-rest-requires-clause-some
take_head_into-rest-requires-clause-some c =
    omega (arith, c.requires, count_read _ _ _ _ c.self.invariant.0 _ (ap (λ (s : PoolState). s.queues) c.self.view_is) c.args.flow _ c.list_at-list.ensures)

pub write_rest-requires-clause-within : goal.write_rest-requires-clause-within
write_rest-requires-clause-within c = list_within _ _ _ _ c.self.invariant.0 _ (ap (λ (s : PoolState). s.queues) c.self.view_is) c.args.flow c.requires

pub write_rest-requires-clause-tail : goal.write_rest-requires-clause-tail
write_rest-requires-clause-tail c = c.take_head_into-rest.ensures.tail ∙ ap (λ (l : FlowList). l.tail) c.list_at-list.ensures

pub invariant_of-self : goal.invariant_of-self
invariant_of-self c =
    let e = c.take_head_into-rest.ensures in
    let lighter : c.take_head_into-rest.result.bytes ≤ c.list_at-list.result.bytes = omega (arith, e.bytes) in (
      pool_gone _ _ _ _ c.self.invariant.0 _ (ap (λ (s : PoolState). s.queues) c.self.view_is) c.args.flow _ c.list_at-list.ensures _ _ _ _
          c.write_rest.ensures c.requires e.linked e.others e.queue e.count lighter e.len,
      omega (arith, c.self.invariant.1, e.capacity),
    )

pub returns-clause-given : goal.returns-clause-given
returns-clause-given c =
    c.take_head_into-rest.ensures.given
    ∙ ap (λ (q : List Stamped). option_map (λ s. s.packet) (slice_get q 0))
    (queue_read _ _ _ _ c.self.invariant.0 _ (ap (λ (s : PoolState). s.queues) c.self.view_is) c.args.flow _ c.list_at-list.ensures)

pub returns-clause-queues : goal.returns-clause-queues
returns-clause-queues c =
    let e = c.take_head_into-rest.ensures in
    let lighter : c.take_head_into-rest.result.bytes ≤ c.list_at-list.result.bytes = omega (arith, e.bytes) in
    queues_gone _ _ _ _ c.self.invariant.0 _ (ap (λ (s : PoolState). s.queues) c.self.view_is) c.args.flow _ c.list_at-list.ensures _ _ _ _
    c.write_rest.ensures c.requires e.linked e.others e.queue e.count lighter e.len
