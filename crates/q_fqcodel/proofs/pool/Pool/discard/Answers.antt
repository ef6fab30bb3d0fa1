use Rattle.std.proofs.Common.{ap, ◌∙◌, arith}
use Rattle.q_fqcodel.specs.Pool.{PoolState}
use Rattle.q_fqcodel.specs.declared.flow_list.FlowList.{FlowList}
use Rattle.q_fqcodel.proofs.PoolLemmas.{count_read}
use Rattle.q_fqcodel.proofs.FirstLemmas.{list_within, pool_gone, queues_gone, packets_gone}
use Rattle.q_fqcodel.proofs.pool.Pool.discard.Goals as goal

pub list_at-list-requires : goal.list_at-list-requires
list_at-list-requires c = list_within _ _ _ _ c.self.invariant.0 _ (ap (λ (s : PoolState). s.queues) c.self.view_is) c.args.flow c.requires

pub drop_head-rest-requires-clause-some : goal.drop_head-rest-requires-clause-some
drop_head-rest-requires-clause-some c =
    omega (arith, c.requires, count_read _ _ _ _ c.self.invariant.0 _ (ap (λ (s : PoolState). s.queues) c.self.view_is) c.args.flow _ c.list_at-list.ensures)

pub write_rest-requires-clause-within : goal.write_rest-requires-clause-within
write_rest-requires-clause-within c = list_within _ _ _ _ c.self.invariant.0 _ (ap (λ (s : PoolState). s.queues) c.self.view_is) c.args.flow c.requires

pub write_rest-requires-clause-tail : goal.write_rest-requires-clause-tail
write_rest-requires-clause-tail c = c.drop_head-rest.ensures.tail ∙ ap (λ (l : FlowList). l.tail) c.list_at-list.ensures

pub invariant_of-self : goal.invariant_of-self
invariant_of-self c =
    let e = c.drop_head-rest.ensures in (
      pool_gone _ _ _ _ c.self.invariant.0 _ (ap (λ (s : PoolState). s.queues) c.self.view_is) c.args.flow _ c.list_at-list.ensures _ _ _ _
          c.write_rest.ensures c.requires e.linked e.others e.queue e.count e.bytes e.len,
      omega (arith, c.self.invariant.1, e.capacity),
    )

pub returns-clause-packets : goal.returns-clause-packets
returns-clause-packets c =
    let e = c.drop_head-rest.ensures in
    packets_gone _ _ _ _ c.self.invariant.0 _ (ap (λ (s : PoolState). s.queues) c.self.view_is) c.args.flow _ c.list_at-list.ensures _ _ _ _
    c.write_rest.ensures c.requires e.linked e.others e.queue e.count e.bytes e.len

pub returns-clause-queues : goal.returns-clause-queues
returns-clause-queues c =
    let e = c.drop_head-rest.ensures in
    queues_gone _ _ _ _ c.self.invariant.0 _ (ap (λ (s : PoolState). s.queues) c.self.view_is) c.args.flow _ c.list_at-list.ensures _ _ _ _
    c.write_rest.ensures c.requires e.linked e.others e.queue e.count e.bytes e.len
