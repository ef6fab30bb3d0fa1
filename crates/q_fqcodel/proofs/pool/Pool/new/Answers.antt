use Rattle.std.proofs.Common.{◌≡◌, List, replicate, sym, ap, ◌∙◌, arith, subst}
use Rattle.q_fqcodel.specs.Nodes.{used}
use Rattle.q_fqcodel.specs.Pool.{no_list, queues_in, IsPool}
use Rattle.q_fqcodel.specs.declared.flow_list.FlowList.{FlowList}
use Rattle.q_fqcodel.proofs.PoolLemmas.{pool_first, queues_first}
use Rattle.q_fqcodel.proofs.pool.Pool.new.Goals as goal
use Rattle.q_fqcodel.proofs.pool.Pool.new.Goals.{After-new-2}

items : (c : After-new-2) → c.in_ok-lists.lists.items ≡ replicate c.args.flows no_list
items c = c.in_ok-lists.ensures.items_if_clones_equal (λ y h. h) ∙ ap (λ (l : FlowList). replicate c.args.flows l) c.new.ensures

pub invariant_of-result : goal.invariant_of-result
invariant_of-result c =
    let d = (goal.at.invariant_of-result c).After-new-2 in (
      subst (λ (l : List FlowList). IsPool (used c.new-2.result) c.new-2.result.count l 0) (sym (items d)) (pool_first (used c.new-2.result) c.new-2.result.count c.args.flows c.new-2.ensures.count),
      omega arith,
    )

pub returns-clause-queues : goal.returns-clause-queues
returns-clause-queues c = ap (queues_in (used c.new-2.result)) (items (goal.at.returns-clause-queues c).After-new-2) ∙ queues_first (used c.new-2.result) c.args.flows
