use Rattle.std.proofs.Common.{◌≡◌, ℕ, List, nat_eq, length, sym, ap, ◌∙◌, arith}
use Rattle.q_packet.specs.Totals.{count}
use Rattle.q_fqcodel.specs.Pool.{codels_in}
use Rattle.q_fqcodel.specs.FlowsState.{FlowsState}
use Rattle.q_fqcodel.specs.FqState.{Flow, queue_of}
use Rattle.q_fqcodel.proofs.PooledLemmas.{length-flows_from, queue_there}
use Rattle.q_fqcodel.proofs.flows.Flows.is_idle.Goals as goal

pub count_at-requires : goal.count_at-requires
count_at-requires c =
    let cs = codels_in c.self.inside.parameters c.self.inside.states.items in
    omega (arith, c.requires, ap (λ (f : FlowsState). length f.flows) c.self.view_is, length-flows_from c.self.inside.pool.queues cs c.self.invariant.0, c.self.invariant.0)

pub returns : goal.returns
returns c =
    let same = ap (λ (f : FlowsState). f.flows) c.self.view_is in
    let n : c.count_at.result ≡ count (queue_of c.args.self.now.flows c.args.flow) =
    c.count_at.ensures
    ∙ ap count (sym (queue_there c.args.flow c.self.inside.pool.queues (codels_in c.self.inside.parameters c.self.inside.states.items) c.self.invariant.0))
    ∙ ap (λ (fs : List Flow). count (queue_of fs c.args.flow)) same in
    ap (λ (k : ℕ). nat_eq k 0) n
