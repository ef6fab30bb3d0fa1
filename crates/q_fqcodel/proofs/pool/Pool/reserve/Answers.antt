use Rattle.std.proofs.Common.{◌≡◌, sym, ap, ◌∙◌, arith}
use Rattle.q_fqcodel.specs.Nodes.{used}
use Rattle.q_fqcodel.specs.Pool.{PoolState, packets_in}
use Rattle.q_fqcodel.proofs.PoolLemmas.{packets_pooled, queues_alike}
use Rattle.q_fqcodel.proofs.pool.Pool.reserve.Goals as goal
use Rattle.q_fqcodel.proofs.pool.Pool.reserve.Goals.{After-count}

held : (c : After-count) → packets_in c.args.self.now.queues ≡ c.count.result
held c =
    let p = c.self.inside in
    ap (λ (s : PoolState). packets_in s.queues) (sym c.self.view_is)
    ∙ packets_pooled (used p.nodes) p.nodes.count p.lists.items p.bytes c.self.invariant.0
    ∙ sym c.count.ensures

pub returns-then-count-self-clause-ok : goal.returns-then-count-self-clause-ok
returns-then-count-self-clause-ok c =
    let d = (goal.at.returns-then-count-self-clause-ok c).After-count in
    omega (arith, held d, c.if-count-self.true, ap (λ (s : PoolState). s.places) c.self.view_is)

pub returns-in_err-reserve-clause-succeeds : goal.returns-in_err-reserve-clause-succeeds
returns-in_err-reserve-clause-succeeds c h =
    let d = (goal.at.returns-in_err-reserve-clause-succeeds c).After-count in
    absurd (omega (arith, h, held d, c.if-count-self.false, ap (λ (s : PoolState). s.places) c.self.view_is))

pub returns-clause-had_room : goal.returns-clause-had_room
returns-clause-had_room c h =
    let d = (goal.at.returns-clause-had_room c).After-count in
    absurd (omega (arith, h, held d, c.if-count-self.false, ap (λ (s : PoolState). s.places) c.self.view_is))

pub returns-clause-ok : goal.returns-clause-ok
returns-clause-ok c =
    let p = c.self.inside in
    omega (
      arith,
      ap packets_in (queues_alike (used p.nodes) (used c.reserve.new.self) p.lists.items c.in_ok-reserve.ensures.same c.self.invariant.0.each),
      packets_pooled (used p.nodes) p.nodes.count p.lists.items p.bytes c.self.invariant.0,
      c.in_ok-reserve.ensures.count,
      c.in_ok-reserve.ensures.ok,
      c.capacity-self-inside.ensures,
    )
