use Rattle.std.proofs.Common.{◌≡◌, [], take, drop, set, get_or}
use Rattle.q_codel.specs.Losses.{AreLost}
use Rattle.q_fqcodel.proofs.flows.lose_from.Given as goal

abbrev pub invariant-loop-i : goal.invariant-loop-i
invariant-loop-i g l =
    let queue = get_or l.fn.pool.queues l.flow [] in
    record {
      queues : l.pool.queues ≡ set l.fn.pool.queues l.flow (drop l._i queue);
      places : l.pool.places ≡ l.fn.pool.places;
      lost : AreLost l.cause (take l._i queue) (g.S.Sink.state l.fn.sink) (g.S.Sink.state l.sink);
      kept : g.S.Sink.keeps l.fn.sink l.sink;
    }
