use Rattle.std.proofs.Common.{[], get_or, Option, IsSome, sym, ◌∙◌, subst}
use Rattle.q_packet.specs.declared.stamped.Stamped.{Stamped}
use Rattle.q_codel.proofs.SinkLemmas.{lost_head}
use Rattle.q_fqcodel.proofs.SentLemmas.{slice_there}
use Rattle.q_fqcodel.proofs.pool.Pool.lose_head.Goals as goal

pub unwrap-gone-requires : goal.unwrap-gone-requires
unwrap-gone-requires g c =
    subst (λ (o : Option Stamped). IsSome o) (sym c.head_of.ensures) (slice_there (get_or c.args.self.now.queues c.args.flow []) 0 c.requires.some)

pub returns-clause-lost : goal.returns-clause-lost
returns-clause-lost g c =
    lost_head c.args.cause (get_or c.args.self.now.queues c.args.flow []) c.unwrap-gone.result (g.S.Sink.state c.args.sink.now)
    (g.S.Sink.state c.lost.new.self) (sym c.head_of.ensures ∙ c.unwrap-gone.ensures) c.lost.ensures.told
