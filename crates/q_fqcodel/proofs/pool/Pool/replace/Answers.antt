use Rattle.std.proofs.Common.{◌%◌, List, [], ◌∷◌, ◌++◌, length, get_or, set, drop, ℕ, ap, ◌∙◌, arith}
use Rattle.std.proofs.lemmas.List.{length-set}
use Rattle.q_packet.specs.declared.stamped.Stamped.{Stamped}
use Rattle.q_fqcodel.specs.Pool.{stamp}
use Rattle.q_fqcodel.proofs.pool.Pool.replace.Goals as goal

pub push-requires-clause-in_range : goal.push-requires-clause-in_range
push-requires-clause-in_range g c =
    omega (arith, c.requires.in_range, ap length c.lose_head.ensures.queues, length-set c.args.self.now.queues c.args.from (drop 1 (get_or c.args.self.now.queues c.args.from [])))

pub push-requires-clause-own : goal.push-requires-clause-own
push-requires-clause-own g c =
    ap (λ (n : ℕ). c.args.packet.now.hash % n) (ap length c.lose_head.ensures.queues ∙ length-set c.args.self.now.queues c.args.from (drop 1 (get_or c.args.self.now.queues c.args.from [])))
    ∙ c.requires.own

pub push-requires-clause-place : goal.push-requires-clause-place
push-requires-clause-place g c = omega (arith, c.requires.place, c.lose_head.ensures.packets, c.lose_head.ensures.places)

pub push-requires-clause-few : goal.push-requires-clause-few
push-requires-clause-few g c = omega (arith, c.requires.few, c.lose_head.ensures.packets)

pub returns-clause-queues : goal.returns-clause-queues
returns-clause-queues g c =
    let more : List Stamped = stamp c.args.packet.now c.args.now ∷ [] in
    c.push.ensures.queues
    ∙ ap (λ (q : List (List Stamped)). set q c.args.flow (get_or q c.args.flow [] ++ more)) c.lose_head.ensures.queues
