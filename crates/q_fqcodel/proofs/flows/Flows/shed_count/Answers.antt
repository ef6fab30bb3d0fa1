use Rattle.std.proofs.Common.{ℕ, ◌-◌, min, ap, ap₂, ◌∙◌}
use Rattle.q_packet.specs.Totals.{count}
use Rattle.q_fqcodel.specs.FqState.{queue_of}
use Rattle.q_fqcodel.specs.Put.{shed_count}
use Rattle.q_fqcodel.proofs.flows.Flows.shed_count.Goals as goal

pub returns : goal.returns
unfolding shed_count
returns c =
    c.min.ensures
    ∙ ap (λ (n : ℕ). min n c.args.batch)
    (c.min-most.ensures
    ∙ ap₂ (λ (a b : ℕ). min a (b - 1)) (c.count_of.ensures ∙ ap (λ (n : ℕ). count (queue_of c.args.self.now.flows n)) c.requires.fat) c.count.ensures)
