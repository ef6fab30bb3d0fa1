use Rattle.std.proofs.Common.{◌≡◌, take}
use Rattle.q_fqcodel.specs.Oldest.{earliest, first_arrivals}
use Rattle.q_fqcodel.proofs.flows.Flows.oldest.Given as goal

abbrev pub invariant-loop-flow : goal.invariant-loop-flow
invariant-loop-flow l = l.oldest ≡ earliest (first_arrivals (take l.flow l.fn.self.flows))
