use Rattle.std.proofs.Common.{◌∙◌, refl, ap, true, false}
use Rattle.q_ports.specs.Placed.{PortSeen, placing}
use Rattle.q_ports.proofs.sender.offer_one.Goals as goal

pub returns-in-Ok-clause-placed : goal.returns-in-Ok-clause-placed
returns-in-Ok-clause-placed g c = record { placed = true; after_is = c.in-Ok.ensures.ok ∙ ap (λ (v : PortSeen). placing v c.args.packet) c.loop-refused.invariant.port; rest = refl }

pub returns-clause-given_up : goal.returns-clause-given_up
returns-clause-given_up g c = record { placed = false; after_is = c.loop-refused.invariant.port; rest = refl }
