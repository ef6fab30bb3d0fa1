use Rattle.std.proofs.Common.{◌∙◌, sym, ap, length, List}
use Rattle.q_packet.specs.Descriptor.{Descriptor}
use Rattle.q_ports.proofs.RingLemmas.{known-there}
use Rattle.q_ports.proofs.intake.Intake.known.Goals as goal

pub returns : goal.returns
returns g c d =
    c.cached_slots.ensures ∙ sym (ap (λ (ks : List Descriptor). length ks)
    (known-there c.self.inside.rings.items c.args.self.now c.args.at c.index.result.now c.self.view_is c.requires c.index.ensures d))
