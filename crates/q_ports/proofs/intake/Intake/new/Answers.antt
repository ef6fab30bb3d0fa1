use Rattle.std.proofs.Common.{◌∙◌, sym, ap, arith, map, replicate, List, []}
use Rattle.std.proofs.lemmas.List.{length-map}
use Rattle.q_ports.specs.declared.ring_rule.RingRule.{RingRule}
use Rattle.q_packet.specs.Descriptor.{Descriptor}
use Rattle.q_ports.specs.Rings.{ring_seen}
use Rattle.q_ports.proofs.SettleLemmas.{seat-none}
use Rattle.q_ports.proofs.intake.Intake.new.Goals as goal

pub invariant_of-result : goal.invariant_of-result
invariant_of-result g c =
    let xs = map (ring_seen {P = RingRule}) c.args.rings.items in
    let long = length-map c.args.rings.items (ring_seen {P = RingRule}) in (
      c.requires.seat ∙ sym (seat-none xs (c.requires.received ∙ ap (λ n. replicate {A = List Descriptor} n []) (sym long))),
      omega (arith, c.requires.count.0),
      c.requires.count.1,
    )
