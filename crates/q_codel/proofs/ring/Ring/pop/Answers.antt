use Rattle.std.proofs.Common.{◌<◌, ℕ, List, length, drop, ap, ap₂, arith, ◌∙◌}
use Rattle.q_packet.specs.declared.stamped.Stamped.{Stamped}
use Rattle.q_codel.specs.Ring.{RingState, between}
use Rattle.q_codel.proofs.RingLemmas.{length-standing, gone_packets}
use Rattle.q_codel.proofs.ring.Ring.pop.Goals as goal

pub returns-clause-rest : goal.returns-clause-rest
returns-clause-rest c =
    let r = c.self.inside in
    let some : 0 < between r.first r.next = omega (arith, c.requires, ap (λ (s : RingState). length s.packets) c.self.view_is, length-standing r.cells.items r.first (between r.first r.next)) in
    ap₂ (λ (p : List Stamped) (n : ℕ). record { packets = p; places = n })
    (gone_packets r.cells.items r.first r.next c.self.invariant (omega arith) (omega arith) some ∙ ap (λ (s : RingState). drop 1 s.packets) c.self.view_is)
    (ap (λ (s : RingState). s.places) c.self.view_is)
