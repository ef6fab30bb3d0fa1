use Rattle.std.proofs.Common.{ap, sym, length, ◌∙◌}
use Rattle.q_codel.specs.Ring.{RingState, between}
use Rattle.q_codel.proofs.RingLemmas.{length-standing}
use Rattle.q_codel.proofs.ring.Ring.len.Goals as goal

pub returns-clause-value : goal.returns-clause-value
returns-clause-value c =
    let r = c.self.inside in
    sym (length-standing r.cells.items r.first (between r.first r.next)) ∙ ap (λ (s : RingState). length s.packets) c.self.view_is
