use Rattle.std.proofs.Common.{length, sym, ap, ◌∙◌}
use Rattle.q_drr.specs.Links.{Circle, next_of}
use Rattle.q_drr.proofs.RingLemmas.{length-walk}
use Rattle.q_drr.proofs.ring.Ring.len.Goals as goal

pub returns-clause-value : goal.returns-clause-value
returns-clause-value c = sym (length-walk (next_of c.self.inside.links.items) c.self.inside.count c.self.inside.front) ∙ ap (λ (v : Circle). length v.order) c.self.view_is
