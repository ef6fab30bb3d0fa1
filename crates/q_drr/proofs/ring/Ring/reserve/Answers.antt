use Rattle.std.proofs.Common.{◌+◌, vec_len, sym, ap, ◌∙◌, subst, arith}
use Rattle.q_drr.specs.Links.{IsCircle, walk, next_of}
use Rattle.q_drr.proofs.RingLemmas.{circle_resized, circle_rewalks}
use Rattle.q_drr.proofs.ring.Ring.reserve.Goals.{In_ok-resize}
use Rattle.q_drr.proofs.ring.Ring.reserve.Goals as goal

roomier : (c : In_ok-resize) → IsCircle c.resize.new.self.items (walk (next_of c.self.inside.links.items) c.self.inside.count c.self.inside.front)
roomier c =
    circle_resized _ c.self.inside.links.items c.resize.new.self.items (c.args.place + 1) (vec_len c.self.inside.links) _ (omega arith) (omega arith)
    c.self.inside.links.ok.0 c.resize.ensures.items c.self.invariant

pub invariant_of-self : goal.invariant_of-self
invariant_of-self c =
    let s = c.self.inside in
    subst (λ ns. IsCircle c.resize.new.self.items ns) (sym (circle_rewalks s.links.items c.resize.new.self.items s.count s.front (roomier c))) (roomier c)

pub returns-in_ok-resize-clause-order : goal.returns-in_ok-resize-clause-order
returns-in_ok-resize-clause-order c =
    let s = c.self.inside in
    circle_rewalks s.links.items c.resize.new.self.items s.count s.front (roomier c) ∙ ap (λ v. v.order) c.self.view_is
