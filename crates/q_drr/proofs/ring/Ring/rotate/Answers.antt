use Rattle.std.proofs.Common.{◌≡◌, ◌<◌, ◌++◌, length, take, drop, sym, ap, ◌∙◌, subst, arith}
use Rattle.std.proofs.lemmas.List.{get_or_read}
use Rattle.q_drr.specs.Links.{IsCircle, walk, next_of, no_link}
use Rattle.q_drr.proofs.RingLemmas.{circle_turns, length-walk, front_inside, same_circle}
use Rattle.q_drr.proofs.ring.Ring.rotate.Goals as goal

some : (c : goal.After-self-1) → 0 < c.self.inside.count
some c = omega (arith, c.requires, ap (λ v. length v.order) c.self.view_is, length-walk (next_of c.self.inside.links.items) c.self.inside.count c.self.inside.front)

read : (c : goal.After-self-1) → c.index.result.now.next ≡ next_of c.self.inside.links.items c.self.inside.front
read c = let s = c.self.inside in
    ap (λ r. r.next) (get_or_read s.links.items s.front _ (front_inside s.links.items s.count s.front c.self.invariant (some c)) c.index.ensures no_link)

pub invariant_of-self : goal.invariant_of-self
invariant_of-self c =
    let s = c.self.inside in
    subst (λ n. IsCircle s.links.items (walk (next_of s.links.items) s.count n)) (sym (read c)) (circle_turns s.links.items s.count s.front c.self.invariant (some c)).1

pub returns : goal.returns
returns c =
    let s = c.self.inside in
    same_circle _ _ _ _
    (ap (λ n. walk (next_of s.links.items) s.count n) (read c) ∙ (circle_turns s.links.items s.count s.front c.self.invariant (some c)).0 ∙ ap (λ v. drop 1 v.order ++ take 1 v.order) c.self.view_is)
    (ap (λ v. v.room) c.self.view_is)
