use Rattle.std.proofs.Common.{◌≡◌, ℕ, ◌+◌, ◌<◌, false, List, [], ◌∷◌, ◌++◌, length, sym, ap, ◌∙◌, subst, arith}
use Rattle.std.proofs.Common.{zero, suc}
use Rattle.std.specs.Vec.{with_items}
use Rattle.std.proofs.lemmas.List.{with_items_is}
use Rattle.q_drr.specs.declared.ring.Link.{Link}
use Rattle.q_drr.specs.Links.{IsCircle, walk, next_of, before_of, is_among}
use Rattle.q_drr.proofs.DifferLemmas.{numbers_apart}
use Rattle.q_drr.proofs.NameLemmas.{length_le_from_differ}
use Rattle.q_drr.proofs.RingLemmas.{circle_pushed, near, length-walk, same_circle}
use Rattle.q_drr.proofs.ring.Ring.push.Goals as goal

last_inside : (links : List Link) (count front : ℕ) → IsCircle links (walk (next_of links) count front) → 0 < count → before_of links front < length links
last_inside links zero front h some = absurd (omega arith)
last_inside links (suc k) front h some = (near links front (walk (next_of links) k (next_of links front)) h).1

pub append-requires-clause-last : goal.append-requires-clause-last
append-requires-clause-last c =
    subst (λ ls. before_of ls c.self.inside.front < length ls) (sym c.deref_mut-2.ensures.value)
    (last_inside c.self.inside.links.items c.self.inside.count c.self.inside.front c.self.invariant (omega arith))

pub overflow_add-self : goal.overflow_add-self
overflow_add-self c =
    let s = c.self.inside in
    omega (
      arith,
      length_le_from_differ (walk (next_of s.links.items) s.count s.front) (length s.links.items)
          (numbers_apart (walk (next_of s.links.items) s.count s.front) c.self.invariant.differ) c.self.invariant.inside,
      length-walk
          (next_of s.links.items) s.count s.front,
      c.self.invariant.room,
    )

fresh : (c : goal.After-self-3-1) → is_among c.args.place (walk (next_of c.self.inside.links.items) c.self.inside.count c.self.inside.front) ≡ false
fresh c = ap (λ v. is_among c.args.place v.order) c.self.view_is ∙ c.requires.fresh

grown : (c : goal.After-self-3-1) (others : List ℕ) → IsCircle c.self.inside.links.items (c.self.inside.front ∷ others)
    → is_among c.args.place (c.self.inside.front ∷ others) ≡ false → IsCircle c.append.new.links (c.self.inside.front ∷ others ++ c.args.place ∷ [])
grown c others h absent = c.append.ensures.circle others (subst (λ ls. IsCircle ls (c.self.inside.front ∷ others)) (sym c.deref_mut-2.ensures.value) h) absent

items_are : (c : goal.After-self-3-1) → (with_items c.self.inside.links c.append.new.links).items ≡ c.append.new.links
items_are c = with_items_is c.self.inside.links c.append.new.links (c.append.ensures.len ∙ c.deref_mut-2.ensures.len)

pub invariant_of-self-2 : goal.invariant_of-self-2
invariant_of-self-2 c =
    let s = c.self.inside in
    subst (λ ls. IsCircle ls (walk (next_of ls) (s.count + 1) s.front)) (sym (items_are c))
    (circle_pushed s.links.items c.append.new.links s.count s.front c.args.place c.self.invariant (omega arith) (fresh c) (grown c)).1

pub returns : goal.returns
returns c =
    let s = c.self.inside in
    same_circle _ _ _ _
    (ap (λ ls. walk (next_of ls) (s.count + 1) s.front) (items_are c)
    ∙ (circle_pushed s.links.items c.append.new.links s.count s.front c.args.place c.self.invariant (omega arith) (fresh c) (grown c)).0
    ∙ ap (λ v. v.order ++ c.args.place ∷ []) c.self.view_is)
    (ap length (items_are c) ∙ c.append.ensures.len ∙ ap length c.deref_mut-2.ensures.value ∙ ap (λ v. v.room) c.self.view_is)
