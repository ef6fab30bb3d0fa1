use Rattle.std.proofs.Common.{◌≡◌, ◌≢◌, ℕ, ◌-◌, true, List, ◌∷◌, length, refl, sym, ap, ◌∙◌, subst, arith}
use Rattle.std.specs.Vec.{with_items}
use Rattle.std.proofs.lemmas.List.{with_items_is}
use Rattle.q_drr.specs.Links.{Circle, IsCircle, walk, next_of, is_among, without}
use Rattle.q_drr.proofs.RingLemmas.{circle_removed, neighbours, Neighbours, same_circle}
use Rattle.q_drr.proofs.ring.Ring.remove.Goals.{After-deref_mut, After-detach-next}
use Rattle.q_drr.proofs.ring.Ring.remove.Goals as goal

order : After-deref_mut → List ℕ
order c = walk (next_of c.self.inside.links.items) c.self.inside.count c.self.inside.front

there : (c : After-deref_mut) → is_among c.args.place (order c) ≡ true
unfolding order
there c = ap (λ v. is_among c.args.place v.order) c.self.view_is ∙ c.requires

near : (c : After-deref_mut) → Neighbours c.deref_mut.result.now c.args.place
unfolding order
near c = subst (λ ls. Neighbours ls c.args.place) (sym c.deref_mut.ensures.value) (neighbours c.self.inside.links.items c.args.place (order c) c.self.invariant (there c))

pub overflow_cast-place : goal.overflow_cast-place
overflow_cast-place c = omega (arith, (near c).itself, ap length c.deref_mut.ensures.value, c.self.invariant.room)

pub detach-next-requires-clause-inside : goal.detach-next-requires-clause-inside
detach-next-requires-clause-inside c = (near c).itself

pub detach-next-requires-clause-next : goal.detach-next-requires-clause-next
detach-next-requires-clause-next c = (near c).next

pub detach-next-requires-clause-before : goal.detach-next-requires-clause-before
detach-next-requires-clause-before c = (near c).before

items_are : (c : After-detach-next) → (with_items c.self.inside.links c.detach-next.new.links).items ≡ c.detach-next.new.links
items_are c = with_items_is c.self.inside.links c.detach-next.new.links (c.detach-next.ensures.len ∙ c.deref_mut.ensures.len)

taken : (c : After-detach-next) (others : List ℕ) → IsCircle c.self.inside.links.items (c.args.place ∷ others) → IsCircle c.detach-next.new.links others
taken c others h = c.detach-next.ensures.circle others (subst (λ ls. IsCircle ls (c.args.place ∷ others)) (sym c.deref_mut.ensures.value) h)

next_is : (c : After-detach-next) → c.detach-next.result ≡ next_of c.self.inside.links.items c.args.place
next_is c = c.detach-next.ensures.next ∙ ap (λ ls. next_of ls c.args.place) c.deref_mut.ensures.value

-- what is left, whichever of the two is the front
left : (c : After-detach-next) (front : ℕ) → (c.self.inside.front ≡ c.args.place → front ≡ c.detach-next.result) → (c.self.inside.front ≢ c.args.place → front ≡ c.self.inside.front)
    → (walk (next_of c.detach-next.new.links) (c.self.inside.count - 1) front ≡ without c.args.place (walk (next_of c.self.inside.links.items) c.self.inside.count c.self.inside.front))
    × IsCircle c.detach-next.new.links (walk (next_of c.detach-next.new.links) (c.self.inside.count - 1) front)
left c front same other =
    let s = c.self.inside in
    circle_removed s.links.items c.detach-next.new.links s.count s.front front c.args.place c.self.invariant
    (ap (λ v. is_among c.args.place v.order) c.self.view_is ∙ c.requires) (taken c) (λ e. same e ∙ next_is c) other

circle : (c : After-detach-next) (front : ℕ) → (c.self.inside.front ≡ c.args.place → front ≡ c.detach-next.result) → (c.self.inside.front ≢ c.args.place → front ≡ c.self.inside.front)
    → let links = (with_items c.self.inside.links c.detach-next.new.links).items in IsCircle links (walk (next_of links) (c.self.inside.count - 1) front)
circle c front same other =
    subst (λ ls. IsCircle ls (walk (next_of ls) (c.self.inside.count - 1) front)) (sym (items_are c)) (left c front same other).1

shown : (c : After-detach-next) (front : ℕ) → (c.self.inside.front ≡ c.args.place → front ≡ c.detach-next.result) → (c.self.inside.front ≢ c.args.place → front ≡ c.self.inside.front)
    → let links = (with_items c.self.inside.links c.detach-next.new.links).items in
    ◌≡◌ {A = Circle} (record { order = walk (next_of links) (c.self.inside.count - 1) front; room = length links })
    (record { order = without c.args.place c.args.self.now.order; room = c.args.self.now.room })
shown c front same other =
    same_circle _ _ _ _
    (ap (λ ls. walk (next_of ls) (c.self.inside.count - 1) front) (items_are c) ∙ (left c front same other).0 ∙ ap (λ v. without c.args.place v.order) c.self.view_is)
    (ap length (items_are c) ∙ c.detach-next.ensures.len ∙ ap length c.deref_mut.ensures.value ∙ ap (λ v. v.room) c.self.view_is)

pub invariant_of-self : goal.invariant_of-self
invariant_of-self c = circle (goal.at.invariant_of-self c).After-detach-next c.detach-next.result (λ _. refl) (λ other. absurd (other c.if-self-place.true))

pub invariant_of-self-else-self-place : goal.invariant_of-self-else-self-place
invariant_of-self-else-self-place c =
    circle (goal.at.invariant_of-self-else-self-place c).After-detach-next c.self.inside.front (λ same. absurd (c.if-self-place.false same)) (λ _. refl)

pub returns-then-self-place : goal.returns-then-self-place
returns-then-self-place c = shown (goal.at.returns-then-self-place c).After-detach-next c.detach-next.result (λ _. refl) (λ other. absurd (other c.if-self-place.true))

pub returns-else-self-place : goal.returns-else-self-place
returns-else-self-place c =
    shown (goal.at.returns-else-self-place c).After-detach-next c.self.inside.front (λ same. absurd (c.if-self-place.false same)) (λ _. refl)
