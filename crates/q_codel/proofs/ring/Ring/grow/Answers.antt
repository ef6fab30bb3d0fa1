use Rattle.std.proofs.Common.{◌≡◌, length, ap, arith, ◌∙◌}
use Rattle.q_codel.specs.Ring.{RingState}
use Rattle.q_codel.proofs.RingLemmas.{ring_few, first_places, doubled}
use Rattle.q_codel.proofs.ring.Ring.grow.Goals as goal

-- the first places
pub invariant_of-self : goal.invariant_of-self
invariant_of-self c =
    let r = c.self.inside in
    let none : length r.cells.items ≡ 0 = omega (arith, c.len-places.ensures, c.if-places-eq0.true, r.cells.ok.0) in
    (first_places r.cells.items r.first r.next c.self.invariant none _ _ _ _ (omega (arith, r.cells.ok.0)) c.resize.ensures.items).0

pub returns-then-places-eq0-clause-packets : goal.returns-then-places-eq0-clause-packets
returns-then-places-eq0-clause-packets c =
    let r = c.self.inside in
    let none : length r.cells.items ≡ 0 = omega (arith, c.len-places.ensures, c.if-places-eq0.true, r.cells.ok.0) in
    (first_places r.cells.items r.first r.next c.self.invariant none _ _ _ _ (omega (arith, r.cells.ok.0)) c.resize.ensures.items).1 ∙ ap (λ (s : RingState). s.packets) c.self.view_is

-- twice as many places
pub invariant_of-self-2 : goal.invariant_of-self-2
invariant_of-self-2 c =
    let r = c.self.inside in
    (doubled r.cells.items r.first r.next c.self.invariant (omega (arith, c.len-places.ensures, r.cells.ok.0, c.if-places-eq0.false))
    (omega (arith, c.len-places.ensures, r.cells.ok.0, c.if-places-ge-MOST_PLACES.false)) _ _ _ (omega (arith, r.cells.ok.0))
    c.extend_from_within.ensures.items).0

pub returns-clause-packets : goal.returns-clause-packets
returns-clause-packets c =
    let r = c.self.inside in
    (doubled r.cells.items r.first r.next c.self.invariant (omega (arith, c.len-places.ensures, r.cells.ok.0, c.if-places-eq0.false))
    (omega (arith, c.len-places.ensures, r.cells.ok.0, c.if-places-ge-MOST_PLACES.false)) _ _ _ (omega (arith, r.cells.ok.0))
    c.extend_from_within.ensures.items).1
    ∙ ap (λ (s : RingState). s.packets) c.self.view_is

pub returns-then-places-ge-MOST_PLACES-clause-within : goal.returns-then-places-ge-MOST_PLACES-clause-within
returns-then-places-ge-MOST_PLACES-clause-within c =
    let r = c.self.inside in
    omega (arith, ring_few r.cells.items r.first r.next c.self.invariant, ap (λ (s : RingState). s.places) c.self.view_is)

pub returns-clause-within : goal.returns-clause-within
returns-clause-within c =
    let r = c.self.inside in
    ring_few c.extend_from_within.new.self.items r.first r.next
    (doubled r.cells.items r.first r.next c.self.invariant (omega (arith, c.len-places.ensures, r.cells.ok.0, c.if-places-eq0.false))
    (omega (arith, c.len-places.ensures, r.cells.ok.0, c.if-places-ge-MOST_PLACES.false)) _ _ _ (omega (arith, r.cells.ok.0))
    c.extend_from_within.ensures.items).0
