use Rattle.std.proofs.Common.{◌∙◌, map, set, length, refl, sym, ap, ap₂, subst, arith, Option}
use Rattle.std.specs.Prelude.{is_some, unwrap_or, slice_index_or}
use Rattle.std.specs.Vec.{with_items}
use Rattle.q_model.specs.Pop.{first_shown, pop}
use Rattle.q_model.specs.Work.{booked}
use Rattle.q_model.specs.Node.{side_by_side}
use Rattle.q_tree.specs.Kept.{kept}
use Rattle.q_tree.specs.NodeCode.{forest_size}
use Rattle.q_tree.proofs.route.RouteLemmas.{child-size}
use Rattle.q_tree.specs.departure.PopSteps.{ArePopped, IsPoppedIn, popping_of}
use Rattle.q_tree.specs.Seen.{seen, children_seen, discipline_seen, places_seen}
use Rattle.q_tree.specs.declared.node.Discipline.TheVariants as code
use Rattle.q_tree.proofs.counters.RowsOf.{row-of, among}
use Rattle.q_tree.proofs.departure.HeldLemmas.{none-kept}
use Rattle.q_tree.proofs.departure.Peeks.{items-are}
use Rattle.q_tree.proofs.departure.PopLemmas.{band-here, band-still, band-gave, bands-popped, bands-still, nothing-shown, ready-next, ready-none, none-popped, prio-popped, held-after, held-shown, own-shown, still-kept, gave}
use Rattle.q_tree.proofs.departure.SendLemmas.{given-some, given-none}
use Rattle.q_tree.proofs.disciplines.AtHandLemmas.{none-held}
use Rattle.q_tree.proofs.+dequeue_at_hand.Goals as goal
use Rattle.q_packet.specs.declared.stamped.Stamped.{Stamped}

pub node::Discipline::dequeue_at_hand_further-returns-in-Tbf-clause-after : goal.node::Discipline::dequeue_at_hand_further-returns-in-Tbf-clause-after
node::Discipline::dequeue_at_hand_further-returns-in-Tbf-clause-after t c =
    subst (λ d. IsPoppedIn d d) (sym c.in-Tbf.is) (none-popped (code.Tbf c.in-Tbf.bucket c.in-Tbf.limit c.in-Tbf.child) tt)

pub node::Discipline::dequeue_at_hand_further-returns-in-Drr-clause-after : goal.node::Discipline::dequeue_at_hand_further-returns-in-Drr-clause-after
node::Discipline::dequeue_at_hand_further-returns-in-Drr-clause-after t c =
    subst (λ d. IsPoppedIn d d) (sym c.in-Drr.is) (none-popped (code.Drr c.in-Drr.active c.in-Drr.classes) tt)

pub node::Node::dequeue_at_hand-returns-then-is_some-clause-after : goal.node::Node::dequeue_at_hand-returns-then-is_some-clause-after
node::Node::dequeue_at_hand-returns-then-is_some-clause-after t c =
    ap (λ (h : Option Stamped). seen (record c.self.inside { held = h; row = c.book_sent.new.row })) c.release.ensures.none
    ∙ held-after c.self.inside c.release.new.out (sym c.release.ensures.packet) c.book_sent.new.row c.book_sent.ensures
    ∙ ap (λ n. booked kept n (pop n).after) c.self.view_is

pub node::Node::dequeue_at_hand-returns-then-is_some-clause-given : goal.node::Node::dequeue_at_hand-returns-then-is_some-clause-given
node::Node::dequeue_at_hand-returns-then-is_some-clause-given t c =
    sym (ap is_some (sym (ap (λ n. (pop n).shown) c.self.view_is) ∙ held-shown c.self.inside c.release.new.out (sym c.release.ensures.packet)))

pub node::Node::dequeue_at_hand-returns-then-is_some-clause-packet : goal.node::Node::dequeue_at_hand-returns-then-is_some-clause-packet
node::Node::dequeue_at_hand-returns-then-is_some-clause-packet t c =
    sym (ap (λ o. unwrap_or o c.args.out.now) (sym (ap (λ n. (pop n).shown) c.self.view_is) ∙ held-shown c.self.inside c.release.new.out (sym c.release.ensures.packet)))

pub node::Node::dequeue_at_hand-invariant_of-self-then-not-dequeue_at_hand : goal.node::Node::dequeue_at_hand-invariant_of-self-then-not-dequeue_at_hand
node::Node::dequeue_at_hand-invariant_of-self-then-not-dequeue_at_hand t c =
    (still-kept c.self.inside (none-kept c.self.inside.held c.if-is_some.ensures) c.dequeue_at_hand.new.self
    (popping_of c.self.inside.discipline).shown refl c.dequeue_at_hand.ensures.after c.self.invariant
    (given-none (popping_of c.self.inside.discipline).shown c.args.out.now c.dequeue_at_hand.new.out
    (sym c.dequeue_at_hand.ensures.given ∙ c.if-not-dequeue_at_hand.true) c.dequeue_at_hand.ensures.packet).0).stays

pub node::Node::dequeue_at_hand-returns-then-not-dequeue_at_hand-clause-given : goal.node::Node::dequeue_at_hand-returns-then-not-dequeue_at_hand-clause-given
node::Node::dequeue_at_hand-returns-then-not-dequeue_at_hand-clause-given t c =
    sym (ap is_some (sym ((still-kept c.self.inside (none-kept c.self.inside.held c.if-is_some.ensures) c.dequeue_at_hand.new.self
    (popping_of c.self.inside.discipline).shown refl c.dequeue_at_hand.ensures.after c.self.invariant
    (given-none (popping_of c.self.inside.discipline).shown c.args.out.now c.dequeue_at_hand.new.out
    (sym c.dequeue_at_hand.ensures.given ∙ c.if-not-dequeue_at_hand.true) c.dequeue_at_hand.ensures.packet).0).shown
    ∙ ap (λ n. (pop n).shown) c.self.view_is)))

pub node::Node::dequeue_at_hand-returns-then-not-dequeue_at_hand-clause-packet : goal.node::Node::dequeue_at_hand-returns-then-not-dequeue_at_hand-clause-packet
node::Node::dequeue_at_hand-returns-then-not-dequeue_at_hand-clause-packet t c =
    (given-none (popping_of c.self.inside.discipline).shown c.args.out.now c.dequeue_at_hand.new.out
    (sym c.dequeue_at_hand.ensures.given ∙ c.if-not-dequeue_at_hand.true) c.dequeue_at_hand.ensures.packet).1
    ∙ ap (λ o. unwrap_or o c.args.out.now) ((still-kept c.self.inside (none-kept c.self.inside.held c.if-is_some.ensures)
    c.dequeue_at_hand.new.self (popping_of c.self.inside.discipline).shown refl c.dequeue_at_hand.ensures.after c.self.invariant
    (given-none (popping_of c.self.inside.discipline).shown c.args.out.now c.dequeue_at_hand.new.out
    (sym c.dequeue_at_hand.ensures.given ∙ c.if-not-dequeue_at_hand.true) c.dequeue_at_hand.ensures.packet).0).shown
    ∙ ap (λ n. (pop n).shown) c.self.view_is)

pub node::Node::dequeue_at_hand-returns-then-not-dequeue_at_hand-clause-after : goal.node::Node::dequeue_at_hand-returns-then-not-dequeue_at_hand-clause-after
node::Node::dequeue_at_hand-returns-then-not-dequeue_at_hand-clause-after t c =
    (still-kept c.self.inside (none-kept c.self.inside.held c.if-is_some.ensures) c.dequeue_at_hand.new.self
    (popping_of c.self.inside.discipline).shown refl c.dequeue_at_hand.ensures.after c.self.invariant
    (given-none (popping_of c.self.inside.discipline).shown c.args.out.now c.dequeue_at_hand.new.out
    (sym c.dequeue_at_hand.ensures.given ∙ c.if-not-dequeue_at_hand.true) c.dequeue_at_hand.ensures.packet).0).after
    ∙ ap (λ n. booked kept n (pop n).after) c.self.view_is

pub node::Node::dequeue_at_hand-book_sent-requires-2-clause-among : goal.node::Node::dequeue_at_hand-book_sent-requires-2-clause-among
node::Node::dequeue_at_hand-book_sent-requires-2-clause-among t c =
    among (seen c.self.inside) c.self.inside.row (row-of c.self.inside c.self.invariant) c.dequeue_at_hand.new.out
    (own-shown c.self.inside (none-kept c.self.inside.held c.if-is_some.ensures) c.dequeue_at_hand.new.self
    (popping_of c.self.inside.discipline).shown refl c.dequeue_at_hand.ensures.after
    ∙ (given-some (popping_of c.self.inside.discipline).shown c.args.out.now c.dequeue_at_hand.new.out
    (sym c.dequeue_at_hand.ensures.given ∙ c.if-not-dequeue_at_hand.false) c.dequeue_at_hand.ensures.packet))

pub node::Node::dequeue_at_hand-book_sent-requires-2-clause-room : goal.node::Node::dequeue_at_hand-book_sent-requires-2-clause-room
node::Node::dequeue_at_hand-book_sent-requires-2-clause-room t c =
    let had =
    (among (seen c.self.inside) c.self.inside.row (row-of c.self.inside c.self.invariant) c.dequeue_at_hand.new.out
    (own-shown c.self.inside (none-kept c.self.inside.held c.if-is_some.ensures) c.dequeue_at_hand.new.self
    (popping_of c.self.inside.discipline).shown refl c.dequeue_at_hand.ensures.after
    ∙ (given-some (popping_of c.self.inside.discipline).shown c.args.out.now c.dequeue_at_hand.new.out
    (sym c.dequeue_at_hand.ensures.given ∙ c.if-not-dequeue_at_hand.false) c.dequeue_at_hand.ensures.packet))) in
    record {
      packets = omega (arith, c.self.invariant.balanced.packets, had.packets, c.self.ranges, c.fit.ensures.packets, c.fit.ensures.bytes);
      bytes = omega (arith, c.self.invariant.balanced.bytes, had.bytes, c.self.ranges, c.fit.ensures.packets, c.fit.ensures.bytes);
    }

pub node::Node::dequeue_at_hand-invariant_of-self-2 : goal.node::Node::dequeue_at_hand-invariant_of-self-2
node::Node::dequeue_at_hand-invariant_of-self-2 t c =
    (gave c.self.inside (none-kept c.self.inside.held c.if-is_some.ensures) c.dequeue_at_hand.new.self (popping_of c.self.inside.discipline).shown
    refl c.dequeue_at_hand.ensures.after c.self.invariant c.dequeue_at_hand.new.out
    (given-some (popping_of c.self.inside.discipline).shown c.args.out.now c.dequeue_at_hand.new.out
    (sym c.dequeue_at_hand.ensures.given ∙ c.if-not-dequeue_at_hand.false) c.dequeue_at_hand.ensures.packet) c.book_sent-2.new.row
    c.book_sent-2.ensures).stays

pub node::Node::dequeue_at_hand-returns-clause-given : goal.node::Node::dequeue_at_hand-returns-clause-given
node::Node::dequeue_at_hand-returns-clause-given t c =
    sym (ap is_some (sym ((gave c.self.inside (none-kept c.self.inside.held c.if-is_some.ensures) c.dequeue_at_hand.new.self
    (popping_of c.self.inside.discipline).shown refl c.dequeue_at_hand.ensures.after c.self.invariant c.dequeue_at_hand.new.out
    (given-some (popping_of c.self.inside.discipline).shown c.args.out.now c.dequeue_at_hand.new.out
    (sym c.dequeue_at_hand.ensures.given ∙ c.if-not-dequeue_at_hand.false) c.dequeue_at_hand.ensures.packet) c.book_sent-2.new.row
    c.book_sent-2.ensures).shown ∙ ap (λ n. (pop n).shown) c.self.view_is)))

pub node::Node::dequeue_at_hand-returns-clause-packet : goal.node::Node::dequeue_at_hand-returns-clause-packet
node::Node::dequeue_at_hand-returns-clause-packet t c =
    ap (λ o. unwrap_or o c.args.out.now) ((gave c.self.inside (none-kept c.self.inside.held c.if-is_some.ensures) c.dequeue_at_hand.new.self
    (popping_of c.self.inside.discipline).shown refl c.dequeue_at_hand.ensures.after c.self.invariant c.dequeue_at_hand.new.out
    (given-some (popping_of c.self.inside.discipline).shown c.args.out.now c.dequeue_at_hand.new.out
    (sym c.dequeue_at_hand.ensures.given ∙ c.if-not-dequeue_at_hand.false) c.dequeue_at_hand.ensures.packet) c.book_sent-2.new.row
    c.book_sent-2.ensures).shown ∙ ap (λ n. (pop n).shown) c.self.view_is)

pub node::Node::dequeue_at_hand-returns-clause-after : goal.node::Node::dequeue_at_hand-returns-clause-after
node::Node::dequeue_at_hand-returns-clause-after t c =
    (gave c.self.inside (none-kept c.self.inside.held c.if-is_some.ensures) c.dequeue_at_hand.new.self (popping_of c.self.inside.discipline).shown
    refl c.dequeue_at_hand.ensures.after c.self.invariant c.dequeue_at_hand.new.out
    (given-some (popping_of c.self.inside.discipline).shown c.args.out.now c.dequeue_at_hand.new.out
    (sym c.dequeue_at_hand.ensures.given ∙ c.if-not-dequeue_at_hand.false) c.dequeue_at_hand.ensures.packet) c.book_sent-2.new.row
    c.book_sent-2.ensures).after ∙ ap (λ n. booked kept n (pop n).after) c.self.view_is

pub disciplines::prio::dequeue_first-loop-place-init : goal.disciplines::prio::dequeue_first-loop-place-init
disciplines::prio::dequeue_first-loop-place-init t c = (refl, omega arith, refl)

pub disciplines::prio::dequeue_first-dequeue_at_hand-requires : goal.disciplines::prio::dequeue_first-dequeue_at_hand-requires
disciplines::prio::dequeue_first-dequeue_at_hand-requires t c =
    let band = slice_index_or c.loop-place.bands c.loop-place.place c.index-bands-place.result in
    let at = band-here c.args.bands.now c.loop-place.bands c.loop-place.place c.index-bands-place.result c.loop-place.invariant.0 c.loop-place-test.true in
    (omega (arith, child-size c.args.bands.now c.loop-place.place band at, c.decreases), tt)

pub disciplines::prio::dequeue_first-returns-then-dequeue_at_hand-clause-given : goal.disciplines::prio::dequeue_first-returns-then-dequeue_at_hand-clause-given
disciplines::prio::dequeue_first-returns-then-dequeue_at_hand-clause-given t c =
    let band = slice_index_or c.loop-place.bands c.loop-place.place c.index-bands-place.result in
    let at = band-here c.args.bands.now c.loop-place.bands c.loop-place.place c.index-bands-place.result c.loop-place.invariant.0 c.loop-place-test.true in
    let some = sym c.dequeue_at_hand.ensures.given ∙ c.if-dequeue_at_hand.true in
    sym some ∙ ap is_some (band-gave c.args.bands.now c.loop-place.place band c.dequeue_at_hand.new.self at c.loop-place.invariant.1 c.dequeue_at_hand.ensures.after some)

pub disciplines::prio::dequeue_first-returns-then-dequeue_at_hand-clause-packet : goal.disciplines::prio::dequeue_first-returns-then-dequeue_at_hand-clause-packet
disciplines::prio::dequeue_first-returns-then-dequeue_at_hand-clause-packet t c =
    let band = slice_index_or c.loop-place.bands c.loop-place.place c.index-bands-place.result in
    let at = band-here c.args.bands.now c.loop-place.bands c.loop-place.place c.index-bands-place.result c.loop-place.invariant.0 c.loop-place-test.true in
    let some = sym c.dequeue_at_hand.ensures.given ∙ c.if-dequeue_at_hand.true in
    c.dequeue_at_hand.ensures.packet ∙ ap₂ unwrap_or
    (band-gave c.args.bands.now c.loop-place.place band c.dequeue_at_hand.new.self at c.loop-place.invariant.1 c.dequeue_at_hand.ensures.after
    some) c.loop-place.invariant.2

pub disciplines::prio::dequeue_first-returns-then-dequeue_at_hand-clause-after : goal.disciplines::prio::dequeue_first-returns-then-dequeue_at_hand-clause-after
disciplines::prio::dequeue_first-returns-then-dequeue_at_hand-clause-after t c =
    let band = slice_index_or c.loop-place.bands c.loop-place.place c.index-bands-place.result in
    let at = band-here c.args.bands.now c.loop-place.bands c.loop-place.place c.index-bands-place.result c.loop-place.invariant.0 c.loop-place-test.true in
    let some = sym c.dequeue_at_hand.ensures.given ∙ c.if-dequeue_at_hand.true in
    subst (λ xs. ArePopped c.args.bands.now (set xs c.loop-place.place c.dequeue_at_hand.new.self)) (sym c.loop-place.invariant.0)
    (bands-popped c.args.bands.now c.loop-place.place band c.dequeue_at_hand.new.self at c.loop-place.invariant.1 c.dequeue_at_hand.ensures.after
    some c.dequeue_at_hand.ensures.arrived)

pub disciplines::prio::dequeue_first-loop-place-preserved : goal.disciplines::prio::dequeue_first-loop-place-preserved
disciplines::prio::dequeue_first-loop-place-preserved t c =
    let band = slice_index_or c.loop-place.bands c.loop-place.place c.index-bands-place.result in
    let at = band-here c.args.bands.now c.loop-place.bands c.loop-place.place c.index-bands-place.result c.loop-place.invariant.0 c.loop-place-test.true in
    let nothing = sym c.dequeue_at_hand.ensures.given ∙ c.if-dequeue_at_hand.false in
    let none = none-held (pop band).shown (sym nothing) in (
      ap (λ xs. set xs c.loop-place.place c.dequeue_at_hand.new.self) c.loop-place.invariant.0
          ∙ band-still c.args.bands.now c.loop-place.place band c.dequeue_at_hand.new.self at c.loop-place.invariant.1
          c.dequeue_at_hand.ensures.after none,
      ready-next c.args.bands.now c.loop-place.place band at nothing c.loop-place.invariant.1,
      c.dequeue_at_hand.ensures.packet ∙ ap (λ o. unwrap_or o c.loop-place.out) none ∙ c.loop-place.invariant.2,
    )

pub disciplines::prio::dequeue_first-returns-clause-given : goal.disciplines::prio::dequeue_first-returns-clause-given
disciplines::prio::dequeue_first-returns-clause-given t c =
    let none =
    ready-none c.args.bands.now c.loop-place.place (omega (arith, c.loop-place-test.false, ap (λ xs. length xs) c.loop-place.invariant.0))
    (omega (arith, c.loop-place.auto.place-end, ap (λ xs. length xs) c.loop-place.invariant.0)) c.loop-place.invariant.1 in
    ap is_some (nothing-shown c.args.bands.now none)

pub disciplines::prio::dequeue_first-returns-clause-packet : goal.disciplines::prio::dequeue_first-returns-clause-packet
disciplines::prio::dequeue_first-returns-clause-packet t c =
    let none =
    ready-none c.args.bands.now c.loop-place.place (omega (arith, c.loop-place-test.false, ap (λ xs. length xs) c.loop-place.invariant.0))
    (omega (arith, c.loop-place.auto.place-end, ap (λ xs. length xs) c.loop-place.invariant.0)) c.loop-place.invariant.1 in
    c.loop-place.invariant.2 ∙ ap (λ o. unwrap_or o c.args.out.now) (nothing-shown c.args.bands.now none)

pub disciplines::prio::dequeue_first-returns-clause-after : goal.disciplines::prio::dequeue_first-returns-clause-after
disciplines::prio::dequeue_first-returns-clause-after t c =
    let none =
    ready-none c.args.bands.now c.loop-place.place (omega (arith, c.loop-place-test.false, ap (λ xs. length xs) c.loop-place.invariant.0))
    (omega (arith, c.loop-place.auto.place-end, ap (λ xs. length xs) c.loop-place.invariant.0)) c.loop-place.invariant.1 in
    subst (ArePopped c.args.bands.now) (sym c.loop-place.invariant.0) (bands-still c.args.bands.now none)

pub node::Discipline::dequeue_at_hand_further-dequeue_first-requires : goal.node::Discipline::dequeue_at_hand_further-dequeue_first-requires
node::Discipline::dequeue_at_hand_further-dequeue_first-requires t c =
    let kids = c.deref_mut.ensures.value ∙ sym (ap children_seen c.in-Prio.is) in
    (omega (arith, ap (λ xs. forest_size (side_by_side xs)) kids, c.decreases), tt)

pub node::Discipline::dequeue_at_hand_further-returns-in-Prio-clause-given : goal.node::Discipline::dequeue_at_hand_further-returns-in-Prio-clause-given
node::Discipline::dequeue_at_hand_further-returns-in-Prio-clause-given t c =
    c.dequeue_first.ensures.given ∙ ap (λ xs. is_some (first_shown (map pop xs))) c.deref_mut.ensures.value ∙ sym (ap (λ d. is_some (popping_of d).shown) c.in-Prio.is)

pub node::Discipline::dequeue_at_hand_further-returns-in-Prio-clause-packet : goal.node::Discipline::dequeue_at_hand_further-returns-in-Prio-clause-packet
node::Discipline::dequeue_at_hand_further-returns-in-Prio-clause-packet t c =
    c.dequeue_first.ensures.packet
    ∙ ap (λ o. unwrap_or o c.args.out.now) (ap (λ xs. first_shown (map pop xs)) c.deref_mut.ensures.value ∙ sym (ap (λ d. (popping_of d).shown) c.in-Prio.is))

pub node::Discipline::dequeue_at_hand_further-returns-in-Prio-clause-after : goal.node::Discipline::dequeue_at_hand_further-returns-in-Prio-clause-after
node::Discipline::dequeue_at_hand_further-returns-in-Prio-clause-after t c =
    let popped = c.dequeue_first.ensures.after in
    prio-popped c.args.self.now (code.Prio c.in-Prio.priomap (with_items c.in-Prio.bands c.dequeue_first.new.bands)) c.deref_mut.result.now c.dequeue_first.new.bands c.in-Prio.priomap
    (ap discipline_seen c.in-Prio.is) refl (sym (c.deref_mut.ensures.value ∙ sym (ap children_seen c.in-Prio.is)))
    (items-are c.in-Prio.bands.items c.dequeue_first.new.bands c.in-Prio.bands.len (sym c.in-Prio.bands.ok.0) (popped.long ∙ ap (λ xs. length xs) c.deref_mut.ensures.value))
    (sym (ap places_seen c.in-Prio.is)) popped
