use Rattle.std.proofs.Common.{◌≡◌, ◌∙◌, refl, sym, ap, arith, Option, None}
use Rattle.std.specs.Prelude.{is_some}
use Rattle.q_packet.specs.Descriptor.{Descriptor}
use Rattle.q_model.specs.Pop.{pop}
use Rattle.q_tree.specs.departure.Shown.{Shown}
use Rattle.q_tree.specs.Seen.{children_seen, discipline_seen}
use Rattle.q_tree.proofs.departure.HeldLemmas.{none-kept, none-there, some-there}
use Rattle.q_tree.proofs.disciplines.AtHandLemmas.{found, passed, nobody, prio-shown, there-at}
use Rattle.q_tree.proofs.route.RouteLemmas.{child-size, children-size}
use Rattle.q_tree.proofs.+peek_again.Goals as goal

pub disciplines::prio::peek_bands_again-loop-band-init : goal.disciplines::prio::peek_bands_again-loop-band-init
disciplines::prio::peek_bands_again-loop-band-init t c = (refl, refl)

pub disciplines::prio::peek_bands_again-peek_again-shown-requires : goal.disciplines::prio::peek_bands_again-peek_again-shown-requires
disciplines::prio::peek_bands_again-peek_again-shown-requires t c = (
  omega (
    arith,
    child-size c.args.bands.now c.loop-band.band-index c.band-item.result
        (there-at c.args.bands.now c.loop-band.band-index c.band-item.result c.loop-band-test.true c.band-item.is),
    c.decreases,
  ),
  tt,
)

pub disciplines::prio::peek_bands_again-returns-then-has_packet : goal.disciplines::prio::peek_bands_again-returns-then-has_packet
disciplines::prio::peek_bands_again-returns-then-has_packet t c =
    let band = c.band-item.result in
    let is : c.peek_again-shown.result ≡ record c.args.so_far { packet = (pop band).shown } =
    c.peek_again-shown.ensures ∙ ap (λ (s : Shown). record s { packet = (pop band).shown }) c.loop-band.invariant.1 in
    let some = some-there (pop band).shown (sym (ap (λ (s : Shown). is_some s.packet) is) ∙ sym c.if-has_packet.ensures) in
    is ∙ ap (λ (o : Option Descriptor). record c.args.so_far { packet = o })
    (some.1 ∙ found c.args.bands.now c.loop-band.band-index band some.0 c.loop-band-test.true c.band-item.is c.loop-band.invariant.0 some.1)

pub disciplines::prio::peek_bands_again-loop-band-preserved : goal.disciplines::prio::peek_bands_again-loop-band-preserved
disciplines::prio::peek_bands_again-loop-band-preserved t c =
    let band = c.band-item.result in
    let is : c.peek_again-shown.result ≡ record c.args.so_far { packet = (pop band).shown } =
    c.peek_again-shown.ensures ∙ ap (λ (s : Shown). record s { packet = (pop band).shown }) c.loop-band.invariant.1 in
    let none = none-there (pop band).shown (sym (ap (λ (s : Shown). is_some s.packet) is) ∙ sym c.if-has_packet.ensures) in (
      passed c.args.bands.now c.loop-band.band-index band c.loop-band-test.true c.band-item.is c.loop-band.invariant.0 none,
      is ∙ ap (λ (o : Option Descriptor). record c.args.so_far { packet = o }) (sym (ap (λ (s : Shown). s.packet) is)),
    )

pub disciplines::prio::peek_bands_again-returns : goal.disciplines::prio::peek_bands_again-returns
disciplines::prio::peek_bands_again-returns t c =
    c.showing.ensures ∙ ap (λ (s : Shown). record s { packet = None }) c.loop-band.invariant.1
    ∙ ap (λ (o : Option Descriptor). record c.args.so_far { packet = o }) (nobody c.args.bands.now c.loop-band.band-index c.loop-band-test.false c.loop-band.invariant.0)

pub node::Node::peek_again-peek_bands_again-requires : goal.node::Node::peek_again-peek_bands_again-requires
node::Node::peek_again-peek_bands_again-requires t c =
    let children = c.deref.ensures.value ∙ sym (ap children_seen c.in-Prio.is) in
    (omega (arith, children-size c.self.inside c.args.self.now c.deref.result.now c.self.view_is children, c.decreases), tt)

pub node::Node::peek_again-returns-in-Prio : goal.node::Node::peek_again-returns-in-Prio
node::Node::peek_again-returns-in-Prio t c =
    c.peek_bands_again.ensures
    ∙ ap (λ (o : Option Descriptor). record c.args.so_far { packet = o })
    (prio-shown c.self.inside c.args.self.now c.deref.result.now c.in-Prio.priomap c.self.view_is (none-kept c.self.inside.held c.if-is_some.ensures)
    (ap discipline_seen c.in-Prio.is) (c.deref.ensures.value ∙ sym (ap children_seen c.in-Prio.is)))
