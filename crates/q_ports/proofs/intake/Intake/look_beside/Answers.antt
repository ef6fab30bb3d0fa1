use Rattle.std.proofs.Common.{◌++◌, ◌∙◌, sym, ap, arith, List}
use Rattle.std.proofs.lemmas.List.{length-set}
use Rattle.q_packet.specs.Descriptor.{Descriptor}
use Rattle.rtrb.specs.Ring as ends
use Rattle.q_ports.specs.Rings.{RingSeen, seat_for}
use Rattle.q_ports.proofs.RingLemmas.{looked-rings, no_ring, seat-known, seen-there}
use Rattle.q_ports.proofs.intake.Intake.look_beside.Goals as goal

pub look-requires : goal.look-requires
look-requires g c =
    c.requires.port no_ring
    ∙ ap (λ (r : RingSeen). r.ring) (seen-there c.self.inside.rings.items c.args.self.now c.args.at c.index_mut.result.now c.self.view_is c.requires.at c.index_mut.ensures.value no_ring)

pub invariant_of-self : goal.invariant_of-self
invariant_of-self g c =
    let items = c.self.inside.rings.items in
    let now = c.args.self.now in
    let after = looked-rings items now c.args.at c.index_mut.result.now c.look.new.ring c.self.view_is c.requires.at c.index_mut.ensures.value c.look.ensures.looked no_ring in
    let long = length-set items c.args.at c.look.new.ring in (
      c.self.invariant.0
          ∙ (ap (λ (xs : List RingSeen). seat_for xs) c.self.view_is
          ∙ (sym (seat-known c.args.at now (ends.known_items c.look.new.ring) c.requires.at) ∙ ap (λ (xs : List RingSeen). seat_for xs) (sym after))),
      omega (arith, long, c.self.invariant.1),
      omega (arith, long, c.self.invariant.2),
    )

pub returns-clause-looked : goal.returns-clause-looked
returns-clause-looked g c =
    let items = c.self.inside.rings.items in
    let now = c.args.self.now in
    let a = c.index_mut.result.now in
    let b = c.look.new.ring in
    record {
      known = ends.known_items b;
      after_is = looked-rings items now c.args.at a b c.self.view_is c.requires.at c.index_mut.ensures.value c.look.ensures.looked;
      whole = λ d.
          ap (λ (r : RingSeen). r.received ++ ends.known_items b) (seen-there items now c.args.at a c.self.view_is c.requires.at c.index_mut.ensures.value d)
          ∙ (ap (λ (ps : List Descriptor). ps ++ ends.known_items b) (sym c.look.ensures.looked.1) ∙ c.look.ensures.whole);
    }
