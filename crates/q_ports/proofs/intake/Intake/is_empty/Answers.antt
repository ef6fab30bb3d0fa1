use Rattle.std.proofs.Common.{◌≡◌, ◌<◌, ◌∙◌, refl, sym, ap, arith, length, List, [], ◌∷◌}
use Rattle.std.proofs.lemmas.Bool.{true≢false}
use Rattle.q_packet.specs.Descriptor.{Descriptor}
use Rattle.std.proofs.lemmas.List.{length-set, nil_from_length}
use Rattle.rtrb.specs.Ring as ends
use Rattle.q_ports.specs.Rings.{RingSeen, seat_for}
use Rattle.q_ports.proofs.RingLemmas.{looked-rings, no_ring, seat-known}
use Rattle.q_ports.proofs.intake.Intake.is_empty.Goals as goal

pub invariant_of-self : goal.invariant_of-self
invariant_of-self g c =
    let items = c.self.inside.rings.items in
    let now = c.args.self.now in
    let after = looked-rings items now c.args.at c.index_mut.result.now c.is_empty.new.self c.self.view_is c.requires c.index_mut.ensures.value c.is_empty.ensures.looked no_ring in
    let long = length-set items c.args.at c.is_empty.new.self in (
      c.self.invariant.0
          ∙ (ap (λ (xs : List RingSeen). seat_for xs) c.self.view_is
          ∙ (sym (seat-known c.args.at now (ends.known_items c.is_empty.new.self) c.requires) ∙ ap (λ (xs : List RingSeen). seat_for xs) (sym after))),
      omega (arith, long, c.self.invariant.1),
      omega (arith, long, c.self.invariant.2),
    )

not_none : (xs : List Descriptor) → ¬ (length xs ≡ 0) → 0 < length xs
not_none [] h = absurd (h refl)
not_none (x ∷ xs) h = omega arith

pub returns : goal.returns
returns g c = record {
  known = ends.known_items c.is_empty.new.self;
  after_is = looked-rings c.self.inside.rings.items c.args.self.now c.args.at c.index_mut.result.now c.is_empty.new.self c.self.view_is c.requires c.index_mut.ensures.value c.is_empty.ensures.looked;
  none = λ e. nil_from_length (ends.known_items c.is_empty.new.self) (c.is_empty.ensures.value.0 e);
  some = λ e. not_none (ends.known_items c.is_empty.new.self) (λ z. true≢false (sym (c.is_empty.ensures.value.1 z) ∙ e));
}
