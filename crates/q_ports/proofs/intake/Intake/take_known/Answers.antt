use Rattle.std.proofs.Common.{◌≡◌, ◌<◌, ◌++◌, ◌∷◌, [], ◌∙◌, sym, ap, subst, arith, length, drop, get_or, map, set, List}
use Rattle.std.proofs.lemmas.Bool.{false≢true}
use Rattle.std.proofs.lemmas.List.{length-set, set-get_or}
use Rattle.q_ports.specs.declared.ring_rule.RingRule.{RingRule}
use Rattle.rtrb.specs.Ring as ends
use Rattle.q_ports.specs.Rings.{RingSeen, ring_seen, seat_for}
use Rattle.q_ports.specs.Stopped.{HasNoRoomForNext}
use Rattle.q_ports.specs.Held.{Held, booking}
use Rattle.q_packet.specs.Descriptor.{Descriptor}
use Rattle.q_ports.proofs.RingLemmas.{Ring, known-there, no_ring, popped-rings, seat-popped}
use Rattle.q_ports.proofs.intake.Intake.take_known.Goals as goal

pub peek_known-packet-requires : goal.peek_known-packet-requires
peek_known-packet-requires g c =
    subst (λ (ks : List Descriptor). 0 < length ks)
    (known-there c.self.inside.rings.items c.args.self.now c.args.at c.index_mut-ring.result.now c.self.view_is c.requires.at
    c.index_mut-ring.ensures.value no_ring) (c.requires.known no_ring)

pub invariant_of-self-2 : goal.invariant_of-self-2
invariant_of-self-2 g c =
    let items = c.self.inside.rings.items in
    let now = c.args.self.now in
    let p = c.peek_known-packet.result.now in
    let a = c.index_mut-ring.result.now in
    let b = c.pop_known.new.self in
    let same : p ≡ c.pop_known.result = cc (c.peek_known-packet.ensures.1, c.pop_known.ensures.received.1) in
    let all : ends.received b ≡ ends.received a ++ p ∷ [] = c.pop_known.ensures.received.0 ∙ ap (λ (x : Descriptor). ends.received a ++ x ∷ []) (sym same) in
    let known : ends.known_items a ≡ p ∷ ends.known_items b = c.pop_known.ensures.received.1 ∙ ap (λ (x : Descriptor). x ∷ ends.known_items b) (sym same) in
    let after = popped-rings items now c.args.at a b p c.self.view_is c.requires.at c.index_mut-ring.ensures.value c.pop_known.ensures.ring all known no_ring in
    let long = length-set items c.args.at b in (
      c.in-Ok.ensures.seat
          ∙ (ap (λ (h : Held). booking h p) (c.self.invariant.0 ∙ ap (λ (xs : List RingSeen). seat_for xs) c.self.view_is)
          ∙ (sym (seat-popped c.args.at now p c.requires.at) ∙ ap (λ (xs : List RingSeen). seat_for xs) (sym after))),
      omega (arith, long, c.self.invariant.1),
      omega (arith, long, c.self.invariant.2),
    )

pub returns-clause-taken : goal.returns-clause-taken
returns-clause-taken g c =
    let items = c.self.inside.rings.items in
    let now = c.args.self.now in
    let p = c.peek_known-packet.result.now in
    let a = c.index_mut-ring.result.now in
    let b = c.pop_known.new.self in
    let same : p ≡ c.pop_known.result = cc (c.peek_known-packet.ensures.1, c.pop_known.ensures.received.1) in
    let all : ends.received b ≡ ends.received a ++ p ∷ [] = c.pop_known.ensures.received.0 ∙ ap (λ (x : Descriptor). ends.received a ++ x ∷ []) (sym same) in
    let known : ends.known_items a ≡ p ∷ ends.known_items b = c.pop_known.ensures.received.1 ∙ ap (λ (x : Descriptor). x ∷ ends.known_items b) (sym same) in
    record {
      packet = p;
      receives = record {
        after_is = popped-rings items now c.args.at a b p c.self.view_is c.requires.at c.index_mut-ring.ensures.value c.pop_known.ensures.ring all known;
        first = λ d.
            let e = known-there items now c.args.at a c.self.view_is c.requires.at c.index_mut-ring.ensures.value d ∙ known in
            e ∙ ap (λ (ks : List Descriptor). p ∷ drop 1 ks) (sym e);
      };
      arrived = c.in-Ok.ensures.event;
      places = record { queues = c.arrive_kept.ensures.queues; losses = c.arrive_kept.ensures.places; events = c.arrive_kept.ensures.recorder };
    }

pub returns-in_default-clause-refused : goal.returns-in_default-clause-refused
returns-in_default-clause-refused g c =
    let items = c.self.inside.rings.items in
    let now = c.args.self.now in
    let p = c.peek_known-packet.result.now in
    let a = c.index_mut-ring.result.now in
    let first = c.peek_known-packet.ensures in
    let there : (d : RingSeen) → (get_or now c.args.at d).known ≡ p ∷ first.0 = λ d. known-there items now c.args.at a c.self.view_is c.requires.at c.index_mut-ring.ensures.value d ∙ sym first.1 in
    let back : set items c.args.at a ≡ items = ap (λ (r : Ring). set items c.args.at r) c.index_mut-ring.ensures.value ∙ set-get_or items c.args.at a in
    let seen : map (ring_seen {P = RingRule}) (set items c.args.at a) ≡ now = ap (λ (rs : List Ring). map (ring_seen {P = RingRule}) rs) back ∙ c.self.view_is in
    subst (HasNoRoomForNext c.args.booked.now) (sym seen)
    (record {
      ring = c.args.at;
      within = c.requires.at;
      packet = p;
      waits = λ d. there d ∙ ap (λ (ks : List Descriptor). p ∷ drop 1 ks) (sym (there d));
      memory = c.booked_has_its_memory.ensures;
      room = λ h. false≢true (c.in_default.ensures.succeeds h);
    })
