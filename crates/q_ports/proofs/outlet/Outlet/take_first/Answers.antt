use Rattle.std.proofs.Common.{◌≡◌, ◌∙◌, ◌∷◌, ◌++◌, [], List, ap, drop, sym}
use Rattle.std.proofs.lemmas.Bool.{false≢true}
use Rattle.rtrb.specs.Ring as ends
use Rattle.q_packet.specs.Descriptor.{Descriptor}
use Rattle.q_device.specs.Events.{after_event}
use Rattle.q_ports.specs.Rings.{RingSeen, popped}
use Rattle.q_ports.proofs.RingLemmas.{seen-popped}
use Rattle.q_ports.proofs.outlet.Outlet.take_first.Goals as goal

pub returns-clause-taken : goal.returns-clause-taken
unfolding after_event
returns-clause-taken c =
    let p = c.peek_known-packet.result.now in
    let a = c.self.inside.ring in
    let b = c.pop_known.new.self in
    let same : p ≡ c.pop_known.result = cc (c.peek_known-packet.ensures.1, c.pop_known.ensures.received.1) in
    let all : ends.received b ≡ ends.received a ++ p ∷ [] = c.pop_known.ensures.received.0 ∙ ap (λ (x : Descriptor). ends.received a ++ x ∷ []) (sym same) in
    let known : ends.known_items a ≡ p ∷ ends.known_items b = c.pop_known.ensures.received.1 ∙ ap (λ (x : Descriptor). x ∷ ends.known_items b) (sym same) in
    let there : c.args.self.now.known ≡ p ∷ ends.known_items b = ap (λ (r : RingSeen). r.known) (sym c.self.view_is) ∙ known in
    record {
      packet = p;
      first = there ∙ ap (λ (ks : List Descriptor). p ∷ drop 1 ks) (sym there);
      received = seen-popped a b p c.pop_known.ensures.ring all known ∙ ap (λ (r : RingSeen). popped p r) c.self.view_is;
      arrived = c.in-Ok.ensures.event;
      counted = c.in-Ok.ensures.arrived;
      places = record { queues = c.arrive_kept.ensures.queues; losses = c.arrive_kept.ensures.places; events = c.arrive_kept.ensures.recorder };
    }

pub returns-in_default-clause-refused : goal.returns-in_default-clause-refused
returns-in_default-clause-refused c =
    let p = c.peek_known-packet.result.now in
    let first = c.peek_known-packet.ensures in
    let there : c.args.self.now.known ≡ p ∷ first.0 = ap (λ (r : RingSeen). r.known) (sym c.self.view_is) ∙ sym first.1 in
    record {
      packet = p;
      waits = there ∙ ap (λ (ks : List Descriptor). p ∷ drop 1 ks) (sym there);
      memory = c.device_has_its_memory.ensures;
      room = λ h. false≢true (c.in_default.ensures.succeeds h);
    }
