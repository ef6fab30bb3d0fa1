-- Taking in from one ring, packet by packet.
use Rattle.std.proofs.Common.{◌≡◌, ℕ, ◌+◌, List, [], ◌∷◌, ◌++◌, drop, refl, sym, ap, ◌∙◌, arith, append_assoc}
use Rattle.std.proofs.lemmas.List.{append-nil, length_push}
use Rattle.std.proofs.lemmas.List.Sums.{fold_push, sum_by_push}
use mathlib.Core.List.{IsPrefix}
use Rattle.std.specs.List.{fold}
use Rattle.q_packet.specs.Descriptor.{Descriptor}
use Rattle.q_model.specs.declared.event.Event.TheVariants.{Arrive}
use Rattle.q_model.specs.declared.totals.Totals.{Totals}
use Rattle.q_device.specs.device.DeviceSeen.{DeviceSeen}
use Rattle.q_device.specs.Events.{with_memory}
use Rattle.q_device.proofs.EventMemory.{after-memory}
use Rattle.q_ports.specs.Rings.{RingSeen, with_known}
use Rattle.q_device.specs.device.Room.{StaysButForPlaces}
use Rattle.q_ports.specs.TakenIn.{arrived_at, arriving, TakesFirst, TakesIn}
use Rattle.q_ports.proofs.Prefixes.{prefix_self, prefix_trans}
use Rattle.q_device.proofs.RoomLemmas.{keeps-same, keeps-then}

pub takes-none : (now : ℕ) (o : RingSeen) (d : DeviceSeen) → TakesIn now o o d d 0
takes-none now o d = record {
  packets = [];
  counted = refl;
  ring = refl;
  received = sym (append-nil o.received);
  waited = prefix_self o.known;
  arrived = refl;
  packets_counted = omega arith;
  bytes_counted = omega arith;
  places = keeps-same d;
}

-- a look at the ring
pub takes-look : (now : ℕ) (o o1 o2 : RingSeen) (d d1 : DeviceSeen) (n : ℕ) → TakesIn now o o1 d d1 n → o2 ≡ with_known o2.known o1 → IsPrefix o1.known o2.known → TakesIn now o o2 d d1 n
takes-look now o o1 o2 d d1 n t e p = record {
  packets = t.packets;
  counted = t.counted;
  ring = ap (λ (r : RingSeen). r.ring) e ∙ t.ring;
  received = ap (λ (r : RingSeen). r.received) e ∙ t.received;
  waited = prefix_trans o.known (t.packets ++ o1.known) (t.packets ++ o2.known) t.waited (p.0, append_assoc t.packets o1.known p.0 ∙ ap (λ (ks : List Descriptor). t.packets ++ ks) p.1);
  arrived = t.arrived;
  packets_counted = t.packets_counted;
  bytes_counted = t.bytes_counted;
  places = t.places;
}

-- a packet more
pub takes-more : (now : ℕ) (o o1 o2 : RingSeen) (d d1 d2 : DeviceSeen) (n : ℕ) → TakesIn now o o1 d d1 n → TakesFirst now o1 o2 d1 d2 → TakesIn now o o2 d d2 (n + 1)
takes-more now o o1 o2 d d1 d2 n t f =
    let p = f.packet in
    let rest = drop 1 o1.known in
    let known : o2.known ≡ rest = ap (λ (r : RingSeen). r.known) f.received in
    let push : (t.packets ++ p ∷ []) ++ o2.known ≡ t.packets ++ o1.known =
    append_assoc t.packets (p ∷ []) o2.known ∙ (ap (λ (ks : List Descriptor). t.packets ++ p ∷ ks) known ∙ ap (λ (ks : List Descriptor). t.packets ++ ks) (sym f.first)) in
    let long = length_push t.packets p in
    let bytes = sum_by_push (λ (q : Descriptor). q.len) t.packets p in
    let one : (arrived_at d2).packets ≡ (arrived_at d1).packets + 1 = ap (λ (a : Totals). a.packets) f.counted in
    let len : (arrived_at d2).bytes ≡ (arrived_at d1).bytes + p.len = ap (λ (a : Totals). a.bytes) f.counted in
    record {
      packets = t.packets ++ p ∷ [];
      counted = omega (arith, long, t.counted);
      ring = ap (λ (r : RingSeen). r.ring) f.received ∙ t.ring;
      received = ap (λ (r : RingSeen). r.received) f.received ∙ (ap (λ (ps : List Descriptor). ps ++ p ∷ []) t.received ∙ append_assoc o.received t.packets (p ∷ []));
      waited = (t.waited.0, t.waited.1 ∙ sym push);
      arrived =
          f.arrived
          ∙ (ap (λ (x : DeviceSeen). with_memory d2.memory (arriving now x p)) t.arrived
          ∙ (ap (λ (x : DeviceSeen). with_memory d2.memory x) (after-memory (Arrive p now) d1.memory (fold (arriving now) d t.packets))
          ∙ ap (λ (x : DeviceSeen). with_memory d2.memory x) (sym (fold_push (arriving now) d t.packets p))));
      packets_counted = omega (arith, long, one, t.packets_counted);
      bytes_counted = omega (arith, bytes, len, t.bytes_counted);
      places = keeps-then d d1 d2 t.places f.places;
    }

-- what happens to places is no event
pub takes-memory : (now : ℕ) (o o1 : RingSeen) (d d1 d2 : DeviceSeen) (n : ℕ) → TakesIn now o o1 d d1 n → StaysButForPlaces d1 d2 → TakesIn now o o1 d d2 n
takes-memory now o o1 d d1 d2 n t s = record {
  packets = t.packets;
  counted = t.counted;
  ring = t.ring;
  received = t.received;
  waited = t.waited;
  arrived = s.stays ∙ ap (λ (x : DeviceSeen). with_memory d2.memory x) t.arrived;
  packets_counted = ap (λ (x : DeviceSeen). (arrived_at x).packets) s.stays ∙ t.packets_counted;
  bytes_counted = ap (λ (x : DeviceSeen). (arrived_at x).bytes) s.stays ∙ t.bytes_counted;
  places = keeps-then d d1 d2 t.places s.places;
}
