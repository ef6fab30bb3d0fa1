-- Collecting, packet by packet.
use Rattle.std.proofs.Common.{◌≡◌, ℕ, ◌+◌, ◌<◌, List, [], ◌∷◌, ◌++◌, length, get_or, map, refl, sym, ap, ◌∙◌, subst, arith, length-append, All}
use Rattle.std.proofs.lemmas.List.{length-set, length_push}
use Rattle.std.proofs.lemmas.List.Elements.{All-nil, All-push, All-append}
use Rattle.std.proofs.lemmas.List.Sums.{fold_push, fold-append}
use Rattle.std.specs.List.{fold}
use Rattle.q_packet.specs.Descriptor.{Descriptor}
use Rattle.q_model.specs.declared.event.Event.TheVariants.{Arrive}
use Rattle.q_device.specs.device.DeviceSeen.{DeviceSeen, Memory}
use Rattle.q_device.specs.Events.{with_memory}
use Rattle.q_device.proofs.EventMemory.{after-memory}
use Rattle.q_ports.specs.Collected.{Received, received_one, arrived_one, Collects}
use Rattle.q_ports.specs.Rings.{RingSeen, received_from}
use Rattle.q_device.specs.device.Room.{KeepsPlaces, StaysButForPlaces}
use Rattle.q_ports.specs.Stopped.{HasNoRoomForNext, Stops}
use Rattle.q_device.proofs.RoomLemmas.{keeps-same, keeps-then}

pub length-received : (rs : List (List Descriptor)) (ts : List Received) → length (fold received_one rs ts) ≡ length rs
length-received rs [] = refl
length-received rs (t ∷ ts) = length-received (received_one rs t) ts ∙ length-set rs t.ring (get_or rs t.ring [] ++ t.packet ∷ [])

fold-memory : (now : ℕ) (m : Memory) (d : DeviceSeen) (ts : List Received) → fold (arrived_one now) (with_memory m d) ts ≡ with_memory m (fold (arrived_one now) d ts)
fold-memory now m d [] = refl
fold-memory now m d (t ∷ ts) = ap (λ (x : DeviceSeen). fold (arrived_one now) x ts) (after-memory (Arrive t.packet now) m d) ∙ fold-memory now m (arrived_one now d t) ts

pub collects-none : (now : ℕ) (rs : List (List Descriptor)) (d : DeviceSeen) → Collects now rs rs d d 0
collects-none now rs d = record { takes = []; counted = refl; rings = All-nil (λ (t : Received). t.ring < length rs); received = refl; arrived = refl; places = keeps-same d }

pub collects-more : (now : ℕ) (rs rs1 rs2 : List (List Descriptor)) (d d1 d2 : DeviceSeen) (n : ℕ) (t : Received) → Collects now rs rs1 d d1 n → t.ring < length rs1 → rs2 ≡ received_one rs1 t
    → d2 ≡ with_memory d2.memory (arrived_one now d1 t) → KeepsPlaces d1 d2 → Collects now rs rs2 d d2 (n + 1)
collects-more now rs rs1 rs2 d d1 d2 n t c within more arrives places =
    let same : length rs1 ≡ length rs = ap (λ (xs : List (List Descriptor)). length xs) c.received ∙ length-received rs c.takes in
    let long = length_push c.takes t in
    record {
      takes = c.takes ++ t ∷ [];
      counted = omega (arith, long, c.counted);
      rings = All-push (λ (u : Received). u.ring < length rs) c.takes t c.rings (omega (arith, same, within));
      received = more ∙ (ap (λ (xs : List (List Descriptor)). received_one xs t) c.received ∙ sym (fold_push received_one rs c.takes t));
      arrived =
          arrives
          ∙ (ap (λ (x : DeviceSeen). with_memory d2.memory (arrived_one now x t)) c.arrived
          ∙ (ap (λ (x : DeviceSeen). with_memory d2.memory x) (after-memory (Arrive t.packet now) d1.memory (fold (arrived_one now) d c.takes))
          ∙ ap (λ (x : DeviceSeen). with_memory d2.memory x) (sym (fold_push (arrived_one now) d c.takes t))));
      places = keeps-then d d1 d2 c.places places;
    }

pub collects-then : (now : ℕ) (rs rs1 rs2 : List (List Descriptor)) (d d1 d2 : DeviceSeen) (n m : ℕ) → Collects now rs rs1 d d1 n → Collects now rs1 rs2 d1 d2 m → Collects now rs rs2 d d2 (n + m)
collects-then now rs rs1 rs2 d d1 d2 n m a b =
    let same : length rs1 ≡ length rs = ap (λ (xs : List (List Descriptor)). length xs) a.received ∙ length-received rs a.takes in
    let long = length-append a.takes b.takes in
    record {
      takes = a.takes ++ b.takes;
      counted = omega (arith, long, a.counted, b.counted);
      rings = All-append (λ (u : Received). u.ring < length rs) a.takes b.takes a.rings (subst (λ (k : ℕ). All (λ (u : Received). u.ring < k) b.takes) same b.rings);
      received = b.received ∙ (ap (λ (xs : List (List Descriptor)). fold received_one xs b.takes) a.received ∙ sym (fold-append received_one rs a.takes b.takes));
      arrived =
          b.arrived
          ∙ (ap (λ (x : DeviceSeen). with_memory d2.memory (fold (arrived_one now) x b.takes)) a.arrived
          ∙ (ap (λ (x : DeviceSeen). with_memory d2.memory x) (fold-memory now d1.memory (fold (arrived_one now) d a.takes) b.takes)
          ∙ ap (λ (x : DeviceSeen). with_memory d2.memory x) (sym (fold-append (arrived_one now) d a.takes b.takes))));
      places = keeps-then d d1 d2 a.places b.places;
    }

pub collects-same : (now : ℕ) (a a' b b' : List (List Descriptor)) (d e e' : DeviceSeen) (n : ℕ) → a ≡ a' → b ≡ b' → e ≡ e' → Collects now a b d e n → Collects now a' b' d e' n
collects-same now a a' b b' d e e' n p q r c =
    subst (λ (x : List (List Descriptor)). Collects now x b' d e' n) p (subst (λ (x : List (List Descriptor)). Collects now a x d e' n) q (subst (λ (x : DeviceSeen). Collects now a b d x n) r c))

-- ---- where want of memory ends it

-- a packet that was refused after some were collected
pub stops-here : (now : ℕ) (before : List (List Descriptor)) (rings rings' : List RingSeen) (device full device' : DeviceSeen) (taken : ℕ)
    → Collects now before (map received_from rings) device full taken → (taken ≡ 0 → full ≡ device)
    → map received_from rings' ≡ map received_from rings → HasNoRoomForNext full rings' → StaysButForPlaces full device' → Stops now before rings' device device' taken
stops-here now before rings rings' device full device' taken collected first same next stays = record {
  full = full;
  collected = subst (λ (rs : List (List Descriptor)). Collects now before rs device full taken) (sym same) collected;
  first = first;
  next = next;
  stays = stays;
}

-- the same behind others that were collected
pub stops-then : (now : ℕ) (before middle : List (List Descriptor)) (rings : List RingSeen) (device device1 device' : DeviceSeen) (n m : ℕ)
    → Collects now before middle device device1 n → (n ≡ 0 → device1 ≡ device)
    → Stops now middle rings device1 device' m → Stops now before rings device device' (n + m)
stops-then now before middle rings device device1 device' n m collected first s = record {
  full = s.full;
  collected = collects-then now before middle (map received_from rings) device device1 s.full n m collected s.collected;
  first = λ e. s.first (omega (arith, e)) ∙ first (omega (arith, e));
  next = s.next;
  stays = s.stays;
}
