-- What is left in the rings as a drain settles.
use Rattle.std.proofs.Common.{◌≡◌, ℕ, ◌+◌, ◌<◌, List, [], ◌∷◌, ◌++◌, length, get_or, take, map, replicate, refl, sym, ap, ap₂, ◌∙◌, arith, zero, suc}
use Rattle.std.proofs.lemmas.List.{map-set, get_or-map, length-map, take_more_set, take_more, append-nil}
use Rattle.std.proofs.lemmas.List.Sums.{sum_by-cons}
use Rattle.std.specs.Prelude.{sum_by}
use Rattle.q_packet.specs.Descriptor.{Descriptor}
use Rattle.q_model.specs.declared.row.Row.{Row}
use Rattle.q_model.specs.declared.totals.Totals.{Totals}
use Rattle.q_device.specs.device.DeviceSeen.{DeviceSeen}
use Rattle.q_device.specs.Events.{device_row}
use Rattle.q_device.proofs.EventMemory.{row-arrived}
use Rattle.q_ports.specs.Held.{Held, held, whole}
use Rattle.q_ports.specs.Placed.{RingId, PortSeen, bytes_in, ring_of_port, share_of}
use Rattle.q_ports.specs.Rings.{RingSeen, ring_id, received_from, all_of, seat_for, with_known, AreBeginnings, AreSeenEmpty, LooksBeside}
use Rattle.q_ports.proofs.RingLemmas.{no_ring, map-set-same}

-- the port at a place is that of the ring at that place
pub pair-at : (ports : List PortSeen) (xs : List RingSeen) (at : ℕ) (p : PortSeen) → map ring_of_port ports ≡ map ring_id xs → at < length ports → p ≡ get_or ports at p → (d : RingSeen)
    → ring_of_port p ≡ ring_id (get_or xs at d)
pair-at ports xs at p same h e d =
    let long : length ports ≡ length xs = sym (length-map ports ring_of_port) ∙ (ap (λ (is : List RingId). length is) same ∙ length-map xs ring_id) in
    ap ring_of_port e
    ∙ (sym (get_or-map ring_of_port ports at p (ring_id d) h)
    ∙ (ap (λ (is : List RingId). get_or is at (ring_id d)) same ∙ get_or-map ring_id xs at d (ring_id d) (omega (arith, h, long))))

pub beside-ids : (at : ℕ) (xs ys : List RingSeen) (placed : List Descriptor) → LooksBeside at xs ys placed → map ring_id ys ≡ map ring_id xs
beside-ids at xs ys placed l =
    ap (λ zs. map ring_id zs) (l.after_is no_ring) ∙ map-set-same ring_id xs at (with_known l.known (get_or xs at no_ring)) no_ring refl

pub beside-received : (at : ℕ) (xs ys : List RingSeen) (placed : List Descriptor) → LooksBeside at xs ys placed → map received_from ys ≡ map received_from xs
beside-received at xs ys placed l =
    ap (λ zs. map received_from zs) (l.after_is no_ring) ∙ map-set-same received_from xs at (with_known l.known (get_or xs at no_ring)) no_ring refl

-- all that was placed is known in one ring more
pub beside-more : (at : ℕ) (xs ys : List RingSeen) (placed : List Descriptor) (ps : List (List Descriptor)) → LooksBeside at xs ys placed → at < length xs → at < length ps → placed ≡ get_or ps at []
    → take at (map all_of xs) ≡ take at ps → take (at + 1) (map all_of ys) ≡ take (at + 1) ps
beside-more at xs ys placed ps l h h' here before =
    let long : at < length (map all_of xs) = omega (arith, h, length-map xs all_of) in
    ap (λ zs. take (at + 1) (map all_of zs)) (l.after_is no_ring)
    ∙ (ap (λ (qs : List (List Descriptor)). take (at + 1) qs) (map-set all_of xs at (with_known l.known (get_or xs at no_ring)))
    ∙ (take_more_set (map all_of xs) at ((get_or xs at no_ring).received ++ l.known) long
    ∙ (ap₂ (λ (qs : List (List Descriptor)) (q : List Descriptor). qs ++ q ∷ []) before (l.whole no_ring ∙ here)
    ∙ sym (take_more ps at [] h'))))

-- what was received where nothing waits any more
pub received-all : (xs : List RingSeen) → AreSeenEmpty xs → map received_from xs ≡ map all_of xs
received-all [] h = refl
received-all (x ∷ xs) h =
    let first : x.known ≡ [] = h 0 x (omega arith) in
    let one : x.received ≡ all_of x = sym (append-nil x.received) ∙ ap (λ ks. x.received ++ ks) (sym first) in
    ap₂ (λ (q : List Descriptor) (qs : List (List Descriptor)). q ∷ qs) one (received-all xs (λ k d lt. h (suc k) d (omega (arith, lt))))

-- what was received is a beginning of all that is known
pub received-begins : (xs : List RingSeen) (ps : List (List Descriptor)) → map all_of xs ≡ ps → AreBeginnings (map received_from xs) ps
received-begins xs ps e = record {
  count = length-map xs received_from ∙ (sym (length-map xs all_of) ∙ ap (λ (qs : List (List Descriptor)). length qs) e);
  each = λ k lt.
      let h : k < length xs = omega (arith, lt, length-map xs received_from) in
      let r = get_or xs k no_ring in
      (r.known, ap (λ ps'. ps' ++ r.known) (get_or-map received_from xs k no_ring [] h) ∙ (sym (get_or-map all_of xs k no_ring [] h) ∙ ap (λ (qs : List (List Descriptor)). get_or qs k []) e));
}

sum-received : (f : List Descriptor → ℕ) (xs : List RingSeen) → sum_by f (map received_from xs) ≡ sum_by (λ (r : RingSeen). f r.received) xs
sum-received f [] = refl
sum-received f (x ∷ xs) =
    sum_by-cons f x.received (map received_from xs) ∙ (ap (λ n. f x.received + n) (sum-received f xs) ∙ sym (sum_by-cons (λ (r : RingSeen). f r.received) x xs))

-- the seat of all that was received is the whole one with its share
pub seat-share : (xs : List RingSeen) → seat_for xs ≡ whole (share_of (map received_from xs))
seat-share xs = ap₂ (λ p b. held 65 p b) (sym (sum-received (λ (ps : List Descriptor). length ps) xs)) (sym (sum-received bytes_in xs))

none : (f : List Descriptor → ℕ) → f [] ≡ 0 → (n : ℕ) → sum_by f (replicate n []) ≡ 0
none f e zero = refl
none f e (suc n) = sum_by-cons f [] (replicate n []) ∙ ap₂ ◌+◌ e (none f e n)

pub seat-none : (xs : List RingSeen) → map received_from xs ≡ replicate (length xs) [] → seat_for xs ≡ held 65 0 0
seat-none xs e = seat-share xs ∙ (ap (λ (qs : List (List Descriptor)). whole (share_of qs)) e ∙ ap₂ (λ p b. held 65 p b) (none (λ ps. length ps) refl (length xs)) (none bytes_in refl (length xs)))

totals-same : (a b : Totals) → a.packets ≡ b.packets → a.bytes ≡ b.bytes → a ≡ b
totals-same a b p q = ap₂ (λ m n. record { packets = m; bytes = n }) p q

-- the device's arrived is the share of a seat that holds all of it
pub settled-share : (seat : Held) (xs : List RingSeen) (r : Row) (d : DeviceSeen) → seat ≡ seat_for xs → r ≡ device_row d
    → seat.packets ≡ d.device.tree.top.arrived.packets → seat.bytes ≡ d.device.tree.top.arrived.bytes → r.arrived ≡ share_of (map received_from xs)
settled-share seat xs r d is row packets bytes =
    let all = is ∙ seat-share xs in
    ap (λ (q : Row). q.arrived) row
    ∙ (row-arrived d
    ∙ totals-same d.device.tree.top.arrived (share_of (map received_from xs)) (sym packets ∙ ap (λ (h : Held). h.packets) all) (sym bytes ∙ ap (λ (h : Held). h.bytes) all))

pub pair-length : (ports : List PortSeen) (xs : List RingSeen) → map ring_of_port ports ≡ map ring_id xs → length ports ≡ length xs
pair-length ports xs same = sym (length-map ports ring_of_port) ∙ (ap (λ (is : List RingId). length is) same ∙ length-map xs ring_id)
