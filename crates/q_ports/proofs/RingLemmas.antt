-- What a look at a ring, and a packet received from it, change in the list of rings.
use Rattle.std.proofs.Common.{◌≡◌, ◌≢◌, ℕ, ◌+◌, ◌<◌, List, [], ◌∷◌, ◌++◌, length, get_or, set, drop, map, Bool, refl, sym, ap, ◌∙◌, subst, arith, append_assoc, ⊎_elim}
use Rattle.std.proofs.lemmas.Bool.{cases_eq}
use Rattle.std.proofs.lemmas.List.{map-set, set-get_or, get_or-set_same, get_or-set_other, get_or-map, length-set, length-map, length_push}
use Rattle.std.proofs.lemmas.List.Sums.{sum_by-set, sum_by_push}
use Rattle.std.specs.Prelude.{sum_by}
use Rattle.std.specs.declared.alloc.Global.{Global}
use denote.RawPtr.{null_ptr}
use Rattle.q_ports.specs.declared.ring_rule.RingRule.{RingRule}
use Rattle.rtrb.specs.declared.consumer.Consumer.{Consumer}
use Rattle.rtrb.specs.Ring as ends
use Rattle.q_packet.specs.Descriptor.{Descriptor}
use Rattle.q_ports.specs.Collected.{received_one, take}
use Rattle.q_ports.specs.Held.{held, booking}
use Rattle.q_ports.specs.Placed.{RingId, ring_at, bytes_in}
use Rattle.q_ports.specs.Rings.{RingSeen, ring_seen, ring_id, received_from, all_of, seat_for, with_known, popped, Looks, Receives, AreEmptyWithin, AreSameFrom}

-- some ring, to look past the end of a list
abbrev pub no_ring : RingSeen
no_ring = record { ring = record { words = null_ptr; slots = null_ptr; names = (0, (0, 0)); heap = record { memory = record { seal = tt } } }; received = []; known = [] }

-- an element is written that is of another's
pub map-cell : {A B : Type 0} (f : A → B) (items : List A) (at : ℕ) (c c' : A) (r : B) (d : B) → at < length items → c ≡ get_or items at c → f c' ≡ r
    → (map f (set items at c') ≡ set (map f items) at r) × (f c ≡ get_or (map f items) at d)
map-cell f items at c c' r d h e s = (
  map-set f items at c' ∙ ap (λ y. set (map f items) at y) s,
  ap f e ∙ sym (get_or-map f items at c d h),
)

pub map-set-same : {A B : Type 0} (f : A → B) (xs : List A) (at : ℕ) (r d : A) → f r ≡ f (get_or xs at d) → map f (set xs at r) ≡ map f xs
map-set-same f xs at r d e = map-set f xs at r ∙ (ap (λ y. set (map f xs) at y) e ∙ (sym (map-set f xs at (get_or xs at d)) ∙ ap (λ ys. map f ys) (set-get_or xs at d)))

-- ---- a look

pub looks-map : {B : Type 0} (f : RingSeen → B) (at : ℕ) (xs ys : List RingSeen) (e : Bool) → Looks at xs ys e
    → ((ks : List Descriptor) (r : RingSeen) → f (with_known ks r) ≡ f r) → map f ys ≡ map f xs
looks-map f at xs ys e l same = ap (λ zs. map f zs) (l.after_is no_ring) ∙ map-set-same f xs at (with_known l.known (get_or xs at no_ring)) no_ring (same l.known (get_or xs at no_ring))

pub looks-ids : (at : ℕ) (xs ys : List RingSeen) (e : Bool) → Looks at xs ys e → map ring_id ys ≡ map ring_id xs
looks-ids at xs ys e l = looks-map ring_id at xs ys e l (λ ks r. refl)

pub looks-received : (at : ℕ) (xs ys : List RingSeen) (e : Bool) → Looks at xs ys e → map received_from ys ≡ map received_from xs
looks-received at xs ys e l = looks-map received_from at xs ys e l (λ ks r. refl)

pub looks-others : (at : ℕ) (xs ys : List RingSeen) (e : Bool) → Looks at xs ys e → (k : ℕ) (d : RingSeen) → k ≢ at → get_or ys k d ≡ get_or xs k d
looks-others at xs ys e l k d other = ap (λ zs. get_or zs k d) (l.after_is d) ∙ get_or-set_other xs at k (with_known l.known (get_or xs at d)) d other

pub looks-known : (at : ℕ) (xs ys : List RingSeen) (e : Bool) (l : Looks at xs ys e) → at < length xs → (d : RingSeen) → (get_or ys at d).known ≡ l.known
looks-known at xs ys e l h d = ap (λ zs. (get_or zs at d).known) (l.after_is d) ∙ ap (λ (r : RingSeen). r.known) (get_or-set_same xs at (with_known l.known (get_or xs at d)) d h)

pub looks-length : (at : ℕ) (xs ys : List RingSeen) (e : Bool) → Looks at xs ys e → length ys ≡ length xs
looks-length at xs ys e l = ap (λ zs. length zs) (l.after_is no_ring) ∙ length-set xs at (with_known l.known (get_or xs at no_ring))

-- ---- a packet received

pub receives-ids : (at : ℕ) (xs ys : List RingSeen) (p : Descriptor) → Receives at xs ys p → map ring_id ys ≡ map ring_id xs
receives-ids at xs ys p l = ap (λ zs. map ring_id zs) (l.after_is no_ring) ∙ map-set-same ring_id xs at (popped p (get_or xs at no_ring)) no_ring refl

pub receives-others : (at : ℕ) (xs ys : List RingSeen) (p : Descriptor) → Receives at xs ys p → (k : ℕ) (d : RingSeen) → k ≢ at → get_or ys k d ≡ get_or xs k d
receives-others at xs ys p l k d other = ap (λ zs. get_or zs k d) (l.after_is d) ∙ get_or-set_other xs at k (popped p (get_or xs at d)) d other

pub receives-received : (at : ℕ) (xs ys : List RingSeen) (p : Descriptor) → Receives at xs ys p → at < length xs → map received_from ys ≡ received_one (map received_from xs) (take at p)
receives-received at xs ys p l h =
    ap (λ zs. map received_from zs) (l.after_is no_ring)
    ∙ (map-set received_from xs at (popped p (get_or xs at no_ring))
    ∙ ap (λ ps. set (map received_from xs) at (ps ++ p ∷ [])) (sym (get_or-map received_from xs at no_ring [] h)))

popped-all : (p : Descriptor) (r : RingSeen) → r.known ≡ p ∷ drop 1 r.known → all_of (popped p r) ≡ all_of r
popped-all p r e = append_assoc r.received (p ∷ []) (drop 1 r.known) ∙ ap (λ ks. r.received ++ ks) (sym e)

pub receives-all : (at : ℕ) (xs ys : List RingSeen) (p : Descriptor) → Receives at xs ys p → map all_of ys ≡ map all_of xs
receives-all at xs ys p l = ap (λ zs. map all_of zs) (l.after_is no_ring) ∙ map-set-same all_of xs at (popped p (get_or xs at no_ring)) no_ring (popped-all p (get_or xs at no_ring) (l.first no_ring))

pub receives-known : (at : ℕ) (xs ys : List RingSeen) (p : Descriptor) → Receives at xs ys p → at < length xs → (d : RingSeen) → (get_or xs at d).known ≡ p ∷ (get_or ys at d).known
receives-known at xs ys p l h d =
    l.first d ∙ ap (λ ks. p ∷ ks) (sym (ap (λ zs. (get_or zs at d).known) (l.after_is d) ∙ ap (λ (r : RingSeen). r.known) (get_or-set_same xs at (popped p (get_or xs at d)) d h)))

-- the packet is booked with the seat
pub seat-popped : (at : ℕ) (xs : List RingSeen) (p : Descriptor) → at < length xs → seat_for (set xs at (popped p (get_or xs at no_ring))) ≡ booking (seat_for xs) p
seat-popped at xs p h =
    let r = get_or xs at no_ring in
    let packets = sum_by-set (λ (q : RingSeen). length q.received) xs at (popped p r) no_ring h in
    let bytes = sum_by-set (λ (q : RingSeen). bytes_in q.received) xs at (popped p r) no_ring h in
    let len = sum_by_push (λ (q : Descriptor). q.len) r.received p in
    let long : length (r.received ++ p ∷ []) ≡ length r.received + 1 = length_push r.received p in
    let a : sum_by (λ (q : RingSeen). length q.received) (set xs at (popped p r)) ≡ sum_by (λ (q : RingSeen). length q.received) xs + 1 = omega (arith, packets, long) in
    let b : sum_by (λ (q : RingSeen). bytes_in q.received) (set xs at (popped p r)) ≡ sum_by (λ (q : RingSeen). bytes_in q.received) xs + p.len = omega (arith, bytes, len) in
    ap (λ n. held 65 n (sum_by (λ (q : RingSeen). bytes_in q.received) (set xs at (popped p r)))) a ∙ ap (λ n. held 65 (sum_by (λ (q : RingSeen). length q.received) xs + 1) n) b

pub seat-known : (at : ℕ) (xs : List RingSeen) (ks : List Descriptor) → at < length xs → seat_for (set xs at (with_known ks (get_or xs at no_ring))) ≡ seat_for xs
seat-known at xs ks h =
    let r = get_or xs at no_ring in
    let packets = sum_by-set (λ (q : RingSeen). length q.received) xs at (with_known ks r) no_ring h in
    let bytes = sum_by-set (λ (q : RingSeen). bytes_in q.received) xs at (with_known ks r) no_ring h in
    let a : sum_by (λ (q : RingSeen). length q.received) (set xs at (with_known ks r)) ≡ sum_by (λ (q : RingSeen). length q.received) xs = omega (arith, packets) in
    let b : sum_by (λ (q : RingSeen). bytes_in q.received) (set xs at (with_known ks r)) ≡ sum_by (λ (q : RingSeen). bytes_in q.received) xs = omega (arith, bytes) in
    ap (λ n. held 65 n (sum_by (λ (q : RingSeen). bytes_in q.received) (set xs at (with_known ks r)))) a ∙ ap (λ n. held 65 (sum_by (λ (q : RingSeen). length q.received) xs) n) b

-- ---- a consumer

abbrev pub Ring : Type 0
Ring = Consumer Descriptor Global RingRule

pub seen-looked : (a b : Ring) → ends.ConsumerLooked a b → ring_seen b ≡ with_known (ends.known_items b) (ring_seen a)
seen-looked a b l =
    let s = l.0.0 in
    let id : ring_at b ≡ ring_at a = cc (s.0, s.1, s.2, s.3) in
    ap (λ (i : RingId). record { ring = i; received = ends.received b; known = ends.known_items b }) id
    ∙ ap (λ (ps : List Descriptor). record { ring = ring_at a; received = ps; known = ends.known_items b }) l.1

pub seen-popped : (a b : Ring) (p : Descriptor) → ends.SameConsumer a b → ends.received b ≡ ends.received a ++ p ∷ []
    → ends.known_items a ≡ p ∷ ends.known_items b → ring_seen b ≡ popped p (ring_seen a)
seen-popped a b p same all known =
    let s = same.0 in
    let id : ring_at b ≡ ring_at a = cc (s.0, s.1, s.2, s.3) in
    ap (λ (i : RingId). record { ring = i; received = ends.received b; known = ends.known_items b }) id
    ∙ (ap (λ (ps : List Descriptor). record { ring = ring_at a; received = ps; known = ends.known_items b }) all
    ∙ ap (λ (ks : List Descriptor). record { ring = ring_at a; received = ends.received a ++ p ∷ []; known = drop 1 ks }) (sym known))

-- the place of a ring is a place of the list that contracts see
pub place : (items : List Ring) (now : List RingSeen) (at : ℕ) → map ring_seen items ≡ now → at < length now → at < length items
place items now at is h = omega (arith, h, ap (λ (xs : List RingSeen). length xs) is, length-map items (ring_seen {P = RingRule}))

pub looked-rings : (items : List Ring) (now : List RingSeen) (at : ℕ) (a b : Ring) → map ring_seen items ≡ now → at < length now → a ≡ get_or items at a → ends.ConsumerLooked a b → (d : RingSeen)
    → map ring_seen (set items at b) ≡ set now at (with_known (ends.known_items b) (get_or now at d))
looked-rings items now at a b is h e l d =
    let m = map-cell (ring_seen {P = RingRule}) items at a b (ring_seen b) d (place items now at is h) e refl in
    m.0
    ∙ (ap (λ (r : RingSeen). set (map ring_seen items) at r) (seen-looked a b l)
    ∙ (ap (λ (r : RingSeen). set (map ring_seen items) at (with_known (ends.known_items b) r)) m.1
    ∙ ap (λ (xs : List RingSeen). set xs at (with_known (ends.known_items b) (get_or xs at d))) is))

pub popped-rings : (items : List Ring) (now : List RingSeen) (at : ℕ) (a b : Ring) (p : Descriptor) → map ring_seen items ≡ now → at < length now → a ≡ get_or items at a
    → ends.SameConsumer a b → ends.received b ≡ ends.received a ++ p ∷ [] → ends.known_items a ≡ p ∷ ends.known_items b → (d : RingSeen)
    → map ring_seen (set items at b) ≡ set now at (popped p (get_or now at d))
popped-rings items now at a b p is h e same all known d =
    let m = map-cell (ring_seen {P = RingRule}) items at a b (ring_seen b) d (place items now at is h) e refl in
    m.0
    ∙ (ap (λ (r : RingSeen). set (map ring_seen items) at r) (seen-popped a b p same all known)
    ∙ (ap (λ (r : RingSeen). set (map ring_seen items) at (popped p r)) m.1
    ∙ ap (λ (xs : List RingSeen). set xs at (popped p (get_or xs at d))) is))

-- what is known to wait in a ring
pub known-there : (items : List Ring) (now : List RingSeen) (at : ℕ) (a : Ring) → map ring_seen items ≡ now → at < length now → a ≡ get_or items at a → (d : RingSeen)
    → (get_or now at d).known ≡ ends.known_items a
known-there items now at a is h e d =
    let m = map-cell (ring_seen {P = RingRule}) items at a a (ring_seen a) d (place items now at is h) e refl in
    sym (ap (λ (r : RingSeen). r.known) m.1 ∙ ap (λ (xs : List RingSeen). (get_or xs at d).known) is)

-- ---- rings that are looked at in turn

-- rings that are the same ones are as many
pub ids-length : (xs ys : List RingSeen) → map ring_id ys ≡ map ring_id xs → length ys ≡ length xs
ids-length xs ys e = sym (length-map ys ring_id) ∙ (ap (λ (is : List RingId). length is) e ∙ length-map xs ring_id)

pub same-more : (to at : ℕ) (zs xs ys : List RingSeen) → at < to → AreSameFrom to zs xs → ((k : ℕ) (d : RingSeen) → k ≢ at → get_or ys k d ≡ get_or xs k d) → AreSameFrom to zs ys
same-more to at zs xs ys h before others k d past = others k d (λ e. absurd (omega arith)) ∙ before k d past

pub empty-more : (from at : ℕ) (xs ys : List RingSeen) → AreEmptyWithin from at xs → ((k : ℕ) (d : RingSeen) → k ≢ at → get_or ys k d ≡ get_or xs k d) → ((d : RingSeen) → (get_or ys at d).known ≡ [])
    → AreEmptyWithin from (at + 1) ys
empty-more from at xs ys before others here k d ge lt =
    ⊎_elim (λ (e : k ≡ at). subst (λ (j : ℕ). (get_or ys j d).known ≡ []) (sym e) (here d))
    (λ (n : k ≢ at). ap (λ (r : RingSeen). r.known) (others k d n) ∙ before k d ge (omega arith)) (cases_eq k at)

-- what a contract sees of a ring at its place
pub seen-there : (items : List Ring) (now : List RingSeen) (at : ℕ) (a : Ring) → map ring_seen items ≡ now → at < length now → a ≡ get_or items at a → (d : RingSeen) → get_or now at d ≡ ring_seen a
seen-there items now at a is h e d =
    let m = map-cell (ring_seen {P = RingRule}) items at a a (ring_seen a) d (place items now at is h) e refl in
    sym (m.1 ∙ ap (λ (xs : List RingSeen). get_or xs at d) is)
