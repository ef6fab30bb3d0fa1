-- The drain's ends of the rings: which ring each is, what was received from it, and what is known to wait there.
-- Nothing here is of a standard.
use Rattle.std.specs.Prelude.{◌≡◌, ℕ, ◌<◌, ◌≤◌, true, false, Bool, List, [], ◌∷◌, ◌++◌, length, get_or, set, drop, sum_by}
use mathlib.Core.List.{IsPrefix}
use Rattle.std.specs.declared.alloc.Global.{Global}
use Rattle.rtrb.specs.declared.consumer.Consumer.{Consumer}
use Rattle.rtrb.specs.Ring as ends
use Rattle.q_packet.specs.Descriptor.{Descriptor}
use Rattle.q_ports.specs.Held.{Held, held}
use Rattle.q_ports.specs.Placed.{RingId, ring_at, bytes_in}

pub record RingSeen : Type 0 where
  pub ring : RingId
  pub received : List Descriptor
  pub known : List Descriptor

module _ {P : Type 0} where
  abbrev pub ring_seen : Consumer Descriptor Global P → RingSeen
  ring_seen c = record { ring = ring_at c; received = ends.received c; known = ends.known_items c }

abbrev pub ring_id : RingSeen → RingId
ring_id r = r.ring

abbrev pub received_from : RingSeen → List Descriptor
received_from r = r.received

-- all that is known to have been placed there
abbrev pub all_of : RingSeen → List Descriptor
all_of r = r.received ++ r.known

-- the whole permit, with all that was received from these
abbrev pub seat_for : List RingSeen → Held
seat_for rings = held 65 (sum_by (λ (r : RingSeen). length r.received) rings) (sum_by (λ (r : RingSeen). bytes_in r.received) rings)

-- the ring, with these known to wait there
abbrev pub with_known : List Descriptor → RingSeen → RingSeen
with_known packets r = record r { known = packets }

-- the packet, which was the first to wait there, was received
abbrev pub popped : Descriptor → RingSeen → RingSeen
popped p r = record r { received = r.received ++ p ∷ []; known = drop 1 r.known }

-- a look at one ring, which may show more that waits there, and says whether nothing does
pub record Looks (at : ℕ) (before after : List RingSeen) (empty : Bool) : Type 0 where
  pub known : List Descriptor
  pub after_is : (d : RingSeen) → after ≡ set before at (with_known known (get_or before at d))
  pub none : empty ≡ true → known ≡ []
  pub some : empty ≡ false → 0 < length known

-- the first packet that was known to wait in one ring was received
pub record Receives (at : ℕ) (before after : List RingSeen) (p : Descriptor) : Type 0 where
  pub after_is : (d : RingSeen) → after ≡ set before at (popped p (get_or before at d))
  pub first : (d : RingSeen) → (get_or before at d).known ≡ p ∷ drop 1 (get_or before at d).known

-- nothing waited in these rings when they were checked last
abbrev pub AreSeenEmpty : List RingSeen → Type 0
AreSeenEmpty rings = (k : ℕ) (d : RingSeen) → k < length rings → (get_or rings k d).known ≡ []

-- the same of the rings from one place on, up to another
abbrev pub AreEmptyWithin : ℕ → ℕ → List RingSeen → Type 0
AreEmptyWithin from to rings = (k : ℕ) (d : RingSeen) → from ≤ k → k < to → (get_or rings k d).known ≡ []

-- the rings but those from one place on, up to another, are as they were
abbrev pub AreSameFrom : ℕ → List RingSeen → List RingSeen → Type 0
AreSameFrom to before after = (k : ℕ) (d : RingSeen) → to ≤ k → get_or after k d ≡ get_or before k d

-- a look at one ring with its port in hand: all that was placed and not received is known to wait there
pub record LooksBeside (at : ℕ) (before after : List RingSeen) (placed : List Descriptor) : Type 0 where
  pub known : List Descriptor
  pub after_is : (d : RingSeen) → after ≡ set before at (with_known known (get_or before at d))
  pub whole : (d : RingSeen) → (get_or before at d).received ++ known ≡ placed

-- for each ring what was received from it is a beginning of what was placed there
pub record AreBeginnings (received placed : List (List Descriptor)) : Type 0 where
  pub count : length received ≡ length placed
  pub each : (k : ℕ) → k < length received → IsPrefix (get_or received k []) (get_or placed k [])
