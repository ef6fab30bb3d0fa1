-- Rows that rise.
use Rattle.std.proofs.Common.{◌≡◌, List, [], ◌∷◌, ◌++◌, refl, sym, subst, arith}
use mathlib.Core.List.{IsPrefix}
use Rattle.q_device.specs.Counters.{IsNotBelow}
use Rattle.q_model.specs.declared.row.Row.{Row}
use Rattle.q_model.specs.declared.totals.Totals.{Totals}
use Rattle.q_model.specs.Conserved.{IsBalanced}
use Rattle.q_ports.specs.Rows.{IsNotLower, IsRisingFrom, last_from}

below-self : (t : Totals) → IsNotBelow t t
below-self t = record { packets = omega arith; bytes = omega arith }

below-trans : (a b c : Totals) → IsNotBelow a b → IsNotBelow b c → IsNotBelow a c
below-trans a b c p q = record { packets = omega (arith, p.packets, q.packets); bytes = omega (arith, p.bytes, q.bytes) }

pub lower-self : (r : Row) → IsNotLower r r
lower-self r = record { arrived = below-self r.arrived; sent = below-self r.sent; refused = below-self r.refused; dropped = below-self r.dropped; marked = below-self r.marked }

pub lower-trans : (a b c : Row) → IsNotLower a b → IsNotLower b c → IsNotLower a c
lower-trans a b c p q = record {
  arrived = below-trans a.arrived b.arrived c.arrived p.arrived q.arrived;
  sent = below-trans a.sent b.sent c.sent p.sent q.sent;
  refused = below-trans a.refused b.refused c.refused p.refused q.refused;
  dropped = below-trans a.dropped b.dropped c.dropped p.dropped q.dropped;
  marked = below-trans a.marked b.marked c.marked p.marked q.marked;
}

pub rising-push : (a : Row) (log : List Row) (r : Row) → IsRisingFrom a log → IsBalanced r → IsNotLower (last_from a log) r → IsRisingFrom a (log ++ r ∷ [])
rising-push a [] r h balanced up = (balanced, up, tt)
rising-push a (x ∷ log) r h balanced up = (h.0, h.1, rising-push x log r h.2 balanced up)

pub last-push : (a : Row) (log : List Row) (r : Row) → last_from a (log ++ r ∷ []) ≡ r
last-push a [] r = refl
last-push a (x ∷ log) r = last-push x log r

rising-last : (a : Row) (log : List Row) → IsRisingFrom a log → IsNotLower a (last_from a log)
rising-last a [] h = lower-self a
rising-last a (x ∷ log) h = lower-trans a x (last_from x log) h.1 (rising-last x log h.2)

rising-append : (a : Row) (xs ys : List Row) → IsRisingFrom a (xs ++ ys) → IsNotLower (last_from a xs) (last_from a (xs ++ ys))
rising-append a [] ys h = rising-last a ys h
rising-append a (x ∷ xs) ys h = rising-append x xs ys h.2

-- the last row of a beginning is not above that of the whole
pub rising-prefix : (a : Row) (xs ys : List Row) → IsPrefix xs ys → IsRisingFrom a ys → IsNotLower (last_from a xs) (last_from a ys)
rising-prefix a xs ys p h = subst (λ (zs : List Row). IsNotLower (last_from a xs) (last_from a zs)) p.1 (rising-append a xs p.0 (subst (IsRisingFrom a) (sym p.1) h))
