-- A packet that a queue gave into the caller's place: what the call answered is what was queued.
use Rattle.std.proofs.Common.{◌≡◌, ℕ, ◌<◌, List, [], ◌∷◌, Option, Some, None, length, refl, sym, ap, ap₂, arith}
use Rattle.std.specs.Prelude.{Bool, false, not, ◌==◌}
use Rattle.std.proofs.lemmas.Bool.{eqb-true, not-false}
use Rattle.std.specs.Option.{option_map_or}
use Rattle.q_packet.specs.Descriptor.{Descriptor}
use Rattle.q_packet.specs.declared.stamped.Stamped.{Stamped}
use Rattle.q_codel.specs.declared.codel.Taken.{Taken}
use Rattle.q_model.specs.Beneath.{packets_of, totals_in}
use Rattle.q_model.specs.Tally.{no_totals}

-- its length is what the call answered
pub head-len : (o : Option Stamped) (len : ℕ) (old new : Descriptor) → 0 < len → len ≡ option_map_or (λ (s : Stamped). s.packet.len) o 0
    → new ≡ option_map_or (λ (s : Stamped). s.packet) o old → len ≡ new.len
head-len None len old new some l is = absurd (omega (arith, some, l))
head-len (Some s) len old new some l is = omega (arith, l, ap (λ (p : Descriptor). p.len) is)

-- an fq_codel that gave a packet gave what it sends, marked or not
pub sent-some : (sent : Option Taken) (len : ℕ) (marked : Bool) (old new : Descriptor) → 0 < len → len ≡ option_map_or (λ (t : Taken). t.packet.len) sent 0
    → marked ≡ option_map_or (λ (t : Taken). t.marked) sent false → new ≡ option_map_or (λ (t : Taken). t.packet) sent old
    → sent ≡ Some (record { packet = new; marked = marked })
sent-some None len marked old new some l m p = absurd (omega (arith, some, l))
sent-some (Some t) len marked old new some l m p = ap₂ (λ (packet : Descriptor) (marked : Bool). Some (record { packet = packet; marked = marked })) (sym p) (sym m)

-- and one that dropped no packet counts none
pub none-dropped : (xs : List Stamped) → not (length xs == 0) ≡ false → no_totals ≡ totals_in (packets_of xs)
none-dropped [] none = refl
none-dropped (s ∷ xs) none = absurd (omega (arith, eqb-true (length (s ∷ xs)) 0 (not-false (length (s ∷ xs) == 0) none)))
