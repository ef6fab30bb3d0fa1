-- What a node holds, and since when, put together and taken apart.
use Rattle.std.proofs.Common.{◌≡◌, ℕ, refl, sym, Option, Some, None}
use Rattle.std.proofs.lemmas.Bool.{false≢true}
use Rattle.std.proofs.lemmas.Option.{none-some}
use Rattle.std.proofs.Common.{ap}
use Rattle.std.specs.Prelude.{true, false, is_some, unwrap_or}
use Rattle.std.proofs.Common.{◌∙◌}
use Rattle.q_packet.specs.Descriptor.{Descriptor}
use Rattle.q_packet.specs.declared.stamped.Stamped.{Stamped}
use Rattle.q_model.specs.Since.{since_of}
use Rattle.q_tree.specs.departure.Holding.{held_with, packet_held, since_held}

pub packet-with : (o : Option Descriptor) (at : ℕ) → packet_held (held_with o at) ≡ o
packet-with None at = refl
packet-with (Some p) at = refl

pub since-with : (o : Option Descriptor) (at : ℕ) → since_held (held_with o at) ≡ since_of o at
since-with None at = refl
since-with (Some p) at = refl

pub since-twice : (o : Option Descriptor) (at : ℕ) → since_of o (since_of o at) ≡ since_of o at
since-twice None at = refl
since-twice (Some p) at = refl

-- a packet that was written to its place with the time
pub held-with : (o : Option Descriptor) (at t : ℕ) → since_of o at ≡ t → held_with o at ≡ held_with o t
held-with None at t e = refl
held-with (Some p) at t e = λ i. Some (record { packet = p; at = e i })

-- whether there is one
pub empty-held : (h : Option Stamped) → packet_held h ≡ None → h ≡ None
empty-held None e = refl
empty-held (Some s) e = absurd (none-some s.packet (sym e))

pub none-kept : (h : Option Stamped) → false ≡ is_some h → packet_held h ≡ None
none-kept None e = refl
none-kept (Some s) e = absurd (false≢true e)

pub some-kept : (h : Option Stamped) → true ≡ is_some h → (p : Descriptor) × (packet_held h ≡ Some p)
some-kept None e = absurd (false≢true (sym e))
some-kept (Some s) e = (s.packet, refl)

-- a packet that was written to its place, with the time
pub placed : (o : Option Descriptor) (p place old : Descriptor) (at t : ℕ) → o ≡ Some p → place ≡ unwrap_or o old → at ≡ t → Some (record { packet = place; at = at }) ≡ held_with o t
placed o p place old at t e is s =
    let same : place ≡ p = is ∙ ap (λ (x : Option Descriptor). unwrap_or x old) e in
    (λ i. Some (record { packet = same i; at = s i })) ∙ ap (λ (x : Option Descriptor). held_with x t) (sym e)

-- a packet that may be there
pub some-there : (o : Option Descriptor) → is_some o ≡ true → (p : Descriptor) × (o ≡ Some p)
some-there None e = absurd (false≢true e)
some-there (Some p) e = (p, refl)

pub none-there : (o : Option Descriptor) → is_some o ≡ false → o ≡ None
none-there None e = refl
none-there (Some p) e = absurd (false≢true (sym e))
