-- Offering a load, packet by packet.
use Rattle.std.proofs.Common.{◌≡◌, ◌∙◌, ℕ, ◌+◌, ◌<◌, ◌≤◌, Bool, true, false, List, [], ◌∷◌, ◌++◌, length, get_or, take, refl, sym, ap, ap₂, subst, arith}
use Rattle.std.proofs.lemmas.List.{map_push, take_more}
use Rattle.std.proofs.lemmas.List.Sums.{fold_push, sum_by_push}
use Rattle.std.specs.List.{fold}
use Rattle.q_packet.specs.Descriptor.{Descriptor}
use Rattle.q_ports.specs.Offered.{GivesUpWhereFull, MayBeFull, Offer, Offered, OffersOne, given_up_in, offering, packet_in}
use Rattle.q_ports.specs.Placed.{PortSeen}

pub offered-none : (tries : ℕ) (ran : Bool) (v : PortSeen) → Offered tries ran v [] v 0
offered-none tries ran v = record { offers = []; all = refl; after_is = refl; rest = refl; full = λ r t. tt }

-- an offer more
full-more : (v : PortSeen) (os : List Offer) (o : Offer) → GivesUpWhereFull v os → (o.placed ≡ false → MayBeFull (fold offering v os) o.packet) → GivesUpWhereFull v (os ++ o ∷ [])
full-more v [] o h last = (last, tt)
full-more v (x ∷ os) o h last = (h.0, full-more (offering v x) os o h.1 last)

-- a packet that was not placed is one that was given up
one-less : (p : Descriptor) (b : Bool) (m : ℕ) → m ≡ given_up_in (record { packet = p; placed = b }) → b ≡ false → 1 ≤ m
one-less p true m is e = cc
one-less p false m is e = omega (arith, is)

pub offered-more : (tries : ℕ) (ran : Bool) (v0 v v' : PortSeen) (load : List Descriptor) (i : ℕ) (p : Descriptor) (n m : ℕ)
    → Offered tries ran v0 (take i load) v n → i < length load → p ≡ get_or load i p → OffersOne v p v' m
    → (1 ≤ m → 1 ≤ tries → MayBeFull v p) → Offered tries ran v0 (take (i + 1) load) v' (n + m)
offered-more tries ran v0 v v' load i p n m o h is one full =
    let last : Offer = record { packet = p; placed = one.placed } in
    record {
      offers = o.offers ++ last ∷ [];
      all = map_push packet_in o.offers last ∙ (ap₂ (λ (ps : List Descriptor) (q : Descriptor). ps ++ q ∷ []) o.all is ∙ sym (take_more load i p h));
      after_is = one.after_is ∙ (ap (λ (x : PortSeen). offering x last) o.after_is ∙ sym (fold_push offering v0 o.offers last));
      rest = ap₂ ◌+◌ o.rest one.rest ∙ sym (sum_by_push given_up_in o.offers last);
      full =
          λ r t.
          full-more v0 o.offers last (o.full r t)
          (λ (e : one.placed ≡ false). subst (λ (x : PortSeen). MayBeFull x p) o.after_is (full (one-less p one.placed m one.rest e) t));
    }
