-- A head that is not late: it is sent as it stands, none is dropped before it, and the others stay.
use Rattle.std.proofs.Common.{◌≡◌, ℕ, suc, ◌-◌, ◌≤◌, Bool, true, false, List, [], ◌∷◌, length, drop, Option, Some, IsSome, arith, refl, sym, ap, ap₂, ◌∙◌, subst}
use Rattle.std.specs.Prelude.{option_map, slice_get}
use Rattle.std.proofs.lemmas.Option.{none-some, same_Some}
use Rattle.std.proofs.lemmas.List.{length-drop}
use Rattle.q_packet.proofs.TotalsLemmas.{size-cons}
use Rattle.q_packet.specs.Totals.{size}
use Rattle.q_packet.specs.Descriptor.{Descriptor}
use Rattle.q_packet.specs.declared.stamped.Stamped.{Stamped}
use Rattle.q_codel.specs.Codel as codel
use Rattle.q_codel.specs.Codel.{CodelState, is_late, Chooses, drops, taken, left, after, leaving}
use Rattle.q_codel.specs.Front.{front_of}
use Rattle.q_codel.specs.declared.front.Front.{Front}
use Rattle.q_fqcodel.specs.Take.{taken_as}
use Rattle.q_fqcodel.proofs.SentLemmas.{slice_within}

-- what is in front of a queue with a packet
pub front_within : (q : List Stamped) (front : Front) (bytes : ℕ) → Some front ≡ option_map front_of (slice_get q 0) → bytes ≡ size q → front.len ≤ bytes
front_within [] front bytes f b = absurd (none-some front (sym f))
front_within (s ∷ q) front bytes f b = omega (arith, b, size-cons s q, ap (λ (x : Front). x.len) (same_Some front (front_of s) f))

pub behind_is : (q : List Stamped) (front : Front) (bytes : ℕ) → Some front ≡ option_map front_of (slice_get q 0) → bytes ≡ size q → bytes - front.len ≡ size (drop 1 q)
behind_is [] front bytes f b = absurd (none-some front (sym f))
behind_is (s ∷ q) front bytes f b = omega (arith, b, size-cons s q, ap (λ (x : Front). x.len) (same_Some front (front_of s) f))

-- the head that is sent is the first exactly where none is dropped
none_dropped : (s t : CodelState) (now : ℕ) (head : Stamped) (rest : List Stamped) → Chooses s now (head ∷ rest) head false rest t → drops s now (head ∷ rest) ≡ 0
none_dropped s t now head rest chosen =
    let within = slice_within (head ∷ rest) (drops s now (head ∷ rest)) (subst (λ (o : Option Stamped). IsSome o) chosen.head_is refl) in
    omega (arith, within, ap length chosen.rest_is, length-drop (suc (drops s now (head ∷ rest))) (head ∷ rest))

pub record Passed (s : CodelState) (now : ℕ) (queue : List Stamped) (front : Front) (packet : Descriptor) (t : CodelState) : Type 0 where
  pub len : front.len ≡ packet.len
  pub at : Some front.at ≡ option_map (λ (x : Stamped). x.at) (codel.sent s now queue)
  pub sent : taken_as packet false ≡ taken s now queue
  pub none : drops s now queue ≡ 0
  pub left_is : drop 1 queue ≡ left s now queue
  pub after_is : t ≡ after s now queue

pub passed : (s t : CodelState) (now : ℕ) (queue : List Stamped) (front : Front) (bytes : ℕ) (packet : Descriptor)
    → Some front ≡ option_map front_of (slice_get queue 0) → bytes ≡ size queue → Some packet ≡ option_map (λ (x : Stamped). x.packet) (slice_get queue 0)
    → ((head : Stamped) (rest : List Stamped) → front ≡ front_of head → bytes - front.len ≡ size rest → Chooses s now (head ∷ rest) head false rest t)
    → Passed s now queue front packet t
passed s t now [] front bytes packet f b p chooses = absurd (none-some front (sym f))
passed s t now (head ∷ rest) front bytes packet f b p chooses =
    let front_is = same_Some front (front_of head) f in
    let chosen = chooses head rest front_is (omega (arith, b, size-cons head rest, ap (λ (x : Front). x.len) front_is)) in
    let packet_is = same_Some packet head.packet p in
    record {
      len = ap (λ (x : Front). x.len) front_is ∙ ap (λ (x : Descriptor). x.len) (sym packet_is);
      at = ap (λ (x : Front). Some x.at) front_is ∙ ap (option_map (λ (x : Stamped). x.at)) chosen.head_is;
      sent = ap (λ (x : Descriptor). taken_as x false) packet_is
          ∙ ap₂ (λ (m : Bool) (o : Option Stamped). option_map (λ (x : Stamped). record { packet = leaving m x.packet; marked = m }) o) chosen.marked_is chosen.head_is;
      none = none_dropped s t now head rest chosen;
      left_is = chosen.rest_is;
      after_is = chosen.state_is;
    }

-- a head that is late is so whatever is known of it
pub late : (s : CodelState) (now : ℕ) (queue : List Stamped) (front : Front) (bytes : ℕ) → Some front ≡ option_map front_of (slice_get queue 0) → bytes ≡ size queue
    → ((head : Stamped) (rest : List Stamped) → front ≡ front_of head → bytes - front.len ≡ size rest → is_late s now (head ∷ rest) ≡ true) → is_late s now queue ≡ true
late s now [] front bytes f b judged = absurd (none-some front (sym f))
late s now (head ∷ rest) front bytes f b judged =
    let front_is = same_Some front (front_of head) f in
    judged head rest front_is (omega (arith, b, size-cons head rest, ap (λ (x : Front). x.len) front_is))
