-- What senders with equal loads come to: each packet was placed or given up, and all have one length.
use Rattle.std.proofs.Common.{◌≡◌, ◌∙◌, ℕ, zero, suc, ◌+◌, ◌*◌, ◌<◌, ◌≤◌, Bool, true, false, List, [], ◌∷◌, length, get_or, map, replicate, refl, sym, ap, ap₂, subst, arith, add-mul, suc-mul, mul-le-mul, zero-mul}
use Rattle.std.proofs.lemmas.List.{get_or-map, get_or-replicate, length_push}
use Rattle.std.proofs.lemmas.List.Sums.{sum_by-cons, sum_by_push}
use Rattle.std.specs.Prelude.{◌^◌, sum_by, All}
use Rattle.std.specs.List.{fold}
use Rattle.q_packet.specs.Descriptor.{Descriptor}
use Rattle.q_model.specs.declared.totals.Totals.{Totals}
use Rattle.q_ports.specs.declared.sender.Sent.{Sent}
use Rattle.q_ports.specs.Driven.{HasDriven, port_in, rest_of}
use Rattle.q_ports.specs.Offered.{Offer, Offered, given_up_in, offering, packet_in}
use Rattle.q_ports.specs.Placed.{PortSeen, bytes_in, placed_by, port_seen, share_of, written, HasRing}
use Rattle.q_ports.specs.Turned.{DrainSeen}
use Rattle.q_ports.proofs.RingLemmas.{no_ring}
use Rattle.q_drive.specs.Drive.{Drive, IsInRange}
use Rattle.q_drive.specs.Driven.{IsPaced}
use Rattle.q_drive.specs.Loads.{AreLoads, packet_of}

-- so many packets were placed or given up, and those that were placed have this length
pub record IsSent (count len : ℕ) (placed : List Descriptor) (given_up : ℕ) : Type 0 where
  pub all : length placed + given_up ≡ count
  pub bytes : bytes_in placed ≡ length placed * len

abbrev length_of : Descriptor → ℕ
length_of p = p.len

-- ---- one offer

offer_one : (v : PortSeen) (p : Descriptor) (b : Bool) (count given_up : ℕ) → IsSent count p.len v.placed given_up
    → IsSent (count + 1) p.len (offering v (record { packet = p; placed = b })).placed (given_up + given_up_in (record { packet = p; placed = b }))
offer_one v p true count given_up h =
    let longer = length_push v.placed (written v p) in
    record {
      all = omega (arith, longer, h.all);
      bytes =
          sum_by_push length_of v.placed (written v p)
          ∙ (ap (λ n. n + p.len) h.bytes
          ∙ (sym (suc-mul (length v.placed) p.len) ∙ ap (λ n. n * p.len) (omega (arith, longer))));
    }
offer_one v p false count given_up h = record { all = omega (arith, h.all); bytes = h.bytes }

-- ---- a whole load of equal packets

offer_all : (v : PortSeen) (os : List Offer) (n : ℕ) (p : Descriptor) (count given_up : ℕ) → map packet_in os ≡ replicate n p → IsSent count p.len v.placed given_up
    → IsSent (count + n) p.len (fold offering v os).placed (given_up + sum_by given_up_in os)
offer_all v [] zero p count given_up e h = record { all = omega (arith, h.all); bytes = h.bytes }
offer_all v [] (suc n) p count given_up e h = cc
offer_all v (o ∷ os) zero p count given_up e h = cc
offer_all v (o ∷ os) (suc n) p count given_up e h =
    let first : o.packet ≡ p = cc in
    let rest : map packet_in os ≡ replicate n p = cc in
    let one = offer_one v o.packet o.placed count given_up (subst (λ (q : Descriptor). IsSent count q.len v.placed given_up) (sym first) h) in
    let two = subst (λ (q : Descriptor). IsSent (count + 1) q.len (offering v o).placed (given_up + given_up_in o)) first one in
    let all = offer_all (offering v o) os n p (count + 1) (given_up + given_up_in o) rest two in
    record { all = omega (arith, all.all, sum_by-cons given_up_in o os); bytes = all.bytes }

offered-sent : (tries : ℕ) (ran : Bool) (before after : PortSeen) (load : List Descriptor) (given_up n : ℕ) (p : Descriptor) → before.placed ≡ []
    → load ≡ replicate n p → Offered tries ran before load after given_up → IsSent n p.len after.placed given_up
offered-sent tries ran before after load given_up n p none is o =
    let start : IsSent 0 p.len before.placed 0 = rw none (record { all = refl; bytes = sym (zero-mul p.len) }) in
    let all = offer_all before o.offers n p 0 0 (o.all ∙ is) start in
    let placed = ap (λ (v : PortSeen). v.placed) o.after_is in
    subst (λ (ps : List Descriptor). IsSent n p.len ps given_up) (sym placed)
    (record { all = omega (arith, all.all, o.rest); bytes = all.bytes })

-- ---- all senders

abbrev lists : List Sent → List (List Descriptor)
lists after = map placed_by (map port_in after)

abbrev count_of : List Descriptor → ℕ
count_of ps = length ps

-- the sums over the senders
pub record AreSent (count len : ℕ) (after : List Sent) : Type 0 where
  pub all : (share_of (lists after)).packets + sum_by rest_of after ≡ length after * count
  pub bytes : (share_of (lists after)).bytes ≡ (share_of (lists after)).packets * len

all-sent : (count len : ℕ) (after : List Sent) → ((k : ℕ) (s : Sent) → k < length after → IsSent count len (get_or after k s).port.placed (get_or after k s).given_up) → AreSent count len after
all-sent count len [] each = record { all = sym (zero-mul count); bytes = sym (zero-mul len) }
all-sent count len (s ∷ after) each =
    let one = each 0 s (omega arith) in
    let rest = all-sent count len after (λ k d lt. each (suc k) d (omega (arith, lt))) in
    let packets = sum_by-cons count_of s.port.placed (lists after) in
    let bytes = sum_by-cons bytes_in s.port.placed (lists after) in
    record {
      all = omega (arith, packets, sum_by-cons rest_of s after, one.all, rest.all, suc-mul (length after) count);
      bytes =
          bytes
          ∙ (ap₂ ◌+◌ one.bytes rest.bytes
          ∙ (sym (add-mul (length s.port.placed) (share_of (lists after)).packets len) ∙ ap (λ n. n * len) (sym packets)));
    }

-- ---- what a drive comes to

no_port : PortSeen
no_port = port_seen 0 no_ring.ring []

nothing_placed : (ports : List PortSeen) (n k : ℕ) → map placed_by ports ≡ replicate n [] → k < length ports → k < n → (get_or ports k no_port).placed ≡ []
nothing_placed ports n k none lt few =
    sym (get_or-map placed_by ports k no_port [] lt) ∙ (ap (λ (qs : List (List Descriptor)). get_or qs k []) none ∙ get_or-replicate n k [] [] few)

-- every packet of the loads is in the settled share or was given up, and the bytes are those of so many packets
pub record IsAccounted (s : Drive) (share : Totals) (given_up : ℕ) : Type 0 where
  pub all : share.packets + given_up ≡ s.senders * s.count
  pub bytes : share.bytes ≡ share.packets * s.len

pub accounted : {start step tries : ℕ} {drain : DrainSeen} (s : Drive) (ports : List PortSeen) (loads : List (List Descriptor)) (share : Totals) (given_up : ℕ)
    → IsInRange s → length ports ≡ s.senders → map placed_by ports ≡ replicate s.senders [] → AreLoads s s.senders loads
    → HasDriven start step tries drain ports loads share given_up → IsAccounted s share given_up
accounted {start} {step} {tries} {drain} s ports loads share given_up range long none asked d =
    let sent = all-sent s.count s.len d.after (λ k x lt.
    let few : k < length ports = omega (arith, lt, d.drove.count) in
    let in_range : k < s.senders = omega (arith, few, long) in
    offered-sent tries (get_or d.after k x).ran (get_or ports k no_port) (get_or d.after k x).port (get_or loads k []) (get_or d.after k x).given_up s.count (packet_of s.len k)
    (nothing_placed ports s.senders k none few in_range) (asked.each k in_range) (d.drove.each k no_port x lt)) in
    let count : length d.after ≡ s.senders = d.drove.count ∙ long in
    let few : s.senders * s.count ≤ 64 * 1000000 = mul-le-mul range.senders.1 range.count in
    let all : (share_of (lists d.after)).packets + sum_by rest_of d.after ≡ s.senders * s.count = sent.all ∙ ap (λ n. n * s.count) count in
    let rest : given_up ≡ sum_by rest_of d.after = omega (arith, d.rest, all, few) in
    subst (λ (t : Totals). IsAccounted s t given_up) (sym d.settled) (record { all = omega (arith, all, rest); bytes = sent.bytes })

-- ---- the pace

pub at_pace : (s : Drive) (start step tries : ℕ) (drain : DrainSeen) (ports : List PortSeen) (loads : List (List Descriptor)) (share : Totals) (given_up : ℕ)
    → start ≡ 0 → step ≡ 1000 → tries ≡ 10 ^ 9 → map placed_by ports ≡ replicate s.senders [] → All (HasRing s.ring) ports → AreLoads s s.senders loads
    → HasDriven start step tries drain ports loads share given_up → IsPaced s share given_up
at_pace s start step tries drain ports loads share given_up is_start is_step is_tries nothing lengths are_loads driven =
    let started = subst (λ (n : ℕ). HasDriven n step tries drain ports loads share given_up) is_start driven in
    let stepped = subst (λ (n : ℕ). HasDriven 0 n tries drain ports loads share given_up) is_step started in
    record {
      drain = drain;
      ports = ports;
      loads = loads;
      nothing = nothing;
      lengths = lengths;
      are_loads = are_loads;
      driven = subst (λ (n : ℕ). HasDriven 0 1000 n drain ports loads share given_up) is_tries stepped;
    }
