-- Packets that are placed in a ring batch by batch, after so many of them.
use Rattle.std.proofs.Common.{◌≡◌, ℕ, ◌+◌, ◌<◌, ◌≤◌, List, [], ◌∷◌, ◌++◌, get_or, refl, sym, ap, ap₂, subst, ◌∙◌, arith}
use Rattle.std.specs.Prelude.{◌≢◌, All, drop, length, map, set, take}
use Rattle.std.specs.List.{fold}
use Rattle.std.proofs.Math.Seq.{take-add}
use Rattle.std.proofs.lemmas.List.{get_or-drop, get_or-map, get_or-take, length-drop, length-map, length-take, length-take-le, map-append, map_more, take-map, take-take, take_more, take_more_set}
use Rattle.std.proofs.lemmas.List.Elements.{All-append, All-cons, All-get_or, All-nil, All-same, All-take}
use Rattle.std.proofs.lemmas.List.Sums.{fold-append}
use Rattle.q_packet.specs.Descriptor.{Descriptor}
use Rattle.q_ports.specs.Offered.{MayBeFull}
use Rattle.q_ports.specs.Placed.{PortSeen, placing}
use Rattle.qtree_c.specs.abi.Structs.{IsPacket, zero_packet}
use Rattle.qtree_c.specs.rings.Ends.{IsOffers}
use Rattle.q_packet.specs.Stored.{descriptor}
use Rattle.q_packet.specs.declared.stored_packet.StoredPacket.{StoredPacket}

-- the first `i` packets were placed
pub record IsOffering (i : ℕ) (packets : List StoredPacket) (p p' : PortSeen) : Type 0 where
  pub placed : p' ≡ fold placing p (map descriptor (take i packets))
  pub in_range : All IsPacket (take i packets)
  pub most : i ≤ length packets

-- ---- one batch

-- a packet more was read
pub read-more : (i : ℕ) (packets : List StoredPacket) (batch : List Descriptor) (d : Descriptor) → take i batch ≡ map descriptor (take i packets) → i < length packets → length packets ≤ length batch
    → d ≡ descriptor (get_or packets i zero_packet) → take (i + 1) (set batch i d) ≡ map descriptor (take (i + 1) packets)
read-more i packets batch d read lt room is =
    take_more_set batch i d (omega (arith, lt, room))
    ∙ (ap₂ (λ (ps : List Descriptor) (q : Descriptor). ps ++ q ∷ []) read is ∙ sym (map_more descriptor packets i zero_packet lt))

pub in-range-more : (i : ℕ) (packets : List StoredPacket) → All IsPacket (take i packets) → i < length packets → IsPacket (get_or packets i zero_packet) → All IsPacket (take (i + 1) packets)
in-range-more i packets all lt fits =
    let c : StoredPacket = get_or packets i zero_packet in
    All-same IsPacket (take (i + 1) packets) (take i packets ++ c ∷ []) (take_more packets i zero_packet lt)
    (All-append IsPacket (take i packets) (c ∷ []) all (All-cons IsPacket c [] fits (All-nil IsPacket)))

-- what was read of a batch: so many packets, each in its range
pub record IsRead (r : ℕ) (packets : List StoredPacket) (read : List Descriptor) : Type 0 where
  pub most : r ≤ length packets
  pub read_as : read ≡ map descriptor (take r packets)
  pub in_range : All IsPacket (take r packets)

pub read-length : (r : ℕ) (packets : List StoredPacket) (read : List Descriptor) → IsRead r packets read → length read ≡ r
read-length r packets read is = ap (λ (ps : List Descriptor). length ps) is.read_as ∙ (length-map (take r packets) descriptor ∙ length-take-le r packets is.most)

-- the first of those that were read
first-read : (r k : ℕ) (packets : List StoredPacket) (read : List Descriptor) → IsRead r packets read → k ≤ r → take k read ≡ map descriptor (take k packets)
first-read r k packets read is le =
    ap (λ (ps : List Descriptor). take k ps) is.read_as
    ∙ (take-map descriptor k (take r packets) ∙ ap (λ (cs : List StoredPacket). map descriptor cs) (take-take k r packets le))

first-in-range : (r k : ℕ) (packets : List StoredPacket) (read : List Descriptor) → IsRead r packets read → k ≤ r → All IsPacket (take k packets)
first-in-range r k packets read is le = All-same IsPacket (take k packets) (take k (take r packets)) (sym (take-take k r packets le)) (All-take IsPacket k (take r packets) is.in_range)

-- the ring has no room for the next of them
pub batch-is-full : (r k : ℕ) (packets : List StoredPacket) (read : List Descriptor) (p p' : PortSeen) → IsRead r packets read → k < r → p' ≡ fold placing p (take k read)
    → ((d : Descriptor) → MayBeFull p' (get_or read k d)) → IsOffers packets 33 k p p'
batch-is-full r k packets read p p' is lt placed full =
    let le : k ≤ r = omega (arith, lt) in
    let z = descriptor zero_packet in
    let there : get_or read k z ≡ descriptor (get_or packets k zero_packet) =
    ap (λ (ps : List Descriptor). get_or ps k z) is.read_as
    ∙ (get_or-map descriptor (take r packets) k zero_packet z (omega (arith, lt, length-take-le r packets is.most))
    ∙ ap (λ (c : StoredPacket). descriptor c) (get_or-take r packets k zero_packet lt)) in
    record {
      placed = placed ∙ ap (λ (ps : List Descriptor). fold placing p ps) (first-read r k packets read is le);
      in_range = first-in-range r k packets read is le;
      most = omega (arith, lt, is.most);
      all = λ e. absurd (omega (arith, e));
      stopped = λ _. omega (arith, lt, is.most);
      answers = λ _ _. refl;
      next = λ e. absurd (omega (arith, e));
      next_in_range = λ _. subst (λ (c : StoredPacket). IsPacket c) (get_or-take r packets k zero_packet lt)
          (All-get_or IsPacket (take r packets) k zero_packet (omega (arith, lt, length-take-le r packets is.most)) is.in_range);
      full = λ _. subst (λ (q : Descriptor). MayBeFull p' q) there (full z);
    }

-- ---- one batch after others

-- so many of the batch of at most `m` packets that begins at `i` were placed
firsts : (m k : ℕ) (cs : List StoredPacket) → k ≤ length (take m cs) → take k (take m cs) ≡ take k cs
firsts m k cs few = take-take k m cs (omega (arith, few, length-take m cs))

pub offering-more : (i m k code : ℕ) (packets : List StoredPacket) (p p' p'' : PortSeen) → IsOffering i packets p p'
    → IsOffers (take m (drop i packets)) code k p' p'' → IsOffering (i + k) packets p p''
offering-more i m k code packets p p' p'' inv did =
    let part = take k (drop i packets) in
    let cut : take k (take m (drop i packets)) ≡ part = firsts m k (drop i packets) did.most in
    let more : take (i + k) packets ≡ take i packets ++ part = take-add i k packets in
    record {
      placed = did.placed
          ∙ (ap₂ (λ (q : PortSeen) (cs : List StoredPacket). fold placing q (map descriptor cs)) inv.placed cut
          ∙ (sym (fold-append placing p (map descriptor (take i packets)) (map descriptor part))
          ∙ ap (λ (ps : List Descriptor). fold placing p ps) (sym (map-append descriptor (take i packets) part) ∙ ap (λ (cs : List StoredPacket). map descriptor cs) (sym more))));
      in_range = All-same IsPacket (take (i + k) packets) (take i packets ++ part) more
          (All-append IsPacket (take i packets) part inv.in_range (All-same IsPacket part (take k (take m (drop i packets))) (sym cut) did.in_range));
      most = omega (arith, did.most, inv.most, length-drop i packets, length-take m (drop i packets));
    }

-- the batch was not placed whole
pub offering-stops : (i m k code : ℕ) (packets : List StoredPacket) (p p' p'' : PortSeen) → IsOffering i packets p p'
    → IsOffers (take m (drop i packets)) code k p' p'' → code ≢ 0 → IsOffers packets code (i + k) p p''
offering-stops i m k code packets p p' p'' inv did ne =
    let all = offering-more i m k code packets p p' p'' inv did in
    let few : k < length (take m (drop i packets)) = did.stopped ne in
    let there : get_or (take m (drop i packets)) k zero_packet ≡ get_or packets (i + k) zero_packet =
    get_or-take m (drop i packets) k zero_packet (omega (arith, few, length-take m (drop i packets))) ∙ get_or-drop i packets k zero_packet in
    record {
      placed = all.placed;
      in_range = all.in_range;
      most = all.most;
      all = λ e. absurd (ne e);
      stopped = λ _. omega (arith, few, length-drop i packets, length-take m (drop i packets));
      answers = did.answers;
      next = λ e fits. did.next e (subst (λ (c : StoredPacket). IsPacket c) (sym there) fits);
      next_in_range = λ e. subst (λ (c : StoredPacket). IsPacket c) there (did.next_in_range e);
      full = λ e. subst (λ (c : StoredPacket). MayBeFull p'' (descriptor c)) there (did.full e);
    }
