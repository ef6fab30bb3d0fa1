-- What an arrival that a fifo in line keeps makes of the line: the packet is last in it, and the line has no more bytes than the limit.
use Rattle.std.proofs.Common.{◌≡◌, ℕ, suc, ◌+◌, ◌*◌, ◌<◌, ◌≤◌, ◌∙◌, refl, sym, ap, subst, List, [], ◌∷◌, ◌++◌, map, set, length, flat_map, Option, Some, None, option_and_then, option_to_list, arith}
use Rattle.std.specs.Prelude.{Bool, true, false, All, unwrap_or, slice_get, if◌then◌else◌}
use Rattle.std.specs.Option.{option_map_or}
use Rattle.std.proofs.Math.Nat.{add-mul, mul-le-mul_left, mul_comm}
use Rattle.std.proofs.lemmas.Bool.{false≢true, leb-true, ltb-true}
use Rattle.std.proofs.lemmas.List.{map-append}
use Rattle.std.proofs.lemmas.List.Elements.{All-head, All-tail}
use Rattle.std.proofs.lemmas.List.Sums.{sum_by-cons}
use Rattle.std.proofs.lemmas.Option.{none-some, same_Some}
use Rattle.q_packet.specs.Descriptor.{Descriptor}
use Rattle.q_packet.specs.Totals.{count, size}
use Rattle.q_packet.specs.declared.cause.Cause.TheVariants.{OverLimit}
use Rattle.q_packet.specs.declared.stamped.Stamped.{Stamped}
use Rattle.q_codel.specs.FifoState.{takes}
use Rattle.q_codel.specs.declared.limit.Limit.{Limit}
use Rattle.q_codel.specs.declared.limit.Limit.TheVariants.{Packets, Bytes}
use Rattle.q_bucket.specs.Level.{TokenBucket}
use Rattle.q_model.specs.declared.filter.Filter.{Filter}
use Rattle.q_model.specs.Beneath.{beneath_own, is_empty, packets_of}
use Rattle.q_model.specs.Node.{Discipline, Fifo, Prio, Tbf, Drr, FqCodel, Own, Forest, Shape, nodes_in, children, each}
use Rattle.q_model.specs.Numbers.{IsWithin}
use Rattle.q_model.specs.Put.{put_here, put_beneath, put_along}
use Rattle.q_model.specs.Route.{Route, ends, refused, way, route}
use Rattle.q_model.specs.Work.{Worked, quiet, settled_in}
use Rattle.q_invariants.specs.Kept.{IsLawfulRoot}
use Rattle.q_invariants.proofs.tree.Members.{All-front}
use Rattle.q_invariants.proofs.tree.Quiet.{child-lawful}
use Rattle.q_invariants.proofs.tree.Ways.{IsOn, route-goes}
use Rattle.q_tree.specs.answers.Lanes.{is_prio, limit_of, limit_along}
use Rattle.q_device.specs.promises.Worst.{most_bytes}
use Rattle.q_laws.specs.line.Line.{line_in, line_own, line, bytes_in}
use Rattle.q_laws.proofs.line.LaneLines.{IsFirst, first-line, is-first}
use Rattle.q_laws.proofs.line.LineAsks.{line-worked}

-- ---- bytes

queue-bytes : (queue : List Stamped) → size queue ≡ bytes_in (packets_of queue)
queue-bytes [] = refl
queue-bytes (s ∷ queue) =
    omega (arith, sum_by-cons (λ (s : Stamped). s.packet.len) s queue, sum_by-cons (λ (p : Descriptor). p.len) s.packet (packets_of queue), queue-bytes queue)

queue-length : (queue : List Stamped) → length (packets_of queue) ≡ count queue
queue-length [] = refl
queue-length (s ∷ queue) = ap suc (queue-length queue)

-- each packet is as long as a longest one at most
most-of : (mtu : ℕ) (packets : List Descriptor) → All (λ (p : Descriptor). IsWithin 1 mtu p.len) packets → bytes_in packets ≤ length packets * mtu
most-of mtu [] all = omega arith
most-of mtu (p ∷ packets) all =
    let here : p.len ≤ mtu = (All-head (λ (p : Descriptor). IsWithin 1 mtu p.len) p packets all).1 in
    let rest = most-of mtu packets (All-tail (λ (p : Descriptor). IsWithin 1 mtu p.len) p packets all) in
    omega (arith, here, rest, sum_by-cons (λ (p : Descriptor). p.len) p packets, add-mul 1 (length packets) mtu)

-- The packet is put behind these, and with it they have so many bytes at most.
pub record IsPutLast (bytes : ℕ) (p : Descriptor) (before after : List Descriptor) : Type 0 where
  pub last : after ≡ before ++ p ∷ []
  pub within : bytes_in before + p.len ≤ bytes

-- ---- the first child

set-line : (cs : List Shape) (c : Shape) (m : Worked) → slice_get cs 0 ≡ Some c → unwrap_or (slice_get (map line (set (map quiet cs) 0 m)) 0) [] ≡ line m
set-line [] c m e = absurd (none-some c e)
set-line (d ∷ cs) c m e = refl

module _ (mtu now : ℕ) (p : Descriptor) (short : p.len ≤ mtu) where
  -- what a fifo takes is within its limit
  taken-within : (limit : Limit) (queue : List Stamped) → All (λ (q : Descriptor). IsWithin 1 mtu q.len) (packets_of queue)
      → takes limit queue p.len ≡ true → bytes_in (packets_of queue) + p.len ≤ most_bytes mtu limit
  taken-within (Packets most) queue all e =
      let few : count queue < most = ltb-true (count queue) most e in
      let bytes = most-of mtu (packets_of queue) all in
      let many : length (packets_of queue) ≡ count queue = queue-length queue in
      let rises : mtu * (1 + length (packets_of queue)) ≤ mtu * most = mul-le-mul_left mtu (omega (arith, few, many)) in
      omega (arith, bytes, short, rises, add-mul 1 (length (packets_of queue)) mtu, mul_comm mtu (1 + length (packets_of queue)), mul_comm mtu most)
  taken-within (Bytes most) queue all e =
      let fits : size queue + p.len ≤ most = leb-true (size queue + p.len) most e in
      omega (arith, fits, queue-bytes queue)

  module _ (handle : Option ℕ) (filters : List Filter) (since : ℕ) (below : Forest (Unit {0})) where
    abbrev node : Discipline → Option Descriptor → Shape
    node d held = record { own = record { handle = handle; discipline = d; held = held; since = since; filters = filters }; memory = tt; below = below }

    abbrev ways : List Route
    ways = each (λ own below. way p own below own.discipline) below

    -- at the end of the path
    fifo-puts : (held : Option Descriptor) (limit : Limit) (queue : List Stamped) → IsLawfulRoot mtu now (node (Fifo limit queue) held)
        → way p (node (Fifo limit queue) held).own ways (Fifo limit queue) ≡ ends
        → IsPutLast (most_bytes mtu limit) p (line (node (Fifo limit queue) held)) (line (put_here now p None (node (Fifo limit queue) held)).node)
    fifo-puts (Some q) limit queue h e = absurd (h.0.held refl)
    fifo-puts None limit queue h e = by (takes limit queue p.len) refl e
      where
        by : (t : Bool) → takes limit queue p.len ≡ t → (if t then ends else refused OverLimit) ≡ ends
            → IsPutLast (most_bytes mtu limit) p (line (node (Fifo limit queue) None)) (line (put_here now p None (node (Fifo limit queue) None)).node)
        by false is e = absurd (none-some OverLimit (sym (ap (λ (r : Route). r.refusal) e)))
        by true is e =
            let packet : Stamped = record { packet = p; at = now } in
            let own : Own = record (node (Fifo limit queue) None).own { discipline = Fifo limit (queue ++ packet ∷ []) } in
            record {
              last = line-worked own (put_here now p None (node (Fifo limit queue) None)).node.memory (map quiet (nodes_in below)) ∙ map-append (λ (s : Stamped). s.packet) queue (packet ∷ []);
              within =
                  taken-within limit queue (All-front (λ (q : Descriptor). IsWithin 1 mtu q.len) (packets_of queue)
                  (flat_map (λ (ps : List Descriptor). ps) (each beneath_own below)) h.0.lengths) is;
            }

    here-puts : (held : Option Descriptor) (d : Discipline) (limit : Limit) → limit_of d ≡ Some limit → IsLawfulRoot mtu now (node d held) → way p (node d held).own ways d ≡ ends
        → IsPutLast (most_bytes mtu limit) p (line (node d held)) (line (put_here now p None (node d held)).node)
    here-puts held (Fifo most queue) limit is h e =
        subst (λ (l : Limit). IsPutLast (most_bytes mtu l) p (line (node (Fifo most queue) held)) (line (put_here now p None (node (Fifo most queue) held)).node)) (same_Some most limit is)
        (fifo-puts held most queue h e)
    here-puts held (Prio priomap) limit is h e = absurd (none-some limit is)
    here-puts held (Tbf b most) limit is h e = absurd (none-some limit is)
    here-puts held (Drr s) limit is h e = absurd (none-some limit is)
    here-puts held (FqCodel s) limit is h e = absurd (none-some limit is)

    -- in the first band of a prio
    prio-puts : (bytes : ℕ) (path : List ℕ) (held : Option Descriptor) (d : Discipline) (c : Shape) → is_prio d ≡ true → slice_get (nodes_in below) 0 ≡ Some c → IsLawfulRoot mtu now (node d held)
        → IsPutLast bytes p (line c) (line (put_along now p None path c).node)
        → IsPutLast bytes p (line (node d held)) (line (put_beneath p 0 (node d held) (put_along now p None path c)).node)
    prio-puts bytes path (Some q) (Prio priomap) c is there h on = absurd (h.0.held refl)
    prio-puts bytes path None (Prio priomap) c is there h on =
        let m : Worked = (put_along now p None path c).node in
        let s : Shape = node (Prio priomap) None in
        let before : line s ≡ line c = first-line s c there in
        record {
          last = line-worked s.own (put_beneath p 0 s (put_along now p None path c)).node.memory (set (map quiet (nodes_in below)) 0 m) ∙ set-line (nodes_in below) c m there ∙ on.last
              ∙ ap (λ (xs : List Descriptor). xs ++ p ∷ []) (sym before);
          within = subst (λ (xs : List Descriptor). bytes_in xs + p.len ≤ bytes) (sym before) on.within;
        }
    prio-puts bytes path held (Fifo limit queue) c is there h on = absurd (false≢true is)
    prio-puts bytes path held (Tbf b limit) c is there h on = absurd (false≢true is)
    prio-puts bytes path held (Drr s) c is there h on = absurd (false≢true is)
    prio-puts bytes path held (FqCodel s) c is there h on = absurd (false≢true is)

  pub lane-puts : (path : List ℕ) (s : Shape) (limit : Limit) → IsLawfulRoot mtu now s → limit_along path s ≡ Some limit → route p s ≡ record { path = path; refusal = None }
      → IsPutLast (most_bytes mtu limit) p (line s) (line (put_along now p None path s).node)
  lane-puts [] s limit h is e = here-puts s.own.handle s.own.filters s.own.since s.below s.own.held s.own.discipline limit is h e
  lane-puts (i ∷ path) s limit h is e = along (is-first i path s limit is) (route-goes p s i path None e) (λ c law rest goes. lane-puts path c limit law rest goes)
    where
      along : IsFirst i path s limit → IsOn p s i path None
          → ((c : Shape) → IsLawfulRoot mtu now c → limit_along path c ≡ Some limit → route p c ≡ record { path = path; refusal = None }
          → IsPutLast (most_bytes mtu limit) p (line c) (line (put_along now p None path c).node))
          → IsPutLast (most_bytes mtu limit) p (line s) (line (put_along now p None (i ∷ path) s).node)
      along f on beneath =
          let there : slice_get (children s) 0 ≡ Some on.child = subst (λ (k : ℕ). slice_get (children s) k ≡ Some on.child) f.first on.there in
          let rest : limit_along path on.child ≡ Some limit = sym (ap (option_and_then (limit_along path)) on.there) ∙ f.rest in
          let put = beneath on.child (child-lawful mtu now s.below i on.child h.1 on.there) rest on.way in
          subst (λ (o : Option Shape). IsPutLast (most_bytes mtu limit) p (line s)
          (line (option_map_or (λ (child : Shape). put_beneath p i s (put_along now p None path child)) o (put_here now p None s)).node))
          (sym on.there)
          (subst (λ (k : ℕ). IsPutLast (most_bytes mtu limit) p (line s) (line (put_beneath p k s (put_along now p None path on.child)).node)) (sym f.first)
          (prio-puts s.own.handle s.own.filters s.own.since s.below (most_bytes mtu limit) path s.own.held s.own.discipline on.child f.prio there h put))

  -- beneath a tbf that holds no packet
  pub link-puts : (path : List ℕ) (s : Shape) (b : TokenBucket) (most : ℕ) (limit : Limit) (c : Shape) → IsLawfulRoot mtu now s → s.own.discipline ≡ Tbf b most → s.own.held ≡ None
      → slice_get (children s) 0 ≡ Some c → limit_along path c ≡ Some limit → route p s ≡ record { path = 0 ∷ path; refusal = None }
      → IsPutLast (most_bytes mtu limit) p (line s) (line (put_along now p None (0 ∷ path) s).node)
  link-puts path s b most limit c h is none there rest e = along (route-goes p s 0 path None e)
    where
      before : line s ≡ line c
      before =
          ap (λ (d : Discipline). option_to_list s.own.held ++ line_in d (each line_own s.below)) is
          ∙ ap (λ (o : Option Descriptor). option_to_list o ++ unwrap_or (slice_get (each line_own s.below) 0) []) none ∙ first-line s c there

      beneath : IsPutLast (most_bytes mtu limit) p (line c) (line (put_along now p None path c).node)
          → IsPutLast (most_bytes mtu limit) p (line s) (line (put_beneath p 0 s (put_along now p None path c)).node)
      beneath on =
          let m : Worked = (put_along now p None path c).node in
          let lines : List (List Descriptor) = map line (set (map quiet (children s)) 0 m) in
          let own : Own = record s.own { discipline = settled_in 0 (is_empty m) s.own.discipline } in
          record {
            last = line-worked own (put_beneath p 0 s (put_along now p None path c)).node.memory (set (map quiet (children s)) 0 m)
                ∙ ap (λ (d : Discipline). option_to_list s.own.held ++ line_in (settled_in 0 (is_empty m) d) lines) is
                ∙ ap (λ (o : Option Descriptor). option_to_list o ++ unwrap_or (slice_get lines 0) []) none
                ∙ set-line (children s) c m there ∙ on.last ∙ ap (λ (xs : List Descriptor). xs ++ p ∷ []) (sym before);
            within = subst (λ (xs : List Descriptor). bytes_in xs + p.len ≤ most_bytes mtu limit) (sym before) on.within;
          }

      along : IsOn p s 0 path None → IsPutLast (most_bytes mtu limit) p (line s) (line (put_along now p None (0 ∷ path) s).node)
      along on =
          let same : on.child ≡ c = same_Some on.child c (sym on.there ∙ there) in
          let goes : route p c ≡ record { path = path; refusal = None } = ap (λ (x : Shape). route p x) (sym same) ∙ on.way in
          let put = lane-puts path c limit (child-lawful mtu now s.below 0 c h.1 there) rest goes in
          subst (λ (o : Option Shape). IsPutLast (most_bytes mtu limit) p (line s)
          (line (option_map_or (λ (child : Shape). put_beneath p 0 s (put_along now p None path child)) o (put_here now p None s)).node))
          (sym there) (beneath put)
