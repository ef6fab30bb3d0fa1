-- Wherever a packet is put, the tree can hold no more than before.
use Rattle.std.proofs.Common.{◌≡◌, ℕ, ◌≤◌, ◌<◌, ◌∙◌, List, [], ◌∷◌, ◌++◌, map, set, refl, sym, ap, ap₂, subst, Option, Some, None, flat_map, option_to_list, option_map, arith}
use Rattle.std.specs.Prelude.{Bool, true, false, max, All, slice_get, if◌then◌else◌}
use Rattle.std.specs.List.{sum}
use Rattle.std.specs.Option.{option_map_or}
use Rattle.std.proofs.lemmas.Nat.{mod_below}
use Rattle.std.proofs.lemmas.List.{map-append}
use Rattle.std.proofs.lemmas.List.Elements.{All-nil, All-cons, All-head, All-tail}
use Rattle.std.proofs.lemmas.Option.{none-some, slice_get-map}
use Rattle.q_packet.specs.Descriptor.{Descriptor}
use Rattle.q_packet.specs.declared.cause.Cause.{Cause}
use Rattle.q_packet.specs.declared.cause.Cause.TheVariants.{OverLimit}
use Rattle.q_packet.specs.declared.stamped.Stamped.{Stamped}
use Rattle.q_codel.specs.FifoState.{takes}
use Rattle.q_fqcodel.specs.FqState.{Flow, FqState, all_packets}
use Rattle.q_fqcodel.specs.FqState as fq_codel
use Rattle.q_fqcodel.specs.Laws.{HasBytes}
use Rattle.q_fqcodel.specs.Put.{flow_of, after_put}
use Rattle.q_fqcodel.proofs.LawLemmas.{all_packets-cons}
use Rattle.q_invariants.specs.Kept.{IsLawfulRoot}
use Rattle.q_invariants.proofs.sums.Lengths.{HasLength}
use Rattle.q_invariants.proofs.tree.Members.{All-front, All-back}
use Rattle.q_invariants.proofs.tree.Quiet.{child-lawful}
use Rattle.q_invariants.proofs.tree.Ways.{route-goes}
use Rattle.q_model.specs.Beneath.{packets_of, packets_in, beneath_own, is_empty}
use Rattle.q_model.specs.Lawful.{IsLawfulDiscipline, IsLawfulFqCodel, IsLawfulOwn}
use Rattle.q_model.specs.Node.{Discipline, Fifo, Prio, Tbf, Drr, FqCodel, Own, Forest, none, more, Shape, nodes_in, children, each}
use Rattle.q_model.specs.Numbers.{IsWithin}
use Rattle.q_model.specs.Put.{queued_in, put_here, put_beneath, put_along}
use Rattle.q_model.specs.Route.{Route, ends, refused, way, route}
use Rattle.q_model.specs.Work.{Work, quiet, settled_in}
use Rattle.q_model.proofs.ShrinkLemmas.{each-each_memory}
use Rattle.q_tree.specs.answers.MostPackets.{most_own, most_packets}
use Rattle.q_tree.proofs.answers.MostPacketsAsks.{most_in, most-worked, less-same, less-summed, less-set}
use Rattle.q_tree.proofs.answers.MostPacketsQueues.{fifo-put-least, fq-put-least}

-- ---- what is quiet can hold as much

pub most-quiet : (s : Shape) → most_packets (quiet s) ≡ most_packets s
most-quiet s = ap (most_own s.own) (each-each_memory most_own (λ u. []) s.below)

most-quiets : (x : Forest (Unit {0})) → map most_packets (map quiet (nodes_in x)) ≡ each most_own x
most-quiets none = refl
most-quiets (more own m below others) = ap₂ (λ a b. most_own own a ∷ b) (each-each_memory most_own (λ u. []) below) (most-quiets others)

-- ---- every packet of a queue has a byte

queue-bytes : (mtu : ℕ) (queue : List Stamped) → All (HasLength mtu) (packets_of queue) → All (λ (x : Stamped). 1 ≤ x.packet.len) queue
queue-bytes mtu [] h = All-nil (λ (x : Stamped). 1 ≤ x.packet.len)
queue-bytes mtu (x ∷ queue) h = All-cons (λ (x : Stamped). 1 ≤ x.packet.len) x queue (All-head (HasLength mtu) x.packet (packets_of queue) h).0
    (queue-bytes mtu queue (All-tail (HasLength mtu) x.packet (packets_of queue) h))

flows-bytes : (mtu : ℕ) (flows : List Flow) → All (HasLength mtu) (packets_of (all_packets flows)) → All HasBytes flows
flows-bytes mtu [] h = All-nil HasBytes
flows-bytes mtu (f ∷ flows) h =
    let bare = λ (x : Stamped). x.packet in
    let parts : All (HasLength mtu) (packets_of f.queue ++ packets_of (all_packets flows)) =
    subst (All (HasLength mtu)) (ap packets_of (all_packets-cons f flows) ∙ map-append bare f.queue (all_packets flows)) h in
    All-cons HasBytes f flows (queue-bytes mtu f.queue (All-front (HasLength mtu) (packets_of f.queue) (packets_of (all_packets flows)) parts))
    (flows-bytes mtu flows (All-back (HasLength mtu) (packets_of f.queue) (packets_of (all_packets flows)) parts))

-- those of the discipline's own lists, among all that is queued
own-lengths : (mtu now : ℕ) (own : Own) (below : List (List Descriptor)) → IsLawfulOwn mtu now own below → All (HasLength mtu) (packets_in own.discipline)
own-lengths mtu now own below h =
    All-back (HasLength mtu) (option_to_list own.held) (packets_in own.discipline)
    (All-front (HasLength mtu) (option_to_list own.held ++ packets_in own.discipline) (flat_map (λ (packets : List Descriptor). packets) below) h.lengths)

-- ---- where the way ends

refused-ends : (cause : Cause) → refused cause ≡ ends → ⊥
refused-ends cause e = none-some cause (sym (ap (λ (r : Route). r.refusal) e))

module _ (mtu now : ℕ) (p : Descriptor) (fits : IsWithin 1 mtu p.len) where
  fifo-takes : (b : Bool) → (if b then ends else refused OverLimit) ≡ ends → b ≡ true
  fifo-takes true e = refl
  fifo-takes false e = absurd (refused-ends OverLimit e)

  queued-least : (own : Own) (below : List (List Descriptor)) (routes : List Route) (d : Discipline) → own.discipline ≡ d → way p own routes d ≡ ends
      → IsLawfulOwn mtu now own below → most_in (queued_in p now d) ≤ most_in d
  queued-least own below routes (Fifo limit queue) is e h =
      let bytes : All (λ (x : Stamped). 1 ≤ x.packet.len) queue = queue-bytes mtu queue (subst (λ (x : Discipline). All (HasLength mtu) (packets_in x)) is (own-lengths mtu now own below h)) in
      omega (arith, fifo-put-least limit queue (record { packet = p; at = now }) fits.0 bytes (fifo-takes (takes limit queue p.len) e))
  queued-least own below routes (FqCodel s) is e h =
      omega (
        arith,
        flows-least s (subst (λ (x : Discipline). IsLawfulDiscipline mtu now below x) is h.discipline)
            (subst (λ (x : Discipline). All (HasLength mtu) (packets_in x)) is (own-lengths mtu now own below h)),
      )
    where
      flows-least : (s : FqState) → IsLawfulFqCodel mtu now s below → All (HasLength mtu) (packets_of (all_packets s.flows))
          → max (after_put s p now).settings.limit (fq_codel.packets_of (after_put s p now).flows) ≤ max s.settings.limit (fq_codel.packets_of s.flows)
      flows-least s law lengths =
          fq-put-least s p now (subst (λ n. flow_of s p < n) (sym law.lists.each_flow)
          (mod_below p.hash s.settings.flows (omega (arith, law.settings.flows_low)))) law.settings (flows-bytes mtu s.flows lengths) fits.0
  queued-least own below routes (Prio priomap) is e h = omega arith
  queued-least own below routes (Tbf b limit) is e h = omega arith
  queued-least own below routes (Drr s) is e h = omega arith

  -- ---- along the way

  settled-most : (i : ℕ) (empty : Bool) (d : Discipline) → most_in (settled_in i empty d) ≡ most_in d
  settled-most i empty (Fifo limit queue) = refl
  settled-most i empty (Prio priomap) = refl
  settled-most i empty (Tbf b limit) = refl
  settled-most i empty (Drr s) = refl
  settled-most i empty (FqCodel s) = refl

  here-least : (refusal : Option Cause) (s : Shape) → route p s ≡ record { path = []; refusal = refusal } → IsLawfulRoot mtu now s → most_packets (put_here now p refusal s).node ≤ most_packets s
  here-least (Some cause) s e h =
      omega (arith, most-worked s.own (put_here now p (Some cause) s).node.memory (map quiet (children s)), ap sum (most-quiets s.below))
  here-least None s e h = omega (
    arith,
    most-worked (put_here now p None s).node.own (put_here now p None s).node.memory (map quiet (children s)),
    ap sum (most-quiets s.below),
    queued-least s.own (each beneath_own s.below) (each (λ own below. way p own below own.discipline) s.below) s.own.discipline refl e h.0,
  )

  beneath-least : (i : ℕ) (s : Shape) (c : Shape) (w : Work) → slice_get (children s) i ≡ Some c → most_packets w.node ≤ most_packets c → most_packets (put_beneath p i s w).node ≤ most_packets s
  beneath-least i s c w there less = omega (
    arith,
    most-worked (put_beneath p i s w).node.own (put_beneath p i s w).node.memory (set (map quiet (children s)) i w.node),
    settled-most i (is_empty w.node) s.own.discipline,
    less-summed (set (map quiet (children s)) i w.node) (map quiet (children s))
        (less-set (map quiet (children s)) (map quiet (children s)) i w.node (quiet c) (less-same (map quiet (children s)))
        (slice_get-map quiet (children s) i ∙ ap (option_map quiet) there) (omega (arith, less, most-quiet c))),
    ap sum (most-quiets s.below),
  )

  pub along-least : (path : List ℕ) (refusal : Option Cause) (s : Shape) → route p s ≡ record { path = path; refusal = refusal }
      → IsLawfulRoot mtu now s → most_packets (put_along now p refusal path s).node ≤ most_packets s
  along-least [] refusal s e h = here-least refusal s e h
  along-least (i ∷ path) refusal s e h =
      let on = route-goes p s i path refusal e in
      let below = along-least path refusal on.child on.way (child-lawful mtu now s.below i on.child h.1 on.there) in
      subst (λ (o : Option Shape). most_packets
      (option_map_or (λ (child : Shape). put_beneath p i s (put_along now p refusal path child)) o (put_here now p refusal s)).node
      ≤ most_packets s) (sym on.there)
      (beneath-least i s on.child (put_along now p refusal path on.child) on.there below)
