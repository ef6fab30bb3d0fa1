-- What is lost where a node is removed, part by part.
use Rattle.std.proofs.Common.{◌≡◌, ◌+◌, ◌<◌, ◌≤◌, ◌∙◌, List, [], ◌∷◌, ◌++◌, length, refl, sym, ap, subst, append_assoc, arith}
use Rattle.std.specs.List.{flat_map}
use Rattle.std.specs.Option.{option_to_list}
use Rattle.std.proofs.lemmas.List.{map-append, length-append, length-map}
use Rattle.q_packet.specs.Descriptor.{Descriptor}
use Rattle.q_packet.specs.declared.cause.Cause.TheVariants.{Purged}
use Rattle.q_packet.specs.declared.stamped.Stamped.{Stamped}
use Rattle.q_codel.specs.Losses.{losses_of, IsTold, SinkState, AreLost}
use Rattle.q_codel.specs.declared.loss.Loss.{Loss}
use Rattle.q_codel.proofs.SinkLemmas.{told_both}
use Rattle.q_fqcodel.specs.FqState.{Flow, all_packets, packets_of}
use Rattle.q_model.specs.Beneath.{beneath, beneath_own, packets_in}
use Rattle.q_model.specs.Beneath.{packets_of as bare}
use Rattle.q_model.specs.Node.{Node, side_by_side}
use Rattle.q_invariants.proofs.tree.Forests.{each-side}
use Rattle.q_tree.specs.arrival.PutSteps.{packets_beneath}
use Rattle.q_tree.specs.commands.Purging.{purged}
use Rattle.q_tree.specs.Kept.{Kept}
use Rattle.q_tree.specs.NodeCode.{forest_size, node_size}
use Rattle.q_tree.specs.Seen.{seen, children_seen, discipline_seen}
use Rattle.q_tree.specs.declared.node.Node.TheInside.{Inside}
use Rattle.q_tree.proofs.disciplines.FlowCounts.{packets-all, packets-bare}
use Rattle.q_tree.specs.departure.Holding.{packet_held}

-- the packets at a node and beneath it: the one that it holds, its own, and those of its children
pub own-beneath : (a : Inside) (n : Node Kept) → seen a ≡ n
    → beneath n ≡ option_to_list (packet_held a.held) ++ packets_in (discipline_seen a.discipline) ++ packets_beneath (children_seen a.discipline)
own-beneath a n view =
    ap beneath (sym view) ∙ ap (λ bs. option_to_list (packet_held a.held) ++ packets_in (discipline_seen a.discipline) ++ flat_map
    (λ packets. packets) bs) (each-side beneath_own (children_seen a.discipline))

pub own-count : (a : Inside) (n : Node Kept) → seen a ≡ n
    → length (beneath n) ≡ length (option_to_list (packet_held a.held)) +
    (length (packets_in (discipline_seen a.discipline)) + length (packets_beneath (children_seen a.discipline)))
own-count a n view =
    omega (
      arith,
      ap length (own-beneath a n view),
      length-append (option_to_list (packet_held a.held) ++ packets_in (discipline_seen a.discipline)) (packets_beneath (children_seen a.discipline)),
      length-append (option_to_list (packet_held a.held)) (packets_in (discipline_seen a.discipline)),
    )

-- the packets of an fq_codel, as it counts them
pub flows-count : (flows : List Flow) → packets_of flows ≡ length (bare (all_packets flows))
flows-count flows = omega (arith, packets-all flows, packets-bare (all_packets flows))

pub own-size : (a : Inside) (n : Node Kept) → seen a ≡ n → forest_size (side_by_side (children_seen a.discipline)) < node_size n
own-size a n view = omega (arith, ap node_size view)

-- the room that these packets have taken
pub room-taken : (ps : List Descriptor) (a b : SinkState) → IsTold (purged ps) a b → b.room + length ps ≡ a.room
room-taken ps a b h = omega (arith, h.room, length-map {B = Loss} ps (λ (p : Descriptor). record { packet = p; cause = Purged }))

-- one after another
pub told-both : (ps qs : List Descriptor) (a b c : SinkState) → IsTold (purged ps) a b → IsTold (purged qs) b c → IsTold (purged (ps ++ qs)) a c
told-both ps qs a b c h k =
    subst (λ ls. IsTold ls a c) (sym (map-append (λ (p : Descriptor). record { packet = p; cause = Purged }) ps qs)) (told_both (purged ps) (purged qs) a b c h k)

queue-purged : (queue : List Stamped) → losses_of Purged queue ≡ purged (bare queue)
queue-purged [] = refl
queue-purged (s ∷ queue) = ap (λ ls. record { packet = s.packet; cause = Purged } ∷ ls) (queue-purged queue)

-- a queue of a node's own
pub queue-told : (queue : List Stamped) (a b : SinkState) → AreLost Purged queue a b → IsTold (purged (bare queue)) a b
queue-told queue a b lost = subst (λ ls. IsTold ls a b) (queue-purged queue) lost

-- a node, whose own packets and those beneath its children these are
pub node-told : (x : Inside) (n : Node Kept) → seen x ≡ n → (ps : List Descriptor) → packets_in (discipline_seen x.discipline) ++ packets_beneath (children_seen x.discipline) ≡ ps
    → (a b c : SinkState) → IsTold (purged (option_to_list (packet_held x.held))) a b → IsTold (purged ps) b c → IsTold (purged (beneath n)) a c
node-told x n view ps is a b c h k =
    subst (λ qs. IsTold (purged qs) a c)
    (ap (λ qs. option_to_list (packet_held x.held) ++ qs) (sym is) ∙ sym
    (append_assoc (option_to_list (packet_held x.held)) (packets_in (discipline_seen x.discipline))
    (packets_beneath (children_seen x.discipline))) ∙ sym (own-beneath x n view))
    (told-both (option_to_list (packet_held x.held)) ps a b c h k)

pub beneath-split : (xs ys : List (Node Kept)) → packets_beneath (xs ++ ys) ≡ packets_beneath xs ++ packets_beneath ys
beneath-split [] ys = refl
beneath-split (x ∷ xs) ys = ap (λ ps. beneath x ++ ps) (beneath-split xs ys) ∙ sym (append_assoc (beneath x) (packets_beneath xs) (packets_beneath ys))

-- what is left is no more than all together
pub left-count : (xs : List (Node Kept)) (n : Node Kept) (rest : List (Node Kept)) → length (packets_beneath xs) + length (beneath n) ≤ length (packets_beneath (xs ++ n ∷ rest))
left-count xs n rest =
    omega (arith, ap length (beneath-split xs (n ∷ rest)), length-append (packets_beneath xs) (packets_beneath (n ∷ rest)), length-append (beneath n) (packets_beneath rest))

-- one of those that are left is smaller than all together
pub left-size : (ns : List (Node Kept)) (n : Node Kept) (rest : List (Node Kept)) → node_size n < forest_size (side_by_side (ns ++ n ∷ rest))
left-size [] n rest = omega arith
left-size (x ∷ ns) n rest = omega (arith, left-size ns n rest)
