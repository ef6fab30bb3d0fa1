-- The most packets of a node, child by child, and that what is queued in a lawful tree is never more.
use Rattle.std.proofs.Common.{◌≡◌, ℕ, ◌+◌, ◌<◌, ◌≤◌, ◌∙◌, List, [], ◌∷◌, ◌++◌, drop, length, map, refl, sym, ap, flat_map, option_to_list, Option, Some, None, arith}
use Rattle.std.specs.Prelude.{slice_index_or, IsSome}
use Rattle.std.specs.List.{sum}
use Rattle.std.proofs.lemmas.List.{drop_more, drop_all, length-append, length-map}
use Rattle.std.proofs.lemmas.List.Sums.{sum_by-cons}
use Rattle.q_packet.specs.Descriptor.{Descriptor}
use Rattle.q_packet.specs.declared.stamped.Stamped.{Stamped}
use Rattle.q_fqcodel.specs.FqState.{all_packets}
use Rattle.q_model.specs.Beneath.{packets_in, beneath_own, beneath}
use Rattle.q_model.specs.Lawful.{CanHold, IsLawfulOwn}
use Rattle.q_model.specs.Node.{Discipline, Fifo, Prio, Tbf, Drr, FqCodel, Own, Forest, none, more, Node, children, each}
use Rattle.q_invariants.specs.Kept.{AllLawful, IsLawfulRoot}
use Rattle.q_invariants.proofs.tree.Forests.{each-nodes}
use Rattle.q_tree.specs.answers.MostPackets.{most_queued, most_held, most_own, most_packets}
use Rattle.q_tree.specs.Kept.{Kept}
use Rattle.q_tree.proofs.disciplines.FlowCounts.{count-sum, packets-all}

-- ---- child by child

-- what the nodes from this place on can hold
abbrev pub most_from : ℕ → List (Node Kept) → ℕ
most_from i ns = sum (map most_packets (drop i ns))

pub most-all : (n : Node Kept) (ns : List (Node Kept)) → ns ≡ children n → most_packets n ≡ most_queued n.own.discipline + most_held n.own.discipline + most_from 0 ns
most-all n ns is =
    ap (λ ks. most_own n.own ks) (each-nodes most_own n.below) ∙ ap (λ xs. most_queued n.own.discipline + most_held n.own.discipline + sum (map most_packets xs)) (sym is)

module _ (ns : List (Node Kept)) (i : ℕ) where
  pub most-next : (n : Node Kept) → i < length ns → n ≡ slice_index_or ns i n → most_from i ns ≡ most_packets n + most_from (i + 1) ns
  most-next n inside is =
      ap (λ xs. sum (map most_packets xs)) (drop_more ns i n inside ∙ ap (λ x. x ∷ drop (i + 1) ns) (sym is))
      ∙ sum_by-cons (λ k. k) (most_packets n) (map most_packets (drop (i + 1) ns))

  pub most-end : length ns ≤ i → most_from i ns ≡ 0
  most-end past = ap (λ xs. sum (map most_packets xs)) (drop_all i ns past)

-- ---- what is queued is no more

held-within : (held : Option Descriptor) (d : Discipline) → (IsSome held → CanHold d) → length (option_to_list held) ≤ most_held d
held-within None d h = omega arith
held-within (Some p) d h = by d (h refl)
  where
    by : (d : Discipline) → CanHold d → 1 ≤ most_held d
    by (Tbf bucket limit) can = omega arith
    by (Drr s) can = omega arith
    by (FqCodel s) can = omega arith
    by (Fifo limit queue) can = absurd can
    by (Prio priomap) can = absurd can

queued-within : (d : Discipline) → length (packets_in d) ≤ most_queued d
queued-within (Fifo limit queue) = omega (arith, length-map queue (λ (s : Stamped). s.packet))
queued-within (FqCodel s) = omega (arith, length-map (all_packets s.flows) (λ (x : Stamped). x.packet), count-sum (all_packets s.flows), packets-all s.flows)
queued-within (Prio priomap) = omega arith
queued-within (Tbf bucket limit) = omega arith
queued-within (Drr s) = omega arith

-- the packets below, summed
beneath-summed : (below : List (List Descriptor)) → length (flat_map (λ (packets : List Descriptor). packets) below) ≡ sum (map length below)
beneath-summed [] = refl
beneath-summed (packets ∷ below) = omega (
  arith,
  length-append packets (flat_map (λ (packets : List Descriptor). packets) below),
  beneath-summed below,
  sum_by-cons (λ k. k) (length packets) (map length below),
)

own-within : (mtu clock : ℕ) (own : Own) (below : List (List Descriptor)) → IsLawfulOwn mtu clock own below → length (beneath_own own below) ≤ most_own own (map length below)
own-within mtu clock own below lawful =
    let rest : List Descriptor = flat_map (λ (packets : List Descriptor). packets) below in
    omega (
      arith,
      length-append (option_to_list own.held ++ packets_in own.discipline) rest,
      length-append (option_to_list own.held) (packets_in own.discipline),
      held-within own.held own.discipline lawful.held,
      queued-within own.discipline,
      beneath-summed below,
    )

forest-within : {M : Type 0} (mtu clock : ℕ) (x : Forest M) → AllLawful mtu clock x → sum (map length (each beneath_own x)) ≤ sum (each most_own x)
forest-within mtu clock none lawful = omega arith
forest-within mtu clock (more own m below others) lawful = omega (
  arith,
  own-within mtu clock own (each beneath_own below) lawful.0,
  forest-within mtu clock below lawful.1,
  forest-within mtu clock others lawful.2,
  sum_by-cons (λ k. k) (length (beneath_own own (each beneath_own below))) (map length (each beneath_own others)),
  sum_by-cons (λ k. k) (most_own own (each most_own below)) (each most_own others),
)

pub queued-within-most : {M : Type 0} (mtu clock : ℕ) (n : Node M) → IsLawfulRoot mtu clock n → length (beneath n) ≤ most_packets n
queued-within-most mtu clock n lawful = omega (arith, own-within mtu clock n.own (each beneath_own n.below) lawful.0, forest-within mtu clock n.below lawful.1)
