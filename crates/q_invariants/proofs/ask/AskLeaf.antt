-- A node that holds a packet, and a fifo: they show what they have at hand.
use Rattle.std.proofs.Common.{◌≡◌, ℕ, ◌+◌, ◌≤◌, List, [], ◌∷◌, ◌++◌, map, drop, refl, ap, subst, Option, Some, None, arith}
use Rattle.std.specs.Prelude.{All, slice_get}
use Rattle.std.specs.List.{flat_map}
use Rattle.std.specs.Option.{option_to_list}
use Rattle.std.proofs.lemmas.Bool.{false≢true}
use Rattle.std.proofs.lemmas.List.Elements.{All-tail, All-drop}
use Rattle.q_packet.specs.Descriptor.{Descriptor}
use Rattle.q_packet.specs.declared.stamped.Stamped.{Stamped}
use Rattle.q_codel.specs.declared.limit.Limit.{Limit}
use Rattle.q_model.specs.declared.filter.Filter.{Filter}
use Rattle.q_model.specs.Node.{Fifo, Own}
use Rattle.q_model.specs.Beneath.{packets_of, packets_in, beneath}
use Rattle.q_model.specs.Lawful.{IsLawfulOwn}
use Rattle.q_model.specs.Ask.{Asked, befores, holding, ask_fifo}
use Rattle.q_invariants.specs.Weights.{weigh}
use Rattle.q_invariants.proofs.ask.Answer.{IsAnswer, AreAnswers, IsAsked, waiting, holds, is-shown}
use Rattle.q_invariants.proofs.sums.Lengths.{HasLength, lengths-among}
use Rattle.q_invariants.proofs.sums.Sums.{weigh-waiting, weigh-holds, befores-lawful, befores-told}
use Rattle.q_invariants.proofs.sums.Weights.{weigh-nil, weigh-cons, weigh-one, quiet-nil, lost-nil, marked-nil}
use Rattle.q_invariants.proofs.tree.Stamps.{stamped-drop}

-- a node that shows what it has at hand, and asks no child
asked_at_hand : (mtu now : ℕ) (own after : Own) (below : List Asked) (packet : Option Descriptor) → after.handle ≡ own.handle → AreAnswers mtu now below
    → IsLawfulOwn mtu now own (map beneath (befores below)) → IsLawfulOwn mtu now after (map beneath (befores below))
    → ((w : Descriptor → ℕ) → weigh w (waiting own (befores below)) ≡ weigh w (option_to_list packet) + weigh w (waiting after (befores below)))
    → ((w : Descriptor → ℕ) → weigh w (holds own (befores below)) ≤ weigh w (option_to_list packet) + weigh w (holds after (befores below)))
    → IsAsked mtu now own own after below (befores below) (befores below) [] packet
asked_at_hand mtu now own after below packet handle all lawful lawful_taken gives marks_given = record {
  handle_peeked = refl;
  handle_taken = handle;
  lawful = lawful;
  lawful_peeked = lawful;
  lawful_taken = lawful_taken;
  all_before = befores-lawful mtu now below all;
  all_peeked = befores-lawful mtu now below all;
  all_taken = befores-lawful mtu now below all;
  told_before = befores-told mtu now below all;
  told_peeked = befores-told mtu now below all;
  told_taken = befores-told mtu now below all;
  quiet = quiet-nil;
  peeks = λ w. omega (arith, lost-nil w);
  gives = gives;
  marks = λ w. omega (arith, lost-nil w, marked-nil w);
  marks_given = marks_given;
  stays = λ none. none;
}

pub holding-answers : (mtu now : ℕ) (own : Own) (below : List Asked) (p : Descriptor) → own.held ≡ Some p
    → IsLawfulOwn mtu now own (map beneath (befores below)) → AreAnswers mtu now below → IsAnswer mtu now (holding own below p)
holding-answers mtu now own below p e h all =
    let rest : List Descriptor = packets_in own.discipline ++ flat_map (λ packets. packets) (map beneath (befores below)) in
    let lengths : All (HasLength mtu) (p ∷ rest) =
    subst (λ (o : Option Descriptor). All (HasLength mtu)
    (option_to_list o ++ packets_in own.discipline ++ flat_map (λ packets. packets) (map beneath (befores below)))) e h.lengths in
    is-shown mtu now below (record {
      own = own;
      own_taken = record own { held = None; since = 0 };
      peeked = befores below;
      taken = befores below;
      notes = [];
      packet = Some p;
    }) (asked_at_hand mtu now own (record own { held = None; since = 0 }) below (Some p) refl all h (record {
      discipline = h.discipline;
      lengths = All-tail (HasLength mtu) p rest lengths;
      held = λ none. absurd (false≢true none);
      filters = h.filters;
      in_order = h.in_order;
      named = h.named;
    })
    (λ w. omega (
      arith,
      weigh-waiting w own (befores below),
      weigh-waiting w (record own { held = None; since = 0 }) (befores below),
      ap
          (λ (o : Option Descriptor). weigh w (option_to_list o)) e,
      weigh-nil w,
    ))
    (λ w. omega (
      arith,
      weigh-holds w own (befores below),
      weigh-holds w (record own { held = None; since = 0 }) (befores below),
      ap
          (λ (o : Option Descriptor). weigh w (option_to_list o)) e,
      weigh-nil w,
    )))

-- the head and the rest of a queue
pub weigh-head : (w : Descriptor → ℕ) (queue : List Stamped) → weigh w (packets_of queue) ≡ weigh w (option_to_list (slice_get (packets_of queue) 0)) + weigh w (packets_of (drop 1 queue))
weigh-head w [] = omega (arith, weigh-nil w)
weigh-head w (s ∷ queue) = omega (arith, weigh-cons w s.packet (packets_of queue), weigh-one w s.packet)

pub fifo-answers : (mtu now : ℕ) (handle : Option ℕ) (filters : List Filter) (since : ℕ) (limit : Limit) (queue : List Stamped) (below : List Asked)
    → (let own : Own = record { handle = handle; discipline = Fifo limit queue; held = None; since = since; filters = filters } in
    IsLawfulOwn mtu now own (map beneath (befores below)) → AreAnswers mtu now below → IsAnswer mtu now (ask_fifo own below limit queue))
fifo-answers mtu now handle filters since limit queue below h all =
    let own : Own = record { handle = handle; discipline = Fifo limit queue; held = None; since = since; filters = filters } in
    let after : Own = record own { discipline = Fifo limit (drop 1 queue) } in
    let shorter : (w : Descriptor → ℕ) → weigh w (waiting own (befores below)) ≡ weigh w (option_to_list (slice_get (packets_of queue) 0)) + weigh w (waiting after (befores below)) =
    λ w. omega (arith, weigh-waiting w own (befores below), weigh-waiting w after (befores below), weigh-head w queue, weigh-nil w) in
    is-shown mtu now below (record {
      own = own;
      own_taken = after;
      peeked = befores below;
      taken = befores below;
      notes = [];
      packet = slice_get (packets_of queue) 0;
    }) (asked_at_hand mtu now own after below (slice_get (packets_of queue) 0) refl all h (record {
      discipline = record { stamps = stamped-drop now 1 queue h.discipline.stamps; none = h.discipline.none };
      lengths = lengths-among mtu (waiting own (befores below)) (waiting after (befores below)) (λ w. omega (arith, shorter w)) h.lengths;
      held = λ none. absurd (false≢true none);
      filters = h.filters;
      in_order = h.in_order;
      named = h.named;
    }) shorter (λ w. omega (arith, weigh-holds w own (befores below), weigh-holds w after (befores below))))
