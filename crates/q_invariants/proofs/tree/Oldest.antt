-- The packet in front of a queue that was stamped in order is the oldest, and so are the first ones of the flows together.
use Rattle.std.proofs.Common.{◌≡◌, ℕ, ◌≤◌, ◌∙◌, List, [], ◌∷◌, ◌++◌, map, refl, sym, ap, ap₂, Option, Some, None, option_map, arith}
use Rattle.std.specs.Prelude.{All, min}
use Rattle.std.specs.List.{flat_map}
use Rattle.std.specs.Option.{option_to_list}
use Rattle.std.proofs.lemmas.List.{append_assoc, append-nil, map-append}
use Rattle.std.proofs.lemmas.List.Elements.{All-head, All-tail}
use Rattle.q_packet.specs.Descriptor.{Descriptor}
use Rattle.q_packet.specs.declared.stamped.Stamped.{Stamped}
use Rattle.q_fqcodel.specs.FqState.{Flow, all_packets}
use Rattle.q_fqcodel.specs.Oldest.{earlier, earliest, first_arrival, first_arrivals}
use Rattle.q_fqcodel.proofs.OldestLemmas.{earlier_assoc, earliest-append, earliest-one}
use Rattle.q_model.specs.Node.{Own}
use Rattle.q_model.specs.Oldest.{arrivals_in, arrival_held, oldest_own}
use Rattle.q_model.specs.Lawful.{AreInOrder, IsStampedBy}

abbrev arrivals : List Stamped → List ℕ
arrivals queue = map (λ (s : Stamped). s.at) queue

-- none is earlier than a time that is at most each of them
least-first : (t : ℕ) (queue : List Stamped) → All (λ (s : Stamped). t ≤ s.at) queue → earlier (Some t) (earliest (arrivals queue)) ≡ Some t
least-first t [] h = refl
least-first t (s ∷ queue) h =
    sym (earlier_assoc (Some t) (Some s.at) (earliest (arrivals queue)))
    ∙ ap (λ (n : ℕ). earlier (Some n) (earliest (arrivals queue))) (least t s.at (All-head (λ (s : Stamped). t ≤ s.at) s queue h))
    ∙ least-first t queue (All-tail (λ (s : Stamped). t ≤ s.at) s queue h)
  where
    least : (a b : ℕ) → a ≤ b → min a b ≡ a
    least a b e = omega (arith, e)

pub first-oldest : (queue : List Stamped) → AreInOrder queue → first_arrival queue ≡ earliest (arrivals queue)
first-oldest [] h = refl
first-oldest (s ∷ queue) h = sym (least-first s.at queue h.0)

-- the flows of an fq_codel
pub flows-oldest : (clock : ℕ) (flows : List Flow) → All (λ (f : Flow). IsStampedBy clock f.queue) flows → earliest (first_arrivals flows) ≡ earliest (arrivals (all_packets flows))
unfolding all_packets
flows-oldest clock [] h = refl
flows-oldest clock (f ∷ flows) h =
    let P : Flow → Type 0 = λ f. IsStampedBy clock f.queue in
    earliest-append (option_to_list (first_arrival f.queue)) (first_arrivals flows)
    ∙ ap₂ earlier (earliest-one (first_arrival f.queue) ∙ first-oldest f.queue (All-head P f flows h).in_order) (flows-oldest clock flows (All-tail P f flows h))
    ∙ sym (earliest-append (arrivals f.queue) (arrivals (all_packets flows)))
    ∙ ap earliest (sym (map-append (λ (s : Stamped). s.at) f.queue (all_packets flows)))

-- at a node: what it holds, and then the others
pub own-oldest : (own : Own) (below : List (Option ℕ))
    → oldest_own own below ≡ earlier (arrival_held own) (earliest (arrivals_in own.discipline ++ flat_map (λ (o : Option ℕ). option_to_list o) below))
own-oldest own below =
    ap earliest (append_assoc (option_to_list (arrival_held own)) (arrivals_in own.discipline) (flat_map (λ (o : Option ℕ). option_to_list o) below))
    ∙ earliest-append (option_to_list (arrival_held own)) (arrivals_in own.discipline ++ flat_map (λ (o : Option ℕ). option_to_list o) below)
    ∙ ap (λ (o : Option ℕ). earlier o (earliest (arrivals_in own.discipline ++ flat_map (λ (o : Option ℕ). option_to_list o) below))) (earliest-one (arrival_held own))
