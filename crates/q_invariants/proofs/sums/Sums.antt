-- The packets of a node and its children, weighed part by part.
use Rattle.std.proofs.Common.{◌≡◌, ℕ, ◌+◌, List, [], ◌∷◌, ◌++◌, map, arith}
use Rattle.std.specs.List.{flat_map}
use Rattle.std.specs.Option.{option_to_list}
use Rattle.q_packet.specs.Descriptor.{Descriptor}
use Rattle.q_model.specs.Node.{Own}
use Rattle.q_model.specs.Beneath.{packets_in, beneath}
use Rattle.q_model.specs.Conserved.{held_beneath}
use Rattle.q_model.specs.Work.{Worked}
use Rattle.q_model.specs.Ask.{Asked, befores}
use Rattle.q_invariants.specs.Kept.{AreLawful}
use Rattle.q_invariants.specs.Weights.{weigh}
use Rattle.q_invariants.proofs.ask.Answer.{AreAnswers, waiting, holds}
use Rattle.q_invariants.proofs.sums.Weights.{weigh-nil, weigh-append}
use Rattle.q_invariants.proofs.tree.Forests.{AreTold}

-- a sum over nodes
abbrev pub total : {A : Type 0} → (A → ℕ) → List A → ℕ
total f [] = 0
total f (a ∷ rest) = f a + total f rest

pub weigh-flat : {A : Type 0} (w : Descriptor → ℕ) (f : A → List Descriptor) (ns : List A) → weigh w (flat_map (λ packets. packets) (map f ns)) ≡ total (λ n. weigh w (f n)) ns
weigh-flat w f [] = weigh-nil w
weigh-flat w f (n ∷ ns) = omega (arith, weigh-append w (f n) (flat_map (λ packets. packets) (map f ns)), weigh-flat w f ns)

abbrev pub in_children : (Descriptor → ℕ) → List Worked → ℕ
in_children w ns = total (λ (n : Worked). weigh w (beneath n)) ns

abbrev pub held_in_children : (Descriptor → ℕ) → List Worked → ℕ
held_in_children w ns = total (λ (n : Worked). weigh w (held_beneath n)) ns

pub weigh-waiting : (w : Descriptor → ℕ) (own : Own) (ns : List Worked) → weigh w (waiting own ns) ≡ weigh w (option_to_list own.held) + weigh w (packets_in own.discipline) + in_children w ns
weigh-waiting w own ns =
    omega (
      arith,
      weigh-append w (option_to_list own.held ++ packets_in own.discipline) (flat_map (λ packets. packets) (map beneath ns)),
      weigh-append w (option_to_list own.held) (packets_in own.discipline),
      weigh-flat w beneath ns,
    )

pub weigh-holds : (w : Descriptor → ℕ) (own : Own) (ns : List Worked) → weigh w (holds own ns) ≡ weigh w (option_to_list own.held) + held_in_children w ns
weigh-holds w own ns = omega (arith, weigh-append w (option_to_list own.held) (flat_map (λ packets. packets) (map held_beneath ns)), weigh-flat w held_beneath ns)

-- the children before they were asked
pub befores-lawful : (mtu now : ℕ) (below : List Asked) → AreAnswers mtu now below → AreLawful mtu now (befores below)
befores-lawful mtu now [] h = tt
befores-lawful mtu now (a ∷ below) h = (h.0.lawful_before, befores-lawful mtu now below h.1)

pub befores-told : (mtu now : ℕ) (below : List Asked) → AreAnswers mtu now below → AreTold (befores below) (befores below)
befores-told mtu now [] h = tt
befores-told mtu now (a ∷ below) h = (h.0.told_before, befores-told mtu now below h.1)
