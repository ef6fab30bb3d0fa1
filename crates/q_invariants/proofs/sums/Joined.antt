-- What the packets beneath several children weigh, and what a node has noted once packets beneath it are purged.
use Rattle.std.proofs.Common.{◌≡◌, ℕ, zero, suc, ◌+◌, ◌≤◌, List, [], ◌∷◌, ◌++◌, set, refl, ap, Some, arith}
use Rattle.std.specs.Prelude.{slice_get}
use Rattle.std.specs.List.{flat_map}
use Rattle.std.specs.Option.{option_to_list}
use Rattle.std.proofs.lemmas.Option.{none-some, same_Some}
use Rattle.q_packet.specs.Descriptor.{Descriptor}
use Rattle.q_packet.specs.declared.cause.Cause.TheVariants.{Purged}
use Rattle.q_model.specs.Tally.{Note, history, noted}
use Rattle.q_model.specs.Node.{Own}
use Rattle.q_model.specs.Beneath.{packets_in, beneath_own}
use Rattle.q_model.specs.Conserved.{held_own}
use Rattle.q_model.specs.Work.{losses_of}
use Rattle.q_invariants.specs.Kept.{AreCounted}
use Rattle.q_invariants.specs.Weights.{weigh}
use Rattle.q_invariants.proofs.sums.Told.{counted-noted}
use Rattle.q_invariants.proofs.sums.Weights.{weigh-nil, weigh-append, arrived-losses, sent-losses, lost-losses, dropped-losses, marked-losses, arrived-nil, sent-nil, lost-nil, marked-nil}

abbrev pub joined : List (List Descriptor) → List Descriptor
joined below = flat_map (λ packets. packets) below

module _ (w : Descriptor → ℕ) where
  pub weigh-joined-cons : (ps : List Descriptor) (below : List (List Descriptor)) → weigh w (joined (ps ∷ below)) ≡ weigh w ps + weigh w (joined below)
  weigh-joined-cons ps below = weigh-append w ps (joined below)

  pub weigh-joined-append : (xs ys : List (List Descriptor)) → weigh w (joined (xs ++ ys)) ≡ weigh w (joined xs) + weigh w (joined ys)
  weigh-joined-append [] ys = omega (arith, weigh-nil w)
  weigh-joined-append (ps ∷ xs) ys = omega (arith, weigh-joined-cons ps (xs ++ ys), weigh-joined-append xs ys, weigh-joined-cons ps xs)

  -- one of them changed
  pub weigh-joined-set : (below : List (List Descriptor)) (i : ℕ) (old new : List Descriptor) → slice_get below i ≡ Some old
      → weigh w (joined (set below i new)) + weigh w old ≡ weigh w (joined below) + weigh w new
  weigh-joined-set [] i old new e = absurd (none-some old e)
  weigh-joined-set (ps ∷ below) zero old new e =
      omega (arith, weigh-joined-cons ps below, weigh-joined-cons new below, ap (weigh w) (same_Some ps old e))
  weigh-joined-set (ps ∷ below) (suc i) old new e =
      omega (arith, weigh-joined-cons ps below, weigh-joined-cons ps (set below i new), weigh-joined-set below i old new e)

  pub weigh-beneath : (own : Own) (below : List (List Descriptor))
      → weigh w (beneath_own own below) ≡ weigh w (option_to_list own.held) + weigh w (packets_in own.discipline) + weigh w (joined below)
  weigh-beneath own below =
      omega (arith, weigh-append w (option_to_list own.held ++ packets_in own.discipline) (joined below), weigh-append w (option_to_list own.held) (packets_in own.discipline))

  pub weigh-held : (own : Own) (below : List (List Descriptor)) → weigh w (held_own own below) ≡ weigh w (option_to_list own.held) + weigh w (joined below)
  weigh-held own below = weigh-append w (option_to_list own.held) (joined below)

-- a node that notes what was purged
pub counted_purged : (notes : List Note) (waiting held left held_left ps : List Descriptor) → AreCounted notes waiting held
    → ((w : Descriptor → ℕ) → weigh w waiting ≡ weigh w left + weigh w ps) → ((w : Descriptor → ℕ) → weigh w held ≤ weigh w held_left + weigh w ps)
    → AreCounted (noted history notes (losses_of Purged ps)) left held_left
counted_purged notes waiting held left held_left ps h all held_all = counted-noted notes (losses_of Purged ps) waiting left held held_left h (record {
  conserved = λ w. omega (arith, all w, arrived-losses w Purged ps, sent-losses w Purged ps, lost-losses w Purged ps);
  marks = λ w. omega (arith, held_all w, marked-losses w Purged ps, sent-losses w Purged ps, dropped-losses w Purged ps refl);
})

-- nothing has been noted of an empty node
pub counted_nothing : AreCounted [] [] []
counted_nothing = record {
  conserved = λ w. omega (arith, arrived-nil w, sent-nil w, lost-nil w, weigh-nil w);
  marks = λ w. omega (arith, marked-nil w);
}
