-- A node with other settings and children: what it has to keep of both for the tree to stay lawful and counted.
use Rattle.std.proofs.Common.{◌≡◌, ℕ, ◌+◌, ◌≤◌, true, List, [], ◌∷◌, ◌++◌, length, map, sym, ap, subst, ◌∙◌, None, arith}
use Rattle.std.specs.Prelude.{is_some}
use Rattle.std.specs.List.{All, AllPairs}
use Rattle.std.specs.Option.{option_to_list}
use Rattle.std.proofs.lemmas.List.{map-append}
use Rattle.q_packet.specs.Descriptor.{Descriptor}
use Rattle.q_packet.specs.declared.cause.Cause.TheVariants.{Purged}
use Rattle.q_model.specs.declared.filter.Filter.{Filter}
use Rattle.q_model.specs.Refusals.{most_filters}
use Rattle.q_model.specs.Tally.{Note, history, noted}
use Rattle.q_model.specs.Node.{Own, Node, children, each, side_by_side}
use Rattle.q_model.specs.Beneath.{packets_in, beneath_own, beneath}
use Rattle.q_model.specs.Conserved.{held_own, held_beneath}
use Rattle.q_model.specs.Find.{class_in}
use Rattle.q_model.specs.Work.{losses_of}
use Rattle.q_model.specs.Lawful.{IsLawfulDiscipline, IsLawfulOwn, CanHold}
use Rattle.q_invariants.specs.Kept.{IsCountedRoot, IsLawfulRoot}
use Rattle.q_invariants.specs.Weights.{weigh}
use Rattle.q_invariants.proofs.edit.EditAbove.{Becomes}
use Rattle.q_invariants.proofs.edit.EditHandles.{one, times_below}
use Rattle.q_invariants.proofs.edit.EditNew.{held-le-beneath}
use Rattle.q_invariants.proofs.sums.Joined.{joined, weigh-joined-cons, weigh-joined-append, weigh-beneath, weigh-held, counted_purged}
use Rattle.q_invariants.proofs.sums.Lengths.{lengths-among}
use Rattle.q_invariants.proofs.tree.Forests.{each-side, each-nodes, side-nodes, are-lawful, lawful-side, counted-side}

-- ---- nodes side by side

-- what waits beneath them, what is held there, and how often a handle stands there
abbrev pub waits : {M : Type 0} → (Descriptor → ℕ) → List (Node M) → ℕ
waits w ns = weigh w (joined (map beneath ns))

abbrev pub holds : {M : Type 0} → (Descriptor → ℕ) → List (Node M) → ℕ
holds w ns = weigh w (joined (map held_beneath ns))

abbrev pub times_in : {M : Type 0} → ℕ → List (Node M) → ℕ
times_in h ns = times_below h (side_by_side ns)

module _ {M : Type 0} where
  pub waits-append : (w : Descriptor → ℕ) (xs ys : List (Node M)) → waits w (xs ++ ys) ≡ waits w xs + waits w ys
  waits-append w xs ys = ap (λ b. weigh w (joined b)) (map-append beneath xs ys) ∙ weigh-joined-append w (map beneath xs) (map beneath ys)

  pub holds-append : (w : Descriptor → ℕ) (xs ys : List (Node M)) → holds w (xs ++ ys) ≡ holds w xs + holds w ys
  holds-append w xs ys = ap (λ b. weigh w (joined b)) (map-append held_beneath xs ys) ∙ weigh-joined-append w (map held_beneath xs) (map held_beneath ys)

  pub times-append : (h : ℕ) (xs ys : List (Node M)) → times_in h (xs ++ ys) ≡ times_in h xs + times_in h ys
  times-append h [] ys = omega arith
  times-append h (x ∷ xs) ys = omega (arith, times-append h xs ys)

  pub holds-le-waits : (w : Descriptor → ℕ) (ns : List (Node M)) → holds w ns ≤ waits w ns
  holds-le-waits w [] = omega arith
  holds-le-waits w (n ∷ ns) =
      omega (arith, weigh-joined-cons w (held_beneath n) (map held_beneath ns), weigh-joined-cons w (beneath n) (map beneath ns), held-le-beneath w n, holds-le-waits w ns)

-- ---- what is lawful of the node itself

pub own_changed : (mtu clock : ℕ) (old new : Own) (below left : List (List Descriptor)) → IsLawfulOwn mtu clock old below
    → new.held ≡ old.held → packets_in new.discipline ≡ packets_in old.discipline → ((w : Descriptor → ℕ) → weigh w (joined left) ≤ weigh w (joined below))
    → IsLawfulDiscipline mtu clock left new.discipline → (CanHold old.discipline → CanHold new.discipline)
    → length new.filters ≤ most_filters → AllPairs (λ (f g : Filter). f.prio ≤ g.prio) new.filters
    → All (λ (f : Filter). is_some (class_in (length left) f.minor new.discipline) ≡ true) new.filters → IsLawfulOwn mtu clock new left
own_changed mtu clock old new below left h held packets fewer lawful can filters order named = record {
  discipline = lawful;
  lengths = lengths-among mtu (beneath_own old below) (beneath_own new left)
      (λ w. omega (arith, weigh-beneath w old below, weigh-beneath w new left, ap (weigh w) packets, ap (λ k. weigh w (option_to_list k)) held, fewer w)) h.lengths;
  held = λ e. can (h.held (ap is_some (sym held) ∙ e));
  filters = filters;
  in_order = order;
  named = named;
}

-- ---- the node and its children

-- these settings and children may be given to the node, where these packets are purged
pub record Remakes (mtu clock : ℕ) (purged : List Descriptor) (n : Node (List Note)) (own : Own) (kept : List (Node (List Note))) : Type 0 where
  pub handle : own.handle ≡ n.own.handle
  pub held : own.held ≡ n.own.held
  pub packets : packets_in own.discipline ≡ packets_in n.own.discipline
  pub lawful : IsLawfulOwn mtu clock own (map beneath kept)
  pub lawful_below : All (IsLawfulRoot mtu clock) kept
  pub counted_below : All IsCountedRoot kept
  pub waiting : (w : Descriptor → ℕ) → waits w (children n) ≡ waits w kept + weigh w purged
  pub held_below : (w : Descriptor → ℕ) → holds w (children n) ≤ holds w kept + weigh w purged
  pub handles_below : (h : ℕ) → times_in h kept ≤ times_in h (children n)

pub becomes-remade : (mtu clock : ℕ) (purged : List Descriptor) (n : Node (List Note)) (own : Own) (kept : List (Node (List Note))) → IsCountedRoot n
    → Remakes mtu clock purged n own kept
    → Becomes mtu clock None purged n (record { own = own; memory = noted history n.memory (losses_of Purged purged); below = side_by_side kept })
becomes-remade mtu clock purged n own kept counted h =
    let new : Node (List Note) = record { own = own; memory = noted history n.memory (losses_of Purged purged); below = side_by_side kept } in
    let below : each beneath_own new.below ≡ map beneath kept = each-side beneath_own kept in
    let held : each held_own new.below ≡ map held_beneath kept = each-side held_own kept in
    let conserved : (w : Descriptor → ℕ) → weigh w (beneath n) ≡ weigh w (beneath new) + weigh w purged = λ w.
    omega (
      arith,
      weigh-beneath w n.own (each beneath_own n.below),
      weigh-beneath w own (each beneath_own new.below),
      ap (λ b. weigh w (joined b)) below,
      ap (λ b. weigh w (joined b)) (each-nodes beneath_own n.below),
      ap (weigh w) h.packets,
      ap (λ k. weigh w (option_to_list k)) h.held,
      h.waiting w,
    ) in
    let held_kept : (w : Descriptor → ℕ) → weigh w (held_beneath n) ≤ weigh w (held_beneath new) + weigh w purged = λ w.
    omega (
      arith,
      weigh-held w n.own (each held_own n.below),
      weigh-held w own (each held_own new.below),
      ap (λ b. weigh w (joined b)) held,
      ap (λ b. weigh w (joined b)) (each-nodes held_own n.below),
      ap (λ k. weigh w (option_to_list k)) h.held,
      h.held_below w,
    ) in
    record {
      conserved = conserved;
      held = held_kept;
      lawful = (subst (IsLawfulOwn mtu clock own) (sym below) h.lawful, lawful-side mtu clock kept (are-lawful mtu clock kept h.lawful_below));
      counted = (counted_purged n.memory (beneath n) (held_beneath n) (beneath new) (held_beneath new) purged counted.0 conserved held_kept, counted-side kept h.counted_below);
      handles = λ k. omega (arith, h.handles_below k, ap (times_below k) (side-nodes n.below), ap (one k) h.handle);
    }
