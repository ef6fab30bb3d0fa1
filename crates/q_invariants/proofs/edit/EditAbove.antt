-- An edit at the end of a path keeps each node above it lawful and counted, and nothing is lost but what is purged.
use Rattle.std.proofs.Common.{◌≡◌, ℕ, ◌+◌, ◌<◌, ◌≤◌, Bool, true, List, [], ◌∷◌, length, set, refl, sym, ap, subst, ◌∙◌, Option, Some, None, arith}
use Rattle.std.specs.Prelude.{slice_get, ◌==◌, option_and_then, is_some}
use Rattle.std.specs.List.{All, position}
use Rattle.std.specs.Option.{option_map_or}
use Rattle.std.proofs.lemmas.List.{length-set}
use Rattle.std.proofs.lemmas.List.Elements.{All-weaker, All-set}
use Rattle.q_packet.specs.Descriptor.{Descriptor}
use Rattle.q_packet.specs.declared.cause.Cause.TheVariants.{Purged}
use Rattle.q_drr.specs.Schedule.{Class}
use Rattle.q_model.specs.declared.filter.Filter.{Filter}
use Rattle.q_model.specs.Tally.{Note, history}
use Rattle.q_model.specs.Node.{Discipline, Fifo, Prio, Tbf, Drr, FqCodel, Own, Node, children, each}
use Rattle.q_model.specs.Beneath.{beneath_own, beneath, is_empty}
use Rattle.q_model.specs.Conserved.{held_own, held_beneath}
use Rattle.q_model.specs.Find.{class_in, node_at}
use Rattle.q_model.specs.Work.{losses_of, settled_in, settled}
use Rattle.q_model.specs.Edit.{above, edited_at}
use Rattle.q_model.specs.Lawful.{IsLawfulDiscipline, IsLawfulOwn, CanHold}
use Rattle.q_invariants.specs.Kept.{IsCountedRoot, IsLawfulRoot}
use Rattle.q_invariants.specs.Weights.{weigh}
use Rattle.q_invariants.proofs.edit.EditHandles.{one, times, times-set}
use Rattle.q_invariants.proofs.put.DrrSettled.{class-settled, drr-settled, settled-packets}
use Rattle.q_invariants.proofs.sums.Joined.{joined, weigh-joined-set, weigh-beneath, weigh-held, counted_purged}
use Rattle.q_invariants.proofs.sums.Lengths.{short-among, lengths-among}
use Rattle.q_invariants.proofs.sums.Weights.{weigh-nil}
use Rattle.q_invariants.proofs.tree.Forests.{each-set, each-at, are-lawful, lawful-side, lawful-nodes, counted-side, counted-nodes}
use Rattle.q_invariants.proofs.tree.Members.{All-at}

-- a node put in place of another: it is lawful and has counted, between them only these packets are lost, and it has no handle
-- more than this one
pub record Becomes (mtu clock : ℕ) (fresh : Option ℕ) (purged : List Descriptor) (old new : Node (List Note)) : Type 0 where
  pub conserved : (w : Descriptor → ℕ) → weigh w (beneath old) ≡ weigh w (beneath new) + weigh w purged
  pub held : (w : Descriptor → ℕ) → weigh w (held_beneath old) ≤ weigh w (held_beneath new) + weigh w purged
  pub lawful : IsLawfulRoot mtu clock new
  pub counted : IsCountedRoot new
  pub handles : (h : ℕ) → times h new ≤ times h old + one h fresh

-- ---- a node that is settled

module _ (i : ℕ) (emptied : Bool) where
  settled_class_in : (bands minor : ℕ) (d : Discipline) → class_in bands minor (settled_in i emptied d) ≡ class_in bands minor d
  settled_class_in bands minor (Fifo limit queue) = refl
  settled_class_in bands minor (Prio priomap) = refl
  settled_class_in bands minor (Tbf b limit) = refl
  settled_class_in bands minor (Drr s) = ap (position (λ (c : Class). minor == c.name)) (class-settled i emptied s)
  settled_class_in bands minor (FqCodel s) = refl

  settled_holds : (d : Discipline) → CanHold d → CanHold (settled_in i emptied d)
  settled_holds (Fifo limit queue) h = h
  settled_holds (Prio priomap) h = h
  settled_holds (Tbf b limit) h = h
  settled_holds (Drr s) h = h
  settled_holds (FqCodel s) h = h

module _ (mtu clock i : ℕ) (below : List (List Descriptor)) (old new : List Descriptor) (positive : 1 ≤ mtu)
    (there : slice_get below i ≡ Some old) (fewer : (w : Descriptor → ℕ) → weigh w new ≤ weigh w old) where
  discipline_above : (d : Discipline) → IsLawfulDiscipline mtu clock below d → IsLawfulDiscipline mtu clock (set below i new) (settled_in i (length new == 0) d)
  discipline_above (Fifo limit queue) h = record { stamps = h.stamps; none = ap (λ b. set b i new) h.none }
  discipline_above (Prio priomap) h =
      let same : length (set below i new) ≡ length below = length-set below i new in
      record {
        least = omega (arith, h.least, same);
        most = omega (arith, h.most, same);
        each = h.each;
        bands = subst (λ k. All (λ band. band < k) priomap) (sym same) h.bands;
      }
  discipline_above (Tbf b limit) h = record {
    level = h.level;
    last = h.last;
    one = length-set below i new ∙ h.one;
    short = All-set (λ packets. All (λ (p : Descriptor). p.len ≤ b.burst) packets) below i new
        (short-among b.burst old new fewer (All-at (λ packets. All (λ (p : Descriptor). p.len ≤ b.burst) packets) below i old h.short there)) h.short;
  }
  discipline_above (Drr s) h = drr-settled mtu s below i old new h positive there
  discipline_above (FqCodel s) h = record {
    settings = h.settings;
    longest = h.longest;
    lists = h.lists;
    flows = h.flows;
    none = ap (λ b. set b i new) h.none;
  }

  fewer_beneath : (own : Own) (emptied : Bool) (w : Descriptor → ℕ) → weigh w (beneath_own (settled i emptied own) (set below i new)) ≤ weigh w (beneath_own own below)
  fewer_beneath own emptied w =
      omega (
        arith,
        weigh-beneath w (settled i emptied own) (set below i new),
        weigh-beneath w own below,
        ap (weigh w)
            (settled-packets i emptied own.discipline),
        weigh-joined-set w below i old new there,
        fewer w,
      )

  own_above : (own : Own) → IsLawfulOwn mtu clock own below → IsLawfulOwn mtu clock (settled i (length new == 0) own) (set below i new)
  own_above own h =
      let emptied : Bool = length new == 0 in
      record {
        discipline = discipline_above own.discipline h.discipline;
        lengths = lengths-among mtu (beneath_own own below) (beneath_own (settled i emptied own) (set below i new)) (fewer_beneath own emptied) h.lengths;
        held = λ e. settled_holds i emptied own.discipline (h.held e);
        filters = h.filters;
        in_order = h.in_order;
        named =
            All-weaker (λ (f : Filter). is_some (class_in (length below) f.minor own.discipline) ≡ true)
            (λ (f : Filter). is_some (class_in (length (set below i new)) f.minor (settled_in i emptied own.discipline)) ≡ true)
            (λ f e. ap is_some (ap (λ k. class_in k f.minor (settled_in i emptied own.discipline)) (length-set below i new)
            ∙ settled_class_in i emptied (length below) f.minor own.discipline) ∙ e) own.filters h.named;
      }

-- ---- a node above an edited one

module _ (mtu clock : ℕ) (fresh : Option ℕ) (purged : List Descriptor) (positive : 1 ≤ mtu) where
  pub becomes-above : (n : Node (List Note)) (i : ℕ) (old new : Node (List Note)) → IsLawfulRoot mtu clock n → IsCountedRoot n → slice_get (children n) i ≡ Some old
      → Becomes mtu clock fresh purged old new → Becomes mtu clock fresh purged n (above history (losses_of Purged purged) i new n)
  becomes-above n i old new lawful counted there h =
      let at = each beneath_own n.below in
      let held_at = each held_own n.below in
      let after : Node (List Note) = above history (losses_of Purged purged) i new n in
      let found : slice_get at i ≡ Some (beneath old) = each-at beneath_own n.below i old there in
      let held_found : slice_get held_at i ≡ Some (held_beneath old) = each-at held_own n.below i old there in
      let below_is : each beneath_own after.below ≡ set at i (beneath new) = each-set beneath_own n.below i new in
      let held_is : each held_own after.below ≡ set held_at i (held_beneath new) = each-set held_own n.below i new in
      let conserved : (w : Descriptor → ℕ) → weigh w (beneath n) ≡ weigh w (beneath after) + weigh w purged = λ w.
      omega (
        arith,
        weigh-beneath w n.own at,
        weigh-beneath w after.own (each beneath_own after.below),
        ap (λ b. weigh w (joined b)) below_is,
        ap (weigh w) (settled-packets i (is_empty new) n.own.discipline),
        weigh-joined-set w at i (beneath old) (beneath new) found,
        h.conserved w,
      ) in
      let held : (w : Descriptor → ℕ) → weigh w (held_beneath n) ≤ weigh w (held_beneath after) + weigh w purged = λ w.
      omega (
        arith,
        weigh-held w n.own held_at,
        weigh-held w after.own (each held_own after.below),
        ap (λ b. weigh w (joined b)) held_is,
        weigh-joined-set w held_at i (held_beneath old) (held_beneath new) held_found,
        h.held w,
      ) in
      let own_lawful : IsLawfulOwn mtu clock after.own (each beneath_own after.below) =
      subst (IsLawfulOwn mtu clock after.own) (sym below_is) (own_above mtu clock i at (beneath old) (beneath new) positive found (λ w. omega (arith, h.conserved w)) n.own lawful.0) in
      record {
        conserved = conserved;
        held = held;
        lawful = (
          own_lawful,
          lawful-side mtu clock (set (children n) i new)
              (are-lawful mtu clock (set (children n) i new)
              (All-set (IsLawfulRoot mtu clock) (children n) i new h.lawful (lawful-nodes mtu clock n.below lawful.1))),
        );
        counted = (
          counted_purged n.memory (beneath n) (held_beneath n) (beneath after) (held_beneath after) purged counted.0 conserved held,
          counted-side (set (children n) i new) (All-set IsCountedRoot (children n) i new h.counted (counted-nodes n.below counted.1)),
        );
        handles = λ k. omega (arith, times-set k n.below i old new there, h.handles k);
      }

  -- a path that leads nowhere changes nothing
  pub becomes-same : (n : Node (List Note)) → IsLawfulRoot mtu clock n → IsCountedRoot n → purged ≡ [] → Becomes mtu clock fresh purged n n
  becomes-same n lawful counted none = record {
    conserved = λ w. omega (arith, ap (weigh w) none, weigh-nil w);
    held = λ w. omega arith;
    lawful = lawful;
    counted = counted;
    handles = λ h. omega arith;
  }

  pub becomes-edited : (f : Node (List Note) → Node (List Note)) (path : List ℕ) (n : Node (List Note)) → IsLawfulRoot mtu clock n → IsCountedRoot n
      → ((old : Node (List Note)) → node_at path n ≡ Some old → IsLawfulRoot mtu clock old → IsCountedRoot old → Becomes mtu clock fresh purged old (f old))
      → (node_at path n ≡ None → purged ≡ []) → Becomes mtu clock fresh purged n (edited_at history (losses_of Purged purged) f path n)
  becomes-edited f [] n lawful counted there nowhere = there n refl lawful counted
  becomes-edited f (i ∷ path) n lawful counted there nowhere =
      through (slice_get (children n) i) refl (λ child. becomes-edited f path child)
    where
      go : Node (List Note) → Node (List Note)
      go child = above history (losses_of Purged purged) i (edited_at history (losses_of Purged purged) f path child) n

      through : (found : Option (Node (List Note))) → slice_get (children n) i ≡ found
          → ((child : Node (List Note)) → IsLawfulRoot mtu clock child → IsCountedRoot child
          → ((old : Node (List Note)) → node_at path child ≡ Some old → IsLawfulRoot mtu clock old → IsCountedRoot old → Becomes mtu clock fresh purged old (f old))
          → (node_at path child ≡ None → purged ≡ []) → Becomes mtu clock fresh purged child (edited_at history (losses_of Purged purged) f path child))
          → Becomes mtu clock fresh purged n (option_map_or go (slice_get (children n) i) n)
      through None e rec =
          subst (λ (o : Option (Node (List Note))). Becomes mtu clock fresh purged n (option_map_or go o n)) (sym e)
          (becomes-same n lawful counted (nowhere (ap (option_and_then (node_at path)) e)))
      through (Some child) e rec =
          let step : node_at (i ∷ path) n ≡ node_at path child = ap (option_and_then (node_at path)) e in
          let child_lawful : IsLawfulRoot mtu clock child = All-at (IsLawfulRoot mtu clock) (children n) i child (lawful-nodes mtu clock n.below lawful.1) e in
          let child_counted : IsCountedRoot child = All-at IsCountedRoot (children n) i child (counted-nodes n.below counted.1) e in
          subst (λ (o : Option (Node (List Note))). Becomes mtu clock fresh purged n (option_map_or go o n)) (sym e)
          (becomes-above n i child (edited_at history (losses_of Purged purged) f path child) lawful counted e
          (rec child child_lawful child_counted (λ old at. there old (step ∙ at)) (λ at. nowhere (step ∙ at))))
