-- Where a packet can be kept with nothing lost and no place made, it is kept: what is known of its way, from the root down.
use Rattle.std.proofs.Common.{◌≡◌, ℕ, zero, suc, ◌<◌, ◌≤◌, ◌∙◌, List, [], ◌∷◌, length, refl, sym, ap, ap₂, subst, Option, Some, None, option_and_then, arith}
use Rattle.std.specs.Prelude.{IfSome, slice_get, slice_index_or}
use Rattle.std.proofs.lemmas.Option.{none-some, slice_get_past, slice_get_read}
use Rattle.q_packet.specs.Descriptor.{Descriptor}
use Rattle.q_model.specs.declared.filter.Filter.{Filter}
use Rattle.q_model.specs.Find.{node_at}
use Rattle.q_model.specs.Node as spec
use Rattle.q_model.specs.Node.{Node}
use Rattle.q_model.specs.Route.{Route, route, through, way}
use Rattle.q_invariants.proofs.tree.Forests.{nodes-side}
use Rattle.q_tree.specs.arrival.ArriveSteps.{way_in}
use Rattle.q_tree.specs.arrival.KeepSteps.{CanBeKept, CanBeKeptBelow, CanBeKeptIn, node_below, node_under}
use Rattle.q_tree.specs.commands.DisciplineChanges.{IsUnchanged}
use Rattle.q_tree.specs.departure.AskSteps.{own_of}
use Rattle.q_tree.specs.Kept.{Kept}
use Rattle.q_tree.specs.route.Ahead.{ways}
use Rattle.q_tree.specs.Seen.{children_seen, seen}
use Rattle.q_tree.specs.declared.node.Discipline.{Discipline}
use Rattle.q_tree.specs.declared.node.Node.TheInside.{Inside}
use Rattle.q_tree.proofs.arrival.Arriving.{through-at}
use Rattle.q_tree.proofs.route.RouteLemmas.{way-from}

-- ---- from a node to its discipline

module _ (p : Descriptor) (a : Inside) (n : Node Kept) (view : seen a ≡ n) (filters : List Filter) (same : filters ≡ a.filters) where
  under : (path : List ℕ) → node_below path n ≡ node_under path a.discipline
  under [] = refl
  under (i ∷ rest) =
      ap (λ (m : Node Kept). node_below (i ∷ rest) m) (sym view)
      ∙ ap (λ xs. option_and_then (node_at rest) (slice_get xs i)) (nodes-side (children_seen a.discipline))

  pub below-can : CanBeKeptBelow p n → CanBeKeptIn p filters a.discipline
  below-can h =
      let to : way_in p filters a.discipline ≡ route p n = way-from p a n filters view same in
      record {
        passes = ap (λ (r : Route). r.refusal) to ∙ h.passes;
        end = h.end;
        there = ap (λ (r : Route). node_under r.path a.discipline) to ∙ sym (under (route p n).path) ∙ h.there;
        fifo = h.fifo;
      }

-- ---- from a discipline to its child

module _ (p : Descriptor) (filters : List Filter) (d : Discipline) where
  pub child-can : (ns : List (Node Kept)) (i : ℕ) (x : Node Kept) → children_seen d ≡ ns → i < length ns → x ≡ slice_index_or ns i x
      → way_in p filters d ≡ through (ways p ns) i → CanBeKeptIn p filters d → CanBeKept p x
  child-can ns i x kids inside is to h =
      let on : slice_get ns i ≡ Some x = slice_get_read ns (length ns) i x refl inside is in
      let way-is : way_in p filters d ≡ record { path = i ∷ (route p x).path; refusal = (route p x).refusal } = to ∙ through-at p ns i x on in
      record {
        passes = sym (ap (λ (r : Route). r.refusal) way-is) ∙ h.passes;
        end = h.end;
        there =
            sym (ap (λ (y : Option (Node Kept)). option_and_then (node_at (route p x).path) y) (ap (λ xs. slice_get xs i) kids ∙ on))
            ∙ subst (λ (r : Route). node_under r.path d ≡ Some h.end) way-is h.there;
        fifo = h.fifo;
      }

  -- the way ends in the discipline, or is refused there
  pub nowhere : (r : Route) → way_in p filters d ≡ r → r.path ≡ [] → CanBeKeptIn p filters d → ⊥
  nowhere r to none h = none-some h.end (subst (λ (path : List ℕ). node_under path d ≡ Some h.end) (ap (λ (v : Route). v.path) to ∙ none) h.there)

  -- a discipline that has not changed
  pub still-can : (e : Discipline) → IsUnchanged d e → CanBeKeptIn p filters e → CanBeKeptIn p filters d
  still-can e same h =
      let to : way_in p filters e ≡ way_in p filters d =
      ap₂ (λ (ks : List (Node Kept)) (x : spec.Discipline). way p (own_of None filters x) (ways p ks) x) same.children same.discipline in
      record {
        passes = sym (ap (λ (r : Route). r.refusal) to) ∙ h.passes;
        end = h.end;
        there = by (way_in p filters d).path ∙ ap (λ (r : Route). node_under r.path e) (sym to) ∙ h.there;
        fifo = h.fifo;
      }
    where
      by : (path : List ℕ) → node_under path d ≡ node_under path e
      by [] = refl
      by (i ∷ rest) = ap (λ (ks : List (Node Kept)). option_and_then (node_at rest) (slice_get ks i)) (sym same.children)

-- ---- the packet behind those that came

pub next-is : {A : Type 0} (P : A → Type 0) (xs : List A) (i : ℕ) (d : A) → i < length xs → P (slice_index_or xs i d) → IfSome (slice_get xs i) P
next-is P [] i d lt is = absurd (omega (arith, lt))
next-is P (x ∷ xs) zero d lt is = is
next-is P (x ∷ xs) (suc i) d lt is = next-is P xs i d (omega (arith, lt)) is

pub none-next : {A : Type 0} (P : A → Type 0) (xs : List A) (i : ℕ) → length xs ≤ i → IfSome (slice_get xs i) P
none-next {A = A} P xs i past = subst (λ (o : Option A). IfSome o P) (sym (slice_get_past xs i past)) tt

pub next-weaker : {A : Type 0} (P Q : A → Type 0) (o : Option A) → ((x : A) → P x → Q x) → IfSome o P → IfSome o Q
next-weaker P Q None f h = tt
next-weaker P Q (Some x) f h = f x h
