-- A tree in which one queue has more places is the same tree but for its memory.
use Rattle.std.proofs.Common.{◌≡◌, ℕ, zero, suc, ◌<◌, ◌≤◌, ◌∙◌, List, [], ◌∷◌, map, set, length, refl, sym, ap, ap₂, subst, arith, Option, Some, None, Result, Ok, Err, option_and_then, option_map}
use Rattle.std.specs.Prelude.{All, IfSome, IsSome, OnOk, slice_get, slice_index_or}
use Rattle.std.proofs.lemmas.List.Elements.{All-nil, All-cons, All-head, All-tail}
use Rattle.std.specs.Option.{option_map_or}
use Rattle.std.proofs.lemmas.Option.{same_Some, slice_get_within}
use Rattle.std.proofs.lemmas.Bool.{false≢true}
use Rattle.q_model.specs.declared.totals.Totals.{Totals}
use Rattle.q_model.specs.Beneath.{beneath, beneath_own, totals_in}
use Rattle.q_model.specs.Conserved.{held_own, held_beneath, AreMarksBounded}
use Rattle.q_model.specs.Find.{node_at}
use Rattle.q_model.specs.Node as spec
use Rattle.q_model.specs.Node.{Node, Forest, children, side_by_side, each, each_memory}
use Rattle.q_model.specs.Tally.{Counts}
use Rattle.q_model.proofs.ShrinkLemmas.{child-with_memory, each-each_memory}
use Rattle.q_invariants.proofs.tree.Forests.{nodes-side, each-side}
use Rattle.q_tree.specs.arrival.Arrivals.{HasPlace, HasPlaceIn}
use Rattle.q_tree.specs.arrival.Places.{unplaced, places_at, places_under, Leads, HasPlaceAt}
use Rattle.q_tree.specs.Kept.{Kept}
use Rattle.q_tree.specs.Seen.{seen, discipline_seen, children_seen, places_seen, IsKept, IsCountedWithin}
use Rattle.q_tree.specs.declared.node.Discipline.{Discipline}
use Rattle.q_tree.specs.declared.node.Node.TheInside.{Inside}
use Rattle.q_tree.proofs.arrival.Puts.{same-child}
use Rattle.q_tree.specs.departure.Holding.{packet_held, since_held}

pub on-ok : {A B : Type 0} {P Q : Type 0} (r : Result A B) → (P → Q) → OnOk r P → OnOk r Q
on-ok (Ok x) f h = f h
on-ok (Err e) f h = h

-- one child changed
pub set-unplaced : (ns : List (Node Kept)) (i : ℕ) (x x2 : Node Kept) → x ≡ slice_index_or ns i x → unplaced x2 ≡ unplaced x → map unplaced (set ns i x2) ≡ map unplaced ns
set-unplaced [] i x x2 is e = refl
set-unplaced (n ∷ ns) zero x x2 is e = ap (λ (y : Node Counts). y ∷ map unplaced ns) (e ∙ ap unplaced is)
set-unplaced (n ∷ ns) (suc i) x x2 is e = ap (λ (ys : List (Node Counts)). unplaced n ∷ ys) (set-unplaced ns i x x2 is e)

-- a child put back as it was
pub set-back : (ns : List (Node Kept)) (i : ℕ) (x : Node Kept) → x ≡ slice_index_or ns i x → set ns i x ≡ ns
set-back [] i x is = refl
set-back (n ∷ ns) zero x is = ap (λ (y : Node Kept). y ∷ ns) is
set-back (n ∷ ns) (suc i) x is = ap (λ (ys : List (Node Kept)). n ∷ ys) (set-back ns i x is)

pub set-there : (ns : List (Node Kept)) (i : ℕ) (x : Node Kept) → i < length ns → slice_get (set ns i x) i ≡ Some x
set-there [] i x e = absurd (omega (arith, e))
set-there (n ∷ ns) zero x e = refl
set-there (n ∷ ns) (suc i) x e = set-there ns i x (omega (arith, e))

-- the child that a way leads on from
pub record IsLed (rest : List ℕ) (i : ℕ) (ns : List (Node Kept)) : Type 0 where
  pub child : Node Kept
  pub there : slice_get ns i ≡ Some child
  pub on : IsSome (node_at rest child)

pub led : (rest : List ℕ) (i : ℕ) (ns : List (Node Kept)) → Leads rest i ns → IsLed rest i ns
led rest i ns h = by (slice_get ns i) refl h
  where
    by : (o : Option (Node Kept)) → slice_get ns i ≡ o → IsSome (option_and_then (node_at rest) o) → IsLed rest i ns
    by None e h = absurd (false≢true h)
    by (Some c) e h = record { child = c; there = e; on = h }

pub within-led : (rest : List ℕ) (i : ℕ) (before ns : List (Node Kept)) → Leads rest i before → before ≡ ns → i < length ns
within-led rest i before ns h e = let l = led rest i before h in slice_get_within ns i l.child (ap (λ xs. slice_get xs i) (sym e) ∙ l.there)

pub leads-on : (rest : List ℕ) (i : ℕ) (before ns : List (Node Kept)) (x : Node Kept) → Leads rest i before → before ≡ ns → x ≡ slice_index_or ns i x → IsSome (node_at rest x)
leads-on rest i before ns x h e is =
    let l = led rest i before h in
    subst (λ (n : Node Kept). IsSome (node_at rest n)) (sym (same-child ns i x l.child is (ap (λ xs. slice_get xs i) (sym e) ∙ l.there))) l.on

pub has-place : {A B : Type 0} (r : Result A B) (rest : List ℕ) (i : ℕ) (ns : List (Node Kept)) (x : Node Kept) → i < length ns → OnOk r (HasPlace rest x) → OnOk r (HasPlaceAt rest i (set ns i x))
has-place r rest i ns x inside h =
    on-ok r (λ p. subst (λ (o : Option (Node Kept)). IfSome (option_and_then (node_at rest) o)
    (λ (end : Node Kept). HasPlaceIn end.memory.places end.own.discipline)) (sym (set-there ns i x inside)) p) h

-- a node whose children have other places
side-unplaced : (ns : List (Node Kept)) → each_memory (λ (k : Kept). k.counts) (side_by_side ns) ≡ side_by_side (map unplaced ns)
side-unplaced [] = refl
side-unplaced (n ∷ ns) = ap (λ (x : Forest Counts). spec.more n.own n.memory.counts (each_memory (λ (k : Kept). k.counts) n.below) x) (side-unplaced ns)

held-unplaced : (ns : List (Node Kept)) → map held_beneath (map unplaced ns) ≡ map held_beneath ns
held-unplaced [] = refl
held-unplaced (n ∷ ns) = ap₂ (λ x xs. x ∷ xs) (ap (held_own n.own) (each-each_memory held_own (λ (k : Kept). k.counts) n.below)) (held-unplaced ns)

beneath-unplaced : (ns : List (Node Kept)) → map beneath (map unplaced ns) ≡ map beneath ns
beneath-unplaced [] = refl
beneath-unplaced (n ∷ ns) = ap₂ (λ x xs. x ∷ xs) (ap (beneath_own n.own) (each-each_memory beneath_own (λ (k : Kept). k.counts) n.below)) (beneath-unplaced ns)

module _ (t : Totals) where
  to-unplaced : (ns : List (Node Kept)) → All (λ (child : Node Kept). IsCountedWithin child.memory.counts.arrived t) ns
      → All (λ (child : Node Counts). IsCountedWithin child.memory.arrived t) (map unplaced ns)
  to-unplaced [] h = All-nil (λ (child : Node Counts). IsCountedWithin child.memory.arrived t)
  to-unplaced (n ∷ ns) h =
      All-cons (λ (child : Node Counts). IsCountedWithin child.memory.arrived t) (unplaced n) (map unplaced ns) (All-head (λ (child : Node Kept). IsCountedWithin child.memory.counts.arrived t) n ns h)
      (to-unplaced ns (All-tail (λ (child : Node Kept). IsCountedWithin child.memory.counts.arrived t) n ns h))

  from-unplaced : (ns : List (Node Kept)) → All (λ (child : Node Counts). IsCountedWithin child.memory.arrived t) (map unplaced ns)
      → All (λ (child : Node Kept). IsCountedWithin child.memory.counts.arrived t) ns
  from-unplaced [] h = All-nil (λ (child : Node Kept). IsCountedWithin child.memory.counts.arrived t)
  from-unplaced (n ∷ ns) h =
      All-cons (λ (child : Node Kept). IsCountedWithin child.memory.counts.arrived t) n ns (All-head (λ (child : Node Counts). IsCountedWithin child.memory.arrived t) (unplaced n) (map unplaced ns) h)
      (from-unplaced ns (All-tail (λ (child : Node Counts). IsCountedWithin child.memory.arrived t) (unplaced n) (map unplaced ns) h))

module _ (a : Inside) (d : Discipline) (same : discipline_seen d ≡ discipline_seen a.discipline) (kids : map unplaced (children_seen d) ≡ map unplaced (children_seen a.discipline)) where
  same-beneath : beneath (seen (record a { discipline = d })) ≡ beneath (seen a)
  same-beneath =
      ap (λ x. beneath_own (record { handle = a.handle; discipline = x; held = packet_held a.held; since = since_held a.held; filters = a.filters })
      (each beneath_own (side_by_side (children_seen d)))) same
      ∙ ap (beneath_own (seen a).own) (each-side beneath_own (children_seen d) ∙ sym (beneath-unplaced (children_seen d)) ∙ ap (map beneath) kids ∙
      beneath-unplaced (children_seen a.discipline) ∙ sym (each-side beneath_own (children_seen a.discipline)))

  same-held : held_beneath (seen (record a { discipline = d })) ≡ held_beneath (seen a)
  same-held =
      ap (held_own (seen a).own) (each-side held_own (children_seen d) ∙ sym (held-unplaced (children_seen d)) ∙ ap (map held_beneath) kids ∙
      held-unplaced (children_seen a.discipline) ∙ sym (each-side held_own (children_seen a.discipline)))

  pub kept-places : IsKept a → IsKept (record a { discipline = d })
  kept-places k = record {
    queued = k.queued ∙ ap totals_in (sym same-beneath);
    balanced = k.balanced;
    marks = subst (AreMarksBounded (seen a).memory.counts) (sym same-held) k.marks;
    within =
        from-unplaced a.row.arrived (children_seen d)
        (subst (All (λ (child : Node Counts). IsCountedWithin child.memory.arrived a.row.arrived)) (sym kids)
        (to-unplaced a.row.arrived (children_seen a.discipline) k.within));
  }

  pub same-places : (n : Node Kept) → seen a ≡ n → unplaced (seen (record a { discipline = d })) ≡ unplaced n
  same-places n view =
      let below : each_memory (λ (k : Kept). k.counts) (side_by_side (children_seen d)) ≡ each_memory (λ (k : Kept). k.counts) (side_by_side (children_seen a.discipline)) =
      side-unplaced (children_seen d) ∙ ap side_by_side kids ∙ sym (side-unplaced (children_seen a.discipline)) in
      (λ j. record {
        own = record {
          handle = a.handle;
          discipline = same j;
          held = packet_held a.held;
          since = since_held a.held;
          filters =
              a.filters;
        };
        memory = (seen a).memory.counts;
        below = below j;
      }) ∙ ap unplaced view

-- the way of a node goes on in its children
pub way-on : (i : ℕ) (rest path : List ℕ) (a : Inside) (n : Node Kept) → seen a ≡ n → path ≡ i ∷ rest → IsSome (node_at path n) → Leads rest i (children_seen a.discipline)
way-on i rest path a n view e h =
    subst (λ xs. IsSome (option_and_then (node_at rest) (slice_get xs i))) (nodes-side (children_seen a.discipline))
    (subst (λ (m : Node Kept). IsSome (node_at (i ∷ rest) m)) (sym view) (subst (λ xs. IsSome (node_at xs n)) e h))

pub place-on : {A B : Type 0} (r : Result A B) (i : ℕ) (rest path : List ℕ) (a : Inside) → path ≡ i ∷ rest → OnOk r (HasPlaceAt rest i (children_seen a.discipline)) → OnOk r (HasPlace path (seen a))
place-on r i rest path a e h =
    on-ok r (λ p. subst (λ xs. HasPlace xs (seen a)) (sym e)
    (subst (λ xs. IfSome (option_and_then (node_at rest) (slice_get xs i)) (λ (end : Node Kept). HasPlaceIn end.memory.places end.own.discipline)) (sym (nodes-side (children_seen a.discipline))) p)) h

-- the place at the end of a way, seen from the node that the way goes through
pub place-off : (i : ℕ) (rest path : List ℕ) (a : Inside) (n : Node Kept) → seen a ≡ n → path ≡ i ∷ rest → HasPlace path n → HasPlaceAt rest i (children_seen a.discipline)
place-off i rest path a n view e h =
    subst (λ xs. IfSome (option_and_then (node_at rest) (slice_get xs i)) (λ (end : Node Kept). HasPlaceIn end.memory.places end.own.discipline)) (nodes-side (children_seen a.discipline))
    (subst (λ (m : Node Kept). HasPlace (i ∷ rest) m) (sym view) (subst (λ p. HasPlace p n) e h))

-- ---- no queue has fewer places

-- among the children of which one has changed
pub set-places : (ns : List (Node Kept)) (i : ℕ) (x x2 : Node Kept) → x ≡ slice_index_or ns i x
    → ((way : List ℕ) → places_at way x ≤ places_at way x2) → (way : List ℕ) (j : ℕ) → places_under way j ns ≤ places_under way j (set ns i x2)
set-places [] i x x2 is grow way j = omega arith
set-places (n ∷ ns) zero x x2 is grow way zero = omega (arith, grow way, ap (places_at way) is)
set-places (n ∷ ns) zero x x2 is grow way (suc j) = omega arith
set-places (n ∷ ns) (suc i) x x2 is grow way zero = omega arith
set-places (n ∷ ns) (suc i) x x2 is grow way (suc j) = set-places ns i x x2 is grow way j

-- at a node and beneath it
pub seen-places : (a : Inside) (d : Discipline) → places_seen a.discipline ≤ places_seen d
    → ((way : List ℕ) (i : ℕ) → places_under way i (children_seen a.discipline) ≤ places_under way i (children_seen d))
    → (n : Node Kept) → seen a ≡ n → (way : List ℕ) → places_at way n ≤ places_at way (seen (record a { discipline = d }))
seen-places a d here under n view [] = subst (λ (m : Node Kept). m.memory.places ≤ places_seen d) view here
seen-places a d here under n view (i ∷ way) =
    subst (λ (m : Node Kept). places_at (i ∷ way) m ≤ places_at (i ∷ way) (seen (record a { discipline = d }))) view
    (subst (λ xs. places_under way i xs ≤ places_under way i (spec.nodes_in (side_by_side (children_seen d)))) (sym (nodes-side (children_seen a.discipline)))
    (subst (λ ys. places_under way i (children_seen a.discipline) ≤ places_under way i ys) (sym (nodes-side (children_seen d))) (under way i)))

-- a queue that has a place has it among more
more-places : (d : spec.Discipline) (k m : ℕ) → k ≤ m → HasPlaceIn k d → HasPlaceIn m d
more-places (spec.Fifo limit queue) k m le h = omega (arith, le, h)
more-places (spec.FqCodel s) k m le h = omega (arith, le, h)
more-places (spec.Prio priomap) k m le h = tt
more-places (spec.Tbf bucket limit) k m le h = tt
more-places (spec.Drr s) k m le h = tt

pub node_at-unplaced : (path : List ℕ) (n : Node Kept) → node_at path (unplaced n) ≡ option_map unplaced (node_at path n)
node_at-unplaced [] n = refl
node_at-unplaced (i ∷ path) n = ap (option_and_then (node_at path)) (child-with_memory (λ (k : Kept). k.counts) n i) ∙ beneath-child (slice_get (children n) i) (node_at-unplaced path) where
  beneath-child : (o : Option (Node Kept)) → ((c : Node Kept) → node_at path (unplaced c) ≡ option_map unplaced (node_at path c))
      → option_and_then (node_at path) (option_map unplaced o) ≡ option_map unplaced (option_and_then (node_at path) o)
  beneath-child None rec = refl
  beneath-child (Some c) rec = rec c

pub place-stays : (path : List ℕ) (n m : Node Kept) → unplaced m ≡ unplaced n → places_at path n ≤ places_at path m → HasPlace path n → HasPlace path m
place-stays path n m same grow h = by (node_at path n) (node_at path m) (sym (node_at-unplaced path m) ∙ ap (node_at path) same ∙ node_at-unplaced path n) grow h where
  by : (o o2 : Option (Node Kept)) → option_map unplaced o2 ≡ option_map unplaced o
      → option_map_or (λ (end : Node Kept). end.memory.places) o 0 ≤ option_map_or (λ (end : Node Kept). end.memory.places) o2 0
      → IfSome o (λ (end : Node Kept). HasPlaceIn end.memory.places end.own.discipline) → IfSome o2 (λ (end : Node Kept). HasPlaceIn end.memory.places end.own.discipline)
  by None None e le is = tt
  by (Some x) None e le is = tt
  by None (Some y) e le is = absurd cc
  by (Some x) (Some y) e le is =
      subst (HasPlaceIn y.memory.places) (ap (λ (z : Node Counts). z.own.discipline) (sym (same_Some (unplaced y) (unplaced x) e))) (more-places x.own.discipline x.memory.places y.memory.places le is)
