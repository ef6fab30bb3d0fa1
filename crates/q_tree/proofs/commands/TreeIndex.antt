-- A tree of the code keeps the index of its handles: what packets do leaves the handles where they are, and an edit renews it.
use Rattle.std.proofs.Common.{◌≡◌, ℕ, zero, suc, ◌+◌, ◌<◌, ◌≤◌, ◌∙◌, List, [], ◌∷◌, take, map, length, refl, sym, ap, subst, Option, Some, None, option_and_then, option_map, inl, inr, arith}
use Rattle.std.specs.Prelude.{Bool, true, false, nat_lt, is_some, IfSome, IsSome, slice_get}
use Rattle.std.specs.List.{AllPairs, remove, sum}
use Rattle.std.specs.Option.{option_map_or}
use Rattle.std.proofs.lemmas.Bool.{cases_lt, lt-ltb, false≢true}
use Rattle.std.proofs.lemmas.List.Sums.{sum_by-cons}
use Rattle.q_packet.specs.Descriptor.{Descriptor}
use Rattle.q_model.specs.Ask.{ask}
use Rattle.q_model.specs.Find.{Address, addresses, addresses_own, count_nodes, node_at}
use Rattle.q_model.specs.Node.{Discipline, Fifo, Prio, Tbf, Drr, FqCodel, Node, children, shape}
use Rattle.q_model.specs.Pop.{pop}
use Rattle.q_model.specs.Refusals.{most_nodes}
use Rattle.q_model.specs.Route.{Route}
use Rattle.q_model.specs.Tally.{Counts, counts_in}
use Rattle.q_model.specs.TreeState.{TreeState, put_on}
use Rattle.q_model.specs.Work.{Worked, booked}
use Rattle.q_model.proofs.ShrinkLemmas.{each-each_memory}
use Rattle.q_invariants.specs.Kept.{AreApart}
use Rattle.q_invariants.proofs.ask.Asks.{addresses-look, before-root}
use Rattle.q_invariants.proofs.sizes.EditSizes.{nodes_own}
use Rattle.q_invariants.proofs.sums.Told.{IsRootTold, root-booked, root-memory, root-told}
use Rattle.q_invariants.proofs.tree.Forests.{each-nodes, nodes-side}
use Rattle.q_tree.specs.arrival.Arrivals.{CanPut}
use Rattle.q_tree.specs.arrival.Places.{unplaced}
use Rattle.q_tree.specs.commands.DisciplineChanges.{adds_children, bands_staying, children_after, leaves_limited, place_in}
use Rattle.q_tree.specs.commands.Editing.{adds_nodes, edited_by, effect}
use Rattle.q_tree.specs.commands.Index.{Index}
use Rattle.q_tree.specs.departure.AskSteps.{CanAsk}
use Rattle.q_tree.specs.Kept.{Kept, kept}
use Rattle.q_tree.specs.TreeSeen.{IsIndexedDevice, IsKeptDevice}
use Rattle.q_tree.specs.declared.commands.edit.Edit.{Edit}
use Rattle.q_tree.specs.declared.commands.edit.Edit.TheVariants.{Graft, AddFilter, RemoveFilters, DisciplineChange}
use Rattle.q_tree.specs.declared.commands.discipline_change.DisciplineChange as shapes
use Rattle.q_tree.specs.declared.commands.discipline_change.DisciplineChange.TheVariants.{Nothing, SetLimit, SetBands, SetBucket, SetOptions, AddClass, SetQuantum, RemoveClass}
use Rattle.q_tree.specs.declared.tree.Tree.TheInside.{Inside}
use Rattle.q_tree.proofs.arrival.Puts.{told}
use Rattle.q_tree.proofs.arrival.TreePuts.{still}
use Rattle.q_tree.proofs.departure.Asking.{answered, asked-told}
use Rattle.q_tree.proofs.departure.Peeks.{popped-asked}

-- the same handles on the same ways, and as many nodes
pub record IsSameForm (n m : Node Kept) : Type 0 where
  pub handles : addresses m ≡ addresses n
  pub nodes : count_nodes m ≡ count_nodes n

told-form : (n : Node Kept) (w : Worked) → IsRootTold n w → IsSameForm n (booked kept n w)
told-form n w h = record {
  handles = root-booked kept addresses_own n w h ∙ root-told addresses_own addresses-look n w h;
  nodes = root-booked kept (λ own below. suc (sum below)) n w h ∙ root-told (λ own below. suc (sum below)) (λ a b xs e. refl) n w h;
}

same-form : (n m k : Node Kept) → m ≡ k → IsSameForm n k → IsSameForm n m
same-form n m k is h = record { handles = ap (λ (x : Node Kept). addresses x) is ∙ h.handles; nodes = ap (λ (x : Node Kept). count_nodes x) is ∙ h.nodes }

-- an arrival
pub put-form : (now : ℕ) (p : Descriptor) (n m : Node Kept) (o : Option Route) → IfSome o (λ (r : Route). CanPut now p r.path r.refusal n)
    → m ≡ booked kept n (put_on now p o (shape n)).node → IsSameForm n m
put-form now p n m None h is = same-form n m n (is ∙ still n) (record { handles = refl; nodes = refl })
put-form now p n m (Some r) h is = same-form n m (booked kept n (put_on now p (Some r) (shape n)).node) is (told-form n (put_on now p (Some r) (shape n)).node (told now p r.path r.refusal n h))

-- a peek, and a take after it
module _ (now : ℕ) (n m : Node Kept) (can : CanAsk now n) (is : m ≡ booked kept n (ask now (shape n)).peeked) where
  pub peeked-form : IsSameForm n m
  peeked-form = same-form n m (booked kept n (ask now (shape n)).peeked) is (told-form n (ask now (shape n)).peeked (asked-told now n can))

  pub taken-form : (p : Descriptor) (after : Node Kept) → (ask now (shape n)).shown ≡ Some p → after ≡ booked kept m (pop m).after → IsSameForm n after
  taken-form p after offered left =
      let w : Worked = (ask now (shape n)).taken in
      same-form n after (booked kept n w) (left ∙ (popped-asked now n m p can is offered).left)
      (told-form n w (root-memory (λ m. tt) n w (root-memory (λ u. []) (shape n) w (subst (λ (x : Worked). IsRootTold x w) (before-root now (shape n)) (answered now n can).told_taken))))

-- a place that is made
pub placed-form : (n m : Node Kept) → unplaced m ≡ unplaced n → IsSameForm n m
placed-form n m e =
    let bare : (x : Node Kept) → addresses (unplaced x) ≡ addresses x = λ x. ap (addresses_own x.own) (each-each_memory addresses_own (λ (k : Kept). k.counts) x.below) in
    let counted : (x : Node Kept) → count_nodes (unplaced x) ≡ count_nodes x = λ x. ap (λ ks. suc (sum ks)) (each-each_memory nodes_own (λ (k : Kept). k.counts) x.below) in
    record {
      handles = sym (bare m) ∙ ap (λ (x : Node Counts). addresses x) e ∙ bare n;
      nodes = sym (counted m) ∙ ap (λ (x : Node Counts). count_nodes x) e ∙ counted n;
    }

-- the index stays that of the tree
pub still-indexed : (a b : Inside) → IsIndexedDevice a → IsKeptDevice b → b.handles ≡ a.handles → IsSameForm a.root b.root → IsIndexedDevice b
still-indexed a b k device same form = record {
  device = device;
  handles = ap (λ (i : Index). i.addresses) same ∙ k.handles ∙ sym form.handles;
  room = λ more. subst (λ (i : Index). most_nodes ≤ i.room + 1) (sym same) (k.room (omega (arith, more, form.nodes)));
}

-- ---- an edit

-- what is kept beside the index does not look at it
pub beside-index : (a : Inside) (i : Index) → IsKeptDevice a → IsKeptDevice (record a { handles = i })
beside-index a i k = record { history = k.history; keeps = k.keeps; same = k.same; queued = k.queued; within = k.within }

module _ (a : Inside) (k : IsKeptDevice a) where
  pub apart : AreApart a.root
  apart = subst (λ (xs : List Address). AllPairs (λ (x y : Address). (x.handle ≡ y.handle) → ⊥) xs)
      (sym (ap (addresses_own k.history.root.own) (each-each_memory addresses_own counts_in k.history.root.below))
      ∙ ap (λ (s : TreeState Counts). addresses s.root) (sym k.same)
      ∙ ap (addresses_own a.root.own) (each-each_memory addresses_own (λ (m : Kept). m.counts) a.root.below))
      k.keeps.handles

-- a node with nothing beneath it, and one with something
none-beneath : (n : Node Kept) → children n ≡ [] → count_nodes n ≡ 1
none-beneath n e = ap (λ xs. suc (sum xs)) (each-nodes nodes_own n.below) ∙ ap (λ xs. suc (sum (map (λ (x : Node Kept). count_nodes x) xs))) e

some-beneath : (n c : Node Kept) (cs : List (Node Kept)) → children n ≡ c ∷ cs → 1 < count_nodes n
some-beneath n c cs e =
    omega (
      arith,
      ap (λ xs. suc (sum xs)) (each-nodes nodes_own n.below) ∙ ap (λ xs. suc (sum (map (λ (x : Node Kept). count_nodes x) xs))) e,
      sum_by-cons (λ j. j) (count_nodes c) (map (λ (x : Node Kept). count_nodes x) cs),
    )

nothing-taken : (k : ℕ) → ◌≡◌ {A = List (Node Kept)} (take k []) []
nothing-taken zero = refl
nothing-taken (suc k) = refl

nothing-there : (k : ℕ) → ◌≡◌ {A = Option (Node Kept)} (slice_get [] k) None
nothing-there zero = refl
nothing-there (suc k) = refl

-- where a discipline has no children, and gets none, it has none then
none-after : (r : shapes.DisciplineChange) (d : Discipline) → adds_children r ≡ false → children_after r d [] ≡ []
none-after Nothing d e = refl
none-after (SetLimit limit) d e = refl
none-after (SetBands options leaves) d e = by leaves.items d e where
  by : (new : List (Node Kept)) (x : Discipline) → nat_lt 0 (length new) ≡ false → bands_staying options.bands new x [] ≡ []
  by [] (Fifo limit queue) none = refl
  by [] (Prio priomap) none = nothing-taken options.bands
  by [] (Tbf bucket limit) none = refl
  by [] (Drr s) none = refl
  by [] (FqCodel s) none = refl
  by (n ∷ new) x none = absurd (false≢true (sym none ∙ lt-ltb 0 (length (n ∷ new)) (omega arith)))
none-after (SetBucket bucket limit) d e = by d where
  by : (x : Discipline) → leaves_limited limit x [] ≡ []
  by (Fifo most queue) = refl
  by (Prio priomap) = refl
  by (Tbf old was) = refl
  by (Drr s) = refl
  by (FqCodel s) = refl
none-after (SetOptions options) d e = refl
none-after (AddClass class quantum leaf) d e = absurd (false≢true (sym e))
none-after (SetQuantum class quantum) d e = refl
none-after (RemoveClass class) d e = by (place_in class d) where
  by : (o : Option ℕ)
      → option_map_or (λ (x : ℕ × Node Kept). remove {X = Node Kept} [] x.0)
      (option_and_then (λ i. option_map {U = ℕ × Node Kept} (λ (c : Node Kept). (i, c)) (slice_get [] i)) o) [] ≡ []
  by None = refl
  by (Some i) = ap (λ o. option_map_or (λ (x : ℕ × Node Kept). remove {X = Node Kept} [] x.0) (option_map {U = ℕ × Node Kept} (λ (c : Node Kept). (i, c)) o) []) (nothing-there i)

-- an edit that brings no nodes beneath another leaves none beneath a root that had none
roomy : (e : Edit) (path : List ℕ) (root : Node Kept) → IsSome (node_at path root) → adds_nodes e ≡ false → 1 < count_nodes (edited_by e path root) → 1 < count_nodes root
roomy e (i ∷ path) root there none more = by (children root) refl where
  by : (ns : List (Node Kept)) → children root ≡ ns → 1 < count_nodes root
  by [] is = absurd (false≢true (ap is_some (sym (ap (option_and_then (node_at path)) (ap (λ xs. slice_get xs i) is ∙ nothing-there i))) ∙ there))
  by (c ∷ cs) is = some-beneath root c cs is
roomy (Graft new) [] root there none more = by (children new) refl where
  by : (ns : List (Node Kept)) → children new ≡ ns → 1 < count_nodes root
  by [] is = absurd (omega (arith, more, none-beneath new is))
  by (c ∷ cs) is = absurd (false≢true (sym none ∙ lt-ltb 0 (length (children new)) (omega (arith, ap (λ xs. length xs) is))))
roomy (AddFilter f) [] root there none more = more
roomy (RemoveFilters prio) [] root there none more = more
roomy (DisciplineChange r) [] root there none more = by (children root) refl where
  by : (ns : List (Node Kept)) → children root ≡ ns → 1 < count_nodes root
  by [] is =
      let after : children (effect (DisciplineChange r) root) ≡ [] =
      nodes-side (children_after r root.own.discipline (children root)) ∙ ap (children_after r root.own.discipline) is ∙ none-after r root.own.discipline none in
      absurd (omega (arith, more, none-beneath (effect (DisciplineChange r) root) after))
  by (c ∷ cs) is = some-beneath root c cs is

module _ (a : Inside) (k : IsIndexedDevice a) (e : Edit) (path : List ℕ) (there : IsSome (node_at path a.root)) (i : Index)
    (more : a.handles.room ≤ i.room) (made : adds_nodes e ≡ true → most_nodes ≤ i.room + 1)
    (root : Node Kept) (is : root ≡ edited_by e path a.root) where
  -- the room that was made
  pub has-room : 1 < count_nodes root → most_nodes ≤ i.room + 1
  has-room beneath = by (adds_nodes e) refl where
    by : (b : Bool) → adds_nodes e ≡ b → most_nodes ≤ i.room + 1
    by true adds = made adds
    by false none = omega (arith, more, k.room (roomy e path a.root there none (omega (arith, beneath, ap (λ (n : Node Kept). count_nodes n) is))))

  pub fits : count_nodes root ≤ most_nodes → count_nodes root ≤ i.room + 1
  fits few = elim (cases_lt 1 (count_nodes root)) [
    | inl beneath ↦ omega (arith, few, has-room beneath)
    | inr alone ↦ omega (arith, alone)
  ]

-- an index that is renewed
pub renewed-device : (a : Inside) (i : Index) (room : 1 < count_nodes a.root → most_nodes ≤ a.handles.room + 1) → IsKeptDevice a
    → i.addresses ≡ addresses a.root → a.handles.room ≤ i.room → IsIndexedDevice (record a { handles = i })
renewed-device a i room k same grown = record {
  device = beside-index a i k;
  handles = same;
  room = λ more. omega (arith, grown, room more);
}
