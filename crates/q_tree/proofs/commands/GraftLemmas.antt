-- A new qdisc in a place, and the implicit leaf that comes back: what the model plans, and that the edit of the code is that plan.
use Rattle.std.proofs.Common.{◌≡◌, ℕ, ◌+◌, ◌-◌, ◌<◌, ◌≤◌, ◌∙◌, List, [], ◌∷◌, ◌++◌, append_assoc, take, length, refl, sym, ap, ap₂, Option, Some, None, option_map, option_and_then, Result, Ok, Err, arith}
use Rattle.std.specs.List.{list_any}
use Rattle.std.proofs.lemmas.List.{length-append}
use Rattle.std.proofs.lemmas.Option.{same_Some}
use Rattle.q_packet.specs.Least.{least}
use Rattle.std.specs.Prelude.{Bool, true, false, not, ◌==◌, is_none, is_some, unwrap_or, if◌then◌else◌}
use Rattle.std.specs.Option.{option_map_or}
use Rattle.q_packet.specs.declared.cause.Cause.TheVariants.{Purged}
use Rattle.q_model.specs.declared.class_id.ClassId.{ClassId}
use Rattle.q_model.specs.declared.command.Command.{Command}
use Rattle.q_model.specs.declared.command.Command.TheVariants.{QdiscAdd}
use Rattle.q_model.specs.declared.kind.Kind.{Kind}
use Rattle.q_model.specs.declared.kind.Kind.TheVariants as kind
use Rattle.q_model.specs.declared.refusal.Refusal.{Refusal}
use Rattle.q_model.specs.declared.refusal.Refusal.TheVariants.{NoParent, NotClassful, NoClass, Exists, HandleTaken}
use Rattle.q_model.specs.declared.place.Place.{Place}
use Rattle.q_model.specs.declared.place.Place.TheVariants as place
use Rattle.q_model.specs.Beneath.{beneath}
use Rattle.q_model.specs.Edit as model
use Rattle.q_model.specs.Find.{Address, addresses_own, class_place, count_nodes, free_handle, has_handle, is_explicit, node_at, path_of, place_path}
use Rattle.q_model.specs.Make.{Device, implicit_beneath, implicit_pfifo, made}
use Rattle.q_model.specs.Node.{Discipline, Fifo, Prio, Tbf, Drr, FqCodel, Node, Shape, blank, children, shape}
use Rattle.q_model.specs.QdiscCommands.{leaf_at, new_qdisc, place_checks, qdisc_add_checks, way_to_parent}
use Rattle.q_model.specs.Ranges.{IsCommand, IsKind}
use Rattle.q_model.specs.Refusals.{Check, done_unless, first_refusal, is_classless, is_so, most_nodes, refuse}
use Rattle.q_model.specs.TreeState.{plan}
use Rattle.q_model.specs.Work.{losses_of}
use Rattle.q_codel.specs.declared.limit.Limit.TheVariants.{Packets}
use Rattle.q_invariants.specs.Kept.{IsLawfulRoot}
use Rattle.q_invariants.specs.Sizes.{levels_made, nodes_made, sizes}
use Rattle.q_invariants.proofs.edit.EditMade.{new_implicit, new_leaf}
use Rattle.q_invariants.proofs.edit.EditNew.{IsNew}
use Rattle.q_invariants.proofs.edit.Edits.{found_in_shape}
use Rattle.q_invariants.proofs.edit.EditSuits.{beneath-shape, node_at-shape}
use Rattle.q_invariants.proofs.sizes.EditSizes.{sized-within}
use Rattle.q_invariants.proofs.sizes.MadeSizes.{Stands, count-shape, place-there, plan-qdisc_made}
use Rattle.q_invariants.proofs.tree.Forests.{lawful-with_memory}
use Rattle.q_tree.specs.answers.Finding.{reached}
use Rattle.q_tree.specs.answers.Showing.{IsNumbered}
use Rattle.q_tree.specs.commands.Commands.{IsBounded, IsPlannedFor}
use Rattle.q_tree.specs.commands.Editing.{notes_of, removed, removed_at}
use Rattle.q_tree.specs.commands.Grafting.{graft_checks, nodes_at}
use Rattle.q_tree.specs.commands.Making.{IsNewNode, NeedsMemory}
use Rattle.q_tree.specs.Kept.{Kept, kept}
use Rattle.q_tree.specs.declared.commands.edit.Edit.TheVariants.{Graft}
use Rattle.q_tree.specs.declared.commands.planned.Planned.{Planned}
use Rattle.q_tree.proofs.answers.FindLemmas.{take-front}
use Rattle.q_tree.proofs.commands.MakingLemmas.{new-counts, nothing-beneath}
use Rattle.q_tree.proofs.commands.Plans.{all-passed, few, same-refusal, shallow}
use Rattle.q_tree.proofs.commands.TargetLemmas.{IsReached, class-shape, explicit-shape, reached-at}

-- a node of a tree has no more nodes than the tree may have
pub at-few : (path : List ℕ) (root n : Node Kept) → node_at path root ≡ Some n → IsBounded root → count_nodes n ≤ most_nodes
at-few path root n at h =
    let within = sized-within path (shape root) (shape n) (node_at-shape path root ∙ ap (option_map shape) at) in
    omega (arith, within.1, count-shape root, count-shape n, h.nodes)

-- ---- the way to a place

module _ (class : ClassId) (root : Node Kept) where
  -- the refusals of a class of this qdisc
  abbrev class_checks : Option Shape → List Check
  class_checks parent =
      refuse NoParent (is_none parent)
      ∷ refuse NotClassful (is_so (λ (n : Shape). is_classless n.own.discipline) parent)
      ∷ refuse NoClass (is_so (λ (n : Shape). is_none (class_place class.minor n)) parent)
      ∷ []

  abbrev outcome : List ℕ → Option Shape → Result (List ℕ) Refusal
  outcome path parent = done_unless (class_checks parent) path

  parent-is : (found : Option (List ℕ)) (o : Option (List ℕ × Node Kept)) → reached root found ≡ o
      → option_and_then (λ path. node_at path (shape root)) found ≡ option_map (λ (x : List ℕ × Node Kept). shape x.1) o
  parent-is found o e = by found ∙ ap (option_map (λ (x : List ℕ × Node Kept). shape x.1)) e where
    at : (path : List ℕ) (p : Option (Node Kept)) → option_map shape p ≡ option_map (λ (x : List ℕ × Node Kept). shape x.1) (option_map {U = List ℕ × Node Kept} (λ (n : Node Kept). (path, n)) p)
    at path None = refl
    at path (Some n) = refl

    by : (f : Option (List ℕ)) → option_and_then (λ path. node_at path (shape root)) f ≡ option_map (λ (x : List ℕ × Node Kept). shape x.1) (reached root f)
    by None = refl
    by (Some path) = node_at-shape path root ∙ at path (node_at path root)

  pub way-none : (x : List ℕ) → reached root (path_of class.major (shape root)) ≡ None → Err NoParent ≡ done_unless (place_checks (place.Class class) (shape root)) x
  way-none x e = sym (ap (outcome x) (parent-is (path_of class.major (shape root)) None e))

  module _ (x path : List ℕ) (n : Node Kept) (e : reached root (path_of class.major (shape root)) ≡ Some (path, n)) where
    checked : done_unless (place_checks (place.Class class) (shape root)) x ≡ outcome x (Some (shape n))
    checked = ap (outcome x) (parent-is (path_of class.major (shape root)) (Some (path, n)) e)

    pub way-classless : is_classless n.own.discipline ≡ true → Err NotClassful ≡ done_unless (place_checks (place.Class class) (shape root)) x
    way-classless classless =
        sym (checked ∙ ap (λ b. done_unless (refuse NoParent false ∷ refuse NotClassful b ∷ refuse NoClass (is_none (class_place class.minor (shape n))) ∷ []) x) classless)

    pub way-classful : (o : Option ℕ) → is_classless n.own.discipline ≡ false → class_place class.minor n ≡ o
        → done_unless (refuse NoClass (is_none o) ∷ []) x ≡ done_unless (place_checks (place.Class class) (shape root)) x
    way-classful o classful place =
        sym (checked
        ∙ ap (λ b. done_unless (refuse NoParent false ∷ refuse NotClassful b ∷ refuse NoClass (is_none (class_place class.minor (shape n))) ∷ []) x) classful
        ∙ ap (λ p. done_unless (refuse NoClass (is_none p) ∷ []) x) (class-shape class.minor n ∙ place))

    pub way-there : (i : ℕ) → class_place class.minor n ≡ Some i → place_path (place.Class class) (shape root) ≡ Some (path ++ i ∷ [])
    way-there i place =
        let is : IsReached root (path_of class.major (shape root)) path n = reached-at root (path_of class.major (shape root)) path n e in
        ap (option_and_then (λ way. option_and_then (λ (parent : Shape). option_map (λ j. way ++ j ∷ []) (class_place class.minor parent)) (node_at way (shape root)))) is.found_is
        ∙ ap (option_and_then (λ (parent : Shape). option_map (λ j. path ++ j ∷ []) (class_place class.minor parent))) (node_at-shape path root ∙ ap (option_map shape) is.there)
        ∙ ap (option_map (λ j. path ++ j ∷ [])) (class-shape class.minor n ∙ place)

-- ---- the implicit leaf of a place

pub leaf-is : (d : Device) (path rest : List ℕ) (i : ℕ) (root : Node Kept) → path ≡ rest ++ i ∷ []
    → option_map_or (λ (parent : Node Kept). implicit_beneath d parent.own.discipline) (node_at rest root) (implicit_pfifo d) ≡ leaf_at d path (shape root)
leaf-is d path rest i root is = by (node_at rest root) ∙ back ∙ at path is where
  by : (o : Option (Node Kept))
      → option_map_or (λ (parent : Node Kept). implicit_beneath d parent.own.discipline) o (implicit_pfifo d)
      ≡ option_map_or (λ (parent : Shape). implicit_beneath d parent.own.discipline) (option_map shape o) (implicit_pfifo d)
  by None = refl
  by (Some n) = refl

  back : option_map_or (λ (parent : Shape). implicit_beneath d parent.own.discipline) (option_map shape (node_at rest root)) (implicit_pfifo d)
      ≡ option_map_or (λ (parent : Shape). implicit_beneath d parent.own.discipline) (node_at rest (shape root)) (implicit_pfifo d)
  back = ap (λ o. option_map_or (λ (parent : Shape). implicit_beneath d parent.own.discipline) o (implicit_pfifo d)) (sym (node_at-shape rest root))

  at : (way : List ℕ) → way ≡ rest ++ i ∷ [] → option_map_or (λ (parent : Shape). implicit_beneath d parent.own.discipline) (node_at rest (shape root)) (implicit_pfifo d) ≡ leaf_at d way (shape root)
  at [] same = absurd (omega (arith, ap length same, length-append rest (i ∷ [])))
  at (j ∷ way) same =
      let shorter : length rest ≡ length (j ∷ way) - 1 = omega (arith, ap length same, length-append rest (i ∷ [])) in
      ap (λ xs. option_map_or (λ (parent : Shape). implicit_beneath d parent.own.discipline) (node_at xs (shape root)) (implicit_pfifo d))
      (sym (take-front rest i) ∙ ap₂ (λ k xs. take k xs) shorter (sym same))

-- ---- checks one after another

pub then-refused : {A B : Type 0} (xs ys : List Check) (a : A) (b : B) (refusal : Refusal) → done_unless xs b ≡ Err refusal → done_unless (xs ++ ys) a ≡ Err refusal
then-refused {A} {B} [] ys a b refusal e = absurd cc
then-refused {A} {B} (c ∷ xs) ys a b refusal e = by (λ h. then-refused xs ys a b refusal h) c.holds e where
  by : (done_unless xs b ≡ Err refusal → done_unless (xs ++ ys) a ≡ Err refusal) → (t : Bool)
      → option_map_or (λ (r : Refusal). Err r) (if t then Some c.refusal else first_refusal xs) (Ok b) ≡ Err refusal
      → option_map_or (λ (r : Refusal). Err r) (if t then Some c.refusal else first_refusal (xs ++ ys)) (Ok a) ≡ Err refusal
  by rest true h = cc
  by rest false h = rest h

pub then-passed : {A B : Type 0} (xs ys : List Check) (a : A) (b x : B) → done_unless xs b ≡ Ok x → done_unless (xs ++ ys) a ≡ done_unless ys a
then-passed {A} {B} [] ys a b x e = refl
then-passed {A} {B} (c ∷ xs) ys a b x e = by (λ h. then-passed xs ys a b x h) c.holds e where
  by : (done_unless xs b ≡ Ok x → done_unless (xs ++ ys) a ≡ done_unless ys a) → (t : Bool)
      → option_map_or (λ (r : Refusal). Err r) (if t then Some c.refusal else first_refusal xs) (Ok b) ≡ Ok x
      → option_map_or (λ (r : Refusal). Err r) (if t then Some c.refusal else first_refusal (xs ++ ys)) (Ok a) ≡ done_unless ys a
  by rest true h = absurd cc
  by rest false h = rest h

-- ---- the plan of a new qdisc

handle-shape : (h : ℕ) (root : Node Kept) → has_handle h (shape root) ≡ has_handle h root
handle-shape h root = ap (λ (xs : List Address). list_any (λ (a : Address). a.handle == h) xs) (found_in_shape addresses_own root)

pub free-shape : (root : Node Kept) → free_handle (shape root) ≡ free_handle root
free-shape root = ap (λ (xs : List Address). 0x8001 + least (λ k. not (list_any (λ (a : Address). a.handle == 0x8001 + k) xs)) (length xs)) (found_in_shape addresses_own root)

module _ (root : Node Kept) (bounded : IsBounded root) (lawful : IsNumbered root) (d : Device) (now : ℕ) (p : Place) (handle : Option ℕ) (k : Kind) (ranges : IsKind k) where
  abbrev pub way : List ℕ
  way = unwrap_or (place_path p (shape root)) []

  abbrev pub new_edit : model.Edit
  new_edit = model.Graft way (new_qdisc d now handle k (shape root))

  shape-lawful : IsLawfulRoot lawful.mtu lawful.clock (shape root)
  shape-lawful = lawful-with_memory lawful.mtu lawful.clock (λ m. tt) root lawful.lawful

  old : Stands lawful.mtu lawful.clock (shape root) shape-lawful way
  old = place-there lawful.mtu lawful.clock (shape root) shape-lawful p

  -- the node that stands there
  pub there : is_some (node_at way root) ≡ true
  there = by (node_at way root) (sym (node_at-shape way root) ∙ old.1) where
    by : (o : Option (Node Kept)) → option_map shape o ≡ Some old.0 → is_some o ≡ true
    by None e = absurd cc
    by (Some n) e = refl

  count-there : nodes_at way root ≡ count_nodes old.0
  count-there = by (node_at way root) (sym (node_at-shape way root) ∙ old.1) where
    by : (o : Option (Node Kept)) → option_map shape o ≡ Some old.0 → option_map_or count_nodes o 0 ≡ count_nodes old.0
    by None e = absurd cc
    by (Some n) e = sym (count-shape n) ∙ ap (λ (s : Shape). count_nodes s) (same_Some (shape n) old.0 e)

  abbrev nodes : ℕ
  nodes = count_nodes root + nodes_made k - nodes_at way root

  enough : nodes + count_nodes old.0 ≡ count_nodes (shape root) + nodes_made k
  enough =
      let within = sized-within way (shape root) old.0 old.1 in
      omega (arith, within.1, count-there, count-shape root)

  same-checks : qdisc_add_checks p handle way (shape root) ++ sizes (length way + levels_made k) nodes ≡ place_checks p (shape root) ++ graft_checks handle k way root
  same-checks =
      append_assoc (place_checks p (shape root))
      (refuse Exists (is_explicit way (shape root)) ∷ refuse HandleTaken (is_so (λ h. has_handle h (shape root)) handle) ∷ [])
      (sizes (length way + levels_made k) nodes)
      ∙ ap₂ (λ a b. place_checks p (shape root) ++ (refuse Exists a ∷ refuse HandleTaken b ∷ sizes (length way + levels_made k) nodes)) (explicit-shape way root) (taken handle) where
        taken : (o : Option ℕ) → is_so (λ h. has_handle h (shape root)) o ≡ is_so (λ h. has_handle h root) o
        taken None = refl
        taken (Some h) = handle-shape h root

  plan-is : plan d now (QdiscAdd p handle k) (shape root) ≡ done_unless (place_checks p (shape root) ++ graft_checks handle k way root) new_edit
  plan-is =
      plan-qdisc_made (shape root) (shallow root bounded) (few root bounded) d now p handle k old.0 nodes ranges old.1 enough
      ∙ ap (λ checks. done_unless checks new_edit) same-checks

  pub place-refused : (x : List ℕ) (refusal : Refusal) → done_unless (place_checks p (shape root)) x ≡ Err refusal → plan d now (QdiscAdd p handle k) (shape root) ≡ Err refusal
  place-refused x refusal e = plan-is ∙ then-refused (place_checks p (shape root)) (graft_checks handle k way root) new_edit x refusal e

  module _ (x y : List ℕ) (passed : done_unless (place_checks p (shape root)) x ≡ Ok y) where
    pub graft-refused : (refusal : Refusal) → ◌≡◌ {A = Result (Unit {0}) Refusal} (done_unless (graft_checks handle k way root) tt) (Err refusal)
        → plan d now (QdiscAdd p handle k) (shape root) ≡ Err refusal
    graft-refused refusal e =
        plan-is ∙ then-passed (place_checks p (shape root)) (graft_checks handle k way root) new_edit x y passed ∙ same-refusal (graft_checks handle k way root) tt new_edit refusal e

    pub graft-planned : ◌≡◌ {A = Result (Unit {0}) Refusal} (done_unless (graft_checks handle k way root) tt) (Ok tt) → plan d now (QdiscAdd p handle k) (shape root) ≡ Ok new_edit
    graft-planned e =
        plan-is ∙ then-passed (place_checks p (shape root)) (graft_checks handle k way root) new_edit x y passed ∙ all-passed (graft_checks handle k way root) tt new_edit e

-- ---- a new node, where this way ends

module _ (memory : Type 0) (device : Device) (root : Node Kept) (p : Planned) (new : Node Kept) (s : Shape) (is : IsNewNode new s) (mtu clock : ℕ) (fresh : Option ℕ) (made : IsNew mtu clock fresh s)
    (command : Command) (ranges : IsCommand command) (now : ℕ) (plan-is : plan device now command (shape root) ≡ Ok (model.Graft p.path.items s))
    (there : is_some (node_at p.path.items root) ≡ true) where
  removed-is : removed_at (Graft new) p.path.items root ≡ model.packets_removed (model.Graft p.path.items s) (shape root)
  removed-is = by (node_at p.path.items root) ∙ sym (ap (λ o. option_map_or (λ (n : Shape). beneath n) o []) (node_at-shape p.path.items root)) where
    by : (o : Option (Node Kept)) → option_map_or (removed (Graft new)) o [] ≡ option_map_or (λ (n : Shape). beneath n) (option_map shape o) []
    by None = refl
    by (Some n) = sym (beneath-shape n)

  pub graft-planned-for : (0 < length (children new) → memory) → IsPlannedFor memory command (record p { edit = Graft new }) now device root
  graft-planned-for takes = record {
    planned = record {
      command = command;
      ranges = ranges;
      edit = model.Graft p.path.items s;
      planned = plan-is;
      lost = removed-is;
      same = ap (λ m. model.edited_at kept (notes_of (Graft new) p.path.items root) (λ n. m) p.path.items root) is
          ∙ ap (λ ps. model.edited_at kept (losses_of Purged ps) (λ n. blank kept s) p.path.items root) removed-is;
      there = there;
      ready = record { counts = new-counts new s is; alone = nothing-beneath new s is mtu clock fresh made };
    };
    asked = refl;
    takes = takes;
  }

-- the implicit leaf of a place is new
pub leaf-new : (mtu clock : ℕ) (d : Device) (path : List ℕ) (root : Node Kept) → IsNew mtu clock None (leaf_at d path (shape root))
leaf-new mtu clock d [] root = new_leaf mtu clock None (Packets d.txqueuelen)
leaf-new mtu clock d (i ∷ path) root = of_parent (node_at (way_to_parent (i ∷ path)) (shape root)) where
  of_parent : (o : Option Shape) → IsNew mtu clock None (option_map_or (λ (parent : Shape). implicit_beneath d parent.own.discipline) o (implicit_pfifo d))
  of_parent None = new_leaf mtu clock None (Packets d.txqueuelen)
  of_parent (Some parent) = new_implicit mtu clock d parent.own.discipline

-- nothing stands beneath it
pub leaf-alone : (d : Device) (path : List ℕ) (root new : Node Kept) → IsNewNode new (leaf_at d path (shape root)) → 0 < length (children new) → ⊥
leaf-alone d [] root new is more = omega (arith, more, ap (λ (n : Node Kept). length (children n)) is)
leaf-alone d (i ∷ path) root new is more = of_parent (node_at (way_to_parent (i ∷ path)) (shape root)) is where
  by : (x : Discipline) → new ≡ blank kept (implicit_beneath d x) → ⊥
  by (Fifo limit queue) e = omega (arith, more, ap (λ (n : Node Kept). length (children n)) e)
  by (Prio priomap) e = omega (arith, more, ap (λ (n : Node Kept). length (children n)) e)
  by (Tbf bucket limit) e = omega (arith, more, ap (λ (n : Node Kept). length (children n)) e)
  by (Drr s) e = omega (arith, more, ap (λ (n : Node Kept). length (children n)) e)
  by (FqCodel s) e = omega (arith, more, ap (λ (n : Node Kept). length (children n)) e)

  of_parent : (o : Option Shape) → new ≡ blank kept (option_map_or (λ (parent : Shape). implicit_beneath d parent.own.discipline) o (implicit_pfifo d)) → ⊥
  of_parent None e = omega (arith, more, ap (λ (n : Node Kept). length (children n)) e)
  of_parent (Some parent) e = by parent.own.discipline e

-- nor beneath a new qdisc of a kind that needs no memory
pub made-takes : (k : Kind) (d : Device) (now : ℕ) (handle : Option ℕ) (new : Node Kept) → IsNewNode new (made d now handle k) → 0 < length (children new) → NeedsMemory k
made-takes (kind.Pfifo limit) d now handle new is more = absurd (omega (arith, more, ap (λ (n : Node Kept). length (children n)) is))
made-takes (kind.Bfifo limit) d now handle new is more = absurd (omega (arith, more, ap (λ (n : Node Kept). length (children n)) is))
made-takes (kind.Prio options) d now handle new is more = tt
made-takes (kind.Tbf rate burst limit) d now handle new is more = tt
made-takes kind.Drr d now handle new is more = absurd (omega (arith, more, ap (λ (n : Node Kept). length (children n)) is))
made-takes (kind.FqCodel options) d now handle new is more = tt
