-- How deep a new qdisc is, how many nodes it brings, and that a node stands in each place of a lawful tree.
use Rattle.std.proofs.Common.{◌≡◌, ℕ, suc, ◌+◌, ◌-◌, ◌<◌, ◌≤◌, Bool, true, false, List, [], ◌∷◌, ◌++◌, length, replicate, refl, ap, subst, ◌∙◌, Option, Some, None, arith}
use Rattle.std.specs.Prelude.{slice_get, option_map, option_and_then, unwrap_or, nat_le, ◌&&◌, ◌==◌, if◌then◌else◌}
use Rattle.std.specs.List.{sum}
use Rattle.std.proofs.lemmas.Bool.{leb-true, and_parts}
use Rattle.std.proofs.lemmas.Option.{none-some, same_Some}
use Rattle.std.proofs.lemmas.List.{length-replicate}
use Rattle.std.proofs.lemmas.List.Quantifiers.{position-Some}
use Rattle.q_packet.specs.Descriptor.{Descriptor}
use Rattle.q_drr.specs.Schedule.{Class, is_active}
use Rattle.q_model.specs.declared.class_id.ClassId.{ClassId}
use Rattle.q_model.specs.declared.command.Command.TheVariants.{QdiscAdd}
use Rattle.q_model.specs.declared.kind.Kind.{Kind}
use Rattle.q_model.specs.declared.kind.Kind.TheVariants as kind
use Rattle.q_model.specs.declared.place.Place.{Place}
use Rattle.q_model.specs.declared.place.Place.TheVariants as place
use Rattle.q_model.specs.Node.{Discipline, Fifo, Prio, Tbf, Drr, FqCodel, Node, Shape, children, shape, each, side_by_side}
use Rattle.q_model.specs.Beneath.{beneath_own}
use Rattle.q_model.specs.Make.{Device, implicit_pfifo, made}
use Rattle.q_model.specs.Find.{greatest, depth, count_nodes, node_at, path_of, free_handle, class_in, class_place, class_path, place_path}
use Rattle.q_model.specs.Edit.{Graft}
use Rattle.q_model.specs.Lawful.{IsLawfulDiscipline}
use Rattle.q_model.specs.Ranges.{IsKind}
use Rattle.q_model.specs.Refusals.{done_unless, most_levels, most_nodes}
use Rattle.q_model.specs.QdiscCommands.{qdisc_add_checks, new_qdisc}
use Rattle.q_model.specs.TreeState.{plan}
use Rattle.q_invariants.specs.Kept.{IsLawfulRoot}
use Rattle.q_invariants.specs.Sizes.{levels_made, nodes_made, sizes}
use Rattle.q_invariants.proofs.class.Exact.{exact-length}
use Rattle.q_invariants.proofs.edit.EditClasses.{member_at}
use Rattle.q_invariants.proofs.edit.Edits.{found_in_shape}
use Rattle.q_invariants.proofs.sizes.EditSizes.{levels_own, nodes_own, Down, down}
use Rattle.q_invariants.proofs.sizes.RemadeSizes.{leaves-depth, leaves-count, some-depth}
use Rattle.q_invariants.proofs.sizes.SizedChanges.{node-lawful, length-below}
use Rattle.q_invariants.proofs.sizes.SizedPlans.{plan-qdisc_add}
use Rattle.q_invariants.proofs.tree.Forests.{each-side}

-- ---- a new qdisc

leaves-levels : (d : Device) (k : ℕ) → 1 ≤ k
    → greatest (each levels_own (side_by_side (replicate k (implicit_pfifo d)))) ≡ 1
leaves-levels d k some =
    let leaves : List Shape = replicate k (implicit_pfifo d) in
    omega (arith, leaves-depth d k, some-depth leaves (omega (arith, length-replicate k (implicit_pfifo d))), ap greatest (each-side levels_own leaves))

leaves-nodes : (d : Device) (k : ℕ) → sum (each nodes_own (side_by_side (replicate k (implicit_pfifo d)))) ≡ k
leaves-nodes d k = ap sum (each-side nodes_own (replicate k (implicit_pfifo d))) ∙ leaves-count d k

pub depth-made : (d : Device) (now : ℕ) (handle : Option ℕ) (k : Kind) → IsKind k
    → depth (made d now handle k) ≡ levels_made k
depth-made d now handle (kind.Pfifo limit) range = refl
depth-made d now handle (kind.Bfifo limit) range = refl
depth-made d now handle (kind.Prio s) range = omega (arith, leaves-levels d s.bands (omega (arith, range.few.0)))
depth-made d now handle (kind.Tbf rate burst limit) range = omega arith
depth-made d now handle kind.Drr range = refl
depth-made d now handle (kind.FqCodel options) range = refl

pub count-made : (d : Device) (now : ℕ) (handle : Option ℕ) (k : Kind)
    → count_nodes (made d now handle k) ≡ nodes_made k
count-made d now handle (kind.Pfifo limit) = refl
count-made d now handle (kind.Bfifo limit) = refl
count-made d now handle (kind.Prio s) = omega (arith, leaves-nodes d s.bands)
count-made d now handle (kind.Tbf rate burst limit) = omega arith
count-made d now handle kind.Drr = refl
count-made d now handle (kind.FqCodel options) = refl

-- ---- the node in a place

some-if : (t : Bool) (k i : ℕ) → (if t then Some k else None) ≡ Some i → (t ≡ true) × (k ≡ i)
some-if true k i e = (refl, same_Some k i e)
some-if false k i e = absurd (none-some i e)

-- a class that is there has a child
class-child : (mtu now : ℕ) (below : List (List Descriptor)) (minor i : ℕ) (d : Discipline)
    → IsLawfulDiscipline mtu now below d → class_in (length below) minor d ≡ Some i → i < length below
class-child mtu now below minor i (Fifo limit queue) h e = absurd (none-some i e)
class-child mtu now below minor i (FqCodel s) h e = absurd (none-some i e)
class-child mtu now below minor i (Drr s) h e =
    omega (arith, (position-Some (λ (c : Class). minor == c.name) s.classes i (record { name = 0; quantum = 0 }) e).0, exact-length (λ m. is_active m s.active) s.classes below h.exact)
class-child mtu now below minor i (Tbf b limit) h e = omega (arith, (some-if (minor == 1) 0 i e).1, h.one)
class-child mtu now below minor i (Prio priomap) h e =
    let found = some-if (nat_le 1 minor && nat_le minor (length below)) (minor - 1) i e in
    let within = and_parts (nat_le 1 minor) (nat_le minor (length below)) found.0 in
    omega (arith, found.1, leb-true 1 minor within.0, leb-true minor (length below) within.1)

through-child : (path : List ℕ) (root n c : Shape) (i : ℕ) → node_at path root ≡ Some n
    → slice_get (children n) i ≡ Some c → node_at (path ++ i ∷ []) root ≡ Some c
through-child [] root n c i e at = ap (option_and_then (node_at [])) (ap (λ (k : Shape). slice_get (children k) i) (same_Some root n e) ∙ at)
through-child (j ∷ path) root n c i e at =
    let d : Down j path root n = down j path root n e in
    ap (option_and_then (node_at (path ++ i ∷ []))) d.at ∙ through-child path d.child n c i d.rest at

module _ (mtu now : ℕ) (root : Shape) (lawful : IsLawfulRoot mtu now root) where
  -- the node at the end of a way
  abbrev pub Stands : List ℕ → Type 0
  Stands path = (old : Shape) × (node_at path root ≡ Some old)

  pub class-there : (class : ClassId) (path : List ℕ) → class_path class root ≡ Some path → Stands path
  class-there class path e = by (path_of class.major root) e
    where
      at_class : (way : List ℕ) (n : Shape) → node_at way root ≡ Some n → (o : Option ℕ) → class_place class.minor n ≡ o
          → option_map (λ i. way ++ i ∷ []) o ≡ Some path → Stands path
      at_class way n at None place e = absurd (none-some path e)
      at_class way n at (Some i) place e =
          let below : List (List Descriptor) = each beneath_own n.below in
          let own : IsLawfulDiscipline mtu now below n.own.discipline = (node-lawful mtu now way root n lawful at).0.discipline in
          let found : class_in (length below) class.minor n.own.discipline ≡ Some i = ap (λ k. class_in k class.minor n.own.discipline) (length-below n) ∙ place in
          let within : i < length (children n) = omega (arith, class-child mtu now below class.minor i n.own.discipline own found, length-below n) in
          let child = member_at (children n) i within in
          (child.0, subst (λ (p : List ℕ). node_at p root ≡ Some child.0) (same_Some (way ++ i ∷ []) path e) (through-child way root n child.0 i at child.1))

      at_node : (way : List ℕ) (o : Option Shape) → node_at way root ≡ o
          → option_and_then (λ (n : Shape). option_map (λ i. way ++ i ∷ []) (class_place class.minor n)) o ≡ Some path
          → Stands path
      at_node way None at e = absurd (none-some path e)
      at_node way (Some n) at e = at_class way n at (class_place class.minor n) refl e

      by : (o : Option (List ℕ))
          → option_and_then (λ way. option_and_then (λ (n : Shape). option_map (λ i. way ++ i ∷ []) (class_place class.minor n)) (node_at way root)) o ≡ Some path
          → Stands path
      by None e = absurd (none-some path e)
      by (Some way) e = at_node way (node_at way root) refl e

  -- a place that is not there is refused, and the way to the root stands for it
  pub place-there : (p : Place) → Stands (unwrap_or (place_path p root) [])
  place-there place.Top = (root, refl)
  place-there place.Root = (root, refl)
  place-there (place.Class class) = by (class_path class root) refl
    where
      by : (o : Option (List ℕ)) → class_path class root ≡ o → Stands (unwrap_or o [])
      by None e = (root, refl)
      by (Some path) e = class-there class path e

-- ---- the plan of a new qdisc

module _ (root : Shape) (levels : depth root ≤ most_levels) (few : count_nodes root ≤ most_nodes) (d : Device) (now : ℕ) where
  pub plan-qdisc_made : (p : Place) (handle : Option ℕ) (k : Kind) (old : Shape) (nodes : ℕ) → IsKind k
      → node_at (unwrap_or (place_path p root) []) root ≡ Some old
      → nodes + count_nodes old ≡ count_nodes root + nodes_made k
      → plan d now (QdiscAdd p handle k) root
      ≡ done_unless (qdisc_add_checks p handle (unwrap_or (place_path p root) []) root ++ sizes (length (unwrap_or (place_path p root) []) + levels_made k) nodes)
      (Graft (unwrap_or (place_path p root) []) (new_qdisc d now handle k root))
  plan-qdisc_made p handle k old nodes range at e =
      let path : List ℕ = unwrap_or (place_path p root) [] in
      let h : Option ℕ = Some (unwrap_or handle (free_handle root)) in
      plan-qdisc_add root levels few d now p handle k old nodes at (omega (arith, count-made d now h k))
      ∙ ap (λ (deep : ℕ). done_unless (qdisc_add_checks p handle path root ++ sizes (length path + deep) nodes) (Graft path (new_qdisc d now handle k root))) (depth-made d now h k range)

-- ---- a tree is as large as its shape

pub depth-shape : {M : Type 0} (n : Node M) → depth (shape n) ≡ depth n
depth-shape n = found_in_shape levels_own n

pub count-shape : {M : Type 0} (n : Node M) → count_nodes (shape n) ≡ count_nodes n
count-shape n = found_in_shape nodes_own n
