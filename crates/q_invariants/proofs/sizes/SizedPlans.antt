-- What a command plans, with the checks of depth and of number found from the tree as it stands.
use Rattle.std.proofs.Common.{◌≡◌, ℕ, suc, ◌+◌, ◌≤◌, Bool, true, false, not, List, [], ◌∷◌, ◌++◌, length, refl, Option, Some, None, Result, Ok, Err}
use Rattle.std.specs.Prelude.{unwrap_or, ◌==◌, if◌then◌else◌}
use Rattle.std.specs.List.{filter}
use Rattle.std.specs.Option.{option_map_or}
use Rattle.q_model.specs.declared.class_id.ClassId.{ClassId}
use Rattle.q_model.specs.declared.command.Command.TheVariants.{QdiscAdd, QdiscDel, ClassAdd, ClassChange, ClassDel, FilterAdd, FilterDel}
use Rattle.q_model.specs.declared.filter.Filter.{Filter}
use Rattle.q_model.specs.declared.kind.Kind.{Kind}
use Rattle.q_model.specs.declared.refusal.Refusal.{Refusal}
use Rattle.q_model.specs.declared.refusal.Refusal.TheVariants.{NoQdisc, NoParent}
use Rattle.q_model.specs.declared.place.Place.{Place}
use Rattle.q_drr.specs.Schedule.{Schedule, added, removed}
use Rattle.q_model.specs.Node.{Discipline, Fifo, Prio, Tbf, Drr, FqCodel, Shape}
use Rattle.q_model.specs.Make.{Device, implicit_pfifo, implicit_beneath}
use Rattle.q_model.specs.Find.{depth, count_nodes, node_at, path_of, class_place, place_path}
use Rattle.q_model.specs.Edit.{Edit, Graft}
use Rattle.q_model.specs.Refusals.{Check, first_refusal, done_unless, is_so, most_levels, most_nodes}
use Rattle.q_model.specs.QdiscCommands.{at_target, target, qdisc_add_checks, new_qdisc, qdisc_del, retuned, leaf_at, way_to_parent}
use Rattle.q_model.specs.ClassCommands.{of_schedule, at_drr, with_class, class_add_checks, class_added, class_change_checks, class_changed, class_change, class_del_checks, class_removed, class_del, with_new_quantum, without_class}
use Rattle.q_model.specs.Filters.{with_filter}
use Rattle.q_model.specs.FilterCommands.{with_filters, has_prio, filter_add, filter_added, filter_add_checks, filter_del, filters_removed, filter_del_checks}
use Rattle.q_model.specs.TreeState.{checked, plan}
use Rattle.q_invariants.specs.Sizes.{sizes}
use Rattle.q_invariants.proofs.sizes.SizeChecks.{checked-graft, checked-one, checked-retuned, checked-filters, checked-without_class, checked-with_class}

-- ---- a plan, check by check

-- what a command asks for is done unless the tree gets too large by it
abbrev pub then_checked : Shape → Result Edit Refusal → Result Edit Refusal
then_checked root r = elim r [
  | Ok edit ↦ checked root edit
  | Err refusal ↦ Err refusal
]

module _ (root : Shape) where
  -- the checks of size come behind the others
  pub then-done : (checks more : List Check) (edit : Edit) → checked root edit ≡ done_unless more edit
      → then_checked root (done_unless checks edit) ≡ done_unless (checks ++ more) edit
  then-done [] more edit e = e
  then-done (c ∷ checks) more edit e = by c.holds (then-done checks more edit e)
    where
      by : (t : Bool) → then_checked root (done_unless checks edit) ≡ done_unless (checks ++ more) edit
          → then_checked root (option_map_or (λ (r : Refusal). Err r) (if t then Some c.refusal else first_refusal checks) (Ok edit))
          ≡ option_map_or (λ (r : Refusal). Err r) (if t then Some c.refusal else first_refusal (checks ++ more)) (Ok edit)
      by true rec = refl
      by false rec = rec

  pub then-never : (checks : List Check) (edit : Edit) → checked root edit ≡ Ok edit
      → then_checked root (done_unless checks edit) ≡ done_unless checks edit
  then-never [] edit e = e
  then-never (c ∷ checks) edit e = by c.holds (then-never checks edit e)
    where
      by : (t : Bool) → then_checked root (done_unless checks edit) ≡ done_unless checks edit
          → then_checked root (option_map_or (λ (r : Refusal). Err r) (if t then Some c.refusal else first_refusal checks) (Ok edit))
          ≡ option_map_or (λ (r : Refusal). Err r) (if t then Some c.refusal else first_refusal checks) (Ok edit)
      by true rec = refl
      by false rec = rec

  pub then-target : (refusal : Refusal) (found : Option (List ℕ)) (f g : List ℕ → Shape → Result Edit Refusal)
      → ((path : List ℕ) (n : Shape) → node_at path root ≡ Some n → then_checked root (f path n) ≡ g path n)
      → then_checked root (at_target refusal found f root) ≡ at_target refusal found g root
  then-target refusal None f g h = refl
  then-target refusal (Some path) f g h = by (node_at path root) refl
    where
      by : (o : Option Shape) → node_at path root ≡ o
          → then_checked root (option_map_or (f path) o (Err refusal)) ≡ option_map_or (g path) o (Err refusal)
      by None e = refl
      by (Some n) e = h path n e

  then-schedule : (f g : Schedule → Result Edit Refusal) → ((s : Schedule) → then_checked root (f s) ≡ g s)
      → (d : Discipline) → then_checked root (of_schedule f d) ≡ of_schedule g d
  then-schedule f g h (Drr s) = h s
  then-schedule f g h (Fifo limit queue) = refl
  then-schedule f g h (FqCodel s) = refl
  then-schedule f g h (Prio priomap) = refl
  then-schedule f g h (Tbf b limit) = refl

  pub then-drr : (parent : Option ℕ) (class : ClassId) (f g : List ℕ → Shape → Schedule → Result Edit Refusal)
      → ((path : List ℕ) (n : Shape) (s : Schedule) → node_at path root ≡ Some n → then_checked root (f path n s) ≡ g path n s)
      → then_checked root (at_drr parent class f root) ≡ at_drr parent class g root
  then-drr parent class f g h = by (is_so (λ major. not (major == class.major)) parent)
    where
      at : (List ℕ → Shape → Schedule → Result Edit Refusal) → Result Edit Refusal
      at k = at_target NoQdisc (path_of class.major root) (λ path n. of_schedule (k path n) n.own.discipline) root

      by : (t : Bool) → then_checked root (if t then Err NoParent else at f) ≡ (if t then Err NoParent else at g)
      by true = refl
      by false = then-target NoQdisc (path_of class.major root) (λ path n. of_schedule (f path n) n.own.discipline) (λ path n. of_schedule (g path n) n.own.discipline)
          (λ path n e. then-schedule (f path n) (g path n) (λ s. h path n s e) n.own.discipline)

  module _ (levels : depth root ≤ most_levels) (few : count_nodes root ≤ most_nodes) (d : Device) (now : ℕ) where
    -- ---- commands that make no tree larger

    pub plan-filter_add : (parent major : ℕ) (f : Filter)
        → plan d now (FilterAdd parent major f) root ≡ filter_add parent major f root
    plan-filter_add parent major f =
        then-target NoQdisc (path_of parent root) (filter_added parent major f) (filter_added parent major f)
        (λ path n e. then-never (filter_add_checks parent major f n) (with_filters path n (with_filter f n.own.filters)) (checked-filters root levels few path n e (with_filter f n.own.filters)))

    pub plan-filter_del : (parent prio : ℕ) → plan d now (FilterDel parent prio) root ≡ filter_del parent prio root
    plan-filter_del parent prio =
        then-target NoQdisc (path_of parent root) (filters_removed prio) (filters_removed prio)
        (λ path n e.
        let left : List Filter = filter (λ f. not (has_prio prio f)) n.own.filters in
        then-never (filter_del_checks prio n) (with_filters path n left) (checked-filters root levels few path n e left))

    pub plan-class_change : (parent : Option ℕ) (class : ClassId) (quantum : Option ℕ)
        → plan d now (ClassChange parent class quantum) root ≡ class_change parent class quantum root
    plan-class_change parent class quantum =
        then-drr parent class (class_changed class quantum) (class_changed class quantum)
        (λ path n s e.
        let new : Discipline = Drr (with_new_quantum class quantum s) in
        then-never (class_change_checks class n) (retuned n path new) (checked-retuned root levels few path n e new))

    pub plan-class_del : (parent : Option ℕ) (class : ClassId)
        → plan d now (ClassDel parent class) root ≡ class_del parent class root
    plan-class_del parent class =
        then-drr parent class (class_removed class) (class_removed class)
        (λ path n s e.
        let i : ℕ = unwrap_or (class_place class.minor n) 0 in
        then-never (class_del_checks class n) (without_class i path n (removed class.minor s)) (checked-without_class root levels few path n e i (removed class.minor s)))

    leaf-alone : (path : List ℕ) → (depth (leaf_at d path root) ≡ 1) × (count_nodes (leaf_at d path root) ≡ 1)
    leaf-alone [] = (refl, refl)
    leaf-alone (i ∷ path) = of_parent (node_at (way_to_parent (i ∷ path)) root)
      where
        implicit : (x : Discipline) → (depth (implicit_beneath d x) ≡ 1) × (count_nodes (implicit_beneath d x) ≡ 1)
        implicit (Fifo limit queue) = (refl, refl)
        implicit (Prio priomap) = (refl, refl)
        implicit (Tbf b limit) = (refl, refl)
        implicit (Drr s) = (refl, refl)
        implicit (FqCodel s) = (refl, refl)

        of_parent : (o : Option Shape)
            → (depth (option_map_or (λ (parent : Shape). implicit_beneath d parent.own.discipline) o (implicit_pfifo d)) ≡ 1)
            × (count_nodes (option_map_or (λ (parent : Shape). implicit_beneath d parent.own.discipline) o (implicit_pfifo d)) ≡ 1)
        of_parent None = (refl, refl)
        of_parent (Some parent) = implicit parent.own.discipline

    pub plan-qdisc_del : (place : Option Place) (handle : Option ℕ)
        → plan d now (QdiscDel place handle) root ≡ qdisc_del d place handle root
    plan-qdisc_del place handle =
        let f : List ℕ → Shape → Result Edit Refusal = λ path n. Ok (Graft path (leaf_at d path root)) in
        then-target NoQdisc (target place handle root) f f
        (λ path n e. let alone = leaf-alone path in checked-one root levels few path (leaf_at d path root) n e alone.0 alone.1)

    -- ---- a class more

    abbrev pub class_added_sized : ClassId → Option ℕ → List ℕ → Shape → Schedule → Result Edit Refusal
    class_added_sized class quantum path n s =
        done_unless (class_add_checks class n ++ sizes (length path + 2) (suc (count_nodes root))) (with_class d path n (added class.minor (unwrap_or quantum d.mtu) s))

    pub plan-class_add : (parent : ℕ) (class : ClassId) (quantum : Option ℕ)
        → plan d now (ClassAdd parent class quantum) root ≡ at_drr (Some parent) class (class_added_sized class quantum) root
    plan-class_add parent class quantum =
        then-drr (Some parent) class (class_added d class quantum) (class_added_sized class quantum)
        (λ path n s e.
        let t : Schedule = added class.minor (unwrap_or quantum d.mtu) s in
        then-done (class_add_checks class n) (sizes (length path + 2) (suc (count_nodes root))) (with_class d path n t) (checked-with_class root levels few d path n t e))

    -- ---- a new qdisc, in place of this node

    pub plan-qdisc_add : (place : Place) (handle : Option ℕ) (k : Kind) (old : Shape) (nodes : ℕ)
        → node_at (unwrap_or (place_path place root) []) root ≡ Some old
        → nodes + count_nodes old ≡ count_nodes root + count_nodes (new_qdisc d now handle k root)
        → plan d now (QdiscAdd place handle k) root
        ≡ done_unless (qdisc_add_checks place handle (unwrap_or (place_path place root) []) root ++ sizes (length (unwrap_or (place_path place root) []) + depth (new_qdisc d now handle k root)) nodes)
        (Graft (unwrap_or (place_path place root) []) (new_qdisc d now handle k root))
    plan-qdisc_add place handle k old nodes there e =
        let path : List ℕ = unwrap_or (place_path place root) [] in
        let new : Shape = new_qdisc d now handle k root in
        then-done (qdisc_add_checks place handle path root) (sizes (length path + depth new) nodes) (Graft path new) (checked-graft root levels path new old nodes there e)
