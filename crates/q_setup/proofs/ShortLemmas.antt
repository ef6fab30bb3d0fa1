-- A lawful tree has few classes and filters at each node.
use Rattle.std.proofs.Common.{◌≡◌, ◌≤◌, ◌<◌, ◌^◌, ◌∙◌, ◌++◌, ℕ, suc, List, [], ◌∷◌, Option, Some, None, map, length, refl, sym, ap, subst, arith}
use Rattle.std.specs.Prelude.{Bool, false, drop, slice_get, unwrap_or, ◌==◌, ◌||◌, eqb}
use Rattle.std.specs.List.{All, AllByRecursion, cons_option, filter_map, list_any, range_with_len}
use Rattle.std.proofs.lemmas.List.{length-map, map-append}
use Rattle.std.proofs.lemmas.List.Elements.{All-map, All-weaker, recursion_from_All}
use Rattle.std.proofs.lemmas.List.FromFn.{length-range_with_len}
use Rattle.q_packet.specs.Descriptor.{Descriptor}
use Rattle.q_drr.specs.Schedule.{Class, Schedule}
use Rattle.q_drr.proofs.DifferLemmas.{AllDiffer, ClassesDiffer, differ_from_pairs}
use Rattle.q_drr.proofs.NameLemmas.{length_le_from_differ}
use Rattle.q_model.specs.declared.class_id.ClassId.{ClassId}
use Rattle.q_model.specs.declared.class_view.ClassView.{ClassView}
use Rattle.q_model.specs.declared.filter.Filter.{Filter}
use Rattle.q_model.specs.declared.filter_view.FilterView.{FilterView}
use Rattle.q_model.specs.declared.place.Place.{Place}
use Rattle.q_model.specs.declared.place.Place.TheVariants as place
use Rattle.q_model.specs.Beneath.{beneath_own}
use Rattle.q_model.specs.Conserved.{every_node, nodes_of}
use Rattle.q_model.specs.Lawful.{IsLawfulDiscipline, IsLawfulDrr, IsLawfulNode, IsLawfulTree}
use Rattle.q_model.specs.Node.{Discipline, Fifo, Prio, Tbf, Drr, FqCodel, Own, Forest, none, more, Node, children, each, nodes_in}
use Rattle.q_model.specs.Numbers.{IsMinor}
use Rattle.q_model.specs.Tally.{Counts, totals}
use Rattle.q_model.specs.TreeState.{TreeState}
use Rattle.q_model.specs.Views.{class_ids, class_kind, minors, places_below}
use Rattle.q_tree.specs.answers.Showing.{standing_in}
use Rattle.q_setup.specs.Alike.{IsShort, entries, entry}

length-cons_option : {A : Type 0} (x : Option A) (xs : List A) → length (cons_option x xs) ≤ suc (length xs)
length-cons_option None xs = omega arith
length-cons_option (Some x) xs = omega arith

length-filter_map : {A B : Type 0} (f : A → Option B) (xs : List A) → length (filter_map f xs) ≤ length xs
length-filter_map f [] = omega arith
length-filter_map f (x ∷ xs) = let rest = length-filter_map f xs in let one = length-cons_option (f x) (filter_map f xs) in omega (arith, rest, one)

length-each : {M A : Type 0} (f : Own → List A → A) (x : Forest M) → length (each f x) ≡ length (nodes_in x)
length-each f none = refl
length-each f (more own m below others) = ap suc (length-each f others)

-- classes whose names differ
any-names : (n : ℕ) (cs : List Class) → list_any (λ m. n == m) (map (λ (c : Class). c.name) cs) ≡ list_any (λ (c : Class). n == c.name) cs
any-names n [] = refl
any-names n (c ∷ cs) = ap (λ b. (n == c.name) || b) (any-names n cs)

names_differ : (cs : List Class) → ClassesDiffer cs → AllDiffer (map (λ (c : Class). c.name) cs)
names_differ [] h = tt
names_differ (c ∷ cs) h = (any-names c.name cs ∙ h.0, names_differ cs h.1)

few_classes : (mtu : ℕ) (s : Schedule) (below : List (List Descriptor)) → IsLawfulDrr mtu s below → length s.classes ≤ 2 ^ 16
few_classes mtu s below h =
    let names : List ℕ = map (λ (c : Class). c.name) s.classes in
    let differ = names_differ s.classes (differ_from_pairs (λ (c : Class). c.name) s.classes h.schedule.classes_differ) in
    let small = All-map (λ n. n < 2 ^ 16) (λ (c : Class). c.name) s.classes
    (All-weaker (λ (c : Class). IsMinor c.name) (λ (c : Class). c.name < 2 ^ 16) (λ c within. let most = within.1 in omega (arith, most)) s.classes h.minors) in
    let most = length_le_from_differ names (2 ^ 16) differ small in
    let same = length-map s.classes (λ (c : Class). c.name) in
    omega (arith, most, same)

few_minors : (mtu clock : ℕ) (bands : ℕ) (below : List (List Descriptor)) (d : Discipline) → bands ≡ length below → IsLawfulDiscipline mtu clock below d → length (minors bands d) ≤ 2 ^ 16
few_minors mtu clock bands below (Fifo limit queue) same h = omega arith
few_minors mtu clock bands below (Prio priomap) same h =
    let count = length-range_with_len 1 bands in let most = h.most in omega (arith, count, most, same)
few_minors mtu clock bands below (Tbf bucket limit) same h = omega arith
few_minors mtu clock bands below (Drr s) same h =
    let names = length-map s.classes (λ (c : Class). c.name) in let few = few_classes mtu s below h in omega (arith, names, few)
few_minors mtu clock bands below (FqCodel s) same h = omega arith

short-entry : (mtu clock : ℕ) (p : Place) (n : Node Counts) → IsLawfulNode totals mtu clock n → IsShort (entry (p, n))
short-entry mtu clock p n h =
    let below = each beneath_own n.below in
    let few = few_minors mtu clock (length (children n)) below n.own.discipline (sym (length-each beneath_own n.below)) h.own.discipline in
    let ids =
    length-filter_map {B = ClassId} (λ minor. Rattle.std.specs.Prelude.option_map (λ major. record { major = major; minor = minor })
    n.own.handle) (minors (length (children n)) n.own.discipline) in
    let views = length-map {B = ClassView} (class_ids n) (λ (c : ClassId). record { class = c; kind = class_kind n.own.discipline c.minor }) in
    let filters = length-filter_map {B = FilterView} (λ (f : Filter). Rattle.std.specs.Prelude.option_map (λ parent. record { parent = parent; filter = f }) n.own.handle) n.own.filters in
    let most = h.own.filters in
    record { classes = omega (arith, few, ids, views); filters = omega (arith, filters, most) }

-- all of two lists
front_all : {A : Type 0} (P : A → Type 0) (xs ys : List A) → AllByRecursion P (xs ++ ys) → AllByRecursion P xs
front_all P [] ys h = tt
front_all P (x ∷ xs) ys h = (h.0, front_all P xs ys h.1)

back_all : {A : Type 0} (P : A → Type 0) (xs ys : List A) → AllByRecursion P (xs ++ ys) → AllByRecursion P ys
back_all P [] ys h = h
back_all P (x ∷ xs) ys h = back_all P xs ys h.1

both_all : {A : Type 0} (P : A → Type 0) (xs ys : List A) → AllByRecursion P xs → AllByRecursion P ys → AllByRecursion P (xs ++ ys)
both_all P [] ys h k = k
both_all P (x ∷ xs) ys h k = (h.0, both_all P xs ys h.1 k)

short-in : (mtu clock : ℕ) (places : List Place) (x : Forest Counts) → AllByRecursion (IsLawfulNode totals mtu clock) (nodes_of x) → AllByRecursion IsShort (map entry (standing_in places x))
short-in mtu clock places none h = tt
short-in mtu clock places (more own m below others) h =
    let n : Node Counts = record { own = own; memory = m; below = below } in
    let here = standing_in (places_below own below) below in
    let there = standing_in (drop 1 places) others in (
      short-entry mtu clock (unwrap_or (slice_get places 0) place.Root) n h.0,
      subst (AllByRecursion IsShort) (sym (map-append entry here there))
          (both_all IsShort (map entry here) (map entry there)
          (short-in mtu clock (places_below own below) below (front_all (IsLawfulNode totals mtu clock) (nodes_of below) (nodes_of others) h.1))
          (short-in mtu clock (drop 1 places) others (back_all (IsLawfulNode totals mtu clock) (nodes_of below) (nodes_of others) h.1))),
    )

pub short-tree : (clock : ℕ) (s : TreeState Counts) → IsLawfulTree totals clock s → AllByRecursion IsShort (entries s)
short-tree clock s h =
    let mtu = s.device.mtu in
    let all = recursion_from_All (IsLawfulNode totals mtu clock) (every_node s.root) h.nodes in
    (short-entry mtu clock place.Root s.root all.0, short-in mtu clock (places_below s.root.own s.root.below) s.root.below all.1)
