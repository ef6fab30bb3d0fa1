-- The route from a node, in terms of those from its children.
use Rattle.std.proofs.Common.{◌≡◌, ℕ, zero, suc, ◌<◌, ◌≤◌, ◌-◌, ◌∙◌, List, [], ◌∷◌, ◌++◌, refl, sym, ap, subst, Option, Some, None, option_map, arith}
use Rattle.std.specs.Prelude.{slice_get, slice_index}
use Rattle.std.specs.Option.{option_map_or}
use Rattle.std.proofs.lemmas.List.{append-nil, append_assoc}
use Rattle.std.proofs.lemmas.Option.{slice_get-map, same_Some}
use Rattle.q_packet.specs.Descriptor.{Descriptor}
use Rattle.q_packet.specs.declared.cause.Cause.{Cause}
use Rattle.q_packet.specs.declared.cause.Cause.TheVariants.{NoClass}
use Rattle.q_model.specs.declared.filter.Filter.{Filter}
use Rattle.q_model.specs.Filters.{named_class}
use Rattle.q_model.specs.Find.{depth, greatest}
use Rattle.q_model.specs.Node as spec
use Rattle.q_model.specs.Node.{Node, Own, side_by_side}
use Rattle.q_model.specs.Route.{Route, route, way, through, refused, class_at}
use Rattle.q_invariants.proofs.tree.Forests.{each-side}
use Rattle.q_tree.specs.arrival.ArriveSteps.{way_in}
use Rattle.q_tree.specs.departure.AskSteps.{own_of}
use Rattle.q_tree.specs.Kept.{Kept}
use Rattle.q_tree.specs.NodeCode.{forest_size, node_size}
use Rattle.q_tree.specs.route.Ahead.{ahead, ways, depths}
use Rattle.q_tree.specs.Seen.{seen, discipline_seen, children_seen}
use Rattle.q_tree.specs.declared.node.Node.TheInside.{Inside}

-- a path that ends in a refusal
pub ends-refused : (w : Route) (cause : Cause) → record w { refusal = Some cause } ≡ ahead w.path (refused cause)
ends-refused w cause = ap (λ (path : List ℕ). record { path = path; refusal = Some cause }) (sym (append-nil w.path))

pub through-some : (w : Route) (p : Descriptor) (ns : List (Node Kept)) (k : ℕ) (c : Node Kept) → slice_get ns k ≡ Some c → ahead (w.path ++ k ∷ []) (route p c) ≡ ahead w.path (through (ways p ns) k)
through-some w p ns k c e =
    ap (λ (path : List ℕ). record { path = path; refusal = (route p c).refusal }) (append_assoc w.path (k ∷ []) (route p c).path)
    ∙ ap (ahead w.path) (sym (ap (λ (o : Option Route). option_map_or (λ (r : Route). record r { path = k ∷ r.path }) o (refused NoClass))
    (slice_get-map (route p) ns k ∙ ap (option_map (route p)) e)))

-- a child is smaller, and no deeper, than all children together
pub child-size : (ns : List (Node Kept)) (k : ℕ) (c : Node Kept) → slice_get ns k ≡ Some c → node_size c < forest_size (side_by_side ns)
child-size [] k c e = cc
child-size (n ∷ ns) zero c e = subst (λ (x : Node Kept). node_size x < forest_size (side_by_side (n ∷ ns))) (same_Some n c e) (omega arith)
child-size (n ∷ ns) (suc k) c e = omega (arith, child-size ns k c e)

pub child-depth : (ns : List (Node Kept)) (k : ℕ) (c : Node Kept) → slice_get ns k ≡ Some c → depth c ≤ greatest (depths ns)
child-depth [] k c e = cc
child-depth (n ∷ ns) zero c e = subst (λ (x : Node Kept). depth x ≤ greatest (depths (n ∷ ns))) (same_Some n c e) (omega arith)
child-depth (n ∷ ns) (suc k) c e = omega (arith, child-depth ns k c e)

pub depth-is : (a : Inside) → depth (seen a) ≡ suc (greatest (depths (children_seen a.discipline)))
depth-is a = ap (λ ds. suc (greatest ds)) (each-side (λ own below. suc (greatest below)) (children_seen a.discipline))

-- a way looks at the filters of a node alone
way-filters : (p : Descriptor) (own : Own) (filters : List Filter) (below : List Route) (d : spec.Discipline) → filters ≡ own.filters
    → way p (own_of None filters d) below d ≡ way p own below d
way-filters p own filters below (spec.Fifo limit queue) e = refl
way-filters p own filters below (spec.FqCodel s) e = refl
way-filters p own filters below (spec.Prio priomap) e =
    ap (λ fs. through below (option_map_or (λ minor. minor - 1) (named_class fs p) (slice_index priomap p.prio))) e
way-filters p own filters below (spec.Tbf bucket limit) e = refl
way-filters p own filters below (spec.Drr s) e =
    ap (λ fs. elim (named_class fs p) [ None ↦ refused NoClass | Some minor ↦ option_map_or (through below) (class_at minor s) (refused NoClass) ]) e

-- the route from a node is the path from its discipline
pub way-from : (p : Descriptor) (a : Inside) (n : Node Kept) (filters : List Filter) → seen a ≡ n → filters ≡ a.filters
    → way_in p filters a.discipline ≡ route p n
way-from p a n filters view same =
    way-filters p (seen a).own filters (ways p (children_seen a.discipline)) (discipline_seen a.discipline) same
    ∙ ap (λ (below : List Route). way p (seen a).own below (discipline_seen a.discipline))
    (sym (each-side (λ own below. way p own below own.discipline) (children_seen a.discipline)))
    ∙ ap (route p) view

-- the children of a node, as they are read
pub children-size : (a : Inside) (n : Node Kept) (ns : List (Node Kept)) → seen a ≡ n → ns ≡ children_seen a.discipline → forest_size (side_by_side ns) < node_size n
children-size a n ns v e = subst (λ (x : Node Kept). forest_size (side_by_side ns) < node_size x) v (subst (λ xs. forest_size (side_by_side ns) < suc (forest_size (side_by_side xs))) e (omega arith))

pub children-depth : (a : Inside) (n : Node Kept) (ns : List (Node Kept)) → seen a ≡ n → ns ≡ children_seen a.discipline → depth n ≡ suc (greatest (depths ns))
children-depth a n ns v e = ap depth (sym v) ∙ depth-is a ∙ sym (ap (λ xs. suc (greatest (depths xs))) e)
