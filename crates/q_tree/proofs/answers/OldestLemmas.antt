-- The oldest packet of a node of the code: of what it holds, of its own queues, and of its children.
use Rattle.std.proofs.Common.{◌≡◌, ℕ, zero, suc, ◌+◌, ◌≤◌, ◌<◌, ◌∙◌, List, [], ◌∷◌, ◌++◌, map, drop, length, refl, sym, ap, ap₂, subst, Option, Some, None, option_map, option_and_then, arith}
use Rattle.std.specs.Prelude.{slice_get, slice_index_or}
use Rattle.std.specs.List.{flat_map}
use Rattle.std.specs.Option.{option_to_list}
use Rattle.std.proofs.lemmas.List.{append-nil, drop_more, drop_all}
use Rattle.std.proofs.lemmas.List.Elements.{All-weaker}
use Rattle.std.proofs.lemmas.Option.{none-some, same_Some}
use Rattle.q_packet.specs.Descriptor.{Descriptor}
use Rattle.q_packet.specs.declared.stamped.Stamped.{Stamped}
use Rattle.q_codel.specs.declared.limit.Limit.{Limit}
use Rattle.q_fqcodel.specs.FqState.{Flow, FqState}
use Rattle.q_fqcodel.specs.Oldest.{earlier, earliest, first_arrival, first_arrivals}
use Rattle.q_fqcodel.proofs.OldestLemmas.{earlier_assoc, earliest-append, earliest-one}
use Rattle.q_model.specs.Beneath.{beneath_own}
use Rattle.q_model.specs.Lawful.{IsStampedBy, IsLawfulFlow, IsLawfulDiscipline}
use Rattle.q_model.specs.Node as spec
use Rattle.q_model.specs.declared.class_id.ClassId.{ClassId}
use Rattle.q_model.specs.declared.place.Place.{Place}
use Rattle.q_model.specs.declared.place.Place.TheVariants as place
use Rattle.q_model.specs.Find.{node_at, class_path}
use Rattle.q_model.specs.TreeState.{TreeState}
use Rattle.q_model.specs.Node.{Node, children, side_by_side}
use Rattle.q_model.specs.Oldest.{arrivals_in, arrival_held, oldest_own, oldest, oldest_at}
use Rattle.q_invariants.specs.Kept.{AllLawful, AreLawful, IsLawfulRoot}
use Rattle.q_invariants.proofs.tree.Forests.{each-side, are-lawful, lawful-nodes}
use Rattle.q_invariants.proofs.tree.Oldest.{first-oldest, flows-oldest, own-oldest}
use Rattle.q_tree.specs.answers.Oldest.{IsInOrder, IsInOrderIn, AreAllInOrder, oldest_of, oldest_within}
use Rattle.q_tree.specs.answers.ReadyAt.{sooner}
use Rattle.q_tree.specs.departure.Holding.{packet_held, since_held}
use Rattle.q_tree.specs.Kept.{Kept}
use Rattle.q_tree.specs.Seen.{seen, discipline_seen, children_seen}
use Rattle.q_tree.specs.declared.node.Discipline.{Discipline}
use Rattle.q_tree.specs.declared.node.Node.TheInside.{Inside}
use Rattle.q_tree.specs.declared.tree.Tree.TheInside as tree
use Rattle.q_tree.specs.answers.Finding.{qdisc_with, class_with}
use Rattle.q_tree.specs.TreeSeen.{IsKeptDevice}
use Rattle.q_tree.proofs.answers.StatsLemmas.{in-class}
use Rattle.q_tree.proofs.TreeLemmas.{lawful-root}

pub sooner-earlier : (a b : Option ℕ) → sooner a b ≡ earlier a b
sooner-earlier None b = refl
sooner-earlier (Some x) None = refl
sooner-earlier (Some x) (Some y) = refl

-- what a node holds
pub held-arrival : (a : Inside) → option_map (λ (s : Stamped). s.at) a.held ≡ arrival_held (seen a).own
held-arrival a = by a.held
  where
    by : (h : Option Stamped) → option_map (λ (s : Stamped). s.at) h ≡ option_map (λ (p : Descriptor). since_held h) (packet_held h)
    by None = refl
    by (Some s) = refl

pub node-oldest : (a : Inside) → oldest (seen a) ≡ earlier (arrival_held (seen a).own) (oldest_within a.discipline)
node-oldest a =
    ap (oldest_own (seen a).own) (each-side oldest_own (children_seen a.discipline))
    ∙ own-oldest (seen a).own (map oldest (children_seen a.discipline))

-- its own queues
pub fifo-oldest : (d : Discipline) (limit : Limit) (queue : List Stamped) (mtu clock : ℕ) (below : List (List Descriptor)) → discipline_seen d ≡ spec.Fifo limit queue → children_seen d ≡ []
    → IsLawfulDiscipline mtu clock below (discipline_seen d) → first_arrival queue ≡ oldest_within d
fifo-oldest d limit queue mtu clock below is alone h =
    let law = subst (IsLawfulDiscipline mtu clock below) is h in
    first-oldest queue law.stamps.in_order
    ∙ ap earliest (sym (append-nil (map (λ (s : Stamped). s.at) queue)))
    ∙ sym (ap₂ (λ (k : spec.Discipline) (ns : List (Node Kept)). earliest (arrivals_in k ++ flat_map (λ (o : Option ℕ). option_to_list o) (map oldest ns))) is alone)

pub fq-oldest : (d : Discipline) (s : FqState) (mtu clock : ℕ) (below : List (List Descriptor)) → discipline_seen d ≡ spec.FqCodel s → children_seen d ≡ []
    → IsLawfulDiscipline mtu clock below (discipline_seen d) → earliest (first_arrivals s.flows) ≡ oldest_within d
fq-oldest d s mtu clock below is alone h =
    let law = subst (IsLawfulDiscipline mtu clock below) is h in
    flows-oldest clock s.flows (All-weaker (IsLawfulFlow clock s.settings) (λ (f : Flow). IsStampedBy clock f.queue) (λ f k. k.stamps) s.flows law.flows)
    ∙ ap earliest (sym (append-nil (arrivals_in (spec.FqCodel s))))
    ∙ sym (ap₂ (λ (k : spec.Discipline) (ns : List (Node Kept)). earliest (arrivals_in k ++ flat_map (λ (o : Option ℕ). option_to_list o) (map oldest ns))) is alone)

-- nodes side by side, from this place on
pub oldest-next : (ns : List (Node Kept)) (i : ℕ) (x : Node Kept) (first : Option ℕ) → i < length ns → x ≡ slice_index_or ns i x
    → earlier first (oldest_of (map oldest (drop i ns))) ≡ earlier (earlier first (oldest x)) (oldest_of (map oldest (drop (i + 1) ns)))
oldest-next ns i x first inside is =
    let rest : List (Node Kept) = drop (i + 1) ns in
    ap (λ (ms : List (Node Kept)). earlier first (oldest_of (map oldest ms))) (drop_more ns i x inside)
    ∙ ap (λ (y : Node Kept). earlier first (oldest_of (map oldest (y ∷ rest)))) (sym is)
    ∙ ap (earlier first) (earliest-append (option_to_list (oldest x)) (flat_map (λ (o : Option ℕ). option_to_list o) (map oldest rest))
    ∙ ap (λ (o : Option ℕ). earlier o (oldest_of (map oldest rest))) (earliest-one (oldest x)))
    ∙ sym (earlier_assoc first (oldest x) (oldest_of (map oldest rest)))

pub oldest-end : (ns : List (Node Kept)) (i : ℕ) (first : Option ℕ) → length ns ≤ i → earlier first (oldest_of (map oldest (drop i ns))) ≡ first
oldest-end ns i first past = ap (λ (ms : List (Node Kept)). earlier first (oldest_of (map oldest ms))) (drop_all i ns past) ∙ none first
  where
    none : (o : Option ℕ) → earlier o None ≡ o
    none None = refl
    none (Some x) = refl

-- a lawful node, and its discipline
pub inside-order : (a : Inside) (n : Node Kept) → seen a ≡ n → IsInOrder n → IsInOrderIn a.discipline
inside-order a n view h =
    let law : IsLawfulRoot h.mtu h.clock (seen a) = subst (IsLawfulRoot h.mtu h.clock) (sym view) h.lawful in
    record {
      mtu = h.mtu;
      clock = h.clock;
      own = subst (λ bs. IsLawfulDiscipline h.mtu h.clock bs (discipline_seen a.discipline)) (each-side beneath_own (children_seen a.discipline)) law.0.discipline;
      lawful = from h.mtu h.clock (children_seen a.discipline) law.1;
    }
  where
    from : (mtu clock : ℕ) (ns : List (Node Kept)) → AllLawful mtu clock (side_by_side ns) → AreLawful mtu clock ns
    from mtu clock [] h = tt
    from mtu clock (m ∷ ns) h = ((h.0, h.1), from mtu clock ns h.2)

-- its children
pub each-order : (ns : List (Node Kept)) (i : ℕ) (x : Node Kept) → slice_get ns i ≡ Some x → AreAllInOrder ns → IsInOrder x
each-order ns i x at h = record { mtu = h.mtu; clock = h.clock; lawful = found ns i at h.lawful }
  where
    found : (ns : List (Node Kept)) (i : ℕ) → slice_get ns i ≡ Some x → AreLawful h.mtu h.clock ns → IsLawfulRoot h.mtu h.clock x
    found [] i at law = absurd (none-some x at)
    found (n ∷ ns) zero at law = subst (IsLawfulRoot h.mtu h.clock) (same_Some n x at) law.0
    found (n ∷ ns) (suc i) at law = found ns i at law.1

-- a node further down
pub order-at : (path : List ℕ) (n m : Node Kept) → node_at path n ≡ Some m → IsInOrder n → IsInOrder m
order-at [] n m e h = subst IsInOrder (same_Some n m e) h
order-at (i ∷ path) n m e h = by (slice_get (children n) i) (order-at path) refl e
  where
    kids : AreAllInOrder (children n)
    kids = record { mtu = h.mtu; clock = h.clock; lawful = are-lawful h.mtu h.clock (children n) (lawful-nodes h.mtu h.clock n.below h.lawful.1) }

    by : (o : Option (Node Kept)) → ((c m : Node Kept) → node_at path c ≡ Some m → IsInOrder c → IsInOrder m) → slice_get (children n) i ≡ o → option_and_then (node_at path) o ≡ Some m
        → IsInOrder m
    by None further at e = absurd (none-some m e)
    by (Some c) further at e = further c m e (each-order (children n) i c at kids)

-- the root of a tree, and the node in a class
pub root-order : (a : tree.Inside) → IsKeptDevice a → IsInOrder a.root
root-order a k = record { mtu = a.mtu; clock = a.clock; lawful = lawful-root a k a.clock (omega arith) k.keeps.moment }

pub class-order : (id : ClassId) (root n m : Node Kept) → qdisc_with id.major root ≡ Some n → class_with id.minor n ≡ Some m → IsInOrder root → IsInOrder m
class-order id root n m parent child h = by (class_path id root) (sym (in-class id root) ∙ ap (option_and_then (class_with id.minor)) parent ∙ child)
  where
    by : (o : Option (List ℕ)) → option_and_then (λ path. node_at path root) o ≡ Some m → IsInOrder m
    by None e = absurd (none-some m e)
    by (Some path) e = order-at path root m e h

pub class-oldest : (s : TreeState Kept) (p : Place) (id : ClassId) (n : Node Kept) (m : Option (Node Kept)) → p ≡ place.Class id → qdisc_with id.major s.root ≡ Some n → class_with id.minor n ≡ m
    → option_and_then (λ (c : Node Kept). oldest c) m ≡ oldest_at p s
class-oldest s p id n m is parent child =
    ap (option_and_then (λ (c : Node Kept). oldest c)) (sym (ap (option_and_then (class_with id.minor)) parent ∙ child) ∙ in-class id s.root)
    ∙ sym (ap (λ (q : Place). oldest_at q s) is)
