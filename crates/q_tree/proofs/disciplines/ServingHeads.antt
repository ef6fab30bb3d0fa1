-- A drr of which each class is a fifo: the class in front has a head, and asking it changes nothing.
use Rattle.std.proofs.Common.{◌≡◌, ℕ, ◌∙◌, List, [], ◌∷◌, set, map, length, refl, sym, ap, subst, Option, Some, None, ◌||◌, eq-eqb, arith}
use Rattle.std.specs.Prelude.{Bool, true, false, not, MatchOption, IsSomeAnd, ◌==◌, option_map, slice_get, slice_index_or}
use Rattle.std.specs.List.{All, AllZip, position}
use Rattle.std.proofs.lemmas.Bool.{eqb-true, false≢true}
use Rattle.std.proofs.lemmas.List.Quantifiers.{position-Some}
use Rattle.std.proofs.lemmas.Option.{same_Some, slice_get-get_or, slice_get-map}
use Rattle.std.proofs.lemmas.Slice.Zip.{AllZip-left}
use Rattle.q_packet.specs.Descriptor.{Descriptor}
use Rattle.q_packet.specs.declared.stamped.Stamped.{Stamped}
use Rattle.q_codel.specs.declared.limit.Limit.{Limit}
use Rattle.q_drr.specs.Schedule.{Class, Schedule, is_active, quantum_of}
use Rattle.q_drr.specs.Take.{choice_of}
use Rattle.q_model.specs.Beneath.{beneath}
use Rattle.q_model.specs.Lawful.{IsLawfulDiscipline}
use Rattle.q_model.specs.Node as spec
use Rattle.q_model.specs.Node.{Discipline, Node, none}
use Rattle.q_model.specs.Pop.{pop}
use Rattle.q_model.specs.Work.{booked}
use Rattle.q_invariants.proofs.class.Exact.{active-brought_up}
use Rattle.q_invariants.proofs.tree.Forests.{nodes-side}
use Rattle.q_invariants.proofs.tree.Members.{All-at}
use Rattle.q_tree.specs.arrival.KeepSteps.{no_sink}
use Rattle.q_tree.specs.departure.AskSteps.{CanAskIn}
use Rattle.q_tree.specs.departure.GiveSteps.{CanServeHeads, IsFifoIn, IsFreeFifo, IsQuick, IsQuickIn, alone, nothing_shown}
use Rattle.q_tree.specs.departure.Holding.{packet_held}
use Rattle.q_tree.specs.departure.PopSteps.{HasHead, HasHeadIn}
use Rattle.q_tree.specs.Kept.{Kept, kept}
use Rattle.q_tree.specs.Seen.{children_seen, discipline_seen, seen}
use Rattle.q_tree.specs.declared.node.Discipline as code
use Rattle.q_tree.specs.declared.node.Node.TheInside.{Inside}
use Rattle.q_tree.proofs.departure.Asking.{set-same}
use Rattle.q_tree.proofs.departure.GivenHeads.{head-asked}
use Rattle.q_tree.proofs.departure.Peeks.{serve-of}
use Rattle.q_tree.proofs.disciplines.AskBands.{get-there}
use Rattle.q_tree.proofs.disciplines.ServeLemmas.{AreClassesAsked, IsClassShown, IsMet, class-shown, heads_of, place-within}

-- ---- a fifo that holds nothing

module _ (n : Node Kept) (free : n.own.held ≡ None) (single : n.below ≡ none) where
  abbrev fifo : Limit → List Stamped → Node Kept
  fifo limit packets = record n { own = record n.own { discipline = spec.Fifo limit packets; held = None }; below = none }

  same : (limit : Limit) (packets : List Stamped) → n.own.discipline ≡ spec.Fifo limit packets → n ≡ fifo limit packets
  same limit packets e = λ i. record n { own = record n.own { discipline = e i; held = free i }; below = single i }

-- one with something queued has a head
pub head-there : (n : Node Kept) → IsFreeFifo n → (length (beneath n) == 0) ≡ false → HasHead n
head-there n h some = by n.own.discipline refl h.fifo
  where
    by : (d : Discipline) → n.own.discipline ≡ d → IsFifoIn d → HasHead n
    by (spec.Fifo limit []) e is = absurd (false≢true (sym some ∙ ap (λ (m : Node Kept). length (beneath m) == 0) (same n h.free h.alone limit [] e)))
    by (spec.Fifo limit (s ∷ rest)) e is = record { free = h.free; head = subst HasHeadIn (sym e) (omega arith); alone = h.alone }
    by (spec.Prio priomap) e is = absurd is
    by (spec.Tbf bucket limit) e is = absurd is
    by (spec.Drr s) e is = absurd is
    by (spec.FqCodel s) e is = absurd is

-- and is such a fifo still when it has handed out its head
pub fifo-after : (n : Node Kept) → HasHead n → IsFreeFifo (booked kept n (pop n).after)
fifo-after n h = by n.own.discipline refl h.head
  where
    by : (d : Discipline) → n.own.discipline ≡ d → HasHeadIn d → IsFreeFifo (booked kept n (pop n).after)
    by (spec.Fifo limit []) e head = absurd (omega (arith, head))
    by (spec.Fifo limit (s ∷ rest)) e head =
        subst (λ (m : Node Kept). IsFreeFifo (booked kept m (pop m).after)) (sym (same n h.free h.alone limit (s ∷ rest) e)) (record { free = refl; fifo = tt; alone = refl })
    by (spec.Prio priomap) e head = absurd head
    by (spec.Tbf bucket limit) e head = absurd head
    by (spec.Drr s) e head = absurd head
    by (spec.FqCodel s) e head = absurd head

-- the packet of which this is the length
pub shown-of : (o : Option Descriptor) (len : ℕ) → option_map (λ (p : Descriptor). p.len) o ≡ Some len → (x : Descriptor) × (Some x ≡ o) × (x.len ≡ len)
shown-of None len e = cc
shown-of (Some x) len e = (x, refl, same_Some x.len len e)

-- ---- a node, and its discipline

module _ (a : Inside) (none-held : packet_held a.held ≡ None) where
  pub quick-in : (n : Node Kept) → seen a ≡ n → IsQuick n → IsQuickIn None (children_seen a.discipline) (discipline_seen a.discipline)
  quick-in n view h =
      subst (λ o. IsQuickIn o (children_seen a.discipline) (discipline_seen a.discipline)) none-held
      (subst (λ ns. IsQuickIn (packet_held a.held) ns (discipline_seen a.discipline)) (nodes-side (children_seen a.discipline)) (subst IsQuick (sym view) h))

  pub quick-out : IsQuickIn None (children_seen a.discipline) (discipline_seen a.discipline) → IsQuick (seen a)
  quick-out h =
      subst (λ ns. IsQuickIn (packet_held a.held) ns (discipline_seen a.discipline)) (sym (nodes-side (children_seen a.discipline)))
      (subst (λ o. IsQuickIn o (children_seen a.discipline) (discipline_seen a.discipline)) (sym none-held) h)

-- what the classes of a drr need so that they can be served
pub serve-heads : (now : ℕ) (d : code.Discipline) (s : Schedule) (ns : List (Node Kept)) → CanAskIn now d → discipline_seen d ≡ spec.Drr s → ns ≡ children_seen d
    → IsQuickIn None (children_seen d) (discipline_seen d) → CanServeHeads now s ns
serve-heads now d s ns can is kids quick =
    let law = subst (IsLawfulDiscipline can.mtu now (map beneath (children_seen d))) is can.own in
    record {
      serves = serve-of now d s ns can is kids;
      exact =
          subst (λ xs. AllZip (λ (c : Class) (packets : List Descriptor). is_active c.name s.active ≡ not (length packets == 0)) s.classes (map beneath xs)) (sym kids)
          law.exact;
      fifos = subst (All IsFreeFifo) (sym kids) (subst (IsQuickIn None (children_seen d)) is quick).1;
    }

-- ---- a class is active exactly where something is queued

exact-at : (active : ℕ → Bool) (n : ℕ) (cs : List Class) (below : List (List Descriptor)) (i : ℕ) (ps : List Descriptor)
    → AllZip (λ (c : Class) (packets : List Descriptor). active c.name ≡ not (length packets == 0)) cs below → position (λ (c : Class). n == c.name) cs ≡ Some i
    → slice_get below i ≡ Some ps → active n ≡ not (length ps == 0)
exact-at active n cs below i ps exact at there =
    let d : Class = record { name = 0; quantum = 0 } in
    let found = position-Some (λ (c : Class). n == c.name) cs i d at in
    let c : Class = slice_index_or cs i d in
    let named : n ≡ c.name = eqb-true n c.name found.1 in
    let zip = AllZip-left (λ (c : Class) (packets : List Descriptor). active c.name ≡ not (length packets == 0)) cs below exact i in
    let one = subst (λ (o : Option Class). MatchOption o (Unit {0}) (λ x. IsSomeAnd (slice_get below i) (λ (packets : List Descriptor). active x.name ≡ not (length packets == 0))))
    (slice_get-get_or cs i d found.0) zip in
    ap active named ∙ subst (λ (o : Option (List Descriptor)). IsSomeAnd o (λ (packets : List Descriptor). active c.name ≡ not (length packets == 0))) there one

not-true : (b : Bool) → true ≡ not b → b ≡ false
not-true true e = absurd (false≢true (sym e))
not-true false e = refl

-- ---- the class in front

module _ {now : ℕ} {first s : Schedule} {ns ms : List (Node Kept)} {unasked place : ℕ} (unchanged : ms ≡ ns) (can : CanServeHeads now first ns)
    (met : IsMet now first s ns ms unasked nothing_shown no_sink no_sink place) where
  active-first : is_active met.class first.active ≡ true
  active-first =
      let heads = heads_of now first ns in
      let here : is_active met.class s.active ≡ true = ap (is_active met.class) met.front.is ∙ ap (λ b. b || is_active met.class met.front.rest) (eq-eqb met.class met.front.first.class (sym met.front.class)) in
      let still : is_active met.class s.active ≡ is_active met.class first.active =
      sym (active-brought_up met.class (λ m. quantum_of m s.classes) (choice_of heads s) s.active)
      ∙ ap (λ (v : Schedule). is_active met.class v.active) met.asked.serving.ready
      ∙ active-brought_up met.class (λ m. quantum_of m first.classes) (choice_of heads first) first.active in
      sym still ∙ here

  queued : (length (beneath met.at.child) == 0) ≡ false
  queued =
      not-true (length (beneath met.at.child) == 0) (sym active-first
      ∙ exact-at (λ m. is_active m first.active) met.class first.classes (map beneath ns) place (beneath met.at.child) can.exact met.at.at_place
      (slice_get-map (λ (n : Node Kept). beneath n) ns place ∙ ap (option_map (λ (n : Node Kept). beneath n)) met.at.there))

  child-head : HasHead met.at.child
  child-head = head-there met.at.child (All-at IsFreeFifo ns place met.at.child can.fifos met.at.there) queued

  module _ (dummy : Node Kept) where
    abbrev front : Node Kept
    front = slice_index_or ms place dummy

    pub front-there : slice_get ms place ≡ Some front
    front-there = get-there ms place dummy (place-within met)

    pub front-is : front ≡ met.at.child
    front-is = same_Some front met.at.child (sym front-there ∙ ap (λ xs. slice_get xs place) unchanged ∙ met.at.there)

    pub front-head : HasHead front
    front-head = subst HasHead (sym front-is) child-head

    pub front-shows : (p : Descriptor) → Some p ≡ (pop front).shown → IsClassShown now first ns ms met.asked.turns place met.at.child front (alone p) no_sink no_sink
    front-shows p is =
        class-shown met dummy (λ some. head-asked now front front-head p is) (λ none. (refl, ap (λ (o : Option Descriptor). record nothing_shown { packet = o }) is)) (λ none. refl)

    pub front-back : set ms place front ≡ ms
    front-back = set-same ms place front front-there

    -- what was shown is not remembered
    pub front-passed : {s1 : Schedule} {left : ℕ} (p : Descriptor) → AreClassesAsked now first s1 ns (set ms place front) left (alone p) no_sink no_sink
        → AreClassesAsked now first s1 ns ms left nothing_shown no_sink no_sink
    front-passed {s1} {left} p h =
        let b = subst (λ xs. AreClassesAsked now first s1 ns xs left (alone p) no_sink no_sink) front-back h in
        record {
          turns = b.turns;
          serving = b.serving;
          remaining = b.remaining;
          asking = b.asking;
          counted = record { dropped = b.counted.dropped; marked = b.counted.marked };
          told = b.told;
        }
