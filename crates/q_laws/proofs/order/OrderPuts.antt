-- An arrival keeps the order of a flow: at every node a packet of it is put behind all others of it.
use Rattle.std.proofs.Common.{◌≡◌, ℕ, zero, suc, refl, sym, ap, ap₂, subst, ◌∙◌, List, [], ◌∷◌, ◌++◌, map, set, Option, Some, None, option_map, option_and_then, option_to_list}
use Rattle.std.specs.Prelude.{Bool, true, false, ◌&&◌, ◌==◌, ◌-◌, ◌%◌, nat_lt, slice_get, slice_index, if◌then◌else◌}
use Rattle.std.specs.List.{find, position}
use Rattle.std.specs.Option.{option_map_or}
use Rattle.std.proofs.lemmas.Bool.{and_parts, eqb-true}
use Rattle.std.proofs.lemmas.List.{append-nil, append_assoc, map-append, map-set}
use Rattle.q_packet.specs.Descriptor.{Descriptor}
use Rattle.q_packet.specs.Key.{Key}
use Rattle.q_packet.specs.declared.cause.Cause.{Cause}
use Rattle.q_packet.specs.declared.cause.Cause.TheVariants.{TooLong, NoClass, OverLimit}
use Rattle.q_packet.specs.declared.stamped.Stamped.{Stamped}
use Rattle.q_codel.specs.FifoState.{takes}
use Rattle.q_codel.specs.declared.limit.Limit.{Limit}
use Rattle.q_drr.specs.Schedule.{Class, Schedule}
use Rattle.q_fqcodel.specs.FqState.{FqSettings, FqState, all_packets}
use Rattle.q_fqcodel.specs.Put.{flow_of, after_put}
use Rattle.q_model.specs.declared.filter.Filter.{Filter}
use Rattle.q_model.specs.Filters.{is_of, takes_key, named_class}
use Rattle.q_model.specs.Route.{Route, ends, refused, through, band_of, class_at, way, route}
use Rattle.q_model.specs.Tally.{Note, Arrived, Lost}
use Rattle.q_model.specs.Node.{Discipline, Fifo, Prio, Tbf, Drr, FqCodel, Own, Forest, none, more, Shape, nodes_in, children, each}
use Rattle.q_model.specs.Beneath.{packets_of, packets_in, beneath_own, beneath, is_empty}
use Rattle.q_model.specs.Work.{Worked, Work, worked, quiet, settled_class, settled_in, settled}
use Rattle.q_model.specs.Put.{lost_in, put_here, put_beneath, put_along}
use Rattle.q_invariants.specs.Kept.{IsLawfulRoot}
use Rattle.q_invariants.proofs.ask.Answer.{beneath-worked}
use Rattle.q_invariants.proofs.put.DrrSettled.{class-settled, settled-packets}
use Rattle.q_invariants.proofs.sums.Shuffled.{key-is}
use Rattle.q_invariants.proofs.tree.Forests.{each-at}
use Rattle.q_invariants.proofs.tree.Quiet.{quiets, waiting-quiet, beneath-quiets, child-lawful}
use Rattle.q_invariants.proofs.tree.Ways.{CanQueue, nil-cons, way-ends, route-goes}
use Rattle.q_laws.specs.order.Order.{same_key, is_alike, flow_among, IsPartOf}
use Rattle.q_laws.proofs.order.OrderFlows.{alike-none, less-after, flow_queues, all-flat, put-joins, put-settings}
use Rattle.q_laws.proofs.order.OrderParts.{flat, IsLess, less-append, OnlyAt, AreLess, less-flat, less-only, skip-rest, less-set, only-set, flat-set}
use Rattle.q_laws.proofs.order.OrderWays.{HasWay, less-way, IsOnWay, AllOnWay, IsRootOnWay, AreOnWay, way-with_memory, way-worked, way-quiets, child-way}
use Rattle.q_laws.proofs.order.PartLemmas.{part-refl}

-- ---- packets that are alike go one way

record AreAlike (c p : Descriptor) : Type 0 where
  key : c.key ≡ p.key
  hash : c.hash ≡ p.hash
  prio : c.prio ≡ p.prio

alike : (c p : Descriptor) → is_alike c p ≡ true → AreAlike c p
alike c p h =
    let outer = and_parts (same_key c.key p.key && (c.hash == p.hash)) (c.prio == p.prio) h in
    let inner = and_parts (same_key c.key p.key) (c.hash == p.hash) outer.0 in
    record { key = key-is c.key p.key inner.0; hash = eqb-true c.hash p.hash inner.1; prio = eqb-true c.prio p.prio outer.1 }

-- what filters look at
abbrev named_by : List Filter → Key → Option ℕ
named_by filters key = option_map (λ (f : Filter). f.minor) (find (λ (f : Filter). is_of f.protocol key && takes_key f.keys key) filters)

one-name : (filters : List Filter) (c p : Descriptor) → AreAlike c p → named_class filters c ≡ named_class filters p
one-name filters c p h = ap (named_by filters) h.key

one-band : (own : Own) (priomap : List ℕ) (c p : Descriptor) → AreAlike c p → band_of own priomap c ≡ band_of own priomap p
one-band own priomap c p h = ap₂ (λ (o : Option ℕ) (prio : ℕ). option_map_or (λ minor. minor - 1) o (slice_index priomap prio)) (one-name own.filters c p h) h.prio

-- ---- the child that a route goes on from

-- the child that a packet goes to at this node
abbrev GoesTo : Own → Discipline → Descriptor → ℕ → Type 0
GoesTo own (Fifo limit queue) p i = ⊥
GoesTo own (FqCodel s) p i = ⊥
GoesTo own (Prio priomap) p i = band_of own priomap p ≡ i
GoesTo own (Tbf b limit) p i = 0 ≡ i
GoesTo own (Drr s) p i = option_and_then (λ minor. class_at minor s) (named_class own.filters p) ≡ Some i

through-child : (below : List Route) (k i : ℕ) (path : List ℕ) (refusal : Option Cause) → through below k ≡ record { path = i ∷ path; refusal = refusal } → k ≡ i
through-child below k i path refusal e = by (slice_get below k) e
  where
    by : (o : Option Route) → option_map_or (λ (r : Route). record r { path = k ∷ r.path }) o (refused NoClass) ≡ record { path = i ∷ path; refusal = refusal } → k ≡ i
    by None e = absurd (nil-cons i path (ap (λ (r : Route). r.path) e))
    by (Some r) e = let steps : k ∷ r.path ≡ i ∷ path = ap (λ (r : Route). r.path) e in cc

module _ (p : Descriptor) (own : Own) (below : List Route) (i : ℕ) (path : List ℕ) (refusal : Option Cause) where
  abbrev Goes : Route → Type 0
  Goes r = r ≡ record { path = i ∷ path; refusal = refusal }

  ends-nowhere : {A : Type 0} (r : Route) → r.path ≡ [] → Goes r → A
  ends-nowhere r nil e = absurd (nil-cons i path (sym nil ∙ ap (λ (x : Route). x.path) e))

  goes-to : (d : Discipline) → Goes (way p own below d) → GoesTo own d p i
  goes-to (Fifo limit queue) e = by (takes limit queue p.len) e
    where
      by : (b : Bool) → Goes (if b then ends else refused OverLimit) → ⊥
      by true e = ends-nowhere ends refl e
      by false e = ends-nowhere (refused OverLimit) refl e
  goes-to (FqCodel s) e = ends-nowhere ends refl e
  goes-to (Prio priomap) e = through-child below (band_of own priomap p) i path refusal e
  goes-to (Tbf b limit) e = by (nat_lt b.burst p.len) e
    where
      by : (long : Bool) → Goes (if long then refused TooLong else through below 0) → 0 ≡ i
      by true e = ends-nowhere (refused TooLong) refl e
      by false e = through-child below 0 i path refusal e
  goes-to (Drr s) e = by (named_class own.filters p) e
    where
      found : (o : Option ℕ) → Goes (option_map_or (through below) o (refused NoClass)) → o ≡ Some i
      found None e = ends-nowhere (refused NoClass) refl e
      found (Some k) e = ap Some (through-child below k i path refusal e)

      by : (o : Option ℕ) → Goes (elim o [ None ↦ refused NoClass | Some minor ↦ option_map_or (through below) (class_at minor s) (refused NoClass) ])
          → option_and_then (λ minor. class_at minor s) o ≡ Some i
      by None e = ends-nowhere (refused NoClass) refl e
      by (Some minor) e = found (class_at minor s) e

-- ---- what a put leaves

module _ (c p : Descriptor) (now : ℕ) where
  pub record Puts (s : Shape) (w : Worked) : Type 0 where
    pub less : IsLess c (beneath w) (beneath s ++ p ∷ [])
    pub way : IsRootOnWay c w

  -- behind what a node holds and has queued
  behind-own : (held queue after : List Descriptor) → IsLess c after (queue ++ p ∷ []) → IsLess c ((held ++ after) ++ []) (((held ++ queue) ++ []) ++ p ∷ [])
  behind-own held queue after h =
      let right : ((held ++ queue) ++ []) ++ p ∷ [] ≡ held ++ (queue ++ p ∷ []) = ap (λ (xs : List Descriptor). xs ++ p ∷ []) (append-nil (held ++ queue)) ∙ append_assoc held queue (p ∷ []) in
      subst (λ (xs : List Descriptor). IsLess c xs (((held ++ queue) ++ []) ++ p ∷ [])) (sym (append-nil (held ++ after)))
      (subst (IsLess c (held ++ after)) (sym right) (less-append c held held after (queue ++ p ∷ []) (part-refl (flow_among c held)) h))

  -- where the route ends, at a node without children
  module _ (s : Shape) (bare : each beneath_own s.below ≡ []) (all : AreOnWay c (quiets s)) where
    queued-puts : (d : Discipline) (notes : List Note) → IsLess c (packets_in d) (packets_in s.own.discipline ++ p ∷ []) → IsOnWay c (record s.own { discipline = d }) d (map beneath (quiets s))
        → Puts s (worked (record s.own { discipline = d }) notes (quiets s))
    queued-puts d notes h way =
        let held : List Descriptor = option_to_list s.own.held in
        let after : beneath (worked (record s.own { discipline = d }) notes (quiets s)) ≡ (held ++ packets_in d) ++ [] =
        beneath-worked (record s.own { discipline = d }) notes (quiets s) ∙ ap (λ (bs : List (List Descriptor)). (held ++ packets_in d) ++ flat bs) (beneath-quiets s ∙ bare) in
        let before : beneath s ≡ (held ++ packets_in s.own.discipline) ++ [] = ap (λ (bs : List (List Descriptor)). (held ++ packets_in s.own.discipline) ++ flat bs) bare in
        record {
          less = subst (λ (xs : List Descriptor). IsLess c xs (beneath s ++ p ∷ [])) (sym after)
              (subst (λ (xs : List Descriptor). IsLess c ((held ++ packets_in d) ++ []) (xs ++ p ∷ [])) (sym before) (behind-own held (packets_in s.own.discipline) (packets_in d) h));
          way = way-worked c (record s.own { discipline = d }) notes (quiets s) way all;
        }

  refused-puts : (s : Shape) (notes : List Note) → IsRootOnWay c s → Puts s (worked s.own notes (quiets s))
  refused-puts s notes h =
      let same : beneath (worked s.own notes (quiets s)) ≡ beneath s = beneath-worked s.own notes (quiets s) ∙ waiting-quiet s in
      record {
        less = subst (λ (xs : List Descriptor). IsLess c xs (beneath s ++ p ∷ [])) (sym same) (less-after c (p ∷ []) (beneath s) (beneath s) (part-refl (flow_among c (beneath s))));
        way = way-worked c s.own notes (quiets s) (subst (IsOnWay c s.own s.own.discipline) (sym (beneath-quiets s)) h.0) (way-quiets c s.below h.1);
      }

  module _ (mtu : ℕ) (handle : Option ℕ) (held : Option Descriptor) (filters : List Filter) (since : ℕ) (below : Forest (Unit {0})) where
    abbrev node : Discipline → Shape
    node d = record { own = record { handle = handle; discipline = d; held = held; since = since; filters = filters }; memory = tt; below = below }

    fifo-puts : (limit : Limit) (queue : List Stamped) → IsLawfulRoot mtu now (node (Fifo limit queue)) → IsRootOnWay c (node (Fifo limit queue))
        → Puts (node (Fifo limit queue)) (put_here now p None (node (Fifo limit queue))).node
    fifo-puts limit queue lawful h =
        let more : packets_of (queue ++ record { packet = p; at = now } ∷ []) ≡ packets_of queue ++ p ∷ [] = map-append (λ (x : Stamped). x.packet) queue (record { packet = p; at = now } ∷ []) in
        queued-puts (node (Fifo limit queue)) lawful.0.discipline.none (way-quiets c below h.1) (Fifo limit (queue ++ record { packet = p; at = now } ∷ [])) (Arrived p ∷ [])
        (subst (λ (xs : List Descriptor). IsLess c xs (packets_of queue ++ p ∷ [])) (sym more) (part-refl (flow_among c (packets_of queue ++ p ∷ [])))) tt

    fq-puts : (q : FqState) → IsLawfulRoot mtu now (node (FqCodel q)) → IsRootOnWay c (node (FqCodel q)) → Puts (node (FqCodel q)) (put_here now p None (node (FqCodel q))).node
    fq-puts q lawful h =
        let after : FqState = after_put q p now in
        let joins = put-joins c q p now (flow_of q c) h.0 (λ e. ap (λ n. n % q.settings.flows) (sym (alike c p e).hash)) in
        let queues : IsLess c (packets_of (all_packets after.flows)) (packets_of (all_packets q.flows) ++ p ∷ []) =
        subst (λ (xs : List Descriptor). IsLess c xs (packets_of (all_packets q.flows) ++ p ∷ [])) (sym (all-flat after.flows))
        (subst (λ (xs : List Descriptor). IsLess c (flat (flow_queues after.flows)) (xs ++ p ∷ [])) (sym (all-flat q.flows)) joins.0) in
        queued-puts (node (FqCodel q)) lawful.0.discipline.none (way-quiets c below h.1) (FqCodel after) (Arrived p ∷ lost_in p now (FqCodel q)) queues
        (subst (λ (x : FqSettings). OnlyAt c (c.hash % x.flows) (flow_queues after.flows)) (sym (put-settings q p now)) joins.1)

    here-puts : (d : Discipline) → CanQueue d → IsLawfulRoot mtu now (node d) → IsRootOnWay c (node d) → Puts (node d) (put_here now p None (node d)).node
    here-puts (Fifo limit queue) can lawful h = fifo-puts limit queue lawful h
    here-puts (FqCodel q) can lawful h = fq-puts q lawful h
    here-puts (Prio priomap) can lawful h = absurd can
    here-puts (Tbf b limit) can lawful h = absurd can
    here-puts (Drr s) can lawful h = absurd can

  -- ---- at a node on the way

  -- where the flow's packets go at this node
  in-place : (own : Own) (d : Discipline) (i : ℕ) (below : List (List Descriptor)) → AreAlike c p → GoesTo own d p i → IsOnWay c own d below → OnlyAt c i below
  in-place own (Fifo limit queue) i below a at way = absurd at
  in-place own (FqCodel s) i below a at way = absurd at
  in-place own (Prio priomap) i below a at way = subst (λ k. OnlyAt c k below) (one-band own priomap c p a ∙ at) way
  in-place own (Tbf b limit) i below a at way = subst (λ k. OnlyAt c k below) at way
  in-place own (Drr s) i below a at way =
      subst (λ (o : Option ℕ). HasWay c o below) (ap (option_and_then (λ minor. class_at minor s)) (one-name own.filters c p a) ∙ at) way

  class-way : (own : Own) (s t : Schedule) (below : List (List Descriptor)) → t.classes ≡ s.classes → IsOnWay c own (Drr s) below → IsOnWay c own (Drr t) below
  class-way own s t below e way =
      subst (λ (cs : List Class). HasWay c (option_and_then (λ minor. position (λ (x : Class). minor == x.name) cs) (named_class own.filters c)) below) (sym e) way

  -- packets of it alone, or none, were put there
  own-way : (own : Own) (d : Discipline) (i : ℕ) (emptied : Bool) (after : List (List Descriptor)) → AreAlike c p → GoesTo own d p i
      → OnlyAt c i after → IsOnWay c (settled i emptied own) (settled_in i emptied d) after
  own-way own (Fifo limit queue) i emptied after a at way = absurd at
  own-way own (FqCodel s) i emptied after a at way = absurd at
  own-way own (Prio priomap) i emptied after a at way = subst (λ k. OnlyAt c k after) (sym (one-band own priomap c p a ∙ at)) way
  own-way own (Tbf b limit) i emptied after a at way = subst (λ k. OnlyAt c k after) (sym at) way
  own-way own (Drr s) i emptied after a at way =
      class-way own s (settled_class i emptied s) after (class-settled i emptied s)
      (subst (λ (o : Option ℕ). HasWay c o after) (sym (ap (option_and_then (λ minor. class_at minor s)) (one-name own.filters c p a) ∙ at)) way)

  other-way : (own : Own) (d : Discipline) (i : ℕ) (emptied : Bool) (after below : List (List Descriptor)) → GoesTo own d p i → AreLess c after below
      → IsOnWay c own d below → IsOnWay c (settled i emptied own) (settled_in i emptied d) after
  other-way own (Fifo limit queue) i emptied after below at less way = absurd at
  other-way own (FqCodel s) i emptied after below at less way = absurd at
  other-way own (Prio priomap) i emptied after below at less way = less-only c (band_of own priomap c) after below less way
  other-way own (Tbf b limit) i emptied after below at less way = less-only c 0 after below less way
  other-way own (Drr s) i emptied after below at less way =
      class-way own s (settled_class i emptied s) after (class-settled i emptied s)
      (less-way c (option_and_then (λ minor. class_at minor s) (named_class own.filters c)) after below less way)

  quiets-set : (x : Forest (Unit {0})) (i : ℕ) (w : Worked) → AllOnWay c x → IsRootOnWay c w → AreOnWay c (set (map quiet (nodes_in x)) i w)
  quiets-set none i w h new = tt
  quiets-set (more own m below others) zero w h new = (new, way-quiets c others h.2)
  quiets-set (more own m below others) (suc i) w h new =
      (way-with_memory c (λ u. []) (record { own = own; memory = m; below = below }) (h.0, h.1), quiets-set others i w h.2 new)

  module _ (s : Shape) (i : ℕ) (child : Shape) (below : Work) (h : IsRootOnWay c s) (there : slice_get (children s) i ≡ Some child)
      (at : GoesTo s.own s.own.discipline p i) (put : Puts child below.node) where
    abbrev before : List (List Descriptor)
    before = each beneath_own s.below

    abbrev after : List (List Descriptor)
    after = set before i (beneath below.node)

    abbrev own_after : Own
    own_after = settled i (is_empty below.node) s.own

    child-at : slice_get before i ≡ Some (beneath child)
    child-at = each-at beneath_own s.below i child there

    record Into : Type 0 where
      into : IsLess c (flat after) (flat before ++ p ∷ [])
      stays : IsOnWay c own_after own_after.discipline after

    is-into : (b : Bool) → is_alike c p ≡ b → Into
    is-into true e =
        let only : OnlyAt c i before = in-place s.own s.own.discipline i before (alike c p e) at h.0 in
        record {
          into = flat-set c before i (beneath child) (beneath below.node) (p ∷ []) child-at only put.less;
          stays = own-way s.own s.own.discipline i (is_empty below.node) after (alike c p e) at (only-set c before i (beneath below.node) only);
        }
    is-into false e =
        let less : IsLess c (beneath below.node) (beneath child) = subst (IsPartOf (flow_among c (beneath below.node))) (skip-rest c (beneath child) (p ∷ []) (alike-none c p e)) put.less in
        let all : AreLess c after before = less-set c before i (beneath child) (beneath below.node) child-at less in
        record {
          into = less-after c (p ∷ []) (flat after) (flat before) (less-flat c after before all);
          stays = other-way s.own s.own.discipline i (is_empty below.node) after before at all h.0;
        }

    beneath-puts : Puts s (put_beneath p i s below).node
    beneath-puts =
        let new : List Worked = set (quiets s) i below.node in
        let notes : List Note = Arrived p ∷ below.rises in
        let same : map beneath new ≡ after = map-set beneath (quiets s) i below.node ∙ ap (λ (bs : List (List Descriptor)). set bs i (beneath below.node)) (beneath-quiets s) in
        let first : List Descriptor = option_to_list s.own.held ++ packets_in s.own.discipline in
        let is : beneath (worked own_after notes new) ≡ first ++ flat after =
        beneath-worked own_after notes new ∙ ap (λ (bs : List (List Descriptor)). beneath_own own_after bs) same
        ∙ ap (λ (ps : List Descriptor). (option_to_list s.own.held ++ ps) ++ flat after) (settled-packets i (is_empty below.node) s.own.discipline) in
        let r : Into = is-into (is_alike c p) refl in
        let less : IsLess c (first ++ flat after) (beneath s ++ p ∷ []) =
        subst (IsLess c (first ++ flat after)) (sym (append_assoc first (flat before) (p ∷ [])))
        (less-append c first first (flat after) (flat before ++ p ∷ []) (part-refl (flow_among c first)) r.into) in
        record {
          less = subst (λ (xs : List Descriptor). IsLess c xs (beneath s ++ p ∷ [])) (sym is) less;
          way = way-worked c own_after notes new (subst (IsOnWay c own_after own_after.discipline) (sym same) r.stays) (quiets-set s.below i below.node h.1 put.way);
        }

  -- ---- along the whole route

  pub along-puts : (mtu : ℕ) (path : List ℕ) (refusal : Option Cause) (s : Shape) → route p s ≡ record { path = path; refusal = refusal }
      → IsLawfulRoot mtu now s → IsRootOnWay c s → Puts s (put_along now p refusal path s).node
  along-puts mtu [] (Some cause) s e lawful h = refused-puts s (Arrived p ∷ Lost p cause ∷ []) h
  along-puts mtu [] None s e lawful h =
      here-puts mtu s.own.handle s.own.held s.own.filters s.own.since s.below s.own.discipline
      (way-ends p s.own (each (λ own below. way p own below own.discipline) s.below) s.own.discipline e) lawful h
  along-puts mtu (i ∷ path) refusal s e lawful h =
      let on = route-goes p s i path refusal e in
      let at : GoesTo s.own s.own.discipline p i = goes-to p s.own (each (λ own below. way p own below own.discipline) s.below) i path refusal s.own.discipline e in
      let put : Puts on.child (put_along now p refusal path on.child).node =
      along-puts mtu path refusal on.child on.way (child-lawful mtu now s.below i on.child lawful.1 on.there) (child-way c s.below i on.child h.1 on.there) in
      subst (λ (o : Option Shape). Puts s (option_map_or (λ (child : Shape). put_beneath p i s (put_along now p refusal path child)) o (put_here now p refusal s)).node) (sym on.there)
      (beneath-puts s i on.child (put_along now p refusal path on.child) h on.there at put)
